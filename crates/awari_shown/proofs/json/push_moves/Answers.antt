use Rattle.std.proofs.Common.{◌∙◌, ◌++◌, ap, arith, map}
use Rattle.std.proofs.lemmas.List.{get_or_default, take_all}
use Rattle.awari_members.specs.Json.{commas}
use Rattle.awari_shown.specs.Json.{move_json}
use Rattle.awari_members.proofs.JsonLaws.{commas-behind}
use Rattle.awari_shown.proofs.json.push_moves.Goals as goal

pub loop-index-preserved : goal.loop-index-preserved
loop-index-preserved c =
    let inside = c.loop-index-test.true in record {
      room = omega (arith, c.loop-index.invariant.room, c.push_comma.ensures.len, c.push_move.ensures.len);
      items = commas-behind (move_json c.args.plan) c.args.moves.now c.loop-index.index _ _ _ _ _ inside (get_or_default _ _ _ _ inside) c.loop-index.invariant.items c.push_comma.ensures.items c.push_move.ensures.items;
    }

pub returns-clause-items : goal.returns-clause-items
returns-clause-items c =
    c.loop-index.invariant.items
    ∙ ap (λ moves. c.args.text.now.items ++ commas (map (move_json c.args.plan) moves)) (take_all c.loop-index.index c.args.moves.now (omega (arith, c.loop-index-test.false)))
