use Rattle.std.proofs.Common.{◌∙◌, ◌++◌, ap, arith}
use Rattle.std.proofs.lemmas.List.{get_or_default}
use Rattle.std.specs.Fmt.{decimal}
use Rattle.awari_members.proofs.JsonLaws.{commas-behind}
use Rattle.awari_members.proofs.in_place.push_pits.Goals as goal

pub loop-index-preserved : goal.loop-index-preserved
loop-index-preserved c =
    let inside = c.loop-index-test.true in record {
      room = omega (arith, c.loop-index.invariant.room, c.push_comma.ensures.len, c.push_decimal.ensures.len);
      items = commas-behind decimal c.args.pits.now c.loop-index.index _ _ _ _ _ inside (get_or_default _ _ _ _ inside) c.loop-index.invariant.items c.push_comma.ensures.items
          (c.push_decimal.ensures.items ∙ ap (λ n. c.push_comma.new.text.items ++ decimal n) c.from.ensures);
    }
