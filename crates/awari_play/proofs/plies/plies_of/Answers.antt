use Rattle.std.proofs.Common.{◌≡◌, ◌<◌, [], rules, subst, sum, sym}
use Rattle.std.proofs.lemmas.List.{get_or_default}
use Rattle.awari_play.proofs.Following.{known_more, known_start}
use Rattle.awari_play.proofs.Lasting.{still_known}
use Rattle.awari_play.proofs.PlyLaws.{legal_next, shows_more, told-more, told-start}
use Rattle.awari_play.proofs.plies.plies_of.Goals as goal

pub loop-index-init : goal.loop-index-init
loop-index-init g c =
    let empty : c.new-plies.result.items ≡ [] = search rules in
    let laws = g.met.T.Table.lasting in
    record {
      shows = c.start-game.ensures;
      known = known_start _ _ _ c.start-game.ensures c.requires.known;
      told = λ images says.
          rw empty (told-start images c.args.board c.args.moves.now _ (subst (λ n. sum c.args.board < n) (sym (laws.all _ images says)) c.requires.known) c.start-game.ensures);
      keeps = laws.itself _;
    }

pub play_ply-requires-clause-known : goal.play_ply-requires-clause-known
play_ply-requires-clause-known g c = still_known _ g.met.T.Table.lasting _ _ c.loop-index.game.board c.loop-index.invariant.keeps c.loop-index.invariant.known

pub play_ply-requires-clause-legal : goal.play_ply-requires-clause-legal
play_ply-requires-clause-legal g c =
    legal_next c.args.board c.args.moves.now _ _ _ c.requires.play.0 c.requires.play.1 c.loop-index-test.true (get_or_default _ _ _ _ c.loop-index-test.true) c.loop-index.invariant.shows

pub loop-index-preserved : goal.loop-index-preserved
loop-index-preserved g c =
    let i = c.loop-index.invariant in
    let laws = g.met.T.Table.lasting in
    let inside = c.loop-index-test.true in
    let is = get_or_default _ _ _ _ inside in
    let legal = legal_next c.args.board c.args.moves.now _ _ _ c.requires.play.0 c.requires.play.1 inside is i.shows in
    let played = c.in-Ok.ensures.played _ _ i.shows in
    record {
      shows = shows_more c.args.board c.args.moves.now _ _ _ inside is played;
      known = known_more _ _ _ _ _ _ i.shows played c.play_ply.ensures.board legal i.known;
      told = λ images says.
          let told = i.told images says in
          let ply = c.in-Ok.ensures.ply images (laws.says _ _ images i.keeps says) _ _ told.shows in
          rw (c.in-Ok-push.ensures.items) (told-more images c.args.board c.args.moves.now _ _ _ _ _ _ inside is told ply (c.in-Ok.ensures.played _ _ told.shows) c.play_ply.ensures.board legal);
      keeps = laws.on _ _ _ i.keeps c.play_ply.ensures.keeps;
    }
