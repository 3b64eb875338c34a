use Rattle.std.proofs.Common.{◌≡◌, ◌<◌, ◌^◌, SFits, Some, refl, rules, arith, subst, sum, sym, w16}
use Rattle.std.proofs.lemmas.Int.{to_z-of_z}
use Rattle.awari_board.specs.Rules.{IsLegal}
use Rattle.awari_table.specs.Images.{table_of}
use Rattle.awari_play.proofs.Following.{HasNone, best_line-end, known_more, left_of-more, under_way-more}
use Rattle.awari_play.proofs.Lasting.{err_same, still_known, unplayed_before}
use Rattle.awari_play.proofs.lines.best_line_by.Goals as goal

pub returns-in-Some-clause-line : goal.returns-in-Some-clause-line
returns-in-Some-clause-line g c = λ images says.
    let fits : SFits w16 c.in-Some.outcome = search rules in
    rw (to_z-of_z w16 _ fits) (best_line-end _ _ _ _ _ _ (c.loop-outcome.invariant.way images says) (λ s shown. (c.in-Some.ensures.some s c.in-Some.outcome shown).0 refl))

pub loop-outcome-smaller : goal.loop-outcome-smaller
loop-outcome-smaller g c =
    let small : c.args.limit < 2 ^ 32 = omega (arith, c.ranges.limit.fits) in
    let open_still = c.in_default.ensures.none.0 refl in
    let shows = c.loop-outcome.invariant.shows in
    let legal = subst (λ b. IsLegal b c.in_ok-pit.pit) c.board.ensures.shown c.in_ok-pit.ensures.legal in
    left_of-more _ _ _ _ _ _ c.board.ensures.board legal open_still.1 small shows (c.play_pit.ensures _ _ shows)

pub loop-outcome-preserved : goal.loop-outcome-preserved
loop-outcome-preserved g c =
    let i = c.loop-outcome.invariant in
    let laws = g.met.T.Table.lasting in
    let none : HasNone c.args.limit c.loop-outcome.game = λ s o shown out. let has = (c.in_default.ensures.some s o shown).1 out in cc in
    let played = c.play_pit.ensures _ _ i.shows in
    let legal = subst (λ b. IsLegal b c.in_ok-pit.pit) c.board.ensures.shown c.in_ok-pit.ensures.legal in
    record {
      shows = rw (c.in-Ok.ensures.items) played;
      known = known_more _ _ _ _ _ _ i.shows played c.board.ensures.board legal i.known;
      way = λ images says.
          let planned = subst (λ b. (table_of images).plan b ≡ Some c.in_ok-pit.pit) c.board.ensures.shown (c.in_ok-pit.ensures.plan images (laws.says _ _ images i.keeps says)) in
          rw (c.in-Ok.ensures.items) (under_way-more _ _ _ _ _ _ _ (i.way images says) planned none played);
      keeps = laws.on _ _ _ i.keeps c.plan_by.ensures.keeps;
    }

pub plan_by-requires-clause-known : goal.plan_by-requires-clause-known
plan_by-requires-clause-known g c =
    subst (λ b. sum b < g.T.Table.saying.levels c.loop-outcome.table) (sym c.board.ensures.shown) (still_known _ g.met.T.Table.lasting _ _ c.loop-outcome.game.board c.loop-outcome.invariant.keeps c.loop-outcome.invariant.known)

pub plan_by-requires-clause-some : goal.plan_by-requires-clause-some
plan_by-requires-clause-some g c = rw c.board.ensures.shown (c.in_default.ensures.none.0 refl).0

pub returns-in_err-pit-clause-fault : goal.returns-in_err-pit-clause-fault
returns-in_err-pit-clause-fault g c =
    err_same c.from_residual.result _ _ c.from_residual.ensures.1 (
    unplayed_before _ g.met.T.Table.lasting _ _ _ c.loop-outcome.invariant.keeps c.in_err-pit.ensures.fault)
