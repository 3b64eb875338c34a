use Rattle.std.proofs.Common.{◌≡◌, ◌<◌, [], ap, arith, rules, subst, sum, sym, ◌∙◌}
use Rattle.awari_board.specs.Rules.{IsLegal}
use Rattle.awari_table.specs.Certificate.{IsRight}
use Rattle.awari_table.specs.Images.{entry_of, table_of}
use Rattle.awari_table.specs.declared.images.Entry.{Entry}
use Rattle.awari_play.specs.Holding.{IsFar}
use Rattle.awari_play.specs.LongestLine.{IsDuePit}
use Rattle.awari_play.proofs.Following.{known_more, known_start}
use Rattle.awari_play.proofs.HoldingOut.{held-end, held-far, held-more, held-start}
use Rattle.awari_play.proofs.Lasting.{err_same, still_known, unheld_before}
use Rattle.awari_play.proofs.longest.longest_line_by.Goals as goal

pub loop-init : goal.loop-init
loop-init g c =
    let empty : c.new-moves.result.items ≡ [] = search rules in
    record {
      shows = rw empty c.start-game.ensures;
      known = known_start _ _ _ c.start-game.ensures c.requires;
      held = λ images says.
          let entry = c.in_ok-entry.ensures.entry images says in
          (rw empty (held-start images c.args.board _ _ (c.in_ok-entry.ensures.right images says) entry c.start-game.ensures), ap (λ (e : Entry). e.dist) entry);
      keeps = c.right_entry.ensures.keeps;
    }

pub due_pit-requires-clause-far : goal.due_pit-requires-clause-far
due_pit-requires-clause-far g c = λ images says.
    let i = c.loop.invariant in
    let both = i.held images (g.met.T.Table.lasting.said _ _ images i.keeps says) in
    let near : c.loop.counter < (table_of images).dist c.args.board = omega (arith, c.loop-test.true, both.1) in
    subst (λ b. IsFar images b c.loop.entry) (sym c.board.ensures.shown) (held-far images c.args.board _ _ _ _ near both.0)

pub loop-preserved : goal.loop-preserved
loop-preserved g c =
    let i = c.loop.invariant in
    let laws = g.met.T.Table.lasting in
    let played = c.play_pit.ensures _ _ i.shows in
    let legal = subst (λ b. IsLegal b c.in_ok-pit.pit) c.board.ensures.shown c.in_ok-pit.ensures.legal in
    let kept = laws.on _ _ _ i.keeps c.due_pit.ensures.keeps in
    record {
      shows = rw (c.in-Ok.ensures.items) played;
      known = known_more _ _ _ _ _ _ i.shows played c.board.ensures.board legal i.known;
      held = λ images says.
          let both = i.held images says in
          let near : c.loop.counter < (table_of images).dist c.args.board = omega (arith, c.loop-test.true, both.1) in
          let due = subst (λ b. IsDuePit (table_of images) b c.in_ok-pit.pit) c.board.ensures.shown (c.in_ok-pit.ensures.due images (laws.says _ _ images i.keeps says)) in
          let said = laws.says _ _ images kept says in
          let right = subst (IsRight (table_of images)) c.board-in-loop.ensures.shown (c.in_ok-entry-2.ensures.right images said) in
          let entry = c.in_ok-entry-2.ensures.entry images said ∙ ap (entry_of images) c.board-in-loop.ensures.shown in
          (rw (c.in-Ok.ensures.items) (held-more images c.args.board _ _ _ _ _ _ _ near due both.0 played right entry), both.1);
      keeps = laws.on _ _ _ kept c.right_entry-in-loop.ensures.keeps;
    }

pub returns-clause-line : goal.returns-clause-line
returns-clause-line g c = λ images says.
    let both = c.loop.invariant.held images says in
    held-end images c.args.board _ _ _ _ (omega (arith, c.loop-test.false, c.loop.auto.counter-end, both.1)) both.0

pub returns-in_err-pit-clause-fault : goal.returns-in_err-pit-clause-fault
returns-in_err-pit-clause-fault g c =
    err_same c.from_residual-in_err-pit.result _ _ c.from_residual-in_err-pit.ensures.1 (
    unheld_before _ _ g.met.T.Table.lasting g.met.T.Judged.misjudging _ _ _ c.loop.invariant.keeps c.in_err-pit.ensures.fault)

pub right_entry-requires-in-loop : goal.right_entry-requires-in-loop
right_entry-requires-in-loop g c =
    let i = c.loop.invariant in
    let legal = subst (λ b. IsLegal b c.in_ok-pit.pit) c.board.ensures.shown c.in_ok-pit.ensures.legal in
    let kept = g.met.T.Table.lasting.on _ _ _ i.keeps c.due_pit.ensures.keeps in
    let known = known_more _ _ _ _ _ _ i.shows (c.play_pit.ensures _ _ i.shows) c.board.ensures.board legal i.known in
    subst (λ b. sum b < g.T.Table.saying.levels c.due_pit.new.table) (sym c.board-in-loop.ensures.shown) (still_known _ g.met.T.Table.lasting _ _ c.play_pit.new.game.board kept known)

pub returns-in_err-entry-2-clause-keeps : goal.returns-in_err-entry-2-clause-keeps
returns-in_err-entry-2-clause-keeps g c =
    let laws = g.met.T.Table.lasting in
    laws.on _ _ _ (laws.on _ _ _ c.loop.invariant.keeps c.due_pit.ensures.keeps) c.right_entry-in-loop.ensures.keeps

pub returns-in_err-entry-2-clause-fault : goal.returns-in_err-entry-2-clause-fault
returns-in_err-entry-2-clause-fault g c =
    let laws = g.met.T.Table.lasting in
    let kept = laws.on _ _ _ c.loop.invariant.keeps c.due_pit.ensures.keeps in
    err_same c.from_residual-in_err-entry-2.result _ _ c.from_residual-in_err-entry-2.ensures.1 (
    unheld_before _ _ laws g.met.T.Judged.misjudging _ _ _ kept c.in_err-entry-2.ensures.fault)
