use Rattle.std.proofs.Common.{sym, subst, ◌∙◌, inl, inr}
use Rattle.std.proofs.lemmas.Bool.{false≢true}
use Rattle.awari_board.specs.Rules.{IsMove}
use Rattle.awari_table.specs.Images.{table_of}
use Rattle.awari_scan.proofs.Looks.{seen_illegal}
use Rattle.awari_scan.proofs.runs.see_pit.Goals as goal

pub returns-then-has : goal.returns-then-has
returns-then-has c =
    let quiet = c.requires.moves.quiet c.args.pit (sym c.has.ensures ∙ c.if-has.true) in
    c.see_quiet.ensures (table_of c.args.shelf.now).value c.args.board.now quiet.0 quiet.1 c.requires.seen

pub returns-then-not-has : goal.returns-then-not-has
returns-then-not-has c =
    let seen = c.args.seen.now in
    seen_illegal (table_of c.args.shelf.now).value c.args.board.now c.args.pit seen.quiet seen.best seen.plans c.requires.own
    (λ legal. elim (c.requires.moves.all c.args.pit c.requires.own legal) [
      | inl has ↦ false≢true (sym c.if-has.false ∙ c.has.ensures ∙ has)
      | inr has ↦ false≢true (sym c.if-not-has.true ∙ c.has-2.ensures ∙ has)
    ]) c.requires.seen

pub play-moved-requires : goal.play-moved-requires
play-moved-requires c = c.requires.moves.legal c.args.pit (sym c.has-2.ensures ∙ c.if-not-has.false)

pub returns-then-moved-eq0 : goal.returns-then-moved-eq0
returns-then-moved-eq0 c =
    c.see_quiet-then-moved-eq0.ensures (table_of c.args.shelf.now).value c.args.board.now c.play-moved.result.board
    (subst (λ n. IsMove c.args.board.now c.args.pit n c.play-moved.result.board) c.if-moved-eq0.true c.play-moved.ensures.moved) c.requires.seen

pub returns : goal.returns
returns c = c.see_capture.ensures c.args.board.now c.requires.stones c.play-moved.ensures.moved c.requires.seen
