use Rattle.std.proofs.Common.{◌<◌, ◌∙◌, ap, sym, subst, inr, arith, length, List}
use Rattle.std.proofs.lemmas.List.{get_or_default}
use Rattle.awari_table.specs.declared.images.Entry.{Entry}
use Rattle.awari_table.specs.declared.images.Image.{Image}
use Rattle.awari_table.specs.Images.{entry_of, no_entry, table_of}
use Rattle.awari_play.specs.Lowering.{IsByMoves}
use Rattle.awari_table.proofs.EntryLemmas.{entry_of-rank}
use Rattle.awari_play.specs.Planning.{with_top}
use Rattle.awari_play.proofs.lowering.lower_board.Goals as goal

pub by_moves-dist-requires-clause-own : goal.by_moves-dist-requires-clause-own
by_moves-dist-requires-clause-own c =
    let inside : c.args.rank < length c.args.entries.now.items = omega (arith, c.requires.level.sized, c.requires.below) in
    let image : Image = record { level = length c.args.shelf.now; limit = 0; entries = c.args.entries.now.items } in
    let found = c.index-own.ensures ∙ get_or_default c.args.entries.now.items c.args.rank c.index-own.result.now no_entry inside in
    found ∙ sym (entry_of-rank c.args.shelf.now image c.unrank-board.result c.args.rank (c.unrank-board.ensures.stones ∙ c.levels.ensures.levels) c.unrank-board.ensures.rank)
    ∙ ap (λ (es : List Entry). entry_of (with_top c.args.shelf.now es) c.unrank-board.result) (sym c.as_slice.ensures.value)

pub returns : goal.returns
returns c =
    let inside : c.args.rank < length c.args.entries.now.items = omega (arith, c.requires.level.sized, c.requires.below) in
    let found = c.index-own.ensures ∙ get_or_default c.args.entries.now.items c.args.rank c.index-own.result.now no_entry inside in
    let own = ap (λ (e : Entry). e.dist) found in
    let far = c.if-own-near.false in
    inr (
      omega (arith, own, far),
      (
        c.unrank-board.result,
        c.by_moves-dist.result,
        c.unrank-board.ensures.board,
        c.unrank-board.ensures.stones ∙ c.levels.ensures.levels,
        c.unrank-board.ensures.rank,
        subst (λ (es : List Entry). IsByMoves (table_of (with_top c.args.shelf.now es)) c.unrank-board.result c.by_moves-dist.result) c.as_slice.ensures.value c.by_moves-dist.ensures,
        c.lower_to.ensures,
      ),
    )
