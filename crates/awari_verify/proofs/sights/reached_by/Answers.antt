use Rattle.std.proofs.Common.{FitsSigned, w8, rules, Some, slice_get, ◌≡◌, ◌∷◌, [], length, sum, sym, ap, ◌∙◌, arith}
use Rattle.std.proofs.lemmas.Int.{to_z-of_z}
use Rattle.awari_rank.specs.Rank.{rank_of}
use Rattle.awari_table.specs.Certificate.{plies}
use Rattle.awari_table.specs.declared.images.Entry.{Entry}
use Rattle.awari_table.proofs.EntryLemmas.{entry_of-append, entry_of-top}
use Rattle.awari_verify.proofs.sights.reached_by.Goals as goal

pub returns-then-captured-eq0-clause-value : goal.returns-then-captured-eq0-clause-value
returns-then-captured-eq0-clause-value c =
    let next = c.requires.shaped.next in
    let top : sum c.args.moved.now.board ≡ length c.args.shelf.now = omega arith in
    let found : slice_get c.args.image.now.entries (rank_of c.args.moved.now.board) ≡ Some c.at.result = rw (← c.rank.ensures.rank) c.at.ensures in
    c.of.ensures.value ∙ ap (λ (e : Entry). e.value) (entry_of-top c.args.shelf.now c.args.image.now c.args.moved.now.board c.at.result top found)

pub returns-then-captured-eq0-clause-plies : goal.returns-then-captured-eq0-clause-plies
returns-then-captured-eq0-clause-plies c =
    let next = c.requires.shaped.next in
    let top : sum c.args.moved.now.board ≡ length c.args.shelf.now = omega arith in
    let found : slice_get c.args.image.now.entries (rank_of c.args.moved.now.board) ≡ Some c.at.result = rw (← c.rank.ensures.rank) c.at.ensures in
    c.of.ensures.plies ∙ ap (λ (e : Entry). plies c.args.moved.now.captured e.dist) (entry_of-top c.args.shelf.now c.args.image.now c.args.moved.now.board c.at.result top found)

pub returns-clause-value : goal.returns-clause-value
returns-clause-value c =
    let fits : FitsSigned w8 c.value_below.result = search rules in
    let next = c.requires.shaped.next in
    c.by_capture.ensures.value ∙ to_z-of_z w8 c.value_below.result fits ∙ c.value_below.ensures ∙ ap (λ (e : Entry). e.value) (sym (entry_of-append c.args.shelf.now (c.args.image.now ∷ []) c.args.moved.now.board (omega arith)))

pub returns-clause-plies : goal.returns-clause-plies
returns-clause-plies c = c.by_capture.ensures.plies _
