use Rattle.std.proofs.Common.{FitsSigned, w8, rules, ◌≡◌, ◌∙◌, sum, length, sym, ap, arith, [], ◌∷◌}
use Rattle.std.proofs.lemmas.Int.{to_z-of_z}
use Rattle.awari_table.specs.Certificate.{plies}
use Rattle.awari_table.specs.declared.images.Entry.{Entry}
use Rattle.awari_table.specs.declared.images.Image.{Image}
use Rattle.awari_table.proofs.EntryLemmas.{entry_of-append, entry_of-rank}
use Rattle.awari_play.proofs.plans.reached_by.Goals as goal

pub returns-then-captured-eq0-clause-value : goal.returns-then-captured-eq0-clause-value
returns-then-captured-eq0-clause-value c =
    let quiet = c.if-captured-eq0.true in
    let stones = c.requires.stones in
    let top : sum c.args.moved.now.board ≡ length c.args.shelf.now = omega arith in
    let image : Image = record { level = length c.args.shelf.now; limit = 0; entries = c.args.entries.now } in
    c.of.ensures.value ∙ ap (λ (e : Entry). e.value) (sym (entry_of-rank c.args.shelf.now image c.args.moved.now.board c.rank.result top (sym c.rank.ensures.rank)))

pub returns-then-captured-eq0-clause-plies : goal.returns-then-captured-eq0-clause-plies
returns-then-captured-eq0-clause-plies c =
    let quiet = c.if-captured-eq0.true in
    let stones = c.requires.stones in
    let top : sum c.args.moved.now.board ≡ length c.args.shelf.now = omega arith in
    let image : Image = record { level = length c.args.shelf.now; limit = 0; entries = c.args.entries.now } in
    c.of.ensures.plies ∙ ap (λ (e : Entry). plies c.args.moved.now.captured e.dist) (sym (entry_of-rank c.args.shelf.now image c.args.moved.now.board c.rank.result top (sym c.rank.ensures.rank)))

pub returns-clause-value : goal.returns-clause-value
returns-clause-value c =
    let fits : FitsSigned w8 c.value_below.result = search rules in
    let image : Image = record { level = length c.args.shelf.now; limit = 0; entries = c.args.entries.now } in
    c.by_capture.ensures.value ∙ to_z-of_z w8 c.value_below.result fits ∙ c.value_below.ensures ∙ ap (λ (e : Entry). e.value) (sym (entry_of-append c.args.shelf.now (image ∷ []) c.args.moved.now.board (omega arith)))

pub returns-clause-plies : goal.returns-clause-plies
returns-clause-plies c = c.by_capture.ensures.plies _
