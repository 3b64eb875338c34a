use Rattle.std.proofs.Common.{rules, ◌<◌, ◌++◌, ◌∙◌, ap, drop, length, List, map, ℕ, [], set, sum, take}
use Rattle.std.specs.Prelude.{slice_index_or}
use Rattle.awari_table.specs.Images.{entry_of}
use Rattle.awari_exports.specs.Told.{told_entry}
use Rattle.awari_exports.specs.declared.answers.PlainEntry.{PlainEntry}
use Rattle.awari_exports.proofs.Runs.{one_more, put_next}
use Rattle.awari_exports.proofs.many.tell_each.Goals as goal

pub loop-place-preserved : goal.loop-place-preserved
loop-place-preserved c =
    let shelf = c.args.shelf.now in let boards = c.args.boards.now in let n = c.loop-place.place in
    let f : List ℕ → PlainEntry = λ b. told_entry (entry_of shelf b) in
    let next = put_next f boards c.args.out.now n [] (search rules) (search rules) in (
      c.loop-place.invariant.0,
      ap (λ (l : List PlainEntry). set l n c.in-Ok.entry) c.loop-place.invariant.1 ∙ ap (λ (e : PlainEntry). set (map f (take n boards) ++ drop n c.args.out.now) n e) c.in-Ok.ensures.entry ∙ next,
      one_more (λ i. sum (slice_index_or boards i []) < length shelf) n c.loop-place.invariant.2 c.in-Ok.ensures.known,
    )
