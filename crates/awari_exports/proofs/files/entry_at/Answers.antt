use Rattle.std.proofs.Common.{ℕ, ◌<◌, take, drop, sym, ap, ◌∙◌, subst}
use Rattle.std.specs.Prelude.{slice_index_or}
use Rattle.awari_rank.specs.Rank.{size_of}
use Rattle.awari_table.specs.Images.{no_entry}
use Rattle.awari_exports.specs.Told.{told_entry}
use Rattle.awari_exports.proofs.Mapping.{told_in_file}
use Rattle.awari_exports.proofs.files.entry_at.Goals as goal

pub returns : goal.returns
returns c = λ version image below has level text.
    let k = c.rank.result in let said = c.told_by.ensures in
    let low : k < size_of image.level = subst (λ (n : ℕ). k < size_of n) (sym level) c.rank.ensures.below in
    told_in_file version image below c.args.bytes.now c.six_at.result.now k c.told_by.result has text low (c.six_at.ensures.bytes ∙ ap (λ (n : ℕ). take 6 (drop n c.args.bytes.now)) c.entry_place-place.ensures) said.value said.plan said.distance
    ∙ ap (λ (n : ℕ). told_entry (slice_index_or image.entries n no_entry)) c.rank.ensures.rank
