-- What has a file.
use Rattle.std.proofs.Common.{◌≡◌, ◌<◌, ◌^◌, ℕ, All, List, length, refl, inr}
use Rattle.std.proofs.lemmas.List.Elements.{recursion_from_All}
use Rattle.awari_table.specs.Images.{IsLevel}
use Rattle.awari_table.specs.declared.images.Image.{Image}
use Rattle.awari_file.specs.FileText.{HasFile, IsBytes}
use Rattle.awari_table.specs.Spelling.{FitsNumbers, IsEntry}
use Rattle.awari_file.proofs.EntryLaws.{entry_fits}

pub has_file : (image : Image) (below : List ℕ) → IsLevel image → All FitsNumbers image.entries → image.limit < 2 ^ 32 → length below ≡ 32 → IsBytes below → HasFile 2 image below
has_file image below level fit limit whole bytes = record {
  known = inr refl;
  low = level.low;
  limit = limit;
  whole = whole;
  bytes = bytes;
  sized = level.sized;
  entries = recursion_from_All IsEntry image.entries (λ k d within. entry_fits _ _ _ (fit k d within).value (level.plans k d within) (fit k d within).dist);
}
