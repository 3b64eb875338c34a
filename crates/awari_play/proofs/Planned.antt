-- The image made of entries, once their plans are set.
use Rattle.std.proofs.Common.{◌≡◌, ◌<◌, List, [], ◌∷◌, ◌++◌, length, get_or, refl, sym, ap, ◌∙◌, subst}
use Rattle.awari_rank.specs.Rank.{rank_of, size_of}
use Rattle.awari_rank.proofs.Ranking.{rank_of-below}
use Rattle.awari_table.specs.declared.images.Entry.{Entry}
use Rattle.awari_table.specs.declared.images.Image.{Image}
use Rattle.awari_table.specs.Images.{entry_of, table_of, no_entry, greatest_dist}
use Rattle.awari_table.proofs.EntryLemmas.{entry_of-rank}
use Rattle.awari_play.specs.Plan.{IsLowest}
use Rattle.awari_play.specs.Least.{IsPlannedLowest}
use Rattle.awari_play.specs.Planning.{ArePlannedBelow, IsPlannedImage, SameSettled}
use Rattle.awari_play.proofs.Tables.{lowest_alike_images}

-- an image with these entries, whose plans are set
pub planned : (shelf : List Image) (image : Image) (old new : List Entry) → image.level ≡ length shelf → image.entries ≡ new → image.limit ≡ greatest_dist new
    → SameSettled old new → ArePlannedBelow shelf old new (size_of (length shelf)) → IsPlannedImage shelf old image
planned shelf image old new is_level has greatest same lowest = record {
  level = is_level;
  same = subst (SameSettled old) (sym has) same;
  planned = subst (λ es. ArePlannedBelow shelf old es (size_of (length shelf))) (sym has) lowest;
  limited = greatest ∙ ap greatest_dist (sym has);
}

-- The image is one of the level above the shelf: it has an entry for each board, the plans that their values and distances make, and
-- the greatest distance.
pub record IsNextImage (shelf : List Image) (image : Image) : Type 0 where
  pub level : image.level ≡ length shelf
  pub sized : length image.entries ≡ size_of (length shelf)
  pub planned : IsPlannedLowest shelf image
  pub limited : image.limit ≡ greatest_dist image.entries

-- where there is an entry for each board, it is one of the level above the shelf
pub next_image : (shelf : List Image) (image : Image) (old : List Entry) → length old ≡ size_of (length shelf) → IsPlannedImage shelf old image → IsNextImage shelf image
next_image shelf image old sized made = record {
  level = made.level;
  sized = made.same.size ∙ sized;
  planned = λ p whole stones.
      let below : rank_of p < size_of (length shelf) = subst (λ n. rank_of p < size_of n) stones (rank_of-below p whole.pits) in
      let first : Image = record { level = length shelf; limit = 0; entries = old } in
      let plan : (get_or image.entries (rank_of p) no_entry).plan ≡ (entry_of (shelf ++ image ∷ []) p).plan =
      ap (λ e. e.plan) (sym (entry_of-rank shelf image p (rank_of p) stones refl)) in
      subst (IsLowest (table_of (shelf ++ image ∷ [])) p) plan
      (lowest_alike_images shelf first image made.same p (get_or image.entries (rank_of p) no_entry).plan (made.planned p whole stones below));
  limited = made.limited;
}
