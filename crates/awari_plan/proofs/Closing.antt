-- A finished image is consistent over the shelf, where its parts heard what was due.
use Rattle.std.proofs.Common.{◌≤◌, List, [], All, length, ◌≡◌, ◌∷◌, ◌∙◌}
use Rattle.awari_rank.specs.Rank.{rank_of}
use Rattle.awari_table.specs.declared.TheConstants.{HIGHEST_LEVEL}
use Rattle.awari_table.specs.declared.images.Image.{Image}
use Rattle.awari_table.specs.declared.images.Entry.{Entry}
use Rattle.awari_table.specs.Images.{table_of}
use Rattle.awari_table.specs.Shelves.{Consistent, IsShelf}
use Rattle.awari_table.proofs.CertificateLemmas.{right_from_shelf}
use Rattle.awari_block.specs.Part.{Part, IsClosed, cell_at}
use Rattle.awari_heard.specs.Level.{AreHeard, AreWhole, known_at}
use Rattle.awari_heard.proofs.Levels.{parts_right}
use Rattle.awari_play.specs.Planning.{IsPlannedImage, SameSettled}
use Rattle.awari_play.proofs.Planned.{next_image}
use Rattle.awari_play.proofs.Tables.{same_settled}
use Rattle.awari_heard.specs.Kept.{HasSettled, IsKept, HasKept, HasStatus, HaveAll}
use Rattle.awari_plan.specs.Finished.{IsFinished}
use Rattle.awari_heard.specs.Filling.{PutsBlocks}
use Rattle.awari_plan.proofs.Consistency.{consistent}
use Rattle.awari_heard.proofs.Blocks.{level_has, puts_whole}
use Rattle.awari_plan.proofs.Whole.{kept_lowest}
use Rattle.awari_block.specs.Tally as tally

-- an entry of the same value and distance has what was settled
status_alike : (s : tally.Status) (old now : Entry) → now.value ≡ old.value → now.dist ≡ old.dist → HasStatus s old → HasStatus s now
status_alike (tally.Ended gain) old now value dist h = (value ∙ h.0, dist ∙ h.1)
status_alike (tally.Open best plans far) old now value dist h = (value ∙ h.0, dist ∙ h.1)
status_alike (tally.Settled v d plans) old now value dist h = (value ∙ h.0, dist ∙ h.1)

-- entries of the same values and distances have all that was settled, whatever their plans
pub settled_alike : (parts : List Part) (old now : List Entry) → SameSettled old now → HaveAll HasKept parts old → HaveAll HasSettled parts now
settled_alike [] old now same has = tt
settled_alike (part ∷ parts) old now same has = (
  λ rank inside. status_alike (cell_at part rank).status _ _ (same.value rank) (same.dist rank) (has.0 rank inside).0,
  settled_alike parts old now same has.1,
)

pub finished_consistent : (shelf : List Image) (parts : List Part) (image : Image) → IsShelf shelf → length shelf ≤ HIGHEST_LEVEL
    → AreWhole (length shelf) parts → All IsClosed parts → AreHeard (table_of shelf).value parts → IsFinished shelf parts image → Consistent shelf image
finished_consistent shelf parts image on_shelf low whole closed heard finished =
    consistent shelf (λ q. known_at parts (rank_of q)) parts image
    (λ q is few. let range = (right_from_shelf shelf on_shelf q is few).in_range in (range.0, range.1))
    (λ p is stones. parts_right _ parts whole (table_of shelf).value closed heard p is stones)
    (λ p is stones. level_has HasSettled _ parts whole image.entries finished.settled p is stones)
    finished low

-- where the plans are those of these entries, which are those of all blocks, it is finished
pub planned_finished : (shelf : List Image) (parts : List Part) (entries : List Entry) (image : Image) → AreWhole (length shelf) parts → PutsBlocks parts [] entries → IsPlannedImage shelf entries image
    → IsFinished shelf parts image
planned_finished shelf parts entries image whole puts made =
    let (sized, kept) = puts_whole _ parts entries whole puts in
    let next = next_image shelf image entries sized made in
    record { level = next.level; sized = next.sized; settled = settled_alike parts entries image.entries made.same kept; planned = next.planned; limited = next.limited }

-- where its plans are those that the cells kept, it is finished once its parts heard what was due
kept_finished : (shelf : List Image) (parts : List Part) (image : Image) → AreWhole (length shelf) parts → All IsClosed parts → AreHeard (table_of shelf).value parts → IsKept shelf parts image
    → IsFinished shelf parts image
kept_finished shelf parts image whole closed heard made = record {
  level = made.level;
  sized = made.sized;
  settled = settled_alike parts image.entries image.entries (same_settled image.entries) made.kept;
  planned = kept_lowest shelf parts image whole closed heard made;
  limited = made.limited;
}

pub kept_consistent : (shelf : List Image) (parts : List Part) (image : Image) → IsShelf shelf → length shelf ≤ HIGHEST_LEVEL
    → AreWhole (length shelf) parts → All IsClosed parts → AreHeard (table_of shelf).value parts → IsKept shelf parts image → Consistent shelf image
kept_consistent shelf parts image on_shelf low whole closed heard made =
    finished_consistent shelf parts image on_shelf low whole closed heard (kept_finished shelf parts image whole closed heard made)
