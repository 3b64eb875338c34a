-- The plans that the cells kept, in the image made of the entries of all cells.
use Rattle.std.proofs.Common.{◌≡◌, ℕ, All, sum, arith, List, [], ◌∷◌, ◌++◌, length, get_or, refl, sym, ap, ◌∙◌, subst}
use Rattle.awari_rank.specs.Rank.{rank_of}
use Rattle.awari_block.specs.Part.{Part, IsClosed}
use Rattle.awari_block.specs.Tally.{Cell}
use Rattle.awari_block.specs.declared.notes.Note.{Note}
use Rattle.awari_board.specs.Rules.{IsBoard}
use Rattle.awari_board.proofs.Keeping.{IsBoard-next, sum-from_IsMove}
use Rattle.awari_heard.specs.Finish.{value_by, dist_by, IsQuietAt}
use Rattle.awari_heard.specs.Level.{AreHeard, AreWhole, known_at}
use Rattle.awari_heard.proofs.Levels.{quiet_at}
use Rattle.awari_heard.proofs.Blocks.{level_has}
use Rattle.awari_plan.proofs.Consistency.{has_value}
use Rattle.awari_plan.proofs.LowestPlans.{plan_lowest}
use Rattle.awari_table.specs.declared.images.Entry.{Entry}
use Rattle.awari_table.specs.declared.images.Image.{Image}
use Rattle.awari_table.specs.Images.{entry_of, table_of, no_entry}
use Rattle.awari_table.proofs.EntryLemmas.{entry_of-append, entry_of-rank}
use Rattle.awari_play.specs.Least.{IsPlannedLowest}
use Rattle.awari_play.specs.Plan.{IsLowest}
use Rattle.awari_heard.specs.Kept.{HasKept, IsKept}

-- a table has what the cells know
entered_has : (shelf : List Image) (cell : List ℕ → Cell) (image : Image) → ((p : List ℕ) → IsBoard p → sum p ≡ length shelf → HasKept (cell p) (get_or image.entries (rank_of p) no_entry))
    → (p : List ℕ) → IsBoard p → sum p ≡ length shelf → ((entry_of (shelf ++ image ∷ []) p).value ≡ value_by (cell p).status) × ((entry_of (shelf ++ image ∷ []) p).dist ≡ dist_by (cell p).status)
entered_has shelf cell image entered p is stones =
    let there = has_value (cell p).status (get_or image.entries (rank_of p) no_entry) (entered p is stones).0 in
    let found = entry_of-rank shelf image p (rank_of p) stones refl in
    (ap (λ (e : Entry). e.value) found ∙ there.0, ap (λ (e : Entry). e.dist) found ∙ there.1)

entered_lowest : (shelf : List Image) (cell : List ℕ → Cell) (image : Image) → ((p : List ℕ) → IsBoard p → sum p ≡ length shelf → HasKept (cell p) (get_or image.entries (rank_of p) no_entry))
    → ((p : List ℕ) → IsBoard p → sum p ≡ length shelf → (notes : List Note) × IsQuietAt (table_of shelf).value cell p notes)
    → (p : List ℕ) → IsBoard p → sum p ≡ length shelf → IsLowest (table_of (shelf ++ image ∷ [])) p ((table_of (shelf ++ image ∷ [])).plan p)
entered_lowest shelf cell image entered quiet p is stones =
    let heard = quiet p is stones in
    let found = entry_of-rank shelf image p (rank_of p) stones refl in
    subst (λ (e : Entry). IsLowest (table_of (shelf ++ image ∷ [])) p e.plan) (sym found)
    (plan_lowest (table_of shelf).value cell p heard.0 heard.1 (table_of (shelf ++ image ∷ [])) (record {
      own = entered_has shelf cell image entered p is stones;
      quiet = λ x q move. entered_has shelf cell image entered q (IsBoard-next p x 0 q is move) (let kept = sum-from_IsMove p x 0 q is.pits move in omega (arith, kept, stones));
      captures = λ x c q move some.
          ap (λ (e : Entry). e.value) (entry_of-append shelf (image ∷ []) q (let kept = sum-from_IsMove p x c q is.pits move in omega (arith, kept, stones, some)));
    }) (get_or image.entries (rank_of p) no_entry) (entered p is stones))

-- where they heard what was due, these are the lowest
pub kept_lowest : (shelf : List Image) (parts : List Part) (image : Image) → AreWhole (length shelf) parts → All IsClosed parts → AreHeard (table_of shelf).value parts → IsKept shelf parts image
    → IsPlannedLowest shelf image
kept_lowest shelf parts image whole closed heard made = λ p is stones.
    entered_lowest shelf (λ q. known_at parts (rank_of q)) image (λ q is_q stones_q. level_has HasKept _ parts whole image.entries made.kept q is_q stones_q)
    (λ q is_q stones_q. quiet_at _ parts whole (table_of shelf).value closed heard q is_q stones_q) p is stones
