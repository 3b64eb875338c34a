-- The board of a rank, by the entry that is read there.
use Rattle.std.proofs.Common.{◌≡◌, ℕ, ◌<◌, ◌≤◌, List, sum, slice_get, Some, subst}
use Rattle.std.proofs.lemmas.Option.{slice_get_within}
use Rattle.awari_board.specs.Rules.{IsBoard}
use Rattle.awari_facts.proofs.SourceLaws.{image_of}
use Rattle.awari_facts.specs.Numbers.{IsAt}
use Rattle.awari_places.specs.Runs.{IsEntryAt}
use Rattle.awari_rank.specs.Tuples.{tuples}
use Rattle.awari_rank.proofs.Ranking.{listed_board}
use Rattle.awari_rank.proofs.Reaching.{board_reached}
use Rattle.awari_rank.specs.Rank.{rank_of, size_of}
use Rattle.awari_table.proofs.ShelfLemmas.{entry_of-read}
use Rattle.awari_table.specs.Images.{entry_of}
use Rattle.awari_table.specs.declared.images.Entry.{Entry}
use Rattle.awari_table.specs.declared.images.Image.{Image}

is_at : (images : List Image) (level rank : ℕ) (image : Image) (board : List ℕ) (e : Entry) → slice_get images level ≡ Some image → slice_get image.entries rank ≡ Some e
    → IsBoard board → sum board ≡ level → rank_of board ≡ rank → IsAt images level rank board e
is_at images level rank image board e found read whole stones ranked = record {
  listed = rw (stones, ranked) at (listed_board board whole.pits);
  entry = entry_of-read images board image e (rw stones found) (rw ranked read);
}

-- some board has each rank
pub some_entry : (images : List Image) (level rank : ℕ) (e : Entry) → IsEntryAt images level rank e → level ≤ 24 → rank < size_of level → (board : List ℕ) × IsAt images level rank board e
some_entry images level rank e there low inside =
    let (image, found, read) = image_of (slice_get images level) (λ image. slice_get image.entries rank ≡ Some e) there in
    let (board, whole, stones, ranked) = board_reached level rank low inside in
    (board, is_at images level rank image board e found read whole stones ranked)

-- a board has one of them
pub rank-inside : (board : List ℕ) → IsBoard board → rank_of board < size_of (sum board)
unfolding size_of
rank-inside board whole = slice_get_within (tuples 12 (sum board)) (rank_of board) board (listed_board board whole.pits)

-- no board has a rank above these
pub listed_below : (level rank : ℕ) (board : List ℕ) → slice_get (tuples 12 level) rank ≡ Some board → rank < size_of level
unfolding size_of
listed_below level rank board listed = slice_get_within (tuples 12 level) rank board listed

-- the entry of a rank that is read is that of the board there
pub at_listed : (images : List Image) (level rank : ℕ) (board : List ℕ) (e : Entry) → IsEntryAt images level rank e → level ≤ 24 → rank < size_of level → slice_get (tuples 12 level) rank ≡ Some board
    → IsAt images level rank board e
at_listed images level rank board e there low inside listed =
    let (other, at) = some_entry images level rank e there low inside in
    let same : other ≡ board = cc in
    subst (λ b. IsAt images level rank b e) same at

-- the board of a rank, by its entry
pub at_board : (images : List Image) (level rank : ℕ) (board : List ℕ) (e : Entry) → IsBoard board → sum board ≡ level → rank_of board ≡ rank → e ≡ entry_of images board → IsAt images level rank board e
at_board images level rank board e whole stones ranked is = record { listed = rw (stones, ranked) at (listed_board board whole.pits); entry = is }
