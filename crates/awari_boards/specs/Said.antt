-- The command `serve` with `--unverified`: what is answered by what files say, whether that is right or not.
use Rattle.std.specs.Prelude.{◌≡◌, ℕ, ◌<◌, ◌≤◌, Bool, List, Option, sum, Result, Ok, Err}
use Rattle.awari_folder.specs.Contents.{Stands}
use Rattle.awari_desk.specs.Answering.{Answering}
use Rattle.awari_desk.specs.Service.{IsInput, HasServed}
use Rattle.awari_places.specs.Faults.{IsLookFault, IsRefusedAt}
use Rattle.awari_places.specs.Opening.{AreOpenedTo}
use Rattle.awari_places.specs.Places.{Says}
use Rattle.awari_places.specs.declared.opening.Opened.{Opened}
use Rattle.awari_play.specs.Worths.{IsWeighed}
use Rattle.awari_play.specs.declared.weighing.Weighed.{Weighed}
use Rattle.awari_table.specs.Images.{entry_of}
use Rattle.awari_table.specs.declared.TheConstants.{HIGHEST_LEVEL}
use Rattle.awari_table.specs.declared.images.Entry.{Entry}
use Rattle.awari_table.specs.declared.images.Image.{Image}
use Rattle.awari_boards.specs.Unsaid.{line_of, number_of}
use Rattle.awari_boards.specs.declared.unsaid.Unsaid.{Unsaid}
use Rattle.awari_boards.specs.declared.unsaid.Unsaid.TheVariants.{NotYet, Folder}

-- The levels that are known stay. A board of one of them has this entry, where it is known what has the names: the one that the files
-- say. Or it is refused as what has the name of its level is due to be. Any other board has no answer yet.
abbrev pub IsEntrySaid : Stands → ℕ → ℕ → List ℕ → Result Entry Unsaid → Type 0
IsEntrySaid stands levels then board (Ok e) = (then ≡ levels) × (sum board < levels) × ((images : List Image) → Says stands levels images → e ≡ entry_of images board)
IsEntrySaid stands levels then board (Err (NotYet below)) = (then ≡ levels) × (levels ≤ sum board) × (below ≡ levels)
IsEntrySaid stands levels then board (Err (Folder fault)) = (then ≡ levels) × (sum board < levels) × IsRefusedAt stands board fault

-- The same of what its moves are worth, with the replies to them if these are asked for. Or some board that is looked at is refused so.
abbrev pub AreMovesSaid : Bool → Stands → ℕ → ℕ → List ℕ → Result Weighed Unsaid → Type 0
AreMovesSaid replies stands levels then board (Ok w) = (then ≡ levels) × (sum board < levels) × ((images : List Image) → Says stands levels images → IsWeighed replies images board w)
AreMovesSaid replies stands levels then board (Err (NotYet below)) = (then ≡ levels) × (levels ≤ sum board) × (below ≡ levels)
AreMovesSaid replies stands levels then board (Err (Folder fault)) = (then ≡ levels) × (sum board < levels) × IsLookFault levels stands fault

-- how the files of this many levels answer a service
abbrev pub by_files : Stands → Answering ℕ Unsaid
by_files stands =
    record { seen = λ levels. levels; entry = IsEntrySaid stands; moves = λ replies. AreMovesSaid replies stands; line = line_of; number = number_of }

-- Where the input is known, and what the writer holds: what was written is the output for it, by the files of this many levels.
abbrev pub IsServedSaid : Stands → ℕ → Option (List ℕ) → Option (List ℕ) → Option (List ℕ) → Type 0
IsServedSaid stands levels input before after = (bytes : List ℕ) × IsInput input bytes × HasServed (by_files stands) levels before bytes after levels

-- They are those of the folder by their headers, where it is known what has the names.
pub record PrintsServiceSaid (stands : Stands) (input before after : Option (List ℕ)) : Type 0 where
  pub opened : Opened
  pub framed : AreOpenedTo HIGHEST_LEVEL stands opened
  pub served : IsServedSaid stands opened.levels input before after
