-- What readers are answered, and what a clause sees of a publisher.
use Rattle.std.specs.Prelude.{◌≡◌, ◌≢◌, ◌↔◌, ◌≤◌, ◌<◌, ℕ, Bool, List, [], ◌∷◌, ◌++◌, length, drop, sum, Result, Ok, Err, OnOk, OnErr}
use Rattle.awari_table.specs.declared.images.Image.{Image}
use Rattle.awari_table.specs.declared.images.Entry.{Entry}
use Rattle.awari_table.specs.Images.{entry_of}
use Rattle.awari_table.specs.Shelves.{Consistent, IsShelf}
use Rattle.awari_desk.specs.Answering.{Answering}
use Rattle.awari_desk.specs.AskFault.{line_of, number_of}
use Rattle.awari_desk.specs.Books.{BeginsWith}
use Rattle.awari_desk.specs.declared.faults.AskFault.{AskFault}
use Rattle.awari_desk.specs.declared.faults.AskFault.TheVariants.{NotYet, Gone}
use Rattle.awari_desk.specs.declared.faults.DeskFault.{DeskFault}
use Rattle.awari_desk.specs.declared.faults.DeskFault.TheVariants.{NotNext, Readers, Memory}
use Rattle.awari_desk.specs.declared.pages.Pages.{Pages}
use Rattle.awari_play.specs.declared.weighing.Weighed.{Weighed}
use Rattle.awari_play.specs.Worths.{IsWeighed}

-- A book is seen: a shelf that begins with the levels known before.
pub record IsSeen (known book : List Image) : Type 0 where
  pub shelf : IsShelf book
  pub begins : BeginsWith book known

-- The answer for a board is that of the one book which is then known. Where the publisher is gone, what is known stays.
abbrev pub IsAnswer : List Image → List Image → List ℕ → Result Entry AskFault → Type 0
IsAnswer known book board (Ok entry) = IsSeen known book × (sum board < length book) × (entry ≡ entry_of book board)
IsAnswer known book board (Err (NotYet levels)) = IsSeen known book × (length book ≤ sum board) × (levels ≡ length book)
IsAnswer known book board (Err Gone) = book ≡ known

-- What is said of a board's moves, and of the replies to them if these are asked for, is so of that one book. It is refused as its
-- entry is.
abbrev pub IsWeighing : Bool → List Image → List Image → List ℕ → Result Weighed AskFault → Type 0
IsWeighing replies known book board (Ok weighed) = IsSeen known book × IsWeighed replies book board weighed
IsWeighing replies known book board (Err (NotYet levels)) = IsSeen known book × (length book ≤ sum board) × (levels ≡ length book)
IsWeighing replies known book board (Err Gone) = book ≡ known

-- how a reader answers a service: by the books that it knows, of which each is a shelf
abbrev pub by_reader : Answering (List Image) AskFault
by_reader = record { seen = length; entry = IsAnswer; moves = IsWeighing; line = line_of; number = number_of }

-- the levels that are published
abbrev pub book_of : Pages → List Image
book_of p = p.writer.desk.shown.value.0

-- what was to be published next, and could not be shared: nothing, or one book
abbrev pub pending_of : Pages → List (List Image)
pending_of p = drop p.writer.behind p.writer.log.items

-- the sharing of a level was refused within a publication, which is left pending
abbrev pub IsStuck : Pages → Type 0
IsStuck p = 0 < length (pending_of p)

-- the level is consistent over the book, if it is its next
abbrev pub CanPublish : Image → Pages → Type 0
CanPublish level pages = level.level ≡ length (book_of pages) → Consistent (book_of pages) level

-- What a publication does. The level stands on top of the book, or the book is as it was. It is refused as 71 if the level is not the
-- next, and only then, and never as 72. A book that is stuck stays so: it takes no level, and its next one is refused as 73. A refusal
-- leaves nothing else pending than the book with the level, as 73, if that book could not be shared.
pub record Publishes {X : Type 0} (level : Image) (result : Result X DeskFault) (old new : Pages) : Type 0 where
  pub published : OnOk result (book_of new ≡ book_of old ++ level ∷ [])
  pub kept : OnErr result (book_of new ≡ book_of old)
  pub not_next : (result ≡ Err NotNext) ↔ (level.level ≢ length (book_of old))
  pub other : result ≢ Err Readers
  pub free : OnOk result (IsStuck new → ⊥)
  pub stuck : IsStuck old → pending_of new ≡ pending_of old
  pub clean : result ≡ Err NotNext → pending_of new ≡ pending_of old
  pub unshared : (IsStuck old → ⊥) → IsStuck new → pending_of new ≡ (book_of old ++ level ∷ []) ∷ []
  pub refused : IsStuck old → level.level ≡ length (book_of old) → result ≡ Err Memory
