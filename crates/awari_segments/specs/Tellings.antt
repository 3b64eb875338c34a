-- What is told of boards in a turn, and what follows of it for cells.
--
-- How to think of it. In a turn the member of a crew takes fresh boards of its own segments, so they are
-- spread from then on, and tells their notes, by segment, to all members at once (Tells). Who has all
-- segments tells itself alone. So for one member the notes that it ever told are those of its spread boards
-- (TellSpread), whoever heard of them. A segment's cells are a tally of what its member heard so far of each
-- member, itself among them (HearsAll). Both hold between any two turns, whatever the other members do. Once
-- each member heard all that each other one told, AreHeard follows.
use Rattle.std.specs.Prelude.{◌≡◌, ◌⊎◌, ℕ, ◌/◌, ◌<◌, List, [], ◌∷◌, length, sum, ℤ}
use Rattle.awari_board.specs.Rules.{IsBoard}
use Rattle.awari_rank.specs.Rank.{rank_of}
use Rattle.awari_block.specs.Blocks.{times_due}
use Rattle.awari_block.specs.Each.{EachTo}
use Rattle.awari_block.specs.Notes.{Has, IsNoteOf, IsQuietMove}
use Rattle.awari_block.specs.Part.{Part, InBlock, IsTallied}
use Rattle.awari_block.specs.declared.notes.Note.{Note}
use Rattle.awari_block.specs.declared.stakes.Stake.{Stake}
use Rattle.awari_heard.specs.Heard.{IsSeenAs, IsSpread, with_heard}
use Rattle.awari_heard.specs.Level.{part_at}
use Rattle.awari_segments.specs.Lists.{list_at}
use Rattle.awari_segments.specs.Segments.{both_by}
use Rattle.awari_segments.specs.declared.rows.Row.{Row}

-- what is open, and the codes of the notes of lost and of won boards, by segment
pub record Telling : Type 0 where
  pub stake : Stake
  pub lost : List (List ℕ)
  pub won : List (List ℕ)

-- the notes that a member told for the segment of this number
abbrev pub notes_to : ℕ → Telling → List Note
notes_to k t = both_by t.stake (list_at t.lost k) (list_at t.won k)

-- and in some of these turns
abbrev pub Tell : List Telling → ℕ → Note → Type 0
Tell [] k m = ⊥
Tell (t ∷ ts) k m = Has (notes_to k t) m ⊎ Tell ts k m

-- m is a note that a spread board of one of these parts gives
pub record IsToldBy (level : ℕ) (parts : List Part) (m : Note) : Type 0 where
  pub at : ℕ
  pub q : List ℕ
  pub p : List ℕ
  pub x : ℕ
  pub v : ℤ
  pub d : ℕ
  pub inside : at < length parts
  pub held : InBlock (part_at parts at) (rank_of q)
  pub spread : IsSpread (part_at parts at) (rank_of q) v d
  pub board : IsBoard p
  pub stones : sum p ≡ level
  pub note : IsNoteOf q v d p x m

-- What was told, for segments of `span` boards, are the notes of the spread boards of these parts, all of them and no others.
pub record TellSpread (level span : ℕ) (parts : List Part) (tellings : List Telling) : Type 0 where
  pub true_notes : (k : ℕ) (m : Note) → Tell tellings k m → IsToldBy level parts m
  pub all_notes : (i : ℕ) (p q : List ℕ) (x : ℕ) (v : ℤ) (d : ℕ) → i < length parts → IsBoard p → sum p ≡ level → InBlock (part_at parts i) (rank_of q) → IsQuietMove p x q
      → IsSpread (part_at parts i) (rank_of q) v d → (m : Note) × Tell tellings (rank_of p / span) m × IsNoteOf q v d p x m

-- Boards were taken from the fresh ones of these parts, so they are spread from then on, and these are their notes, all of them
-- and no others. It is of one turn alone, so both a member, which knows what it told before, and a lone thread can go by it.
pub record Tells (level span : ℕ) (t : Telling) (old new : List Part) : Type 0 where
  pub same : EachTo (λ (p q : Part). q ≡ record p { fresh = q.fresh }) old new
  pub stay : (i r : ℕ) → i < length old → times_due (part_at old i).fresh r ≡ 0 → times_due (part_at new i).fresh r ≡ 0
  pub true_notes : (k : ℕ) (m : Note) → Has (notes_to k t) m → IsToldBy level new m
  pub all_notes : (i : ℕ) (p q : List ℕ) (x : ℕ) (v : ℤ) (d : ℕ) → i < length new → IsBoard p → sum p ≡ level → InBlock (part_at new i) (rank_of q) → IsQuietMove p x q
      → IsSpread (part_at new i) (rank_of q) v d → IsSpread (part_at old i) (rank_of q) v d ⊎ ((m : Note) × Has (notes_to (rank_of p / span) t) m × IsNoteOf q v d p x m)

-- The part's cells are a tally of what these members told for its segment, as far as it was heard.
pub record HearsAll (value : List ℕ → ℤ) (span members : ℕ) (ears : ℕ → List Telling) (part : Part) : Type 0 where
  pub heard : List Note
  pub tallied : IsTallied value part heard
  pub told : (m : Note) → Has heard m → (j : ℕ) × (j < members) × Tell (ears j) (part.start / span) m
  pub all : (j : ℕ) (m : Note) → j < members → Tell (ears j) (part.start / span) m → Has heard m

-- Between these two the part heard these notes, each of which its cell had not heard.
abbrev pub HearsSurely : List Note → Part → Part → Type 0
HearsSurely more old new = (value : List ℕ → ℤ) (notes : List Note) → IsTallied value old notes → IsTallied value new (with_heard more notes)

-- The same boards are spread, and these notes were heard.
pub record HearsMore (more : List Note) (old new : Part) : Type 0 where
  pub seen : IsSeenAs old new
  pub tells : HearsSurely more old new

-- and these are what was told for the part's segment
abbrev pub HearsTelling : ℕ → Telling → Part → Part → Type 0
HearsTelling span t old new = HearsMore (notes_to (old.start / span) t) old new

-- what is told with this row
abbrev pub telling_of : Stake → Row → Telling
telling_of stake row = record { stake = stake; lost = row.lost; won = row.won }
