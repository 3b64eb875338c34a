-- The notes that a settled board gives to the boards of its own block, what a part hears of the boards of another, and what is sent.
use Rattle.std.specs.Prelude.{◌≡◌, ℕ, ◌+◌, ◌-◌, ◌^◌, ◌<◌, ◌≤◌, ◌⊎◌, ◌&&◌, Bool, ◌==◌, nat_le, nat_lt, if◌then◌else◌, List, ◌∷◌, [], ◌/◌, not, length, fold, filter, sum, All, ℤ, Some, map}
use Rattle.awari_board.specs.Rules.{IsBoard}
use Rattle.awari_rank.specs.Rank.{rank_of, size_of}
use Rattle.awari_block.specs.Notes.{IsQuietMove, IsNoteOf, kind_of}
use Rattle.awari_unmove.specs.Predecessors.{IsPredecessors}
use Rattle.awari_block.specs.Cells.{IsEither}
use Rattle.awari_block.specs.Blocks.{times_due, due_dist, due_rank, is_settled_in}
use Rattle.awari_block.specs.Boards.{Settles}
use Rattle.awari_block.specs.Part.{Part, InBlock, IsTallied, settled_at, stored_at}
use Rattle.awari_block.specs.Shares.{first_rank}
use Rattle.awari_owner.specs.Outboxes.{Outboxes, queue_to, with_note, with_notes}
use Rattle.awari_owner.specs.Queues.{Queue, queue_in}
use Rattle.awari_block.specs.declared.notes.Note.{Note}
use Rattle.awari_block.specs.declared.notes.Kind.{Kind}
use Rattle.awari_scan.specs.Found.{Source}
use Rattle.awari_heard.specs.Heard.{IsSpread, HearsNotes, HearsOwn, SameBlock, with_heard}

-- whether the board of this rank is in the block
abbrev pub is_held : Part → ℕ → Bool
is_held part rank = nat_le part.start rank && nat_lt (rank - part.start) (length part.cells)

-- the note of the open gain and wave for this board and pit
abbrev pub note_to : Part → Kind → Source → Note
note_to part kind y = record { level = part.level; target = rank_of y.0; pit = y.1; kind = kind; gain = part.gain; dist = part.wave }

-- those of these notes that are for boards of the block
abbrev pub own_notes : Part → Kind → List Source → List Note
own_notes part kind sources = filter (λ m. is_held part m.target) (map (note_to part kind) sources)

-- the fresh board that comes first: of the open wave, to which none is nearer, and of least rank among those
pub record IsFirstFresh (part : Part) (rank : ℕ) : Type 0 where
  pub fresh : 0 < times_due part.fresh rank
  pub inside : InBlock part rank
  pub near : (stored_at part rank).dist ≡ part.wave
  pub first : All (λ f. (part.wave ≤ due_dist f) × (due_dist f ≡ part.wave → rank ≤ due_rank f)) part.fresh

-- the fresh boards lose the one of this rank, and gain the newly settled
abbrev pub LeavesFresh : Part → Part → ℕ → Type 0
LeavesFresh old new rank =
    (r : ℕ) → times_due new.fresh r + (if is_settled_in old.start old.cells r then 1 else 0) + (if rank == r then 1 else 0)
    ≡ times_due old.fresh r + (if is_settled_in new.start new.cells r then 1 else 0)

-- q is the one board of the block that becomes spread, with value v and distance d
pub record SpreadsOne (old new : Part) (q : List ℕ) (v : ℤ) (d : ℕ) : Type 0 where
  pub block : SameBlock old new
  pub board : IsBoard q
  pub stones : sum q ≡ old.level
  pub held : InBlock old (rank_of q)
  pub forth : (r : ℕ) (u : ℤ) (e : ℕ) → InBlock old r → IsSpread old r u e → IsSpread new r u e
  pub now : IsSpread new (rank_of q) v d
  pub back : (r : ℕ) (u : ℤ) (e : ℕ) → InBlock old r → IsSpread new r u e → IsSpread old r u e ⊎ ((r ≡ rank_of q) × (u ≡ v) × (e ≡ d))

-- The first fresh board q is spread: the notes that it gives to boards of the block are heard, and no others.
pub record Spreads (old new : Part) (q : List ℕ) (sources : List Source) : Type 0 where
  pub board : IsBoard q
  pub stones : sum q ≡ old.level
  pub first : IsFirstFresh old (rank_of q)
  pub once : times_due old.fresh (rank_of q) ≤ 1
  pub opened : old.gain ≤ old.level
  pub valued : IsEither old.gain (stored_at old (rank_of q)).score
  pub near : old.wave < 2 ^ 32 - 1
  pub predecessors : IsPredecessors q sources
  pub becomes : SpreadsOne old new q (stored_at old (rank_of q)).score old.wave
  pub gives : (y : Source) → IsQuietMove y.0 y.1 q → sum y.0 ≡ old.level
      → IsNoteOf q (stored_at old (rank_of q)).score old.wave y.0 y.1 (note_to old (kind_of (stored_at old (rank_of q)).score) y)
  pub leaves : LeavesFresh old new (rank_of q)
  pub told : (value : List ℕ → ℤ) (notes : List Note) → HearsOwn old notes → IsTallied value old notes
      → IsTallied value new (with_heard (own_notes old (kind_of (stored_at old (rank_of q)).score) sources) notes)
  pub hears : (notes : List Note) → HearsOwn old notes
      → HearsOwn new (with_heard (own_notes old (kind_of (stored_at old (rank_of q)).score) sources) notes)

-- ---- what is sent to other owners

-- whether the board of this rank is in the block of this owner, where this many boards are shared out
abbrev pub is_in_block : ℕ → ℕ → ℕ → ℕ → Bool
is_in_block boards owners owner rank = nat_le (first_rank boards owners owner) rank && nat_lt rank (first_rank boards owners (owner + 1))

-- the block of the part is that of the outboxes' owner
pub record IsPartOf (part : Part) (outboxes : Outboxes) : Type 0 where
  pub owner : outboxes.owner < length outboxes.queues
  pub start : part.start ≡ first_rank (size_of part.level) (length outboxes.queues) outboxes.owner
  pub end : part.start + length part.cells ≡ first_rank (size_of part.level) (length outboxes.queues) (outboxes.owner + 1)

-- the notes that q, of this value and distance, gives to these sources: one to each, in their order
abbrev pub AreNotesOf : List ℕ → ℤ → ℕ → List Source → List Note → Type 0
AreNotesOf q v d [] [] = Unit {0}
AreNotesOf q v d [] (m ∷ notes) = ⊥
AreNotesOf q v d (y ∷ sources) [] = ⊥
AreNotesOf q v d (y ∷ sources) (m ∷ notes) = IsNoteOf q v d y.0 y.1 m × AreNotesOf q v d sources notes

-- The first fresh board q is of this value and distance, and gives a note to each of its sources. Those for boards of another
-- block are put to the outbox of its owner, in order, and nothing else is.
pub record Sends (part : Part) (q : List ℕ) (sources : List Source) (notes : List Note) (old new : Outboxes) : Type 0 where
  pub settled : settled_at part (rank_of q) ≡ Some ((stored_at part (rank_of q)).score, part.wave)
  pub gives : AreNotesOf q (stored_at part (rank_of q)).score part.wave sources notes
  pub same_owner : new.owner ≡ old.owner
  pub owners : length new.queues ≡ length old.queues
  pub own : queue_to new old.owner ≡ queue_to old old.owner
  pub sent : (to : ℕ) → to < length old.queues → (to ≡ old.owner → ⊥)
      → queue_to new to ≡ with_notes (queue_to old to) (filter (λ m. is_in_block (size_of part.level) (length old.queues) to m.target) notes)

-- a source of another block, in blocks of `span` boards, has its note put to that owner's queue
abbrev pub goes_to : Part → ℕ → ℕ → Source → Bool
goes_to part span to y = not (is_held part (rank_of y.0)) && (rank_of y.0 / span == to)

abbrev pub with_sent : Part → ℕ → ℕ → Kind → List (List Note) → Source → List (List Note)
with_sent part span to kind queue y = if goes_to part span to y then with_note queue (note_to part kind y) else queue

abbrev pub with_all_sent : Part → ℕ → ℕ → Kind → List (List Note) → List Source → List (List Note)
with_all_sent part span to kind queue sources = fold (with_sent part span to kind) queue sources

-- the notes for these sources of other blocks are put to the queues of their owners
abbrev pub PutsAll : Part → ℕ → Kind → List Queue → List Queue → List Source → Type 0
PutsAll part span kind queues queues' sources =
    (to : ℕ) → to < length queues → queue_in queues' to ≡ with_all_sent part span to kind (queue_in queues to) sources

-- All predecessors of a board are told: those of the block hear, and the notes for others are put to the queues of their owners.
pub record TellsAll (board : List ℕ) (kind : Kind) (span : ℕ) (old new : Part) (queues queues' : List Queue) : Type 0 where
  pub sources : List Source
  pub predecessors : IsPredecessors board sources
  pub hears : HearsNotes (own_notes old kind sources) old new
  pub settles : Settles old new
  pub many : length queues' ≡ length queues
  pub puts : PutsAll old span kind queues queues' sources
