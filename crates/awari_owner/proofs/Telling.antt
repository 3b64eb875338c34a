-- The predecessors of a board are told one by one.
use Rattle.std.proofs.Common.{◌≡◌, ℕ, ◌+◌, ◌/◌, ◌<◌, ◌≤◌, false, List, [], ◌∷◌, ◌++◌, length, get_or, sum, refl, sym, ap, subst, ◌∙◌, arith, append_assoc}
use Rattle.std.proofs.lemmas.List.{length_push}
use Rattle.awari_board.specs.Rules.{IsBoard}
use Rattle.awari_rank.specs.Rank.{rank_of, size_of}
use Rattle.awari_rank.proofs.Ranking.{rank_of-below}
use Rattle.awari_unmove.specs.Predecessors.{IsPredecessors}
use Rattle.awari_block.specs.Notes.{IsQuietMove}
use Rattle.awari_block.specs.Part.{Part}
use Rattle.awari_block.specs.Boards.{Settles}
use Rattle.awari_block.specs.declared.notes.Kind.{Kind}
use Rattle.awari_scan.specs.Found.{Lists, Source, IsSource, IsCodeOf}
use Rattle.awari_owner.specs.Queues.{Queue, queue_in, room_in}
use Rattle.awari_owner.specs.Spread.{is_held, PutsAll, TellsAll, with_sent, own_notes}
use Rattle.awari_scan.proofs.Finding.{IsNext, code_parts, next_source, none_left}
use Rattle.awari_owner.proofs.Spreading.{held_still, told_more}
use Rattle.awari_owner.proofs.Sending.{puts_more}
use Rattle.awari_heard.specs.Heard.{HearsNotes}
use Rattle.awari_heard.proofs.Coming.{hears_none}

-- Of the n predecessors of q that are listed, the first k are told.
pub record IsTelling (old now : Part) (span : ℕ) (kind : Kind) (before after : List Queue) (q : List ℕ) (targets : List ℕ) (n k : ℕ) : Type 0 where
  pub seen : List Source
  pub left : List Source
  pub many : length seen ≡ k
  pub predecessors : IsPredecessors q (seen ++ left)
  pub listed : Lists targets n (seen ++ left)
  pub told : HearsNotes (own_notes old kind seen) old now
  pub sent : PutsAll old span kind before after seen
  pub room : (r : ℕ) → r < size_of old.level → is_held old r ≡ false → (r / span < length before) × (288 ≤ room_in after (r / span) + k)

pub IsTelling-none : (old : Part) (span : ℕ) (kind : Kind) (before : List Queue) (q : List ℕ) (targets : List ℕ) (n : ℕ)
    → ((sources : List Source) × IsPredecessors q sources × Lists targets n sources)
    → ((r : ℕ) → r < size_of old.level → is_held old r ≡ false → (r / span < length before) × (288 ≤ room_in before (r / span)))
    → IsTelling old old span kind before before q targets n 0
IsTelling-none old span kind before q targets n found room = record {
  seen = [];
  left = found.0;
  many = refl;
  predecessors = found.1;
  listed = found.2;
  told = hears_none old;
  sent = λ to inside. refl;
  room = λ r below out. let at = room r below out in (at.0, (let much = at.1 in omega (arith, much)));
}

pub IsTelling-next : (old now : Part) (span : ℕ) (kind : Kind) (before after : List Queue) (q : List ℕ) (targets : List ℕ) (n k : ℕ) (d : ℕ)
    → ((p : List ℕ) (x : ℕ) → IsBoard p → IsQuietMove p x q → sum q + 0 ≡ sum p) → sum q ≡ old.level
    → (telling : IsTelling old now span kind before after q targets n k) → k < n → IsNext q old.level telling.seen telling.left (get_or targets k d)
IsTelling-next old now span kind before after q targets n k d keeps stones telling less =
    next_source q old.level targets n k telling.seen telling.left d keeps stones telling.many telling.predecessors telling.listed less

-- the note for it has room
pub next_has_room : (old now : Part) (span : ℕ) (kind : Kind) (before after : List Queue) (q : List ℕ) (targets : List ℕ) (n k : ℕ) (y : Source)
    → IsTelling old now span kind before after q targets n k → Settles old now → length after ≡ length before → k < n → n ≤ 288 → IsSource old.level y
    → is_held now (rank_of y.0) ≡ false → (rank_of y.0 / span < length after) × (0 < room_in after (rank_of y.0 / span))
next_has_room old now span kind before after q targets n k y telling settles many less few source out =
    let below = rank_of-below y.0 source.0.pits in
    let size = ap size_of source.1 in
    let at = telling.room (rank_of y.0) (omega (arith, below, size)) (sym (held_still old now (rank_of y.0) settles.same.start settles.size) ∙ out) in
    let high = at.0 in
    let much = at.1 in
    (omega (arith, high, many), omega (arith, much, less, few))

-- it is told
pub IsTelling-more : (old now new : Part) (span : ℕ) (kind : Kind) (before middle after : List Queue) (q : List ℕ) (targets : List ℕ) (n k : ℕ) (t : ℕ)
    → (telling : IsTelling old now span kind before middle q targets n k) → Settles old now → length middle ≡ length before → IsNext q old.level telling.seen telling.left t
    → ((y : Source) → IsCodeOf y t → HearsNotes (own_notes now kind (y ∷ [])) now new)
    → ((y : Source) → IsCodeOf y t → (to : ℕ) → to < length middle → queue_in after to ≡ with_sent now span to kind (queue_in middle to) y)
    → ((to : ℕ) → room_in middle to ≤ room_in after to + 1)
    → IsTelling old new span kind before after q targets n (k + 1)
IsTelling-more old now new span kind before middle after q targets n k t telling settles many next told sent room =
    let same = settles.same in
    let here = code_parts next.y t next.source.2.1.legal.own next.at in
    let all : telling.seen ++ telling.left ≡ (telling.seen ++ next.y ∷ []) ++ next.more = ap (λ l. telling.seen ++ l) next.splits ∙ sym (append_assoc telling.seen (next.y ∷ []) next.more) in
    record {
      seen = telling.seen ++ next.y ∷ [];
      left = next.more;
      many = length_push telling.seen next.y ∙ (let is = telling.many in omega (arith, is));
      predecessors = subst (IsPredecessors q) all telling.predecessors;
      listed = subst (Lists targets n) all telling.listed;
      told = told_more old now new kind telling.seen next.y same.level same.gain same.wave same.start settles.size telling.told
          (told next.y here);
      sent = puts_more old now span kind before middle after telling.seen next.y same.level same.gain same.wave same.start settles.size many telling.sent (sent next.y here);
      room = λ r below out.
          let at = telling.room r below out in
          let much = at.1 in
          let less = room (r / span) in
          (at.0, omega (arith, much, less));
    }

-- in the end all are
pub IsTelling-end : (old now : Part) (span : ℕ) (kind : Kind) (before after : List Queue) (q : List ℕ) (targets : List ℕ) (n k : ℕ)
    → IsTelling old now span kind before after q targets n k → Settles old now → length after ≡ length before → n ≤ k → TellsAll q kind span old now before after
IsTelling-end old now span kind before after q targets n k telling settles many end = record {
  sources = telling.seen;
  predecessors = subst (IsPredecessors q) (none_left targets n k telling.seen telling.left telling.many telling.listed end) telling.predecessors;
  hears = telling.told;
  settles = settles;
  many = many;
  puts = telling.sent;
}
