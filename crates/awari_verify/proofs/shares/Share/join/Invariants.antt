use Rattle.std.proofs.Common.{◌≡◌, ◌<◌, ◌⊎◌, ℕ, true, false, length, slice_index_or}
use Rattle.awari_verify.proofs.shares.Share.join.Given as goal

abbrev pub invariant-loop-piece : goal.invariant-loop-piece
invariant-loop-piece l = record {
  only : (k : ℕ) → slice_index_or l.seen k false ≡ true → (slice_index_or l.fn.self.seen k false ≡ true) ⊎ (slice_index_or l.other.seen k false ≡ true);
  own : (k : ℕ) → slice_index_or l.fn.self.seen k false ≡ true → slice_index_or l.seen k false ≡ true;
  others : (k : ℕ) → k < l.piece → slice_index_or l.other.seen k false ≡ true → slice_index_or l.seen k false ≡ true;
  long : length l.seen ≡ 1600;
}
