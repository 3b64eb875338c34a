-- A level that is cut into blocks of one length.
use Rattle.std.proofs.Common.{◌≡◌, ℕ, suc, ◌+◌, ◌*◌, ◌/◌, ◌%◌, ◌<◌, ◌≤◌, inl, inr, List, length, ap, ◌∙◌, arith, min}
use Rattle.std.proofs.lemmas.Bool.{cases_lt, cases_eq}
use Rattle.std.proofs.lemmas.Nat.{div-add-mod', div_below, mod_below, mul-le}
use Rattle.std.proofs.Math.Nat.{add-mul, div-mul-le_self, lt-div-mul-add, mul-le-mul_right, one-mul, suc-mul}
use Rattle.awari_block.specs.Part.{Part}
use Rattle.awari_block.specs.declared.stakes.Stake.{Stake}
use Rattle.awari_segments.specs.Segments.{AreSegments}
use Rattle.awari_heard.specs.Level.{part_at}
use Rattle.awari_rank.specs.Rank.{size_of}
use Rattle.awari_packed.proofs.Moving.{one_more_of}

-- The boards of the level, `span` in each block and fewer in the last.
pub record AreConsecutive (stake : Stake) (span : ℕ) (parts : List Part) : Type 0 where
  pub level : (i : ℕ) → i < length parts → (part_at parts i).level ≡ stake.level
  pub gain : (i : ℕ) → i < length parts → (part_at parts i).gain ≡ stake.gain
  pub wave : (i : ℕ) → i < length parts → (part_at parts i).wave ≡ stake.wave
  pub start : (i : ℕ) → i < length parts → (part_at parts i).start ≡ i * span
  pub end : (i : ℕ) → i < length parts → (part_at parts i).start + length (part_at parts i).cells ≡ min ((i + 1) * span) (size_of stake.level)
  pub all : size_of stake.level ≤ length parts * span

div_at : (r k s : ℕ) → 0 < s → k * s ≤ r → r < k * s + s → r / s ≡ k
div_at r k s some low high = elim (cases_eq (r / s) k) [
  | inl same ↦ same
  | inr apart ↦ elim (cases_lt (r / s) k) [
    | inl less ↦ absurd (let top = lt-div-mul-add {a = r} {b = s} some in let more = mul-le (suc (r / s)) s k s (omega (arith, less)) (omega arith) in let e = suc-mul (r / s) s in omega (arith, top, more, e, low))
    | inr more ↦ absurd (let bottom = div-mul-le_self r s in let le = mul-le (suc k) s (r / s) s (omega (arith, more, apart)) (omega arith) in let e = suc-mul k s in omega (arith, bottom, le, e, high))
  ]
]

pub grid_of : (stake : Stake) (span : ℕ) (parts : List Part) → 0 < span → AreConsecutive stake span parts → AreSegments stake span parts
grid_of stake span parts some are = record {
  level = are.level;
  gain = are.gain;
  wave = are.wave;
  within = λ i h. let e = are.end i h in omega (arith, e);
  home = λ rank h.
      let few : rank / span < length parts = div_below rank span (length parts) some (let all = are.all in omega (arith, all, h)) in
      let start = are.start (rank / span) few in
      let end = are.end (rank / span) few in
      let low = div-mul-le_self rank span in
      let high = lt-div-mul-add {a = rank} {b = span} some in
      let e = one_more_of (rank / span) span in
      (few, (omega (arith, start, low), omega (arith, start, end, low, high, e, h)));
  only = λ i rank h inside.
      let start = are.start i h in
      let end = are.end i h in
      let e = one_more_of i span in
      let a = inside.0 in
      let b = inside.1 in
      div_at rank i span some (omega (arith, start, a)) (omega (arith, start, end, a, b, e));
}

-- ---- how many blocks have all boards

pub spans_all : (count len size : ℕ) → 0 < size → count ≡ len / size + min 1 (len % size) → len ≤ count * size
spans_all count len size p is =
    let q = len / size in let r = len % size in
    let a : q * size + r ≡ len = div-add-mod' len size in
    let b : r < size = mod_below len size p in
    elim (cases_lt 0 r) [
      | inl h ↦ let e : count ≡ q + 1 = omega arith in let w = ap (λ n. n * size) e ∙ add-mul q 1 size in let o = one-mul size in omega (arith, a, b, w, o)
      | inr h ↦ let e : count ≡ q = omega arith in let w = ap (λ n. n * size) e in omega (arith, a, w, h)
    ]

pub begun_all : (count len size k : ℕ) → 0 < size → count ≡ len / size + min 1 (len % size) → k < count → k * size < len
begun_all count len size k p is less =
    let q = len / size in let r = len % size in
    let a : q * size + r ≡ len = div-add-mod' len size in
    elim (cases_lt 0 r) [
      | inl h ↦ let up = mul-le-mul_right size (let e : k ≤ q = omega arith in e) in omega (arith, a, up, h)
      | inr h ↦ let up = mul-le-mul_right size (let e : k + 1 ≤ q = omega arith in e) in let w = add-mul k 1 size in let o = one-mul size in omega (arith, a, up, w, o, p)
    ]
