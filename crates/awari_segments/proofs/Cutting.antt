-- A level is scanned, a block after the other.
use Rattle.std.proofs.Common.{◌≡◌, ℕ, zero, suc, ◌+◌, ◌*◌, ◌^◌, ◌<◌, ◌≤◌, min, List, [], ◌∷◌, ◌++◌, length, get_or, length-append, ℤ, None, is_some, refl, sym, ap, subst, ◌∙◌, inl, inr, arith}
use Rattle.std.proofs.lemmas.Bool.{cases_lt, false≢true}
use Rattle.std.proofs.lemmas.List.{get_or_append_left, get_or_default}
use Rattle.std.proofs.Math.Seq.{get_or-append_seam}
use Rattle.std.proofs.Math.Nat.{suc-mul, zero-mul}
use Rattle.awari_rank.specs.Rank.{rank_of, size_of}
use Rattle.awari_block.specs.Part.{Part, InBlock, IsTallied, settled_at}
use Rattle.awari_heard.specs.Heard.{Hears}
use Rattle.awari_heard.specs.Level.{AreBlocks, AreHeard, AreWhole, no_part, part_at}
use Rattle.awari_segments.specs.Each.{NoneAreFresh}
use Rattle.awari_segments.specs.Segments.{AreSegments}
use Rattle.awari_segments.proofs.Spans.{grid_of}
use Rattle.awari_scan.specs.Scan.{IsScannedPart}
use Rattle.awari_scan.proofs.Finding.{level_few}

-- the first blocks of a level, this many
pub record AreScanned (value : List ℕ → ℤ) (n span count : ℕ) (parts : List Part) : Type 0 where
  pub many : length parts ≡ count
  pub each : (i : ℕ) → i < length parts → IsScannedPart value n (i * span) (min ((i + 1) * span) (size_of n)) (part_at parts i)
  pub blocks : AreBlocks n 0 (min (count * span) (size_of n)) parts
  pub few : count ≤ min (count * span) (size_of n)

blocks_push : (n low high last : ℕ) (parts : List Part) (part : Part) → AreBlocks n low high parts → part.level ≡ n → part.start ≡ high → high + length part.cells ≡ last → AreBlocks n low last (parts ++ part ∷ [])
blocks_push n low high last [] part blocks level start end = ((level, start ∙ sym blocks), (let e : low ≡ high = blocks in omega (arith, e, end)))
blocks_push n low high last (p ∷ parts) part blocks level start end = (blocks.0, blocks_push n (low + length p.cells) high last parts part blocks.1 level start end)

module _ (value : List ℕ → ℤ) (n span : ℕ) where
  pub scanned-none : (parts : List Part) → parts ≡ [] → AreScanned value n span 0 parts
  scanned-none parts none =
      let zero_at : 0 ≡ min (0 * span) (size_of n) = (let z = zero-mul span in omega (arith, z)) in
      subst (AreScanned value n span 0) (sym none)
      (record { many = refl; each = λ i h. absurd (omega (arith, h)); blocks = zero_at; few = omega arith })

  next : (k : ℕ) → (k + 1) * span ≡ k * span + span
  next k = (let e : k + 1 ≡ suc k = omega arith in ap (λ j. j * span) e) ∙ suc-mul k span

  pub scanned-more : (count : ℕ) (parts after : List Part) (part : Part) → 0 < span → AreScanned value n span count parts → count * span < size_of n
      → IsScannedPart value n (count * span) (min ((count + 1) * span) (size_of n)) part → after ≡ parts ++ part ∷ [] → AreScanned value n span (count + 1) after
  scanned-more count parts after part some before less here are = subst (AreScanned value n span (count + 1)) (sym are) (
      let more = length-append parts (part ∷ []) in
      let up = next count in
      let at = before.many in
      let start : count * span ≡ min (count * span) (size_of n) = omega (arith, less) in
      record {
        many = omega (arith, more, at);
        each = λ i h. elim (cases_lt i (length parts)) [
          | inl low ↦ subst (IsScannedPart value n (i * span) (min ((i + 1) * span) (size_of n))) (sym (get_or_append_left parts (part ∷ []) no_part i low)) (before.each i low)
          | inr above ↦
              let e : i ≡ length parts = omega (arith, above, h, more) in
              subst (λ j. IsScannedPart value n (j * span) (min ((j + 1) * span) (size_of n)) (part_at (parts ++ part ∷ []) j)) (sym e)
              (subst (IsScannedPart value n (length parts * span) (min ((length parts + 1) * span) (size_of n))) (sym (get_or-append_seam parts part [] no_part))
              (subst (λ j. IsScannedPart value n (j * span) (min ((j + 1) * span) (size_of n)) part) (sym at) here))
        ];
        blocks = blocks_push n 0 (min (count * span) (size_of n)) (min ((count + 1) * span) (size_of n)) parts part before.blocks here.level (here.start ∙ start)
            (let e = here.end in let s = here.start in omega (arith, e, s, less));
        few = let f = before.few in omega (arith, f, up, less, some);
      })

  module _ (count : ℕ) (parts : List Part) (low : n ≤ 24) (some : 0 < span) (done : AreScanned value n span count parts) (all : size_of n ≤ count * span) where
    pub scanned-grid : AreSegments (record { level = n; gain = n + 1; wave = 0 }) span parts
    scanned-grid = grid_of (record { level = n; gain = n + 1; wave = 0 }) span parts some (record {
      level = λ i h. (done.each i h).level;
      gain = λ i h. (done.each i h).gain;
      wave = λ i h. (done.each i h).wave;
      start = λ i h. (done.each i h).start;
      end = λ i h. (done.each i h).end;
      all = subst (λ j. size_of n ≤ j * span) (sym done.many) all;
    })

    pub scanned-whole : AreWhole n parts
    scanned-whole = let e : min (count * span) (size_of n) ≡ size_of n = omega (arith, all) in subst (λ j. AreBlocks n 0 j parts) e done.blocks

    pub scanned-idle : NoneAreFresh parts
    scanned-idle i h = (done.each i h).fresh

    pub scanned-numbers : 0 < size_of n → (1 ≤ length parts) × (length parts < 2 ^ 32)
    scanned-numbers boards = (positive count refl, omega (arith, done.many, done.few, level_few n low))
      where
        positive : (k : ℕ) → count ≡ k → 1 ≤ length parts
        positive zero e = absurd (let none = ap (λ j. j * span) e ∙ zero-mul span in omega (arith, all, none, boards))
        positive (suc k) e = omega (arith, done.many, e)

    pub scanned-heard : AreHeard value parts
    scanned-heard i d h = ([], subst (λ (p : Part). IsTallied value p []) (same i d h) (done.each i h).tallied, λ j e g. hears i d j e g)
      where
        same : (i : ℕ) (d : Part) → i < length parts → part_at parts i ≡ get_or parts i d
        same i d h = get_or_default parts i no_part d h

        hears : (i : ℕ) (d : Part) (j : ℕ) (e : Part) → j < length parts → Hears (get_or parts j e) (get_or parts i d) []
        hears i d j e g = record {
          true_notes = λ p x q is stones in_p in_q quiet m has pit. absurd has;
          all_notes = λ p x q v dist is stones in_p in_q quiet spread.
              absurd (false≢true (sym (ap is_some (sym spread.0 ∙ subst (λ (p : Part). settled_at p (rank_of q) ≡ None) (same j e g) ((done.each j g).unsettled (rank_of q) (subst (λ (p : Part). InBlock p (rank_of q)) (sym (same j e g)) in_q))))));
        }
