-- Numbers as the side that follows the plans sees them, and what one ply does to them.
use Rattle.std.proofs.Common.{◌≡◌, ℕ, zero, suc, ◌+◌, ◌<◌, ◌≤◌, ◌⊎◌, inl, inr, Bool, true, false, not, ◌==◌, if◌then◌else◌, ℤ, pos, neg_ℤ, ◌+ℤ◌, ◌-ℤ◌, ◌≤ℤ◌, ◌<ℤ◌, refl, arith}
use Rattle.std.proofs.lemmas.Int.{ints}
use Rattle.std.proofs.lemmas.Bool.Decides.{nat_tests}
use Rattle.awari_game.specs.Plays.{signed}

-- a number of the first mover's, as the side `first` sees it
abbrev pub seen : Bool → ℤ → ℤ
seen true z = z
seen false z = neg_ℤ z

-- a number of the mover's, as the side `first` sees it, where the first mover is to move at `moves`
abbrev pub own : Bool → Bool → ℤ → ℤ
own true true v = v
own true false v = neg_ℤ v
own false true v = neg_ℤ v
own false false v = v

-- What the follower keeps, of a promised w: with the value of the board it has w, and it has w without, or the board is good for it and
-- the plies with no capture and the distance stay within the limit.
pub record Holds (first moves : Bool) (w r v : ℤ) (n d limit : ℕ) : Type 0 where
  pub lower : w ≤ℤ (seen first r +ℤ own first moves v)
  pub still : (w ≤ℤ seen first r) ⊎ ((pos 0 <ℤ own first moves v) × (n + d ≤ limit))

-- what is known of one ply that captures c, between boards of the values v and v' and the distances d and d'
pub record IsPly (first moves : Bool) (v v' : ℤ) (c d d' limit : ℕ) : Type 0 where
  pub near : d' ≤ limit
  pub no_more : (pos c -ℤ v') ≤ℤ v
  pub gains : moves ≡ first → (pos c -ℤ v') ≡ v
  pub winning : moves ≡ first → pos 0 <ℤ v → (0 < c) ⊎ (d' < d)
  pub losing : v <ℤ pos 0 → c ≡ 0 → d' < d

pub quiet_more : (c n : ℕ) → c ≡ 0 → (if c == 0 then n + 1 else 0) ≡ n + 1
quiet_more c n e = grind (arith, nat_tests)

pub quiet_none : (c n : ℕ) → 0 < c → (if c == 0 then n + 1 else 0) ≡ 0
quiet_none c n h = grind (arith, nat_tests)

pub sum_grows : (first moves : Bool) (r v v' : ℤ) (c d d' limit : ℕ) → IsPly first moves v v' c d d' limit
    → (seen first r +ℤ own first moves v) ≤ℤ (seen first (signed moves r (pos c)) +ℤ own first (not moves) v')
sum_grows true true r v v' c d d' limit h = omega (arith, ints, h.gains refl)
sum_grows true false r v v' c d d' limit h = omega (arith, ints)
sum_grows false true r v v' c d d' limit h = omega (arith, ints)
sum_grows false false r v v' c d d' limit h = omega (arith, ints, h.gains refl)

-- a quiet ply leaves what was captured
pub same_running : (first moves : Bool) (r : ℤ) → seen first (signed moves r (pos 0)) ≡ seen first r
same_running true true r = omega (arith, ints)
same_running true false r = omega (arith, ints)
same_running false true r = omega (arith, ints)
same_running false false r = omega (arith, ints)

-- on a board that is good for the follower a quiet ply brings the distance down
pub comes_nearer : (first moves : Bool) (v v' : ℤ) (d d' limit : ℕ) → IsPly first moves v v' 0 d d' limit → pos 0 <ℤ own first moves v → d' < d
comes_nearer true true v v' d d' limit h k = grind (arith, h.winning refl k)
comes_nearer true false v v' d d' limit h k = h.losing (omega (arith, ints)) refl
comes_nearer false true v v' d d' limit h k = h.losing (omega (arith, ints)) refl
comes_nearer false false v v' d d' limit h k = grind (arith, h.winning refl k)

pub sign_cases : (v : ℤ) → (v ≤ℤ pos 0) ⊎ (pos 0 <ℤ v)
sign_cases v = grind (arith, ints)

pub value_cases : (v : ℤ) → (pos 0 <ℤ v) ⊎ ((v <ℤ pos 0) ⊎ (v ≡ pos 0))
value_cases v = grind (arith, ints)

pub holds_step : (first moves : Bool) (w r v v' : ℤ) (n d c d' limit : ℕ) → IsPly first moves v v' c d d' limit → Holds first moves w r v n d limit
    → Holds first (not moves) w (signed moves r (pos c)) v' (if c == 0 then n + 1 else 0) d' limit
holds_step first moves w r v v' n d zero d' limit h k =
    let grown = sum_grows first moves r v v' 0 d d' limit h in
    let same = same_running first moves r in
    let low = k.lower in
    record {
      lower = omega (arith, ints);
      still = elim k.still [
        | inl safe ↦ inl (omega (arith, ints))
        | inr good ↦
            let nearer = comes_nearer first moves v v' d d' limit h good.0 in
            let plies = quiet_more 0 n refl in
            let pos_v = good.0 in
            inr (omega (arith, ints), omega (arith, good.1))
      ];
    }
holds_step first moves w r v v' n d (suc c) d' limit h k =
    let grown = sum_grows first moves r v v' (suc c) d d' limit h in
    let low = k.lower in
    let next : w ≤ℤ (seen first (signed moves r (pos (suc c))) +ℤ own first (not moves) v') = omega (arith, ints) in
    let plies = quiet_none (suc c) n (omega arith) in
    let near = h.near in
    record {
      lower = next;
      still = elim (sign_cases (own first (not moves) v')) [
        | inl bad ↦ inl (omega (arith, ints))
        | inr good ↦ inr (good, omega arith)
      ];
    }
