-- What boards are worth: the worth is one number, and it is the certificate's value.
use Rattle.std.proofs.Common.{◌≡◌, ℕ, zero, suc, ◌<◌, ◌≤◌, ◌⊎◌, inl, inr, Bool, true, false, List, sum, ℤ, pos, negsuc, neg_ℤ, ◌<ℤ◌, ◌↔◌, refl, sym, ap, ◌∙◌, arith}
use Rattle.std.proofs.lemmas.Int.{ints}
use Rattle.std.proofs.lemmas.Bool.{cases_order}
use Rattle.awari_board.specs.Rules.{IsBoard, IsMove}
use Rattle.awari_table.specs.Certificate.{Table}
use Rattle.awari_theory.specs.Older.{IsCertificate}
use Rattle.awari_theory.specs.Worth.{Forced, Greatest, NoneForced, IsWorthBy, IsWorthBelow, IsWorth}
use Rattle.awari_theory.specs.Promises.{IsRightWorth}
use Rattle.awari_theory.proofs.Moves.{stones_kept}
use Rattle.awari_theory.proofs.Keeps.{IsCovered}
use Rattle.awari_theory.proofs.Forces.{IsValue, allows, favours, sound, reaches}
use Rattle.awari_theory.proofs.Sides.{value_cases}
use Rattle.awari_board.proofs.Keeping.{IsBoard-next}

-- ---- a worth is one number

greatest_same : (worth : List ℕ → ℤ → Type 0) (side : Bool) (p : List ℕ) (m n : ℕ) → Greatest worth side p m → Greatest worth side p n → m ≡ n
greatest_same worth side p m n a b =
    elim (cases_order m n) [
      | inl same ↦ same
      | inr (inl below) ↦ absurd (a.2 n b.1.0 below b.1.1)
      | inr (inr above) ↦ absurd (b.2 m a.1.0 above a.1.1)
    ]

greatest_none : (worth : List ℕ → ℤ → Type 0) (side : Bool) (p : List ℕ) (n : ℕ) → Greatest worth side p n → NoneForced worth side p → ⊥
greatest_none worth side p n a none = none n a.1.0 a.0 a.1.1

pub by_unique : (worth : List ℕ → ℤ → Type 0) (p : List ℕ) (v w : ℤ) → IsWorthBy worth p v → IsWorthBy worth p w → v ≡ w
by_unique worth p v w (inl a) (inl b) = a.2 ∙ ap pos (greatest_same worth true p a.0 b.0 a.1 b.1) ∙ sym b.2
by_unique worth p v w (inl a) (inr (inl b)) = absurd (greatest_none worth true p a.0 a.1 b.1)
by_unique worth p v w (inl a) (inr (inr b)) = absurd (greatest_none worth true p a.0 a.1 b.0)
by_unique worth p v w (inr (inl a)) (inl b) = absurd (greatest_none worth true p b.0 b.1 a.1)
by_unique worth p v w (inr (inl a)) (inr (inl b)) = a.3 ∙ ap (λ n. neg_ℤ (pos n)) (greatest_same worth false p a.0 b.0 a.2 b.2) ∙ sym b.3
by_unique worth p v w (inr (inl a)) (inr (inr b)) = absurd (greatest_none worth false p a.0 a.2 b.1)
by_unique worth p v w (inr (inr a)) (inl b) = absurd (greatest_none worth true p b.0 b.1 a.0)
by_unique worth p v w (inr (inr a)) (inr (inl b)) = absurd (greatest_none worth false p b.0 b.2 a.1)
by_unique worth p v w (inr (inr a)) (inr (inr b)) = a.2 ∙ sym b.2

pub worth_unique : (p : List ℕ) (v w : ℤ) → IsWorth p v → IsWorth p w → v ≡ w
worth_unique p v w a b = by_unique _ p v w a.1 b.1

-- ---- the bound of IsWorthBelow does not matter

-- Two worths that agree wherever a capture of an `ok` board leads, and what is `ok` stays so.
pub record Agree (ok : List ℕ → Type 0) (W V : List ℕ → ℤ → Type 0) : Type 0 where
  pub next : (p : List ℕ) (x c : ℕ) (q : List ℕ) → ok p → IsMove p x c q → ok q
  pub there : (p : List ℕ) (x c : ℕ) (q : List ℕ) (w : ℤ) → ok p → IsMove p x c q → 0 < c → W q w → V q w
  pub back : (p : List ℕ) (x c : ℕ) (q : List ℕ) (w : ℤ) → ok p → IsMove p x c q → 0 < c → V q w → W q w

flipped : (ok : List ℕ → Type 0) (W V : List ℕ → ℤ → Type 0) → Agree ok W V → Agree ok V W
flipped ok W V a = record { next = a.next; there = a.back; back = a.there }

forced_map : (ok : List ℕ → Type 0) (W V : List ℕ → ℤ → Type 0) → Agree ok W V → (k : ℕ) (side : Bool) (n : ℕ) (p : List ℕ) → ok p
    → Forced W side n k p → Forced V side n k p
forced_map ok W V a zero true n p g h = h
forced_map ok W V a zero false n p g h = h
forced_map ok W V a (suc k) true n p g (inl over) = inl over
forced_map ok W V a (suc k) true n p g (inr (x, c, q, move, inl taken)) =
    inr (x, c, q, move, inl (taken.0, taken.1, a.there p x c q taken.1 g move taken.0 taken.2, taken.3))
forced_map ok W V a (suc k) true n p g (inr (x, c, q, move, inr quiet)) =
    inr (x, c, q, move, inr (quiet.0, forced_map ok W V a k false n q (a.next p x c q g move) quiet.1))
forced_map ok W V a (suc k) false n p g (inl over) = inl over
forced_map ok W V a (suc k) false n p g (inr (not_ended, each)) =
    inr (
      not_ended,
      λ x c q move.
          elim (each x c q move) [
            | inl taken ↦ inl (taken.0, taken.1, a.there p x c q taken.1 g move taken.0 taken.2, taken.3)
            | inr quiet ↦ inr (quiet.0, forced_map ok W V a k true n q (a.next p x c q g move) quiet.1)
          ],
    )

greatest_map : (ok : List ℕ → Type 0) (W V : List ℕ → ℤ → Type 0) → Agree ok W V → (side : Bool) (p : List ℕ) (n : ℕ) → ok p
    → Greatest W side p n → Greatest V side p n
greatest_map ok W V a side p n g h =
    (h.0, (h.1.0, forced_map ok W V a h.1.0 side n p g h.1.1), λ s k above forced. h.2 s k above (forced_map ok V W (flipped ok W V a) k side s p g forced))

none_map : (ok : List ℕ → Type 0) (W V : List ℕ → ℤ → Type 0) → Agree ok W V → (side : Bool) (p : List ℕ) → ok p → NoneForced W side p → NoneForced V side p
none_map ok W V a side p g none = λ n k some forced. none n k some (forced_map ok V W (flipped ok W V a) k side n p g forced)

pub by_map : (ok : List ℕ → Type 0) (W V : List ℕ → ℤ → Type 0) → Agree ok W V → (p : List ℕ) (w : ℤ) → ok p → IsWorthBy W p w → IsWorthBy V p w
by_map ok W V a p w g (inl h) = inl (h.0, greatest_map ok W V a true p h.0 g h.1, h.2)
by_map ok W V a p w g (inr (inl h)) = inr (inl (h.0, none_map ok W V a true p g h.1, greatest_map ok W V a false p h.0 g h.2, h.3))
by_map ok W V a p w g (inr (inr h)) = inr (inr (none_map ok W V a true p g h.0, none_map ok W V a false p g h.1, h.2))

by_same : (ok : List ℕ → Type 0) (W V : List ℕ → ℤ → Type 0) → Agree ok W V → (p : List ℕ) (w : ℤ) → ok p → IsWorthBy W p w ↔ IsWorthBy V p w
by_same ok W V a p w g = (by_map ok W V a p w g, by_map ok V W (flipped ok W V a) p w g)

below_same : (m n : ℕ) (p : List ℕ) (w : ℤ) → sum p < m → sum p < n → IsWorthBelow m p w ↔ IsWorthBelow n p w
below_same zero n p w a b = absurd (omega arith)
below_same (suc m) zero p w a b = absurd (omega arith)
below_same (suc m) (suc n) p w a b =
    let agree : Agree (λ q. Unit {0}) (λ q v. (sum q < sum p) × IsWorthBelow m q v) (λ q v. (sum q < sum p) × IsWorthBelow n q v)
    = record {
      next = λ r x c q ok move. tt;
      there = λ r x c q v ok move taken k. (k.0, (below_same m n q v (omega (arith, k.0)) (omega (arith, k.0))).0 k.1);
      back = λ r x c q v ok move taken k. (k.0, (below_same m n q v (omega (arith, k.0)) (omega (arith, k.0))).1 k.1);
    } in
    let same = by_same (λ q. Unit {0}) _ _ agree p w tt in
    (λ h. (omega arith, same.0 h.1), λ h. (omega arith, same.1 h.1))

pub below_is : (n : ℕ) (p : List ℕ) (w : ℤ) → sum p < n → IsWorthBelow n p w ↔ IsWorth p w
below_is n p w low = below_same n (suc (sum p)) p w low (omega arith)

-- ---- the worth is the value

-- the size of a number
abbrev size : ℤ → ℕ
size (pos n) = n
size (negsuc n) = suc n

good_size : (v : ℤ) → pos 0 <ℤ v → (v ≡ pos (size v)) × (1 ≤ size v)
good_size (pos n) h = (refl, omega (arith, ints))
good_size (negsuc n) h = absurd (omega (arith, ints))

bad_size : (v : ℤ) → v <ℤ pos 0 → (v ≡ neg_ℤ (pos (size v))) × (1 ≤ size v)
bad_size (pos n) h = absurd (omega (arith, ints))
bad_size (negsuc n) h = (refl, omega arith)

-- a covered board is worth its value, where boards with fewer stones are
by_value : (t : Table) (levels limit top : ℕ) (worth : List ℕ → ℤ → Type 0) → IsCertificate t levels limit → IsValue t levels top worth
    → (p : List ℕ) → IsCovered levels p → sum p ≤ top → IsWorthBy worth p (t.value p)
by_value t levels limit top worth cert values p h low =
    let is_allowed : (k : ℕ) (side : Bool) (n : ℕ) → Forced worth side n k p → allows side n (t.value p)
    = λ k side n. sound t levels limit top worth cert values k side n p h low in
    let reach : (side : Bool) (n : ℕ) → favours side (t.value p) → allows side n (t.value p) → Forced worth side n (t.dist p) p
    = λ side n good allowed. reaches t levels limit top worth cert values (t.dist p) side n p h low good allowed (omega arith) in
    elim (value_cases (t.value p)) [
      | inl good ↦
          let is = good_size (t.value p) good in
          inl (
            size (t.value p),
            (
              is.1,
              (t.dist p, reach true _ good (omega (arith, ints, is.0))),
              λ n k above forced. let allowed = is_allowed k true n forced in omega (arith, ints, is.0),
            ),
            is.0,
          )
      | inr (inl bad) ↦
          let is = bad_size (t.value p) bad in
          inr (inl (
            size (t.value p),
            (λ n k some forced. let allowed = is_allowed k true n forced in omega (arith, ints)),
            (
              is.1,
              (t.dist p, reach false _ bad (omega (arith, ints, is.0))),
              λ n k above forced. let allowed = is_allowed k false n forced in omega (arith, ints, is.0),
            ),
            is.0,
          ))
      | inr (inr even) ↦
          inr (inr (
            (λ n k some forced. let allowed = is_allowed k true n forced in omega (arith, ints)),
            (λ n k some forced. let allowed = is_allowed k false n forced in omega (arith, ints)),
            even,
          ))
    ]

-- what boards with fewer stones than p are worth, as IsWorth p names it
abbrev WorthUnder : List ℕ → List ℕ → ℤ → Type 0
WorthUnder p q w = (sum q < sum p) × IsWorthBelow (sum p) q w

values_under : (t : Table) (levels top : ℕ) → IsValue t levels top IsWorth → (p : List ℕ) → sum p ≤ top → IsValue t levels (sum p) (WorthUnder p)
values_under t levels top below p low =
    record {
      has = λ q h less. (less, (below_is (sum p) q (t.value q) less).1 (below.has q h (omega arith)));
      only = λ q w h less is. below.only q w h (omega arith) ((below_is (sum p) q w less).0 is.1);
    }

values_below : (t : Table) (levels limit : ℕ) → IsCertificate t levels limit → (top : ℕ) → IsValue t levels top IsWorth
values_below t levels limit cert zero = record { has = λ q h none. absurd (omega arith); only = λ q w h none is. absurd (omega arith) }
values_below t levels limit cert (suc top) =
    let below = values_below t levels limit cert top in
    let is_value : (q : List ℕ) → IsCovered levels q → sum q < suc top → IsWorthBy (WorthUnder q) q (t.value q)
    = λ q h low. by_value t levels limit (sum q) (WorthUnder q) cert (values_under t levels top below q (omega arith)) q h (omega arith) in
    record {
      has = λ q h low. (omega arith, is_value q h low);
      only = λ q w h low is. by_unique (WorthUnder q) q w (t.value q) is.1 (is_value q h low);
    }

pub values : (t : Table) (levels limit : ℕ) → IsCertificate t levels limit → IsValue t levels levels IsWorth
values t levels limit cert = values_below t levels limit cert levels

pub value_is_worth : (t : Table) (levels limit : ℕ) → IsCertificate t levels limit → (p : List ℕ) → IsBoard p → sum p < levels → IsRightWorth t p
value_is_worth t levels limit cert p board stones =
    let h : IsCovered levels p = record { board = board; stones = stones } in
    let known = values t levels limit cert in
    let reach = λ (side : Bool) (n : ℕ) (good : favours side (t.value p)) (allowed : allows side n (t.value p)).
    reaches t levels limit levels IsWorth cert known (t.dist p) side n p h (omega arith) good allowed (omega arith) in
    record {
      worth = known.has p h stones;
      gets = λ n some is. reach true n (omega (arith, ints)) (omega (arith, ints));
      holds = λ n some is. reach false n (omega (arith, ints)) (omega (arith, ints));
      gets_no_more = λ n k some forced. sound t levels limit levels IsWorth cert known k true n p h (omega arith) forced;
      holds_no_more = λ n k some forced. sound t levels limit levels IsWorth cert known k false n p h (omega arith) forced;
    }

-- ---- the worth of a board by the worth of the boards that captures lead to

pub worth_by : (p : List ℕ) (w : ℤ) → IsBoard p → IsWorth p w ↔ IsWorthBy IsWorth p w
worth_by p w board =
    let agree : Agree (λ q. IsBoard q × (sum q ≤ sum p)) (WorthUnder p) IsWorth
    = record {
      next = λ r x c q ok move. let kept = stones_kept r x c q ok.0 move in (IsBoard-next r x c q ok.0 move, omega (arith, ok.1));
      there = λ r x c q v ok move taken h. (below_is (sum p) q v h.0).0 h.1;
      back = λ r x c q v ok move taken h.
          let kept = stones_kept r x c q ok.0 move in
          let less : sum q < sum p = omega (arith, ok.1) in
          (less, (below_is (sum p) q v less).1 h);
    } in
    let same = by_same (λ q. IsBoard q × (sum q ≤ sum p)) (WorthUnder p) IsWorth agree p w (board, omega arith) in
    (λ h. same.0 h.1, λ h. (omega arith, same.1 h))

-- ---- two certificates have the same values

pub values_agree : (t u : Table) (levels limit floors bound : ℕ) → IsCertificate t levels limit → IsCertificate u floors bound
    → (p : List ℕ) → IsBoard p → sum p < levels → sum p < floors → t.value p ≡ u.value p
values_agree t u levels limit floors bound a b p board low lower =
    worth_unique p (t.value p) (u.value p)
    ((values t levels limit a).has p (record { board = board; stones = low }) low)
    ((values u floors bound b).has p (record { board = board; stones = lower }) lower)
