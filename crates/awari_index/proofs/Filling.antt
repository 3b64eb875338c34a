-- The fillings of pits 6 to 11, one after the other.
use Rattle.std.proofs.Common.{◌≡◌, ℕ, ◌+◌, ◌-◌, ◌<◌, ◌≤◌, inl, inr, List, [], ◌∷◌, ◌++◌, length, get_or, sum, refl, sym, ◌∙◌, ap, subst, subst₂, arith, length-append}
use Rattle.std.proofs.lemmas.Bool.{cases_lt}
use Rattle.std.proofs.lemmas.List.{get_or_append_left, get_or-append_right}
use Rattle.awari_rank.specs.Fillings.{last_of, none}
use Rattle.awari_rank.specs.Rank.{rank_of}
use Rattle.awari_rank.proofs.Ranking.{rank_fixes}
use Rattle.awari_index.specs.Runs.{AreAllTails, AreTails, IsBoardAt, IsTail, PushesTails, board_in}
use Rattle.awari_index.proofs.Halving.{tail_at}

-- the first i fillings of k stones were put behind these boards
pub record IsFilling (k : ℕ) (old now : List (List ℕ)) (i : ℕ) : Type 0 where
  pub long : length now ≡ length old + i
  pub kept : (m : ℕ) → m < length old → board_in now m ≡ board_in old m
  pub each : (j : ℕ) → j < i → IsTail k j (board_in now (length old + j))

pub IsFilling-none : (k : ℕ) (old : List (List ℕ)) → IsFilling k old old 0
IsFilling-none k old = record { long = omega arith; kept = λ m h. refl; each = λ j h. absurd (omega arith) }

pub IsFilling-more : (k : ℕ) (old now : List (List ℕ)) (i : ℕ) (p : List ℕ) → IsFilling k old now i → IsTail k i p → IsFilling k old (now ++ p ∷ []) (i + 1)
IsFilling-more k old now i p is tail = record {
  long = (let long = is.long in let more = length-append now (p ∷ []) in omega (arith, long, more));
  kept = λ m h. get_or_append_left now (p ∷ []) [] m (let long = is.long in omega (arith, h, long)) ∙ is.kept m h;
  each = λ j h. elim (cases_lt j i) [
    | inl less ↦ subst (IsTail k j) (sym (get_or_append_left now (p ∷ []) [] (length old + j) (let long = is.long in omega (arith, less, long)))) (is.each j less)
    | inr ge ↦
        let same : j ≡ i = omega (arith, h, ge) in
        subst (λ n. IsTail k n (board_in (now ++ p ∷ []) (length old + n))) (sym same) (subst (IsTail k i) (sym here) tail)
  ];
}
  where
    here : board_in (now ++ p ∷ []) (length old + i) ≡ p
    here =
        let place : length old + i - length now ≡ 0 = (let long = is.long in omega (arith, long)) in
        get_or-append_right now (p ∷ []) (length now) (length old + i) [] refl (let long = is.long in omega (arith, long)) ∙ ap (λ n. get_or (p ∷ []) n []) place

pub IsFilling-end : (k : ℕ) (old now : List (List ℕ)) (last : ℕ) (p : List ℕ) → last ≡ rank_of (none ++ last_of k) → IsFilling k old now last → IsBoardAt k last p → PushesTails k old (now ++ p ∷ [])
IsFilling-end k old now last p most is at =
    let all = IsFilling-more k old now last p is (tail_at k last p at (omega (arith, most))) in
    let long = all.long in
    let place : length (now ++ p ∷ []) - 1 ≡ length old + last = omega (arith, long) in
    let one = is.long in
    let end : length old + last - length now ≡ 0 = omega (arith, one) in
    let stones : sum (none ++ last_of k) ≡ k = omega arith in
    record {
      kept = all.kept;
      tails = record {
        some = omega (arith, long);
        within = omega arith;
        each = λ j h. all.each j (omega (arith, h, long));
        last = ap (board_in (now ++ p ∷ [])) place ∙ get_or-append_right now (p ∷ []) (length now) (length old + last) [] refl (omega (arith, one)) ∙ ap (λ n. get_or (p ∷ []) n []) end
            ∙ rank_fixes p (none ++ last_of k) at.board.pits refl (at.stones ∙ sym stones) (at.rank ∙ most);
      };
    }

-- the fillings of k stones, which were next, are there as well
pub AreAllTails-none : AreAllTails 0 (0 ∷ []) []
AreAllTails-none = record { long = refl; each = λ k h. absurd (omega arith) }

pub AreAllTails-more : (n : ℕ) (starts : List ℕ) (old new : List (List ℕ)) → AreAllTails n starts old → get_or starts n 0 ≡ length old → length old ≤ length new → PushesTails n old new → AreAllTails (n + 1) (starts ++ length new ∷ []) new
AreAllTails-more n starts old new all here grows pushes = record {
  long = (let long = all.long in let more = length-append starts (length new ∷ []) in omega (arith, long, more));
  each = λ k h. elim (cases_lt k n) [
    | inl less ↦
        let was = all.each k less in
        let long = all.long in
        let within = was.within in
        let first : get_or starts k 0 ≡ get_or (starts ++ length new ∷ []) k 0 = sym (get_or_append_left starts (length new ∷ []) 0 k (omega (arith, less, long))) in
        let second : get_or starts (k + 1) 0 ≡ get_or (starts ++ length new ∷ []) (k + 1) 0 = sym (get_or_append_left starts (length new ∷ []) 0 (k + 1) (omega (arith, less, long))) in
        subst₂ (λ a b. AreTails k a b new) first second (record {
          some = was.some;
          within = omega (arith, within, grows);
          each = λ j i. subst (IsTail k j) (sym (pushes.kept (get_or starts k 0 + j) (omega (arith, i, within)))) (was.each j i);
          last = pushes.kept (get_or starts (k + 1) 0 - 1) (let some = was.some in omega (arith, some, within)) ∙ was.last;
        })
    | inr ge ↦
        let same : k ≡ n = omega (arith, h, ge) in
        let long = all.long in
        let first : length old ≡ get_or (starts ++ length new ∷ []) n 0 = sym here ∙ sym (get_or_append_left starts (length new ∷ []) 0 n (omega (arith, long))) in
        let place : n + 1 - length starts ≡ 0 = omega (arith, long) in
        let second : length new ≡ get_or (starts ++ length new ∷ []) (n + 1) 0 = sym (get_or-append_right starts (length new ∷ []) (length starts) (n + 1) 0 refl (omega (arith, long)) ∙ ap (λ m. get_or (length new ∷ []) m 0) place) in
        subst (λ m. AreTails m (get_or (starts ++ length new ∷ []) m 0) (get_or (starts ++ length new ∷ []) (m + 1) 0) new) (sym same) (subst₂ (λ a b. AreTails n a b new) first second pushes.tails)
  ];
}

-- where the next ones begin
pub next_start : (n : ℕ) (starts : List ℕ) (old new : List (List ℕ)) → AreAllTails n starts old → get_or (starts ++ length new ∷ []) (n + 1) 0 ≡ length new
next_start n starts old new all =
    let long = all.long in
    let place : n + 1 - length starts ≡ 0 = omega (arith, long) in
    get_or-append_right starts (length new ∷ []) (length starts) (n + 1) 0 refl (omega (arith, long)) ∙ ap (λ m. get_or (length new ∷ []) m 0) place
