-- Boards that are held.
use Rattle.std.proofs.Common.{◌≡◌, ℕ, ◌+◌, ◌-◌, ◌<◌, ◌≤◌, true, List, [], ◌∷◌, ◌++◌, length, filter, get_or, ℤ, int_le, Option, Some, None, IfSome, subst, sym, ap, ◌∙◌, arith}
use Rattle.std.proofs.lemmas.List.{length-append}
use Rattle.std.proofs.lemmas.List.Elements.{filter-append}
use Rattle.awari_queries.specs.Holding.{Holds, first, number_of, placed, sorted, to_number}
use Rattle.awari_queries.specs.declared.holding.Held.{Held}
use Rattle.awari_queries.specs.declared.holding.Holding.{Holding}
use Rattle.awari_queries.proofs.HoldingLaws.{first-first, first-push, in_order-first, in_order-sorted, sorted-push}
use Rattle.awari_queries.proofs.SortLaws.{all_to_last, count-first, count-fold, first-behind, sorted-again}

-- so many have no greater number than the bound, if there is one
abbrev pub IsBound : ℕ → Option ℤ → List Held → Type 0
IsBound most bound seen = IfSome bound (λ n. (0 < most) × (most ≤ to_number n seen))

number-sorted : (n : ℤ) (seen : List Held) → to_number n (sorted number_of seen) ≡ to_number n seen
number-sorted n seen = omega (arith, count-fold (λ held. int_le (number_of held) n) number_of [] seen)

number-more : (n : ℤ) (seen : List Held) (one : Held) → to_number n seen ≤ to_number n (seen ++ one ∷ [])
number-more n seen one =
    let p = λ (held : Held). int_le (number_of held) n in
    let all : length (filter p (seen ++ one ∷ [])) ≡ length (filter p seen) + length (filter p (one ∷ [])) = ap length (filter-append p seen (one ∷ [])) ∙ length-append (filter p seen) (filter p (one ∷ [])) in
    omega (arith, all)

bound-more : (most : ℕ) (bound : Option ℤ) (seen : List Held) (one : Held) → IsBound most bound seen → IsBound most bound (seen ++ one ∷ [])
bound-more most None seen one is = is
bound-more most (Some n) seen one is = (is.0, omega (arith, is.1, number-more n seen one))

-- one more that is not below the bound
pub holds-behind : (seen : List Held) (one : Held) (holding : Holding) (n : ℤ) → holding.bound ≡ Some n → int_le n one.number ≡ true → Holds seen holding → Holds (seen ++ one ∷ []) holding
holds-behind seen one holding n bound behind holds =
    let is : IsBound holding.most (Some n) seen = subst (λ b. IsBound holding.most b seen) bound holds.bound in
    record {
      same = holds.same
          ∙ sym (ap (first holding.most) (sorted-push number_of seen one)
          ∙ first-behind number_of n one holding.most (sorted number_of seen) (in_order-sorted number_of seen) is.0 (omega (arith, is.1, number-sorted n seen)) behind);
      bound = bound-more holding.most holding.bound seen one holds.bound;
    }

-- one more behind those that are held
pub holds-more : (seen : List Held) (one : Held) (old new : Holding) → new.most ≡ old.most → new.bound ≡ old.bound → new.boards.items ≡ old.boards.items ++ one ∷ [] → Holds seen old → Holds (seen ++ one ∷ []) new
holds-more seen one old new most bound boards holds = record {
  same = subst (λ m. first m (sorted number_of new.boards.items) ≡ first m (sorted number_of (seen ++ one ∷ []))) (sym most)
      (ap (λ bs. first old.most (sorted number_of bs)) boards ∙ first-push old.most number_of old.boards.items one ∙ ap (λ l. first old.most (placed number_of one l)) holds.same
      ∙ sym (first-push old.most number_of seen one));
  bound = subst (λ b. IsBound new.most b (seen ++ one ∷ [])) (sym bound) (subst (λ m. IsBound m old.bound (seen ++ one ∷ [])) (sym most) (bound-more old.most old.bound seen one holds.bound));
}

-- the number of the last of the first ones
abbrev pub IsLast : ℕ → List Held → Option ℤ → Type 0
IsLast most boards bound = IfSome bound (λ n. (0 < most) × (most ≤ length boards) × ((d : Held) → n ≡ (get_or boards (length boards - 1) d).number))

bound-last : (most : ℕ) (bound : Option ℤ) (boards seen : List Held) → boards ≡ first most (sorted number_of seen) → IsLast most boards bound → IsBound most bound seen
bound-last most None boards seen is last = tt
bound-last most (Some n) boards seen is last =
    let zero : Held = record { number = n; rank = 0 } in
    let p = λ (held : Held). int_le (number_of held) n in
    let all : to_number n (first most (sorted number_of seen)) ≡ length (first most (sorted number_of seen)) =
    all_to_last number_of n (first most (sorted number_of seen)) (length (first most (sorted number_of seen)) - 1) zero (in_order-first number_of most (sorted number_of seen) (in_order-sorted number_of seen))
    (omega (arith, last.0, last.1, ap length is)) (subst (λ bs. n ≡ (get_or bs (length bs - 1) zero).number) is (last.2 zero)) in
    (last.0, omega (arith, last.1, ap length is, all, count-first p most (sorted number_of seen), number-sorted n seen))

-- the first ones alone
pub first-again : (most : ℕ) (xs : List Held) → first most (sorted number_of (first most (sorted number_of xs))) ≡ first most (sorted number_of xs)
first-again most xs = ap (first most) (sorted-again number_of (first most (sorted number_of xs)) (in_order-first number_of most (sorted number_of xs) (in_order-sorted number_of xs))) ∙ first-first most (sorted number_of xs)

pub holds-first : (seen : List Held) (old new : Holding) → new.most ≡ old.most → new.boards.items ≡ first old.most (sorted number_of old.boards.items) → IsLast new.most new.boards.items new.bound → Holds seen old → Holds seen new
holds-first seen old new most boards last holds =
    let boards' : new.boards.items ≡ first new.most (sorted number_of seen) = boards ∙ holds.same ∙ ap (λ m. first m (sorted number_of seen)) (sym most) in
    record {
      same = ap (λ bs. first new.most (sorted number_of bs)) boards' ∙ first-again new.most seen;
      bound = bound-last new.most new.bound new.boards.items seen boards' last;
    }
