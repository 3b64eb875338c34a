-- Spans that are spelled.
use Rattle.std.proofs.Common.{◌≡◌, ◌≢◌, ℕ, zero, suc, ◌<◌, ◌==◌, Bool, true, false, List, [], ◌∷◌, ◌++◌, length, get_or, drop, cond, ℤ, Some, None, Result, Ok, Err, FitsSigned, subst, sym, ap, ◌∙◌, refl, arith}
use mir.Syntax.{w64}
use mir.Val.{of_z, to_z}
use Rattle.std.proofs.lemmas.Bool.Decides.{nat_tests}
use Rattle.std.proofs.lemmas.Grind.{common_steps}
use Rattle.std.proofs.lemmas.Int.{to_z-of_z}
use Rattle.std.proofs.lemmas.Str.Parse.{digit_at}
use Rattle.std.specs.Result.{result_ok}
use Rattle.std.specs.Str.Parse.{AllDigits, IsNumeral, ParsesSigned, signed_digits_value, without_leading_sign}
use Rattle.awari_queries.specs.Spans.{IsEnd, SpellsNumber}

-- a number that was read
pub spells-parsed : {E : Type 0} (text : List ℕ) (read : Result ℤ E) (number : ℤ) → ParsesSigned w64 10 text read → result_ok read ≡ Some number → SpellsNumber text (to_z w64 (of_z w64 number))
spells-parsed text (Ok x) number parsed is =
    let same : x ≡ number = cc in
    let value : number ≡ signed_digits_value 10 text = sym same ∙ parsed.1 in
    let fits : FitsSigned w64 number = subst (FitsSigned w64) (sym value) parsed.0.1 in
    record {
      numeral = parsed.0.0;
      value = to_z-of_z w64 number fits ∙ value;
      fits = subst (FitsSigned w64) (sym (to_z-of_z w64 number fits)) fits;
    }
spells-parsed text (Err e) number parsed is = cc

-- one that was not
pub spells-none : {E : Type 0} (text spelled : List ℕ) (read : Result ℤ E) (number : ℤ) → ParsesSigned w64 10 text read → result_ok read ≡ None → text ≡ spelled → SpellsNumber spelled number → ⊥
spells-none text spelled (Ok x) number parsed is same spells = cc
spells-none text spelled (Err e) number parsed is same spells =
    parsed (subst (λ t. IsNumeral 10 (without_leading_sign t)) (sym same) spells.numeral, subst (FitsSigned w64) (spells.value ∙ ap (signed_digits_value 10) (sym same)) spells.fits)

digit-no_dot : (ds : List ℕ) → AllDigits 10 ds → (i : ℕ) → i < length ds → get_or ds i 0 ≢ 46
digit-no_dot ds digits i inside dot =
    let range = digit_at ds i digits inside in
    omega (arith, range.0, range.1, dot)

-- no dot is in a number
pub no_dot : (bs : List ℕ) → IsNumeral 10 (without_leading_sign bs) → (i : ℕ) → i < length bs → get_or bs i 0 ≢ 46
no_dot [] numeral i inside = absurd (omega (arith, inside))
no_dot (c ∷ cs) numeral i inside = go (c == 45) (c == 43) refl refl numeral.1 i inside
  where
    behind : AllDigits 10 cs → c ≢ 46 → (i : ℕ) → i < length (c ∷ cs) → get_or (c ∷ cs) i 0 ≢ 46
    behind digits first zero inside = first
    behind digits first (suc i) inside = digit-no_dot cs digits i (omega (arith, inside))

    go : (minus plus : Bool) → (c == 45) ≡ minus → (c == 43) ≡ plus → AllDigits 10 (cond minus cs (drop (cond plus 1 0) (c ∷ cs))) → (i : ℕ) → i < length (c ∷ cs) → get_or (c ∷ cs) i 0 ≢ 46
    go true plus is_minus is_plus digits = behind digits (λ dot. grind (arith, nat_tests))
    go false true is_minus is_plus digits = behind digits (λ dot. grind (arith, nat_tests))
    go false false is_minus is_plus digits = digit-no_dot (c ∷ cs) digits

-- no dot is in what spells an end
pub end-no_dot : (otherwise : ℤ) (text : List ℕ) (n : ℤ) → IsEnd otherwise text n → (i : ℕ) → i < length text → get_or text i 0 ≢ 46
end-no_dot otherwise [] n is i inside = absurd (omega (arith, inside))
end-no_dot otherwise (c ∷ cs) n is i inside = no_dot (c ∷ cs) is.numeral i inside

-- a text spells one end
pub one_end : (otherwise : ℤ) (text : List ℕ) (n m : ℤ) → IsEnd otherwise text n → IsEnd otherwise text m → n ≡ m
one_end otherwise [] n m is also = is ∙ sym also
one_end otherwise (c ∷ cs) n m is also = is.value ∙ sym also.value

-- a text with a dot in it is not free of dots
pub dot_in : (text low rest : List ℕ) → text ≡ low ++ 46 ∷ rest → ((i : ℕ) → i < length text → get_or text i 0 ≢ 46) → ⊥
dot_in text low rest parts free =
    let inside : length low < length text = grind (arith, common_steps) in
    let dot : get_or text (length low) 0 ≡ 46 = grind (arith, common_steps) in
    free (length low) inside dot
