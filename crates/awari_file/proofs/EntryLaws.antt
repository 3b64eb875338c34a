-- Entries are spelled and read again.
use Rattle.std.proofs.Common.{◌≡◌, ℕ, zero, suc, ◌^◌, ◌<◌, Bool, true, false, cond, eqb, ltb, ◌||◌, List, [], ◌∷◌, ◌++◌, length, get_or, drop, Option, Some, None, Result, Ok, refl, sym, ap, subst, ◌∙◌, append_assoc, arith, length-drop, Fits}
use Rattle.std.specs.Prelude.{IfSome, ℤ, FitsSigned}
use Rattle.std.specs.List.{flat_map, AllByRecursion}
use Rattle.std.specs.Int.{w8, w32, from_be_bytes, to_be_bytes, cast_signed, cast_unsigned}
use Rattle.std.proofs.lemmas.Bool.{ltb-true, lt-ltb, eqb-true, ne_eqb}
use Rattle.std.proofs.lemmas.Int.{to_z-of_z, of_z-to_z, ints}
use Rattle.std.proofs.Math.Facts.{sfits_to_z}
use Rattle.std.proofs.lemmas.List.Concat.{flat_map-cons}
use Rattle.awari_table.specs.declared.images.Entry.{Entry}
use Rattle.awari_table.specs.Spelling.{IsEntry}
use Rattle.awari_file.specs.declared.faults.FileFault.{FileFault}
use Rattle.awari_file.specs.declared.faults.FileFault.TheVariants as faults
use Rattle.awari_file.specs.FileText.{plan_byte, entry_text}
use Rattle.awari_file.specs.Reading.{◌>>=◌, field, entry_of, is_plan_byte, plan_of, entries_at}
use Rattle.awari_file.proofs.FieldLaws.{bind_ok, ok_is}
use Rattle.awari_file.proofs.SpellLaws.{IsBytes, IsBytes-drop, Takes, Takes-then, Spells, field_again, field_takes, test_ok, wide32}

abbrev pub entry_with : ℤ → Option ℕ → ℕ → Entry
entry_with v p d = record { value = v; plan = p; dist = d }

abbrev pub done : Entry → Result Entry FileFault
done e = Ok e

made_again : (v w : ℤ) (p q : Option ℕ) (d n : ℕ) → v ≡ w → p ≡ q → d ≡ n → done (entry_with v p d) ≡ done (entry_with w q n)
made_again v w p q d n a b c = ap (λ (z : ℤ). done (entry_with z p d)) a ∙ ap (λ (z : Option ℕ). done (entry_with w z d)) b ∙ ap (λ (z : ℕ). done (entry_with w q z)) c

-- the values that fit a signed byte are those that an entry may have
pub entry_fits : (v : ℤ) (p : Option ℕ) (d : ℕ) → FitsSigned w8 v → IfSome p (λ x. x < 6) → d < 2 ^ 32 → IsEntry (entry_with v p d)
entry_fits v p d fv fp fd = record { low = omega (arith, ints, fv); high = omega (arith, ints, fv); plan = fp; dist = fd }

value_fits : (e : Entry) → IsEntry e → FitsSigned w8 e.value
value_fits e fits = let low = fits.low in let high = fits.high in omega (arith, ints, low, high)

entry_again : (v : ℤ) (p : Option ℕ) (d : ℕ) → FitsSigned w8 v → IfSome p (λ x. x < 6) → d < 2 ^ 32 → entry_of (entry_text (entry_with v p d)) ≡ done (entry_with v p d)
entry_again v None d fv fp fd = made_again _ v None None _ d (to_z-of_z w8 v fv) refl (wide32.again d fd)
entry_again v (Some x) d fv fp fd =
    let low : ltb x 6 ≡ true = lt-ltb x 6 fp in
    let other : eqb x 255 ≡ false = ne_eqb x 255 (λ e. omega (arith, fp, e)) in
    let plan : plan_of x ≡ Some x = rw other refl in
    rw low (made_again _ v (plan_of x) (Some x) _ d (to_z-of_z w8 v fv) plan (wide32.again d fd))

plan_back : (b : ℕ) (l e : Bool) → ltb b 6 ≡ l → eqb b 255 ≡ e → (l || e) ≡ true → (plan_byte (cond e None (Some b)) ≡ b) × IfSome (cond e None (Some b)) (λ x. x < 6)
plan_back b l true h k t = (sym (eqb-true b 255 k), tt)
plan_back b true false h k t = (refl, ltb-true b 6 h)
plan_back b false false h k t = absurd cc

byte_fits : (n : ℕ) → n < 256 → Fits w8 n
byte_fits n h = record { fits = h }

six : (bytes : List ℕ) → length bytes ≡ 6 → get_or bytes 0 0 ∷ get_or bytes 1 0 ∷ drop 2 bytes ≡ bytes
six [] h = absurd (omega (arith, h))
six (x ∷ []) h = absurd (omega (arith, h))
six (x ∷ y ∷ bytes) h = refl

entry_back : (bytes : List ℕ) → length bytes ≡ 6 → IsBytes bytes → is_plan_byte (get_or bytes 1 0) ≡ true
    → (entry_text (entry_with (cast_signed w8 (get_or bytes 0 0)) (plan_of (get_or bytes 1 0)) (from_be_bytes w32 (drop 2 bytes))) ≡ bytes)
    × IsEntry (entry_with (cast_signed w8 (get_or bytes 0 0)) (plan_of (get_or bytes 1 0)) (from_be_bytes w32 (drop 2 bytes)))
entry_back bytes len fits is =
    let p = plan_back (get_or bytes 1 0) (ltb (get_or bytes 1 0) 6) (eqb (get_or bytes 1 0) 255) refl refl is in
    let v : cast_unsigned w8 (cast_signed w8 (get_or bytes 0 0)) ≡ get_or bytes 0 0 = of_z-to_z w8 (get_or bytes 0 0) (fits 0) in
    let d : to_be_bytes w32 (from_be_bytes w32 (drop 2 bytes)) ≡ drop 2 bytes = wide32.back (drop 2 bytes) (omega (arith, length-drop 2 bytes, len)) (IsBytes-drop 2 bytes fits) in (
      ap (λ (x : ℕ). x ∷ plan_byte (plan_of (get_or bytes 1 0)) ∷ to_be_bytes w32 (from_be_bytes w32 (drop 2 bytes))) v ∙ ap (λ (x : ℕ). get_or bytes 0 0 ∷ x ∷ to_be_bytes w32 (from_be_bytes w32 (drop 2 bytes))) p.0
          ∙ ap (λ (x : List ℕ). get_or bytes 0 0 ∷ get_or bytes 1 0 ∷ x) d ∙ six bytes len,
      entry_fits _ _ _ (sfits_to_z (byte_fits (get_or bytes 0 0) (fits 0))) p.1 (wide32.below (drop 2 bytes) (IsBytes-drop 2 bytes fits)),
    )

pub entry-spells : Spells Entry 6 entry_of entry_text IsEntry
entry-spells = record {
  len = λ e fits. refl;
  again = λ e fits. entry_again e.value e.plan e.dist (value_fits e fits) fits.plan fits.dist;
  back = λ bytes e len fits h.
      let made = entry_with (cast_signed w8 (get_or bytes 0 0)) (plan_of (get_or bytes 1 0)) (from_be_bytes w32 (drop 2 bytes)) in
      let t = test_ok (is_plan_byte (get_or bytes 1 0)) made e faults.EntryForm h in
      subst (λ (x : Entry). (entry_text x ≡ bytes) × IsEntry x) t.1 (entry_back bytes len fits t.0);
}

pub entries_again : (es : List Entry) (s : FileFault) (rest : List ℕ) → AllByRecursion IsEntry es → entries_at (length es) s (flat_map entry_text es ++ rest) ≡ Ok (es, rest)
unfolding entries_at
entries_again [] s rest fits = refl
entries_again (e ∷ es) s rest fits =
    let regrouped : flat_map entry_text (e ∷ es) ++ rest ≡ entry_text e ++ (flat_map entry_text es ++ rest) = ap (λ (x : List ℕ). x ++ rest) (flat_map-cons entry_text e es) ∙ append_assoc (entry_text e) (flat_map entry_text es) rest in
    let first = field_again Entry 6 entry_of entry_text IsEntry entry-spells s e (flat_map entry_text es ++ rest) fits.0 in
    ap (entries_at (suc (length es)) s) regrouped
    ∙ ap (λ (r : Result (Entry × List ℕ) FileFault). r >>= λ x. entries_at (length es) s x.1 >>= λ others. Ok (x.0 ∷ others.0, others.1)) first
    ∙ ap (λ (r : Result (List Entry × List ℕ) FileFault). r >>= λ others. Ok (e ∷ others.0, others.1)) (entries_again es s rest fits.1)

pub entries_take : (n : ℕ) (s : FileFault) (bytes : List ℕ) (x : List Entry × List ℕ) → IsBytes bytes → entries_at n s bytes ≡ Ok x → Takes bytes (flat_map entry_text x.0) x.1 × (length x.0 ≡ n) × AllByRecursion IsEntry x.0
unfolding entries_at
entries_take zero s bytes x fits e =
    subst (λ (y : List Entry × List ℕ). Takes bytes (flat_map entry_text y.0) y.1 × (length y.0 ≡ 0) × AllByRecursion IsEntry y.0) (ok_is ([], bytes) x e) (record { parts = refl; rest_fits = fits }, refl, tt)
entries_take (suc n) s bytes x fits e =
    let a = bind_ok (field 6 entry_of s bytes) (λ first. entries_at n s first.1 >>= λ others. Ok (first.0 ∷ others.0, others.1)) x e in
    let b = bind_ok (entries_at n s a.0.1) (λ others. Ok (a.0.0 ∷ others.0, others.1)) x a.2 in
    let first = field_takes Entry 6 entry_of entry_text IsEntry entry-spells s bytes a.0 fits a.1 in
    let second = entries_take n s a.0.1 b.0 first.0.rest_fits b.1 in
    let both = Takes-then bytes (entry_text a.0.0) a.0.1 (flat_map entry_text b.0.0) b.0.1 first.0 second.0 in
    let made : List Entry × List ℕ = (a.0.0 ∷ b.0.0, b.0.1) in
    subst (λ (y : List Entry × List ℕ). Takes bytes (flat_map entry_text y.0) y.1 × (length y.0 ≡ suc n) × AllByRecursion IsEntry y.0) (ok_is made x b.2) (rw flat_map-cons both, ap suc second.1, (first.1, second.2))
