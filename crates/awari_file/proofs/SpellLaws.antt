-- What is read is spelled so, and what is spelled so is read.
use Rattle.std.proofs.Common.{◌≡◌, ℕ, ◌+◌, ◌^◌, ◌<◌, ◌≤◌, Bool, true, false, cond, ltb, List, [], ◌∷◌, ◌++◌, length, get_or, take, drop, Result, Ok, Err, refl, sym, ap, subst, ◌∙◌, append_assoc, arith, inl, inr}
use Rattle.std.specs.Int.{Width, w8, w16, w32, w64, byte_len, from_be_bytes, to_be_bytes}
use Rattle.std.proofs.lemmas.Bool.{cases_lt, ltb-false, le-ltb}
use Rattle.std.proofs.lemmas.List.{take_at, drop_at, take-append-drop, length-append, length-take, get_or-drop, get_or-take, get_or_past}
use Rattle.std.proofs.lemmas.Nat.{be_bytes_2, be_bytes_4, be_bytes_8, from_be_bytes-to_be_bytes_2, from_be_bytes-to_be_bytes_4, from_be_bytes-to_be_bytes_8}
use Rattle.awari_file.specs.declared.faults.FileFault.{FileFault}
use Rattle.awari_file.specs.Reading.{◌>>=◌, field, number_if, any_number, as_they_are}
use Rattle.awari_file.proofs.FieldLaws.{bind_ok, guard_ok, ok_is}

abbrev pub IsBytes : List ℕ → Type 0
IsBytes bytes = (i : ℕ) → get_or bytes i 0 < 256

pub IsBytes-drop : (n : ℕ) (bytes : List ℕ) → IsBytes bytes → IsBytes (drop n bytes)
IsBytes-drop n bytes h i = rw get_or-drop (h (n + i))

pub IsBytes-take : (n : ℕ) (bytes : List ℕ) → IsBytes bytes → IsBytes (take n bytes)
IsBytes-take n bytes h i =
    elim (cases_lt i n) [
      | inl lt ↦ rw (get_or-take n bytes i 0 lt) (h i)
      | inr le ↦ rw (get_or_past (take n bytes) i 0 (omega (arith, length-take n bytes))) (omega arith)
    ]

-- what a reader took from the front
pub record Takes (bytes text rest : List ℕ) : Type 0 where
  pub parts : bytes ≡ text ++ rest
  pub rest_fits : IsBytes rest

pub Takes-then : (a x b y c : List ℕ) → Takes a x b → Takes b y c → Takes a (x ++ y) c
Takes-then a x b y c p q = record { parts = p.parts ∙ ap (λ (t : List ℕ). x ++ t) q.parts ∙ sym (append_assoc x y c); rest_fits = q.rest_fits }

-- the text of each value that made makes of n bytes
pub record Spells (Y : Type 0) (n : ℕ) (made : List ℕ → Result Y FileFault) (text : Y → List ℕ) (P : Y → Type 0) : Type 0 where
  pub len : (y : Y) → P y → length (text y) ≡ n
  pub again : (y : Y) → P y → made (text y) ≡ Ok y
  pub back : (bytes : List ℕ) (y : Y) → length bytes ≡ n → IsBytes bytes → made bytes ≡ Ok y → (text y ≡ bytes) × P y

pub field_again : (Y : Type 0) (n : ℕ) (made : List ℕ → Result Y FileFault) (text : Y → List ℕ) (P : Y → Type 0) → Spells Y n made text P
    → (s : FileFault) (y : Y) (rest : List ℕ) → P y → field n made s (text y ++ rest) ≡ Ok (y, rest)
field_again Y n made text P spells s y rest fits =
    let len = spells.len y fits in
    let long : ltb (length (text y ++ rest)) n ≡ false = le-ltb _ _ (omega (arith, length-append (text y) rest)) in
    rw (long, take_at (text y) rest n len, drop_at (text y) rest n len, spells.again y fits) refl

pub field_takes : (Y : Type 0) (n : ℕ) (made : List ℕ → Result Y FileFault) (text : Y → List ℕ) (P : Y → Type 0) → Spells Y n made text P
    → (s : FileFault) (bytes : List ℕ) (x : Y × List ℕ) → IsBytes bytes → field n made s bytes ≡ Ok x → Takes bytes (text x.0) x.1 × P x.0
field_takes Y n made text P spells s bytes x fits e =
    let g = guard_ok (ltb (length bytes) n) s (made (take n bytes) >>= λ y. Ok (y, drop n bytes)) x e in
    let b = bind_ok (made (take n bytes)) (λ y. Ok (y, drop n bytes)) x g.1 in
    let long : n ≤ length bytes = ltb-false _ _ g.0 in
    let one = spells.back (take n bytes) b.0 (omega (arith, length-take n bytes)) (IsBytes-take n bytes fits) b.1 in
    let made_is : Takes bytes (text b.0) (drop n bytes) = record { parts = sym (take-append-drop n bytes) ∙ ap (λ (t : List ℕ). t ++ drop n bytes) (sym one.0); rest_fits = IsBytes-drop n bytes fits } in
    subst (λ (p : Y × List ℕ). Takes bytes (text p.0) p.1 × P p.0) (ok_is (b.0, drop n bytes) x b.2) (made_is, one.1)

-- ---- numbers

pub record IsWide (w : Width) (limit : ℕ) : Type 0 where
  pub len : (n : ℕ) → length (to_be_bytes w n) ≡ byte_len w
  pub back : (bytes : List ℕ) → length bytes ≡ byte_len w → IsBytes bytes → to_be_bytes w (from_be_bytes w bytes) ≡ bytes
  pub again : (n : ℕ) → n < limit → from_be_bytes w (to_be_bytes w n) ≡ n
  pub below : (bytes : List ℕ) → IsBytes bytes → from_be_bytes w bytes < limit

pub wide16 : IsWide w16 (2 ^ 16)
wide16 = record {
  len = λ n. refl;
  back = λ bytes len fits. be_bytes_2 bytes _ len fits refl;
  again = λ n lt. from_be_bytes-to_be_bytes_2 n lt;
  below = λ bytes fits. omega (arith, fits 0, fits 1);
}

pub wide32 : IsWide w32 (2 ^ 32)
wide32 = record {
  len = λ n. refl;
  back = λ bytes len fits. be_bytes_4 bytes _ len fits refl;
  again = λ n lt. from_be_bytes-to_be_bytes_4 n lt;
  below = λ bytes fits. omega (arith, fits 0, fits 1, fits 2, fits 3);
}

pub wide64 : IsWide w64 (2 ^ 64)
wide64 = record {
  len = λ n. refl;
  back = λ bytes len fits. be_bytes_8 bytes _ len fits refl;
  again = λ n lt. from_be_bytes-to_be_bytes_8 n lt;
  below = λ bytes fits. omega (arith, fits 0, fits 1, fits 2, fits 3, fits 4, fits 5, fits 6, fits 7);
}

-- a test that let its number pass
pub test_ok : {A : Type 0} (b : Bool) (x y : A) (d : FileFault) → cond b (Ok x) (Err d) ≡ Ok y → (b ≡ true) × (x ≡ y)
test_ok true x y d e = (refl, cc)
test_ok false x y d e = absurd cc

pub number-spells : (w : Width) (limit : ℕ) → IsWide w limit → (test : ℕ → Bool) (d : FileFault) → Spells ℕ (byte_len w) (number_if w test d) (to_be_bytes w) (λ n. (n < limit) × (test n ≡ true))
number-spells w limit wide test d = record {
  len = λ n fits. wide.len n;
  again = λ n fits. rw (wide.again n fits.0, fits.1) refl;
  back = λ bytes n len fits e.
      let t = test_ok (test (from_be_bytes w bytes)) (from_be_bytes w bytes) n d e in
      subst (λ (m : ℕ). (to_be_bytes w m ≡ bytes) × ((m < limit) × (test m ≡ true))) t.1 (wide.back bytes len fits, (wide.below bytes fits, t.0));
}

pub any-spells : (w : Width) (limit : ℕ) → IsWide w limit → Spells ℕ (byte_len w) (any_number w) (to_be_bytes w) (λ n. n < limit)
any-spells w limit wide = record {
  len = λ n fits. wide.len n;
  again = λ n fits. rw (wide.again n fits) refl;
  back = λ bytes n len fits e. subst (λ (m : ℕ). (to_be_bytes w m ≡ bytes) × (m < limit)) (ok_is (from_be_bytes w bytes) n e) (wide.back bytes len fits, wide.below bytes fits);
}

one_byte : (bytes : List ℕ) → length bytes ≡ 1 → get_or bytes 0 0 ∷ [] ≡ bytes
one_byte [] h = absurd (omega (arith, h))
one_byte (x ∷ []) h = refl
one_byte (x ∷ y ∷ bytes) h = absurd (omega (arith, h))

pub byte-spells : (test : ℕ → Bool) (d : FileFault) → Spells ℕ 1 (number_if w8 test d) (λ n. n ∷ []) (λ n. (n < 256) × (test n ≡ true))
byte-spells test d = record {
  len = λ n fits. refl;
  again = λ n fits. rw fits.1 refl;
  back = λ bytes n len fits e.
      let t = test_ok (test (get_or bytes 0 0)) (get_or bytes 0 0) n d e in
      subst (λ (m : ℕ). (m ∷ [] ≡ bytes) × ((m < 256) × (test m ≡ true))) t.1 (one_byte bytes len, (fits 0, t.0));
}

pub bytes-spell : (n : ℕ) → Spells (List ℕ) n as_they_are (λ bytes. bytes) (λ bytes. (length bytes ≡ n) × IsBytes bytes)
bytes-spell n = record {
  len = λ bytes fits. fits.0;
  again = λ bytes fits. refl;
  back = λ bytes taken len fits e. subst (λ (t : List ℕ). (t ≡ bytes) × ((length t ≡ n) × IsBytes t)) (ok_is bytes taken e) (refl, (len, fits));
}
