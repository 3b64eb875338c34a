-- A file is spelled and read again.
use Rattle.std.proofs.Common.{◌≡◌, ℕ, zero, suc, ◌+◌, ◌*◌, ◌^◌, ◌<◌, ◌≤◌, ◌⊎◌, ◌||◌, Bool, true, false, cond, eqb, leb, List, [], ◌∷◌, ◌++◌, length, Option, Some, None, Result, Ok, Err, refl, sym, ap, subst, ◌∙◌, append_assoc, arith, inl, inr}
use Rattle.std.specs.Prelude.{IfSome, map}
use Rattle.std.specs.List.{flat_map, range_with_len, AllByRecursion}
use Rattle.std.specs.Int.{w8, w16, w32, w64, to_be_bytes}
use Rattle.std.proofs.lemmas.Bool.{eqb-true, eq-eqb, leb-true, le-leb}
use Rattle.std.proofs.lemmas.List.{append-nil}
use Rattle.std.proofs.lemmas.Slice.Eq.{bytes_eq-Decides}
use Rattle.std.specs.Str.{bytes_eq}
use Rattle.sha2.specs.Sha256.{sha256}
use Rattle.sha2.proofs.Facts256.{length-sha256}
use Rattle.awari_rank.specs.Rank.{size_of}
use Rattle.awari_rank.proofs.Examples.{sizes}
use Rattle.awari_table.specs.declared.TheConstants.{HIGHEST_LEVEL, HIGHEST_FALLING_LEVEL}
use Rattle.awari_table.specs.declared.images.Entry.{Entry}
use Rattle.awari_table.specs.declared.images.Image.{Image}
use Rattle.awari_file.specs.declared.contents.Header.{Header}
use Rattle.awari_file.specs.declared.contents.Loaded.{Loaded}
use Rattle.awari_file.specs.declared.faults.FileFault.{FileFault}
use Rattle.awari_file.specs.declared.faults.FileFault.TheVariants as faults
use Rattle.awari_file.specs.FileText.{magic_number, header_text, entry_text, body_text, file_text, found_of, highest_in, HasFile}
use Rattle.awari_file.specs.Reading.{◌>>=◌, field, number_if, any_number, as_they_are, is_version, digest_if, header_at, entries_at, end_at, file_in}
use Rattle.awari_file.specs.Source.{Answers}
use Rattle.awari_file.proofs.FieldLaws.{bind_ok, ok_is, took}
use Rattle.awari_file.proofs.FileLaws.{header-is, entries-is, below_on, limit_on, count_on, nought_on, level_on, version_on}
use Rattle.awari_file.proofs.SpellLaws.{IsBytes, Takes, Takes-then, Spells, field_again, field_takes, wide16, wide32, wide64, number-spells, any-spells, byte-spells, bytes-spell, test_ok}
use Rattle.awari_file.proofs.EntryLaws.{entries_again, entries_take}
use Rattle.awari_file.proofs.WholeLaws.{after_end, at_the_end, before_is}

-- ---- the header

or_cases : {A B : Type 0} (a b : Bool) → (a ≡ true → A) → (b ≡ true → B) → (a || b) ≡ true → A ⊎ B
or_cases true b f g h = inl (f refl)
or_cases false b f g h = inr (g h)

is_version-true : (v : ℕ) → is_version v ≡ true → (v ≡ 1) ⊎ (v ≡ 2)
is_version-true v h = or_cases (eqb v 1) (eqb v 2) (eqb-true v 1) (eqb-true v 2) h

version-is : (v : ℕ) → (v ≡ 1) ⊎ (v ≡ 2) → is_version v ≡ true
version-is v (inl one) = rw one refl
version-is v (inr two) = rw two refl

version-fits : (v : ℕ) → (v ≡ 1) ⊎ (v ≡ 2) → v < 2 ^ 16
version-fits v (inl one) = omega (arith, one)
version-fits v (inr two) = omega (arith, two)

by_version : (old : Bool) → cond old HIGHEST_FALLING_LEVEL HIGHEST_LEVEL ≤ HIGHEST_LEVEL
by_version true = omega arith
by_version false = omega arith

-- no version has a level above the highest
pub low_in : (version level : ℕ) → level ≤ highest_in version → level ≤ HIGHEST_LEVEL
low_in version level low = omega (arith, low, by_version (eqb version 1))

-- a header whose numbers fit their bytes
pub record FitsHeader (h : Header) : Type 0 where
  pub version : (h.version ≡ 1) ⊎ (h.version ≡ 2)
  pub level : h.level ≤ highest_in h.version
  pub limit : h.limit < 2 ^ 32
  pub below : length h.below ≡ 32
  pub bytes : IsBytes h.below

abbrev text_of : Header → List ℕ
text_of h = header_text h.version h.level h.limit h.below

abbrev magic_spells : Spells ℕ 4 (number_if w32 (λ n. eqb n magic_number) faults.Magic) (to_be_bytes w32) (λ n. (n < 2 ^ 32) × (eqb n magic_number ≡ true))
magic_spells = number-spells w32 (2 ^ 32) wide32 (λ n. eqb n magic_number) faults.Magic

abbrev version_spells : Spells ℕ 2 (number_if w16 is_version faults.Version) (to_be_bytes w16) (λ n. (n < 2 ^ 16) × (is_version n ≡ true))
version_spells = number-spells w16 (2 ^ 16) wide16 is_version faults.Version

count_spells : (l : ℕ) → Spells ℕ 8 (number_if w64 (λ n. eqb n (size_of l)) faults.Count) (to_be_bytes w64) (λ n. (n < 2 ^ 64) × (eqb n (size_of l) ≡ true))
count_spells l = number-spells w64 (2 ^ 64) wide64 (λ n. eqb n (size_of l)) faults.Count

header_take : (s : FileFault) (bytes : List ℕ) (x : Header × List ℕ) → IsBytes bytes → header_at s bytes ≡ Ok x → Takes bytes (text_of x.0) x.1 × FitsHeader x.0
unfolding header_at
header_take s bytes x fits e =
    let a = bind_ok (field 4 (number_if w32 (λ n. eqb n magic_number) faults.Magic) s bytes) (λ y. version_on s y.1) x e in
    let b = bind_ok (field 2 (number_if w16 is_version faults.Version) s a.0.1) (λ y. level_on y.0 s y.1) x a.2 in
    let v = b.0.0 in
    let c = bind_ok (field 1 (number_if w8 (λ n. leb n (highest_in v)) faults.LevelOutOfRange) s b.0.1) (λ y. nought_on v y.0 s y.1) x b.2 in
    let l = c.0.0 in
    let d = bind_ok (field 1 (number_if w8 (λ n. eqb n 0) faults.Version) s c.0.1) (λ y. count_on v l s y.1) x c.2 in
    let f = bind_ok (field 8 (number_if w64 (λ n. eqb n (size_of l)) faults.Count) s d.0.1) (λ y. limit_on v l s y.1) x d.2 in
    let h = bind_ok (field 4 (any_number w32) s f.0.1) (λ y. below_on v l y.0 s y.1) x f.2 in
    let m = h.0.0 in
    let k = bind_ok (field 32 as_they_are s h.0.1) (λ y. Ok (record { version = v; level = l; limit = m; below = y.0 }, y.1)) x h.2 in
    let ta = field_takes ℕ 4 (number_if w32 (λ n. eqb n magic_number) faults.Magic) (to_be_bytes w32) (λ n. (n < 2 ^ 32) × (eqb n magic_number ≡ true)) magic_spells s bytes a.0 fits a.1 in
    let tb = field_takes ℕ 2 (number_if w16 is_version faults.Version) (to_be_bytes w16) (λ n. (n < 2 ^ 16) × (is_version n ≡ true)) version_spells s a.0.1 b.0 ta.0.rest_fits b.1 in
    let tc = field_takes ℕ 1 (number_if w8 (λ n. leb n (highest_in v)) faults.LevelOutOfRange) (λ n. n ∷ []) (λ n. (n < 256) × (leb n (highest_in v) ≡ true)) (byte-spells (λ n. leb n (highest_in v)) faults.LevelOutOfRange) s b.0.1 c.0 tb.0.rest_fits c.1 in
    let td = field_takes ℕ 1 (number_if w8 (λ n. eqb n 0) faults.Version) (λ n. n ∷ []) (λ n. (n < 256) × (eqb n 0 ≡ true)) (byte-spells (λ n. eqb n 0) faults.Version) s c.0.1 d.0 tc.0.rest_fits d.1 in
    let tf = field_takes ℕ 8 (number_if w64 (λ n. eqb n (size_of l)) faults.Count) (to_be_bytes w64) (λ n. (n < 2 ^ 64) × (eqb n (size_of l) ≡ true)) (count_spells l) s d.0.1 f.0 td.0.rest_fits f.1 in
    let th = field_takes ℕ 4 (any_number w32) (to_be_bytes w32) (λ n. n < 2 ^ 32) (any-spells w32 (2 ^ 32) wide32) s f.0.1 h.0 tf.0.rest_fits h.1 in
    let tk = field_takes (List ℕ) 32 as_they_are (λ bs. bs) (λ bs. (length bs ≡ 32) × IsBytes bs) (bytes-spell 32) s h.0.1 k.0 th.0.rest_fits k.1 in
    let whole = Takes-then _ _ _ _ _ ta.0 (Takes-then _ _ _ _ _ tb.0 (Takes-then _ _ _ _ _ tc.0 (Takes-then _ _ _ _ _ td.0 (Takes-then _ _ _ _ _ tf.0 (Takes-then _ _ _ _ _ th.0 tk.0))))) in
    let magic : a.0.0 ≡ magic_number = eqb-true _ _ ta.1.1 in
    let nought : d.0.0 ≡ 0 = eqb-true _ _ td.1.1 in
    let count : f.0.0 ≡ size_of l = eqb-true _ _ tf.1.1 in
    let made : Header × List ℕ = (record { version = v; level = l; limit = m; below = k.0.0 }, k.0.1) in
    let parts : bytes ≡ text_of made.0 ++ made.1 =
    whole.parts ∙ ap (λ (n : ℕ). (to_be_bytes w32 n ++ (to_be_bytes w16 v ++ ((l ∷ []) ++ ((d.0.0 ∷ []) ++ (to_be_bytes w64 f.0.0 ++ (to_be_bytes w32 m ++ k.0.0)))))) ++ k.0.1) magic
    ∙ ap (λ (n : ℕ). (to_be_bytes w32 magic_number ++ (to_be_bytes w16 v ++ ((l ∷ []) ++ ((n ∷ []) ++ (to_be_bytes w64 f.0.0 ++ (to_be_bytes w32 m ++ k.0.0)))))) ++ k.0.1) nought
    ∙ ap (λ (n : ℕ). (to_be_bytes w32 magic_number ++ (to_be_bytes w16 v ++ ((l ∷ []) ++ ((0 ∷ []) ++ (to_be_bytes w64 n ++ (to_be_bytes w32 m ++ k.0.0)))))) ++ k.0.1) count in
    let fit : FitsHeader made.0 = record {
      version = is_version-true v tb.1.1;
      level = leb-true _ _ tc.1.1;
      limit = th.1;
      below = tk.1.0;
      bytes = tk.1.1;
    } in
    subst (λ (y : Header × List ℕ). Takes bytes (text_of y.0) y.1 × FitsHeader y.0) (ok_is made x k.2) (record { parts = parts; rest_fits = whole.rest_fits }, fit)

abbrev header_with : ℕ → ℕ → ℕ → List ℕ → Header
header_with v l m below = record { version = v; level = l; limit = m; below = below }

digest-spells : (computed : List ℕ) → length computed ≡ 32 → Spells (List ℕ) 32 (digest_if computed) (λ bs. bs) (λ bs. bs ≡ computed)
digest-spells computed size = record {
  len = λ bs same. ap length same ∙ size;
  again = λ bs same. let is : bytes_eq bs computed ≡ true = (bytes_eq-Decides bs computed).1 same in rw is refl;
  back = λ bytes bs len fits e. let t = test_ok (bytes_eq bytes computed) bytes bs faults.Digest e in (sym t.1, sym t.1 ∙ (bytes_eq-Decides bytes computed).0 t.0);
}

below_again : (v l m : ℕ) (s : FileFault) (below rest : List ℕ) → length below ≡ 32 → IsBytes below → below_on v l m s (below ++ rest) ≡ Ok (record { version = v; level = l; limit = m; below = below }, rest)
below_again v l m s below rest len fits =
    ap (λ (r : Result (List ℕ × List ℕ) FileFault). r >>= λ y. Ok (header_with v l m y.0, y.1)) (field_again (List ℕ) 32 as_they_are (λ bs. bs) (λ bs. (length bs ≡ 32) × IsBytes bs) (bytes-spell 32) s below rest (len, fits))

limit_again : (v l m : ℕ) (s : FileFault) (below rest : List ℕ) → m < 2 ^ 32 → length below ≡ 32 → IsBytes below → limit_on v l s (to_be_bytes w32 m ++ (below ++ rest)) ≡ Ok (header_with v l m below, rest)
limit_again v l m s below rest lt len fits =
    ap (λ (r : Result (ℕ × List ℕ) FileFault). r >>= λ y. below_on v l y.0 s y.1) (field_again ℕ 4 (any_number w32) (to_be_bytes w32) (λ n. n < 2 ^ 32) (any-spells w32 (2 ^ 32) wide32) s m (below ++ rest) lt)
    ∙ below_again v l m s below rest len fits

count_again : (v l m : ℕ) (s : FileFault) (below rest : List ℕ) → size_of l < 2 ^ 64 → m < 2 ^ 32 → length below ≡ 32 → IsBytes below
    → count_on v l s (to_be_bytes w64 (size_of l) ++ (to_be_bytes w32 m ++ (below ++ rest))) ≡ Ok (header_with v l m below, rest)
count_again v l m s below rest small lt len fits =
    ap (λ (r : Result (ℕ × List ℕ) FileFault). r >>= λ y. limit_on v l s y.1)
    (field_again ℕ 8 (number_if w64 (λ n. eqb n (size_of l)) faults.Count) (to_be_bytes w64) (λ n. (n < 2 ^ 64) × (eqb n (size_of l) ≡ true)) (count_spells l) s (size_of l) (to_be_bytes w32 m ++ (below ++ rest)) (small, eq-eqb _ _ refl))
    ∙ limit_again v l m s below rest lt len fits

nought_again : (v l m : ℕ) (s : FileFault) (below rest : List ℕ) → size_of l < 2 ^ 64 → m < 2 ^ 32 → length below ≡ 32 → IsBytes below
    → nought_on v l s ((0 ∷ []) ++ (to_be_bytes w64 (size_of l) ++ (to_be_bytes w32 m ++ (below ++ rest)))) ≡ Ok (header_with v l m below, rest)
nought_again v l m s below rest small lt len fits =
    ap (λ (r : Result (ℕ × List ℕ) FileFault). r >>= λ y. count_on v l s y.1)
    (field_again ℕ 1 (number_if w8 (λ n. eqb n 0) faults.Version) (λ n. n ∷ []) (λ n. (n < 256) × (eqb n 0 ≡ true)) (byte-spells (λ n. eqb n 0) faults.Version) s 0 (to_be_bytes w64 (size_of l) ++ (to_be_bytes w32 m ++ (below ++ rest))) (omega arith, refl))
    ∙ count_again v l m s below rest small lt len fits

level_again : (v l m : ℕ) (s : FileFault) (below rest : List ℕ) → l < 256 → l ≤ highest_in v → size_of l < 2 ^ 64 → m < 2 ^ 32 → length below ≡ 32 → IsBytes below
    → level_on v s ((l ∷ []) ++ ((0 ∷ []) ++ (to_be_bytes w64 (size_of l) ++ (to_be_bytes w32 m ++ (below ++ rest))))) ≡ Ok (header_with v l m below, rest)
level_again v l m s below rest byte low small lt len fits =
    ap (λ (r : Result (ℕ × List ℕ) FileFault). r >>= λ y. nought_on v y.0 s y.1)
    (field_again ℕ 1 (number_if w8 (λ n. leb n (highest_in v)) faults.LevelOutOfRange) (λ n. n ∷ []) (λ n. (n < 256) × (leb n (highest_in v) ≡ true)) (byte-spells (λ n. leb n (highest_in v)) faults.LevelOutOfRange) s l ((0 ∷ []) ++ (to_be_bytes w64 (size_of l) ++ (to_be_bytes w32 m ++ (below ++ rest)))) (byte, le-leb _ _ low))
    ∙ nought_again v l m s below rest small lt len fits

version_again : (v l m : ℕ) (s : FileFault) (below rest : List ℕ) → (v ≡ 1) ⊎ (v ≡ 2) → l < 256 → l ≤ highest_in v → size_of l < 2 ^ 64 → m < 2 ^ 32 → length below ≡ 32 → IsBytes below
    → version_on s (to_be_bytes w16 v ++ ((l ∷ []) ++ ((0 ∷ []) ++ (to_be_bytes w64 (size_of l) ++ (to_be_bytes w32 m ++ (below ++ rest)))))) ≡ Ok (header_with v l m below, rest)
version_again v l m s below rest known byte low small lt len fits =
    ap (λ (r : Result (ℕ × List ℕ) FileFault). r >>= λ y. level_on y.0 s y.1)
    (field_again ℕ 2 (number_if w16 is_version faults.Version) (to_be_bytes w16) (λ n. (n < 2 ^ 16) × (is_version n ≡ true)) version_spells s v ((l ∷ []) ++ ((0 ∷ []) ++ (to_be_bytes w64 (size_of l) ++ (to_be_bytes w32 m ++ (below ++ rest))))) (version-fits v known, version-is v known))
    ∙ level_again v l m s below rest byte low small lt len fits

pub header_again : (h : Header) (s : FileFault) (rest : List ℕ) → FitsHeader h → size_of h.level < 2 ^ 64 → header_at s (text_of h ++ rest) ≡ Ok (h, rest)
unfolding header_at
header_again h s rest fits small =
    let byte : h.level < 256 = omega (arith, low_in h.version h.level fits.level) in
    ap (λ (r : Result (ℕ × List ℕ) FileFault). r >>= λ y. version_on s y.1)
    (field_again ℕ 4 (number_if w32 (λ n. eqb n magic_number) faults.Magic) (to_be_bytes w32) (λ n. (n < 2 ^ 32) × (eqb n magic_number ≡ true)) magic_spells s magic_number
    (to_be_bytes w16 h.version ++ ((h.level ∷ []) ++ ((0 ∷ []) ++ (to_be_bytes w64 (size_of h.level) ++ (to_be_bytes w32 h.limit ++ (h.below ++ rest)))))) (omega arith, refl))
    ∙ version_again h.version h.level h.limit s h.below rest fits.version byte fits.level small fits.limit fits.below fits.bytes

-- ---- the digest

end_again : (body : List ℕ) (s : FileFault) → end_at body s (sha256 body) ≡ Ok (sha256 body)
unfolding end_at
end_again body s =
    let one = field_again (List ℕ) 32 (digest_if (sha256 body)) (λ bs. bs) (λ bs. bs ≡ sha256 body) (digest-spells (sha256 body) (length-sha256 body)) s (sha256 body) [] refl in
    let regrouped : sha256 body ≡ sha256 body ++ [] = sym (append-nil (sha256 body)) in
    ap (λ (bytes : List ℕ). field 32 (digest_if (sha256 body)) s bytes >>= λ digest. cond (eqb (length digest.1) 0) (Ok digest.0) (Err faults.Trailing)) regrouped
    ∙ ap (λ (r : Result (List ℕ × List ℕ) FileFault). r >>= λ digest. cond (eqb (length digest.1) 0) (Ok digest.0) (Err faults.Trailing)) one

-- ---- all of it

-- what follows the body of an image is its end
pub file_on : (version : ℕ) (image : Image) (below tail : List ℕ) → HasFile version image below → size_of image.level < 2 ^ 64
    → file_in (body_text version image below ++ tail) ≡ after_end (header_with version image.level image.limit below) image.entries (end_at (body_text version image below) faults.Truncated tail)
file_on version image below tail has small =
    let body = body_text version image below in
    let h = header_with version image.level image.limit below in
    let fits : FitsHeader h = record { version = has.known; level = has.low; limit = has.limit; below = has.whole; bytes = has.bytes } in
    let es = flat_map entry_text image.entries in
    let header : header_at faults.Truncated (body ++ tail) ≡ Ok (h, es ++ tail) = ap (header_at faults.Truncated) (append_assoc (text_of h) es tail) ∙ header_again h faults.Truncated (es ++ tail) fits small in
    at_the_end (body ++ tail) h (es ++ tail) (length image.entries) image.entries tail body has.sized header (entries_again image.entries faults.Truncated tail has.entries) refl

pub file_again : (version : ℕ) (image : Image) (below : List ℕ) → HasFile version image below → size_of image.level < 2 ^ 64 → file_in (file_text version image below) ≡ Ok (found_of version image below)
file_again version image below has small =
    let body = body_text version image below in
    file_on version image below (sha256 body) has small ∙ ap (after_end (header_with version image.level image.limit below) image.entries) (end_again body faults.Truncated)

-- The bytes up to the last entry are the body of the image that was read.
pub body_taken : (xs rest left done : List ℕ) (h : Header) (n : ℕ) (es : List Entry) → n ≡ size_of h.level → header_at faults.Truncated xs ≡ Ok (h, rest) → entries_at n faults.Truncated rest ≡ Ok (es, left)
    → xs ≡ done ++ left → IsBytes done
    → HasFile h.version (record { level = h.level; limit = h.limit; entries = es }) h.below × (done ≡ body_text h.version (record { level = h.level; limit = h.limit; entries = es }) h.below)
body_taken xs rest left done h n es size header entries parts bytes =
    let t = took Header 52 header_at header-is faults.Truncated faults.Truncated xs (h, rest) header in
    let u = took (List Entry) (6 * n) (entries_at n) (entries-is n) faults.Truncated faults.Truncated rest (es, left) entries in
    let cut : xs ≡ (t.front ++ u.front) ++ left = t.parts ∙ ap (λ (l : List ℕ). t.front ++ l) u.parts ∙ sym (append_assoc t.front u.front left) in
    let same : done ≡ t.front ++ u.front = sym (before_is xs done left parts) ∙ before_is xs (t.front ++ u.front) left cut in
    let header_there : header_at faults.Truncated done ≡ Ok (h, u.front) = ap (header_at faults.Truncated) same ∙ t.again u.front in
    let entries_there : entries_at n faults.Truncated u.front ≡ Ok (es, []) = ap (entries_at n faults.Truncated) (sym (append-nil u.front)) ∙ u.again [] in
    let th = header_take faults.Truncated done (h, u.front) bytes header_there in
    let te = entries_take n faults.Truncated u.front (es, []) th.0.rest_fits entries_there in (
      record { known = th.1.version; low = th.1.level; limit = th.1.limit; whole = th.1.below; bytes = th.1.bytes; sized = te.1 ∙ size; entries = te.2 },
      th.0.parts ∙ ap (λ (l : List ℕ). text_of h ++ l) (te.0.parts ∙ append-nil (flat_map entry_text es)),
    )

-- ---- the sizes of the levels fit 8 bytes

abbrev IsSmall : ℕ → Type 0
IsSmall n = n < 2 ^ 64

all_at : (n a i : ℕ) → AllByRecursion IsSmall (map size_of (range_with_len a n)) → i < n → IsSmall (size_of (a + i))
all_at zero a i small lt = absurd (omega (arith, lt))
all_at (suc n) a zero small lt = subst (λ (m : ℕ). IsSmall (size_of m)) (omega arith) small.0
all_at (suc n) a (suc i) small lt = subst (λ (m : ℕ). IsSmall (size_of m)) (omega arith) (all_at n (a + 1) i small.1 (omega (arith, lt)))

sizes_small : AllByRecursion IsSmall (map size_of (range_with_len 0 25))
sizes_small = subst (AllByRecursion IsSmall) (sym sizes) (omega arith, (omega arith, (omega arith, (omega arith, (omega arith, (omega arith, (omega arith, (omega arith, (omega arith, (omega arith, (omega arith, (omega arith, (omega arith, (omega arith, (omega arith, (omega arith, (omega arith, (omega arith, (omega arith, (omega arith, (omega arith, (omega arith, (omega arith, (omega arith, (omega arith, tt)))))))))))))))))))))))))

pub size_small : (n : ℕ) → n ≤ HIGHEST_LEVEL → size_of n < 2 ^ 64
size_small n low = subst (λ (m : ℕ). IsSmall (size_of m)) (omega arith) (all_at 25 0 n sizes_small (omega (arith, low)))

pub is_only : (a : Option (List ℕ)) (r : Result Loaded FileFault) → IfSome a (λ bytes. Answers (λ (x : Loaded). x) r (file_in bytes))
    → IfSome a (λ bytes. (version : ℕ) (image : Image) (below : List ℕ) → HasFile version image below → bytes ≡ file_text version image below → Answers (λ (x : Loaded). x) r (Ok (found_of version image below)))
is_only None r given = tt
is_only (Some bytes) r given = λ version image below has text. subst (λ (read : Result Loaded FileFault). Answers (λ (x : Loaded). x) r read) (ap file_in text ∙ file_again version image below has (size_small image.level (low_in version image.level has.low))) given

pub told_apart : (version other : ℕ) (image shown : Image) (below under : List ℕ) → HasFile version image below → HasFile other shown under
    → file_text version image below ≡ file_text other shown under → (version ≡ other) × (image ≡ shown) × (below ≡ under)
told_apart version other image shown below under has also same =
    let read = sym (file_again version image below has (size_small image.level (low_in version image.level has.low))) ∙ ap file_in same ∙ file_again other shown under also (size_small shown.level (low_in other shown.level also.low)) in
    let found = ok_is (found_of version image below) (found_of other shown under) read in
    (ap (λ (x : Loaded). x.version) found, ap (λ (x : Loaded). x.image) found, ap (λ (x : Loaded). x.below) found)
