-- The parts of a file are fields.
use Rattle.std.proofs.Common.{◌≡◌, ℕ, zero, suc, ◌+◌, ◌*◌, ◌<◌, ◌≤◌, Bool, true, false, cond, eqb, leb, List, [], ◌∷◌, ◌++◌, length, Result, Ok, Err, sym, ap, subst, ◌∙◌, arith, inl, inr}
use Rattle.std.specs.Int.{Width, w8, w16, w32, w64, from_be_bytes}
use Rattle.std.proofs.lemmas.List.{append-nil, nil_from_length}
use Rattle.std.proofs.lemmas.Bool.{cases_lt}
use Rattle.awari_rank.specs.Rank.{size_of}
use Rattle.awari_table.specs.declared.images.Entry.{Entry}
use Rattle.awari_file.specs.declared.contents.Header.{Header}
use Rattle.awari_file.specs.declared.faults.FileFault.{FileFault}
use Rattle.awari_file.specs.declared.faults.FileFault.TheVariants as faults
use Rattle.awari_file.specs.FileText.{magic_number, highest_in}
use Rattle.awari_file.specs.Reading.{◌>>=◌, field, number_if, any_number, as_they_are, is_version, header_at, entry_of, entries_at, IsOwn, Fails}
use Rattle.awari_file.proofs.FieldLaws.{Reader, MakesOwn, IsField, followed_by, field-is, nothing-is, then-is}

abbrev failing : {A : Type 0} → FileFault → Result A FileFault
failing e = Err e

err_is : {A : Type 0} (d e : FileFault) → failing {A = A} d ≡ failing e → d ≡ e
err_is d e h = cc

pub test_own : {A : Type 0} (b : Bool) (x : A) (d e : FileFault) → IsOwn d → cond b (Ok x) (failing d) ≡ Err e → IsOwn e
test_own true x d e own h = absurd cc
test_own {A} false x d e own h = subst IsOwn (err_is {A = A} d e h) own

number_if-own : (w : Width) (test : ℕ → Bool) (d : FileFault) → IsOwn d → MakesOwn (number_if w test d)
number_if-own w test d own bytes e h = test_own (test (from_be_bytes w bytes)) (from_be_bytes w bytes) d e own h

-- ---- the header, from its last field on

abbrev pub below_on : ℕ → ℕ → ℕ → Reader Header
below_on v l m = λ s bytes. field 32 as_they_are s bytes >>= λ below. Ok (record { version = v; level = l; limit = m; below = below.0 }, below.1)

abbrev pub limit_on : ℕ → ℕ → Reader Header
limit_on v l = λ s bytes. field 4 (any_number w32) s bytes >>= λ limit. below_on v l limit.0 s limit.1

abbrev pub count_on : ℕ → ℕ → Reader Header
count_on v l = λ s bytes. field 8 (number_if w64 (λ n. eqb n (size_of l)) faults.Count) s bytes >>= λ count. limit_on v l s count.1

abbrev pub nought_on : ℕ → ℕ → Reader Header
nought_on v l = λ s bytes. field 1 (number_if w8 (λ n. eqb n 0) faults.Version) s bytes >>= λ nought. count_on v l s nought.1

abbrev pub level_on : ℕ → Reader Header
level_on v = λ s bytes. field 1 (number_if w8 (λ n. leb n (highest_in v)) faults.LevelOutOfRange) s bytes >>= λ level. nought_on v level.0 s level.1

abbrev pub version_on : Reader Header
version_on = λ s bytes. field 2 (number_if w16 is_version faults.Version) s bytes >>= λ version. level_on version.0 s version.1

below_on-is : (v l m : ℕ) → IsField Header 32 (below_on v l m)
below_on-is v l m = then-is (List ℕ) Header 32 0 (field 32 as_they_are) (λ below s bytes. Ok (record { version = v; level = l; limit = m; below = below }, bytes))
    (field-is (List ℕ) 32 as_they_are (λ bytes e h. absurd cc)) (λ below. nothing-is Header (record { version = v; level = l; limit = m; below = below }))

limit_on-is : (v l : ℕ) → IsField Header 36 (limit_on v l)
limit_on-is v l = then-is ℕ Header 4 32 (field 4 (any_number w32)) (λ m. below_on v l m) (field-is ℕ 4 (any_number w32) (λ bytes e h. absurd cc)) (λ m. below_on-is v l m)

count_on-is : (v l : ℕ) → IsField Header 44 (count_on v l)
count_on-is v l = then-is ℕ Header 8 36 (field 8 (number_if w64 (λ n. eqb n (size_of l)) faults.Count)) (λ _. limit_on v l)
    (field-is ℕ 8 (number_if w64 (λ n. eqb n (size_of l)) faults.Count) (number_if-own w64 (λ n. eqb n (size_of l)) faults.Count tt)) (λ _. limit_on-is v l)

nought_on-is : (v l : ℕ) → IsField Header 45 (nought_on v l)
nought_on-is v l = then-is ℕ Header 1 44 (field 1 (number_if w8 (λ n. eqb n 0) faults.Version)) (λ _. count_on v l)
    (field-is ℕ 1 (number_if w8 (λ n. eqb n 0) faults.Version) (number_if-own w8 (λ n. eqb n 0) faults.Version tt)) (λ _. count_on-is v l)

level_on-is : (v : ℕ) → IsField Header 46 (level_on v)
level_on-is v = then-is ℕ Header 1 45 (field 1 (number_if w8 (λ n. leb n (highest_in v)) faults.LevelOutOfRange)) (λ l. nought_on v l)
    (field-is ℕ 1 (number_if w8 (λ n. leb n (highest_in v)) faults.LevelOutOfRange) (number_if-own w8 (λ n. leb n (highest_in v)) faults.LevelOutOfRange tt)) (λ l. nought_on-is v l)

version_on-is : IsField Header 48 version_on
version_on-is = then-is ℕ Header 2 46 (field 2 (number_if w16 is_version faults.Version)) (λ v. level_on v)
    (field-is ℕ 2 (number_if w16 is_version faults.Version) (number_if-own w16 is_version faults.Version tt)) (λ v. level_on-is v)

pub header-is : IsField Header 52 header_at
unfolding header_at
header-is = then-is ℕ Header 4 48 (field 4 (number_if w32 (λ n. eqb n magic_number) faults.Magic)) (λ _. version_on)
    (field-is ℕ 4 (number_if w32 (λ n. eqb n magic_number) faults.Magic) (number_if-own w32 (λ n. eqb n magic_number) faults.Magic tt)) (λ _. version_on-is)

-- ---- entries

entry-own : MakesOwn entry_of
entry-own bytes e h = test_own _ _ faults.EntryForm e tt h

pub entries-is : (n : ℕ) → IsField (List Entry) (6 * n) (entries_at n)
unfolding entries_at
entries-is zero = nothing-is (List Entry) []
entries-is (suc n) =
    let more = then-is (List Entry) (List Entry) (6 * n) 0 (entries_at n) in
    let k : 6 + (6 * n + 0) ≡ 6 * suc n = omega arith in
    subst (λ (m : ℕ). IsField (List Entry) m (entries_at (suc n))) k
    (then-is Entry (List Entry) 6 (6 * n + 0) (field 6 entry_of) (λ first s bytes. entries_at n s bytes >>= λ others. Ok (first ∷ others.0, others.1))
    (field-is Entry 6 entry_of entry-own)
    (λ first. then-is (List Entry) (List Entry) (6 * n) 0 (entries_at n) (λ others s bytes. Ok (first ∷ others, bytes)) (entries-is n) (λ others. nothing-is (List Entry) (first ∷ others))))

-- ---- a piece of the input

pub fails_of : {Y : Type 0} (e : FileFault) (read : Result Y FileFault) → read ≡ Err e → Fails e read
fails_of faults.Read read h = tt
fails_of faults.Memory read h = tt
fails_of faults.Truncated read h = h
fails_of faults.Magic read h = h
fails_of faults.Version read h = h
fails_of faults.LevelOutOfRange read h = h
fails_of faults.Count read h = h
fails_of faults.EntryForm read h = h
fails_of faults.Digest read h = h
fails_of faults.Trailing read h = h
fails_of faults.Write read h = h

-- why a piece of n bytes is short, left being what is still there
abbrev pub IsWhy : FileFault → List ℕ → Type 0
IsWhy faults.Truncated left = left ≡ []
IsWhy faults.Read left = Unit {0}
IsWhy e left = ⊥

why_fails : {Y : Type 0} (s e : FileFault) (f : Reader Y) (front left : List ℕ) → IsWhy s left → e ≡ s → f s front ≡ Err e → Fails e (f faults.Truncated (front ++ left))
why_fails faults.Truncated e f front left why same h = rw (why, append-nil front) (fails_of e _ h)
why_fails faults.Read e f front left why same h = rw same tt
why_fails faults.Memory e f front left why same h = absurd why
why_fails faults.Magic e f front left why same h = absurd why
why_fails faults.Version e f front left why same h = absurd why
why_fails faults.LevelOutOfRange e f front left why same h = absurd why
why_fails faults.Count e f front left why same h = absurd why
why_fails faults.EntryForm e f front left why same h = absurd why
why_fails faults.Digest e f front left why same h = absurd why
why_fails faults.Trailing e f front left why same h = absurd why
why_fails faults.Write e f front left why same h = absurd why

-- a fault in a piece is the fault of the input
pub piece_fails : (Y : Type 0) (n : ℕ) (f : Reader Y) → IsField Y n f → (s e : FileFault) (front left : List ℕ) → (length front < n → IsWhy s left) → f s front ≡ Err e → Fails e (f faults.Truncated (front ++ left))
piece_fails Y n f is s e front left why h =
    elim (cases_lt (length front) n) [
      | inl lt ↦ elim (is.early s faults.Truncated e front left h) [
        | inl same ↦ why_fails s e f front left (why lt) same.0 h
        | inr own ↦ fails_of e _ own.1
      ]
      | inr le ↦ fails_of e _ (is.whole s faults.Truncated front left le ∙ ap (followed_by left) h)
    ]

-- what a piece of at most n bytes gives is what the input gives
pub piece_gives : (Y : Type 0) (n : ℕ) (f : Reader Y) → IsField Y n f → (s : FileFault) (front left : List ℕ) (x : Y × List ℕ) → length front ≤ n → f s front ≡ Ok x → f faults.Truncated (front ++ left) ≡ Ok (x.0, left)
piece_gives Y n f is s front left x small h =
    let taken = is.takes s front x h in
    let nothing : x.1 ≡ [] = nil_from_length x.1 (omega (arith, taken)) in
    is.whole s faults.Truncated front left (omega (arith, taken)) ∙ ap (followed_by left) h ∙ ap (λ (rest : List ℕ). Ok (x.0, rest ++ left)) nothing

-- only a reader's fault is answered as one
pub read_from_short : (Y : Type 0) (n : ℕ) (f : Reader Y) → IsField Y n f → (s : FileFault) (bytes : List ℕ) → f s bytes ≡ Err faults.Read → s ≡ faults.Read
read_from_short Y n f is s bytes h =
    elim (is.early s s faults.Read bytes [] h) [ inl same ↦ sym same.0 | inr own ↦ absurd own.0 ]

pub memory_from_short : (Y : Type 0) (n : ℕ) (f : Reader Y) → IsField Y n f → (s : FileFault) (bytes : List ℕ) → f s bytes ≡ Err faults.Memory → s ≡ faults.Memory
memory_from_short Y n f is s bytes h =
    elim (is.early s s faults.Memory bytes [] h) [ inl same ↦ sym same.0 | inr own ↦ absurd own.0 ]

pub early_from_short : (Y : Type 0) (n : ℕ) (f : Reader Y) → IsField Y n f → (s : FileFault) (bytes : List ℕ) → f s bytes ≡ Err faults.Truncated → s ≡ faults.Truncated
early_from_short Y n f is s bytes h =
    elim (is.early s s faults.Truncated bytes [] h) [ inl same ↦ sym same.0 | inr own ↦ absurd own.0 ]

-- where a reader's fault is answered, what came is unfinished
pub read_stops : (Y : Type 0) (n : ℕ) (f : Reader Y) → IsField Y n f → (s : FileFault) (bytes : List ℕ) → f s bytes ≡ Err faults.Read → f faults.Truncated bytes ≡ Err faults.Truncated
read_stops Y n f is s bytes h =
    elim (is.early s faults.Truncated faults.Read bytes [] h) [ inl same ↦ same.1 | inr own ↦ absurd own.0 ]

why_not_own : (s : FileFault) (left : List ℕ) → IsWhy s left → IsOwn s → ⊥
why_not_own faults.Truncated left why own = own
why_not_own faults.Read left why own = own
why_not_own faults.Memory left why own = own
why_not_own faults.Magic left why own = why
why_not_own faults.Version left why own = why
why_not_own faults.LevelOutOfRange left why own = why
why_not_own faults.Count left why own = why
why_not_own faults.EntryForm left why own = why
why_not_own faults.Digest left why own = why
why_not_own faults.Trailing left why own = why
why_not_own faults.Write left why own = why

-- a fault of a field's own is that of what came
pub piece_own : (Y : Type 0) (n : ℕ) (f : Reader Y) → IsField Y n f → (s e : FileFault) (front left : List ℕ) → (length front < n → IsWhy s left) → IsOwn e → f s front ≡ Err e → f faults.Truncated front ≡ Err e
piece_own Y n f is s e front left why own h =
    elim (cases_lt (length front) n) [
      | inl lt ↦ elim (is.early s faults.Truncated e front [] h) [
        | inl same ↦ absurd (why_not_own s left (why lt) (subst IsOwn same.0 own))
        | inr stays ↦ ap (f faults.Truncated) (sym (append-nil front)) ∙ stays.1
      ]
      | inr le ↦ ap (f faults.Truncated) (sym (append-nil front)) ∙ is.whole s faults.Truncated front [] le ∙ ap (followed_by []) h
    ]

-- what has the fault of a part has it too
pub fails_along : {A B : Type 0} (e : FileFault) (a : Result A FileFault) (b : Result B FileFault) → (a ≡ Err e → b ≡ Err e) → Fails e a → Fails e b
fails_along faults.Read a b along h = tt
fails_along faults.Memory a b along h = tt
fails_along faults.Truncated a b along h = along h
fails_along faults.Magic a b along h = along h
fails_along faults.Version a b along h = along h
fails_along faults.LevelOutOfRange a b along h = along h
fails_along faults.Count a b along h = along h
fails_along faults.EntryForm a b along h = along h
fails_along faults.Digest a b along h = along h
fails_along faults.Trailing a b along h = along h
fails_along faults.Write a b along h = along h
