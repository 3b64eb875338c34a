-- Where the entries lie in a file that was read whole.
use Rattle.std.proofs.Common.{◌≡◌, ℕ, zero, suc, ◌+◌, ◌*◌, ◌<◌, List, ◌∷◌, length, get_or, take, drop, ltb, Result, Ok, sym, ap, ◌∙◌, arith}
use Rattle.std.proofs.lemmas.List.{drop-drop, drop_at, length-append}
use Rattle.awari_table.specs.declared.images.Entry.{Entry}
use Rattle.awari_file.specs.declared.contents.Header.{Header}
use Rattle.awari_file.specs.declared.faults.FileFault.{FileFault}
use Rattle.awari_file.specs.declared.faults.FileFault.TheVariants as faults
use Rattle.awari_file.specs.Reading.{◌>>=◌, field, entry_of, entries_at, header_at}
use Rattle.awari_file.proofs.FieldLaws.{bind_ok, guard_ok, ok_is, took}
use Rattle.awari_file.proofs.FileLaws.{header-is}
use Rattle.awari_file.proofs.EntryLaws.{done}

field_there : (s : FileFault) (bytes : List ℕ) (x : Entry × List ℕ) → field 6 entry_of s bytes ≡ Ok x → (entry_of (take 6 bytes) ≡ Ok x.0) × (drop 6 bytes ≡ x.1)
field_there s bytes x h =
    let g = guard_ok (ltb (length bytes) 6) s (entry_of (take 6 bytes) >>= λ y. Ok (y, drop 6 bytes)) x h in
    let b = bind_ok (entry_of (take 6 bytes)) (λ y. Ok (y, drop 6 bytes)) x g.1 in
    let same = ok_is (b.0, drop 6 bytes) x b.2 in
    (b.1 ∙ ap (λ (p : Entry × List ℕ). done p.0) same, ap (λ (p : Entry × List ℕ). p.1) same)

-- each entry that was read in turn lies at its place
pub entry_lies : (n k : ℕ) (s : FileFault) (bytes : List ℕ) (x : List Entry × List ℕ) (d : Entry) → entries_at n s bytes ≡ Ok x → k < n → entry_of (take 6 (drop (6 * k) bytes)) ≡ Ok (get_or x.0 k d)
unfolding entries_at
entry_lies zero k s bytes x d h lt = absurd (omega (arith, lt))
entry_lies (suc n) zero s bytes x d h lt =
    let a = bind_ok (field 6 entry_of s bytes) (λ first. entries_at n s first.1 >>= λ others. Ok (first.0 ∷ others.0, others.1)) x h in
    let b = bind_ok (entries_at n s a.0.1) (λ others. Ok (a.0.0 ∷ others.0, others.1)) x a.2 in
    (field_there s bytes a.0 a.1).0 ∙ ap (λ (y : List Entry × List ℕ). done (get_or y.0 0 d)) (ok_is (a.0.0 ∷ b.0.0, b.0.1) x b.2)
entry_lies (suc n) (suc k) s bytes x d h lt =
    let a = bind_ok (field 6 entry_of s bytes) (λ first. entries_at n s first.1 >>= λ others. Ok (first.0 ∷ others.0, others.1)) x h in
    let b = bind_ok (entries_at n s a.0.1) (λ others. Ok (a.0.0 ∷ others.0, others.1)) x a.2 in
    let rest = (field_there s bytes a.0 a.1).1 in
    let far : 6 + 6 * k ≡ 6 * suc k = omega arith in
    let place : drop (6 * k) a.0.1 ≡ drop (6 * suc k) bytes = ap (drop (6 * k)) (sym rest) ∙ drop-drop (6 * k) 6 bytes ∙ ap (λ (m : ℕ). drop m bytes) far in
    ap (λ (l : List ℕ). entry_of (take 6 l)) (sym place)
    ∙ entry_lies n k s a.0.1 b.0 d b.1 (omega (arith, lt))
    ∙ ap (λ (y : List Entry × List ℕ). done (get_or y.0 (suc k) d)) (ok_is (a.0.0 ∷ b.0.0, b.0.1) x b.2)

-- the entries begin behind the 52 bytes of the header
pub behind_header : (bytes : List ℕ) (x : Header × List ℕ) → header_at faults.Truncated bytes ≡ Ok x → drop 52 bytes ≡ x.1
behind_header bytes x h =
    let t = took Header 52 header_at header-is faults.Truncated faults.Truncated bytes x h in
    let taken = header-is.takes faults.Truncated bytes x h in
    let long : length t.front ≡ 52 = omega (arith, taken, ap length t.parts, length-append t.front x.1) in
    ap (drop 52) t.parts ∙ drop_at t.front x.1 52 long
