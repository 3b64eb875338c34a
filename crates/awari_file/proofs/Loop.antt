-- Reading entries one after the other, as a loop does.
use Rattle.std.proofs.Common.{◌≡◌, ℕ, zero, suc, ◌-◌, ◌+◌, ◌≤◌, ◌<◌, List, [], ◌∷◌, ◌++◌, Result, Ok, Err, refl, sym, ap, ◌∙◌, append_assoc, arith, subst}
use Rattle.std.specs.Prelude.{IsOk}
use Rattle.std.proofs.lemmas.List.{append-nil}
use Rattle.awari_table.specs.declared.images.Entry.{Entry}
use Rattle.awari_file.specs.declared.faults.FileFault.{FileFault}
use Rattle.awari_file.specs.Reading.{◌>>=◌, field, entry_of, entries_at}

-- what was read before, and what is still read
abbrev pub with_front : List Entry → Result (List Entry × List ℕ) FileFault → Result (List Entry × List ℕ) FileFault
with_front front read = read >>= λ x. Ok (front ++ x.0, x.1)

regroup : (front : List Entry) (n : Entry) (read : Result (List Entry × List ℕ) FileFault) → with_front front (read >>= λ x. Ok (n ∷ x.0, x.1)) ≡ with_front (front ++ n ∷ []) read
regroup front n (Ok x) = ap (λ (ns : List Entry). Ok (ns, x.1)) (simp append_assoc)
regroup front n (Err f) = refl

pub with_front-nil : (read : Result (List Entry × List ℕ) FileFault) → with_front [] read ≡ read
with_front-nil (Ok x) = refl
with_front-nil (Err e) = refl

pub with_front-append : (a b : List Entry) (read : Result (List Entry × List ℕ) FileFault) → with_front (a ++ b) read ≡ with_front a (with_front b read)
with_front-append a b (Ok x) = ap (λ (ns : List Entry). Ok (ns, x.1)) (append_assoc a b x.0)
with_front-append a b (Err e) = refl

pub goes_on : (front : List Entry) (count i : ℕ) (s : FileFault) (bytes : List ℕ) (n : Entry) (after : List ℕ) (total : Result (List Entry × List ℕ) FileFault) → i < count → field 6 entry_of s bytes ≡ Ok (n, after)
    → with_front front (entries_at (count - i) s bytes) ≡ total → with_front (front ++ n ∷ []) (entries_at (count - (i + 1)) s after) ≡ total
unfolding entries_at
goes_on front count i s bytes n after total lt h so_far =
    let k : count - i ≡ suc (count - (i + 1)) = omega arith in
    let one : with_front front (entries_at (count - i) s bytes) ≡ with_front (front ++ n ∷ []) (entries_at (count - (i + 1)) s after) = rw (k, h) (regroup front n (entries_at (count - (i + 1)) s after)) in
    sym one ∙ so_far

pub ends : (e : FileFault) (front : List Entry) (count i : ℕ) (s : FileFault) (bytes : List ℕ) (total : Result (List Entry × List ℕ) FileFault) → i < count → field 6 entry_of s bytes ≡ Err e
    → with_front front (entries_at (count - i) s bytes) ≡ total → total ≡ Err e
unfolding entries_at
ends e front count i s bytes total lt h so_far =
    let k : count - i ≡ suc (count - (i + 1)) = omega arith in
    let one : with_front front (entries_at (count - i) s bytes) ≡ Err e = rw (k, h) refl in
    sym so_far ∙ one

pub is_done : (front : List Entry) (count i : ℕ) (s : FileFault) (bytes : List ℕ) (total : Result (List Entry × List ℕ) FileFault) → count ≤ i → with_front front (entries_at (count - i) s bytes) ≡ total → total ≡ Ok (front, bytes)
unfolding entries_at
is_done front count i s bytes total le so_far =
    let k : count - i ≡ 0 = omega arith in
    let one : with_front front (entries_at (count - i) s bytes) ≡ Ok (front, bytes) = rw k (ap (λ (ns : List Entry). Ok (ns, bytes)) (append-nil front)) in
    sym so_far ∙ one

-- an entry before those that are read
abbrev cons_on : Entry → Result (List Entry × List ℕ) FileFault → Result (List Entry × List ℕ) FileFault
cons_on n read = read >>= λ others. Ok (n ∷ others.0, others.1)

abbrev then_more : ℕ → FileFault → Result (List Entry × List ℕ) FileFault → Result (List Entry × List ℕ) FileFault
then_more b s read = read >>= λ x. with_front x.0 (entries_at b s x.1)

abbrev first_and : ℕ → FileFault → Result (Entry × List ℕ) FileFault → Result (List Entry × List ℕ) FileFault
first_and a s r = r >>= λ first. cons_on first.0 (entries_at a s first.1)

cons_with : (n : Entry) (front : List Entry) (read : Result (List Entry × List ℕ) FileFault) → cons_on n (with_front front read) ≡ with_front (n ∷ front) read
cons_with n front (Ok x) = refl
cons_with n front (Err e) = refl

cons_front : (n : Entry) (read : Result (List Entry × List ℕ) FileFault) (b : ℕ) (s : FileFault) → cons_on n (then_more b s read) ≡ then_more b s (cons_on n read)
cons_front n (Ok x) b s = cons_with n x.0 (entries_at b s x.1)
cons_front n (Err e) b s = refl

one_more_entry : (a b : ℕ) (s : FileFault) (r : Result (Entry × List ℕ) FileFault) → ((rest : List ℕ) → entries_at (a + b) s rest ≡ then_more b s (entries_at a s rest))
    → first_and (a + b) s r ≡ then_more b s (first_and a s r)
one_more_entry a b s (Ok first) h = rw (h first.1) (cons_front first.0 (entries_at a s first.1) b s)
one_more_entry a b s (Err e) h = refl

-- some entries, and then others
pub entries_at-add : (a b : ℕ) (s : FileFault) (bytes : List ℕ) → entries_at (a + b) s bytes ≡ then_more b s (entries_at a s bytes)
unfolding entries_at
entries_at-add zero b s bytes =
    let k : 0 + b ≡ b = omega arith in
    rw k (sym (with_front-nil (entries_at b s bytes)))
entries_at-add (suc a) b s bytes =
    let k : suc a + b ≡ suc (a + b) = omega arith in
    ap (λ (n : ℕ). entries_at n s bytes) k ∙ one_more_entry a b s (field 6 entry_of s bytes) (λ rest. entries_at-add a b s rest)

-- as many entries as are read at once
in_parts : (n a : ℕ) (s : FileFault) (bytes : List ℕ) → a ≤ n → entries_at n s bytes ≡ then_more (n - a) s (entries_at a s bytes)
in_parts n a s bytes le =
    let k : n ≡ a + (n - a) = omega arith in
    ap (λ (m : ℕ). entries_at m s bytes) k ∙ entries_at-add a (n - a) s bytes

pub some_go_on : (front more : List Entry) (n a : ℕ) (s : FileFault) (bytes rest : List ℕ) (total : Result (List Entry × List ℕ) FileFault) → a ≤ n → entries_at a s bytes ≡ Ok (more, rest)
    → with_front front (entries_at n s bytes) ≡ total → with_front (front ++ more) (entries_at (n - a) s rest) ≡ total
some_go_on front more n a s bytes rest total le h so_far =
    let one : entries_at n s bytes ≡ with_front more (entries_at (n - a) s rest) = in_parts n a s bytes le ∙ ap (then_more (n - a) s) h in
    with_front-append front more (entries_at (n - a) s rest) ∙ ap (with_front front) (sym one) ∙ so_far

pub some_end : (e : FileFault) (front : List Entry) (n a : ℕ) (s : FileFault) (bytes : List ℕ) (total : Result (List Entry × List ℕ) FileFault) → a ≤ n
    → with_front front (entries_at n s bytes) ≡ total → entries_at a s bytes ≡ Err e → total ≡ Err e
some_end e front n a s bytes total le so_far h = sym so_far ∙ ap (with_front front) (in_parts n a s bytes le ∙ ap (then_more (n - a) s) h)

pub all_done : (front : List Entry) (n : ℕ) (s : FileFault) (bytes : List ℕ) (total : Result (List Entry × List ℕ) FileFault) → n ≡ 0 → with_front front (entries_at n s bytes) ≡ total → total ≡ Ok (front, bytes)
unfolding entries_at
all_done front n s bytes total none so_far =
    let one : with_front front (entries_at n s bytes) ≡ Ok (front, bytes) = rw none (ap (λ (ns : List Entry). Ok (ns, bytes)) (append-nil front)) in
    sym so_far ∙ one

-- ---- what came is right

pub ok_from : {A : Type 0} (read : Result A FileFault) (x : A) → read ≡ Ok x → IsOk read
ok_from (Ok y) x is = refl
ok_from (Err e) x is = absurd cc

pub value_of : {A : Type 0} (read : Result A FileFault) → IsOk read → (x : A) × (read ≡ Ok x)
value_of (Ok x) right = (x, refl)
value_of (Err e) right = absurd cc

ok_with_front : (front : List Entry) (read : Result (List Entry × List ℕ) FileFault) → IsOk read → IsOk (with_front front read)
ok_with_front front (Ok x) right = refl
ok_with_front front (Err e) right = absurd cc

ok_before : (b : ℕ) (s : FileFault) (read : Result (List Entry × List ℕ) FileFault) → IsOk (then_more b s read) → IsOk read
ok_before b s (Ok x) right = refl
ok_before b s (Err e) right = absurd cc

-- entries that are right, of all that are to come
pub some_right : (front : List Entry) (n a k : ℕ) (s : FileFault) (bytes : List ℕ) (m : ℕ) (all : List ℕ) → k ≤ (m - n) + a → n ≤ m → a ≤ n
    → entries_at (m - n) s all ≡ Ok (front, bytes) → IsOk (entries_at a s bytes) → IsOk (entries_at k s all)
some_right front n a k s bytes m all low within le so_far right =
    let both : entries_at ((m - n) + a) s all ≡ with_front front (entries_at a s bytes) = entries_at-add (m - n) a s all ∙ ap (then_more a s) so_far in
    let together : IsOk (entries_at ((m - n) + a) s all) = subst IsOk (sym both) (ok_with_front front (entries_at a s bytes) right) in
    ok_before (((m - n) + a) - k) s (entries_at k s all) (subst IsOk (in_parts ((m - n) + a) k s all low) together)

pub nothing_yet : (m : ℕ) (s : FileFault) (bytes : List ℕ) → entries_at (m - m) s bytes ≡ Ok ([], bytes)
unfolding entries_at
nothing_yet m s bytes = let none : m - m ≡ 0 = omega arith in rw none refl

pub more_come : (front more : List Entry) (n a m : ℕ) (s : FileFault) (bytes rest all : List ℕ) → n ≤ m → a ≤ n → entries_at (m - n) s all ≡ Ok (front, bytes) → entries_at a s bytes ≡ Ok (more, rest)
    → entries_at (m - (n - a)) s all ≡ Ok (front ++ more, rest)
more_come front more n a m s bytes rest all within le so_far h =
    let k : m - (n - a) ≡ (m - n) + a = omega (arith, within, le) in
    ap (λ (i : ℕ). entries_at i s all) k ∙ entries_at-add (m - n) a s all ∙ ap (then_more a s) so_far ∙ ap (with_front front) h
