-- From the parts of a file to all of it.
use Rattle.std.proofs.Common.{◌≡◌, ℕ, ◌-◌, ◌<◌, get_or, List, [], ◌++◌, length, take, Option, Some, None, Result, Ok, refl, sym, ap, ◌∙◌, arith, append_assoc, inl}
use Rattle.std.specs.Prelude.{IfSome}
use Rattle.std.proofs.lemmas.List.{length-append, take_at}
use Rattle.awari_rank.specs.Rank.{size_of}
use Rattle.awari_table.specs.declared.images.Entry.{Entry}
use Rattle.awari_file.specs.declared.contents.Header.{Header}
use Rattle.awari_file.specs.declared.contents.Loaded.{Loaded}
use Rattle.awari_file.specs.declared.faults.FileFault.{FileFault}
use Rattle.awari_file.specs.declared.faults.FileFault.TheVariants.{Truncated}
use Rattle.awari_file.specs.Reading.{◌>>=◌, header_at, entries_at, end_at, file_in, Fails}
use Rattle.awari_file.specs.Source.{IsAt, StopsIn, HasFault, IsRefused, IsSoundSoFar}
use Rattle.awari_file.proofs.FieldLaws.{took}
use Rattle.awari_file.proofs.FileLaws.{fails_along, header-is}

abbrev some_of : List ℕ → Option (List ℕ)
some_of xs = Some xs

same_some : (xs ys : List ℕ) → some_of xs ≡ some_of ys → xs ≡ ys
same_some xs ys h = cc

pub known_intro : (a : Option (List ℕ)) (P : List ℕ → Type 0) → ((xs : List ℕ) → a ≡ Some xs → P xs) → IfSome a P
known_intro None P f = tt
known_intro (Some xs) P f = f xs refl

nothing_fits : (i : ℕ) → get_or [] i 0 < 256
nothing_fits i = omega arith

pub start_at : (xs : List ℕ) (a : Option (List ℕ)) → a ≡ Some xs → IsAt xs xs a
start_at xs a known = record { done = []; known_is = known; parts = refl; bytes = λ i. nothing_fits i }

pub before_is : (xs done rest : List ℕ) → xs ≡ done ++ rest → take (length xs - length rest) xs ≡ done
before_is xs done rest e =
    let n : length xs - length rest ≡ length done = omega (arith, length-append done rest, ap length e) in
    ap (λ (k : ℕ). take k xs) n ∙ ap (take (length done)) e ∙ take_at done rest (length done) refl

abbrev pub loaded_of : Header → List Entry → List ℕ → Loaded
loaded_of h es digest = record { version = h.version; image = record { level = h.level; limit = h.limit; entries = es }; below = h.below; digest = digest }

abbrev after_entries : List ℕ → Header → Result (List Entry × List ℕ) FileFault → Result Loaded FileFault
after_entries xs h read = read >>= λ entries. end_at (take (length xs - length entries.1) xs) Truncated entries.1 >>= λ digest. Ok (loaded_of h entries.0 digest)

abbrev pub after_end : Header → List Entry → Result (List ℕ) FileFault → Result Loaded FileFault
after_end h es read = read >>= λ digest. Ok (loaded_of h es digest)

after_header : (xs : List ℕ) (h : Header) (rest : List ℕ) → header_at Truncated xs ≡ Ok (h, rest) → file_in xs ≡ after_entries xs h (entries_at (size_of h.level) Truncated rest)
unfolding file_in
after_header xs h rest e = rw e refl

pub header_bad : (e : FileFault) (xs : List ℕ) → Fails e (header_at Truncated xs) → Fails e (file_in xs)
unfolding file_in
header_bad e xs bad = fails_along e (header_at Truncated xs) (file_in xs) (λ h. rw h refl) bad

pub entries_bad : (e : FileFault) (xs : List ℕ) (h : Header) (rest : List ℕ) (n : ℕ) → n ≡ size_of h.level → header_at Truncated xs ≡ Ok (h, rest) → Fails e (entries_at n Truncated rest) → Fails e (file_in xs)
entries_bad e xs h rest n size header bad =
    fails_along e (entries_at n Truncated rest) (file_in xs) (λ is. after_header xs h rest header ∙ ap (λ (k : ℕ). after_entries xs h (entries_at k Truncated rest)) (sym size) ∙ ap (after_entries xs h) is) bad

pub at_the_end : (xs : List ℕ) (h : Header) (rest : List ℕ) (n : ℕ) (es : List Entry) (left done : List ℕ) → n ≡ size_of h.level → header_at Truncated xs ≡ Ok (h, rest) → entries_at n Truncated rest ≡ Ok (es, left) → xs ≡ done ++ left
    → file_in xs ≡ after_end h es (end_at done Truncated left)
at_the_end xs h rest n es left done size header entries parts =
    after_header xs h rest header ∙ ap (λ (k : ℕ). after_entries xs h (entries_at k Truncated rest)) (sym size) ∙ ap (after_entries xs h) entries
    ∙ ap (λ (d : List ℕ). after_end h es (end_at d Truncated left)) (before_is xs done left parts)

pub all_ok : (xs : List ℕ) (h : Header) (rest : List ℕ) (n : ℕ) (es : List Entry) (left done digest : List ℕ) → n ≡ size_of h.level → header_at Truncated xs ≡ Ok (h, rest) → entries_at n Truncated rest ≡ Ok (es, left) → xs ≡ done ++ left
    → end_at done Truncated left ≡ Ok digest → file_in xs ≡ Ok (loaded_of h es digest)
all_ok xs h rest n es left done digest size header entries parts is = at_the_end xs h rest n es left done size header entries parts ∙ ap (after_end h es) is

-- ---- where the reader stops

pub stops_in_header : (xs : List ℕ) (known : Option (List ℕ)) → StopsIn (HasFault Truncated header_at) xs known → StopsIn IsSoundSoFar xs known
unfolding file_in
stops_in_header xs known stop = record { came = stop.came; rest = stop.rest; known_is = stop.known_is; parts = stop.parts; kind = inl (rw stop.kind refl) }

pub stops_in_entries : (xs : List ℕ) (h : Header) (rest : List ℕ) (n : ℕ) (known : Option (List ℕ)) → n ≡ size_of h.level → header_at Truncated xs ≡ Ok (h, rest) → StopsIn (HasFault Truncated (entries_at n)) rest known → StopsIn IsSoundSoFar xs known
stops_in_entries xs h rest n known size header stop =
    let t = took Header 52 header_at header-is Truncated Truncated xs (h, rest) header in
    let came = t.front ++ stop.came in
    record {
      came = came;
      rest = stop.rest;
      known_is = stop.known_is;
      parts = t.parts ∙ ap (λ (l : List ℕ). t.front ++ l) stop.parts ∙ sym (append_assoc t.front stop.came stop.rest);
      kind = inl (after_header came h stop.came (t.again stop.came) ∙ ap (λ (k : ℕ). after_entries came h (entries_at k Truncated stop.came)) (sym size) ∙ ap (after_entries came h) stop.kind);
    }

-- ---- the fault of what came

pub fault_in_header : (e : FileFault) (xs : List ℕ) (known : Option (List ℕ)) → StopsIn (HasFault e header_at) xs known → StopsIn (IsRefused e) xs known
unfolding file_in
fault_in_header e xs known stop = record { came = stop.came; rest = stop.rest; known_is = stop.known_is; parts = stop.parts; kind = rw stop.kind refl }

pub fault_in_entries : (e : FileFault) (xs : List ℕ) (h : Header) (rest : List ℕ) (n : ℕ) (known : Option (List ℕ)) → n ≡ size_of h.level → header_at Truncated xs ≡ Ok (h, rest) → StopsIn (HasFault e (entries_at n)) rest known → StopsIn (IsRefused e) xs known
fault_in_entries e xs h rest n known size header stop =
    let t = took Header 52 header_at header-is Truncated Truncated xs (h, rest) header in
    let came = t.front ++ stop.came in
    record {
      came = came;
      rest = stop.rest;
      known_is = stop.known_is;
      parts = t.parts ∙ ap (λ (l : List ℕ). t.front ++ l) stop.parts ∙ sym (append_assoc t.front stop.came stop.rest);
      kind = after_header came h stop.came (t.again stop.came) ∙ ap (λ (k : ℕ). after_entries came h (entries_at k Truncated stop.came)) (sym size) ∙ ap (after_entries came h) stop.kind;
    }
