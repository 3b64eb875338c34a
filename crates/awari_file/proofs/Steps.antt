-- Steps over a reader: what a piece of its bytes gives is what all that it has left gives.
use Rattle.std.proofs.Common.{◌≡◌, ℕ, zero, suc, ◌<◌, ◌≤◌, List, [], ◌∷◌, ◌++◌, length, Option, Some, None, Result, Ok, Err, refl, sym, ap, subst, ◌∙◌, ◌⊎◌, inl, inr, append_assoc, arith}
use Rattle.std.specs.Io.KnownBytes.{Consumes, IsAtEnd}
use Rattle.awari_file.specs.declared.faults.FileFault.{FileFault}
use Rattle.awari_file.specs.declared.faults.FileFault.TheVariants as faults
use Rattle.awari_file.specs.Reading.{Fails, IsOwn}
use Rattle.awari_file.specs.Source as source
use Rattle.awari_file.specs.Source.{IsAt, StopsIn, StopsFor, HasFault}
use Rattle.awari_file.specs.FileText.{IsBytes}
use Rattle.std.specs.Prelude.{IsOk}
use Rattle.awari_streams.specs.Counted.{Grew}
use Rattle.awari_file.proofs.FieldLaws.{Reader, IsField}
use Rattle.awari_file.proofs.Loop.{ok_from, value_of}
use Rattle.awari_file.proofs.FileLaws.{IsWhy, piece_fails, piece_gives, piece_own, read_stops, early_from_short}

abbrev some : List ℕ → Option (List ℕ)
some xs = Some xs

some_is : (xs ys : List ℕ) → some xs ≡ some ys → xs ≡ ys
some_is xs ys h = cc

pub consumes_some : (a b : Option (List ℕ)) (xs front : List ℕ) → a ≡ Some xs → Consumes a b front → (rest : List ℕ) × (b ≡ Some rest) × (xs ≡ front ++ rest)
consumes_some None b xs front h c = absurd cc
consumes_some (Some ys) None xs front h c = absurd c
consumes_some (Some ys) (Some rest) xs front h c = (rest, refl, sym (some_is ys xs h) ∙ c)

pub end_is : (b : Option (List ℕ)) (rest : List ℕ) → b ≡ Some rest → IsAtEnd b → rest ≡ []
end_is None rest h e = absurd cc
end_is (Some xs) rest h e = sym (some_is xs rest h) ∙ e

pub why_is : (s : FileFault) (b : Option (List ℕ)) (rest : List ℕ) (old new : ℕ) → b ≡ Some rest → source.IsWhy s b old new → IsWhy s rest
why_is faults.Truncated b rest old new h why = end_is b rest h why
why_is faults.Read b rest old new h why = tt
why_is faults.Memory b rest old new h why = why
why_is faults.Magic b rest old new h why = why
why_is faults.Version b rest old new h why = why
why_is faults.LevelOutOfRange b rest old new h why = why
why_is faults.Count b rest old new h why = why
why_is faults.EntryForm b rest old new h why = why
why_is faults.Digest b rest old new h why = why
why_is faults.Trailing b rest old new h why = why
why_is faults.Write b rest old new h why = why

IsBytes-cons : (x : ℕ) (xs : List ℕ) → x < 256 → IsBytes xs → IsBytes (x ∷ xs)
IsBytes-cons x xs h p zero = h
IsBytes-cons x xs h p (suc i) = p i

pub IsBytes-append : (xs ys : List ℕ) → IsBytes xs → IsBytes ys → IsBytes (xs ++ ys)
IsBytes-append [] ys p q = q
IsBytes-append (x ∷ xs) ys p q = IsBytes-cons x (xs ++ ys) (p zero) (IsBytes-append xs ys (λ k. p (suc k)) q)

-- a fault in the piece that came
pub step_fails : (Y : Type 0) (n : ℕ) (f : Reader Y) → IsField Y n f → (s e : FileFault) (front whole left : List ℕ) (a b : Option (List ℕ)) (old new : ℕ)
    → IsAt whole left a → Consumes a b front → (length front < n → source.IsWhy s b old new) → f s front ≡ Err e → Fails e (f faults.Truncated left)
step_fails Y n f is s e front whole left a b old new here took why h =
    let (rest, b-is, parts) = consumes_some a b left front here.known_is took in
    rw parts (piece_fails Y n f is s e front rest (λ lt. why_is s b rest old new b-is (why lt)) h)

-- a value in the piece that came
pub step_gives : (Y : Type 0) (n : ℕ) (f : Reader Y) → IsField Y n f → (s : FileFault) (front whole left : List ℕ) (x : Y × List ℕ) (a b : Option (List ℕ))
    → IsAt whole left a → Consumes a b front → length front ≤ n → f s front ≡ Ok x → IsBytes front
    → (rest : List ℕ) × IsAt whole rest b × (f faults.Truncated left ≡ Ok (x.0, rest))
step_gives Y n f is s front whole left x a b here took small h fits =
    let (rest, b-is, parts) = consumes_some a b left front here.known_is took in (
      rest,
      record {
        done = here.done ++ front;
        known_is = b-is;
        parts = here.parts ∙ ap (λ (t : List ℕ). here.done ++ t) parts ∙ sym (append_assoc here.done front rest);
        bytes = IsBytes-append here.done front here.bytes fits;
      },
      ap (f faults.Truncated) parts ∙ piece_gives Y n f is s front rest x small h,
    )

-- the reader's fault in the piece that came
pub step_stops : (Y : Type 0) (n : ℕ) (f : Reader Y) → IsField Y n f → (s : FileFault) (front whole left : List ℕ) (a b : Option (List ℕ))
    → IsAt whole left a → Consumes a b front → f s front ≡ Err faults.Read → StopsIn (HasFault faults.Truncated f) left b
step_stops Y n f is s front whole left a b here took h =
    let (rest, b-is, parts) = consumes_some a b left front here.known_is took in
    record { came = front; rest = rest; known_is = b-is; parts = parts; kind = read_stops Y n f is s front h }

-- a fault of a field's own in the piece that came
pub step_whole : (Y : Type 0) (n : ℕ) (f : Reader Y) → IsField Y n f → (s e : FileFault) (front whole left : List ℕ) (a b : Option (List ℕ)) (old new : ℕ)
    → IsAt whole left a → Consumes a b front → (length front < n → source.IsWhy s b old new) → IsOwn e → f s front ≡ Err e → StopsIn (HasFault e f) left b
step_whole Y n f is s e front whole left a b old new here took why own h =
    let (rest, b-is, parts) = consumes_some a b left front here.known_is took in
    record { came = front; rest = rest; known_is = b-is; parts = parts; kind = piece_own Y n f is s e front rest (λ lt. why_is s b rest old new b-is (why lt)) own h }

not_the_readers : (s : FileFault) → s ≡ faults.Truncated → s ≡ faults.Read → ⊥
not_the_readers s early read = absurd cc

-- bytes are missing only where the reader answered no fault
pub step_early : (Y : Type 0) (n : ℕ) (f : Reader Y) → IsField Y n f → (s : FileFault) (front : List ℕ) (old new : ℕ) → ((s ≡ faults.Read → ⊥) → new ≡ old) → f s front ≡ Err faults.Truncated → new ≡ old
step_early Y n f is s front old new calm h = calm (not_the_readers s (early_from_short Y n f is s front h))

-- the fault that a `?` passes on
pub fault_was : {X : Type 0} (r : Result X FileFault) (d e : FileFault) → r ≡ Err d → r ≡ Err e → d ≡ e
fault_was (Ok x) d e h k = absurd cc
fault_was (Err f) d e h k = cc

-- a fault that is not want of memory
pub not_lacking : {X : Type 0} (e d : FileFault) (read : Result X FileFault) → (d ≡ faults.Memory → ⊥) → e ≡ d → (read ≡ Err e) ⊎ ((e ≡ faults.Memory) × IsOk read) → read ≡ Err d
not_lacking e d read other is (inl h) = h ∙ ap (λ (f : FileFault). Err f) is
not_lacking e d read other is (inr h) = absurd (other (sym is ∙ h.0))

pub own_not_memory : (d : FileFault) → IsOwn d → d ≡ faults.Memory → ⊥
own_not_memory d own is = subst IsOwn is own

-- what is right in the piece that came is right in all that is left
pub step_right : (Y : Type 0) (n : ℕ) (f : Reader Y) → IsField Y n f → (s : FileFault) (front whole left : List ℕ) (a b : Option (List ℕ))
    → IsAt whole left a → Consumes a b front → length front ≤ n → IsOk (f s front) → IsOk (f faults.Truncated left)
step_right Y n f is s front whole left a b here took small right =
    let (rest, b-is, parts) = consumes_some a b left front here.known_is took in
    let (x, h) = value_of (f s front) right in
    ok_from (f faults.Truncated left) (x.0, rest) (ap (f faults.Truncated) parts ∙ piece_gives Y n f is s front rest x small h)

-- where reading stops, fault by fault
pub stops_for : (sound : List ℕ → Type 0) (refused : FileFault → List ℕ → Type 0) (lacking : Type 0) (left : List ℕ) (known : Option (List ℕ)) (e : FileFault) → (e ≡ faults.Read → StopsIn sound left known)
    → (e ≡ faults.Memory → lacking) → (IsOwn e → StopsIn (refused e) left known) → StopsFor sound refused lacking left known e
stops_for sound refused lacking left known faults.Read read memory own = read refl
stops_for sound refused lacking left known faults.Memory read memory own = memory refl
stops_for sound refused lacking left known faults.Truncated read memory own = tt
stops_for sound refused lacking left known faults.Magic read memory own = own tt
stops_for sound refused lacking left known faults.Version read memory own = own tt
stops_for sound refused lacking left known faults.LevelOutOfRange read memory own = own tt
stops_for sound refused lacking left known faults.Count read memory own = own tt
stops_for sound refused lacking left known faults.EntryForm read memory own = own tt
stops_for sound refused lacking left known faults.Digest read memory own = own tt
stops_for sound refused lacking left known faults.Trailing read memory own = own tt
stops_for sound refused lacking left known faults.Write read memory own = own tt

-- where reading stops in a part, it stops in the whole
pub stops_along : (sound whole : List ℕ → Type 0) (refused fails : FileFault → List ℕ → Type 0) (lacking wanting : Type 0) (left bytes : List ℕ) (known : Option (List ℕ)) (e : FileFault)
    → (StopsIn sound left known → StopsIn whole bytes known) → ((d : FileFault) → StopsIn (refused d) left known → StopsIn (fails d) bytes known) → (lacking → wanting)
    → StopsFor sound refused lacking left known e → StopsFor whole fails wanting bytes known e
stops_along sound whole refused fails lacking wanting left bytes known faults.Read read own memory stop = read stop
stops_along sound whole refused fails lacking wanting left bytes known faults.Memory read own memory stop = memory stop
stops_along sound whole refused fails lacking wanting left bytes known faults.Truncated read own memory stop = tt
stops_along sound whole refused fails lacking wanting left bytes known faults.Magic read own memory stop = own faults.Magic stop
stops_along sound whole refused fails lacking wanting left bytes known faults.Version read own memory stop = own faults.Version stop
stops_along sound whole refused fails lacking wanting left bytes known faults.LevelOutOfRange read own memory stop = own faults.LevelOutOfRange stop
stops_along sound whole refused fails lacking wanting left bytes known faults.Count read own memory stop = own faults.Count stop
stops_along sound whole refused fails lacking wanting left bytes known faults.EntryForm read own memory stop = own faults.EntryForm stop
stops_along sound whole refused fails lacking wanting left bytes known faults.Digest read own memory stop = own faults.Digest stop
stops_along sound whole refused fails lacking wanting left bytes known faults.Trailing read own memory stop = own faults.Trailing stop
stops_along sound whole refused fails lacking wanting left bytes known faults.Write read own memory stop = own faults.Write stop

-- a refusal that came after others
pub refused_later : (only e : FileFault) (first old new : ℕ) → first ≤ old → (e ≡ only) × Grew old new × (old ≤ new) → (e ≡ only) × Grew first new × (first ≤ new)
refused_later only e first old new before (is, grew, more) = (is, omega (arith, before, grew), omega (arith, before, more))
