-- A file whose digest was compared.
use Rattle.std.proofs.Common.{◌≡◌, ◌≢◌, inl, inr, ℕ, List, [], ◌∷◌, ◌++◌, Option, Some, None, Result, Ok, Err, refl, sym, ap, subst, ◌∙◌, append_assoc, append-nil, arith}
use Rattle.std.specs.Prelude.{IfSome, ⊤, ◌≤◌}
use Rattle.awari_streams.specs.Counted.{Grew}
use Rattle.awari_table.specs.declared.images.Entry.{Entry}
use Rattle.awari_file.specs.declared.contents.Header.{Header}
use Rattle.awari_file.specs.declared.contents.Loaded.{Loaded}
use Rattle.awari_file.specs.declared.sealing.Behind.{Behind}
use Rattle.awari_file.specs.declared.sealing.Behind.TheVariants as behind
use Rattle.awari_file.specs.declared.sealing.Unsealed.{Unsealed}
use Rattle.awari_file.specs.declared.faults.FileFault.{FileFault}
use Rattle.awari_file.specs.declared.faults.FileFault.TheVariants as faults
use Rattle.awari_file.specs.FileText.{body_text, HasFile, IsFileOf}
use Rattle.awari_file.specs.Reading.{file_in, end_at}
use Rattle.awari_file.specs.Source.{Answers, StopsIn, IsSoundSoFar, IsRefused}
use Rattle.awari_file.specs.Sealing.{IsBehind, IsUnsealed, Seals, Stops, StopsBy, EndsEarly, Tells, TellsBehind, digest_of, fault_behind}
use Rattle.awari_file.proofs.EndLaws.{another_digest, nothing_behind, some_behind, too_short}
use Rattle.awari_file.proofs.WholeLaws.{after_end, known_intro, loaded_of}
use Rattle.awari_file.proofs.WholeSpell.{file_on, size_small, low_in}

abbrev body_of : Loaded → List ℕ
body_of found = body_text found.version found.image found.below

-- what is made of a tail behind the body
on_tail : (found : Loaded) (tail : List ℕ) → HasFile found.version found.image found.below → (h : Header) × ((digest : List ℕ) → after_end h found.image.entries (Ok digest) ≡ Ok (record found { digest = digest }))
    × (file_in (body_of found ++ tail) ≡ after_end h found.image.entries (end_at (body_of found) faults.Truncated tail))
on_tail found tail has = (_, λ digest. refl, file_on found.version found.image found.below tail has (size_small found.image.level (low_in found.version found.image.level has.low)))

pub tail_fails : (found : Loaded) (tail : List ℕ) (e : FileFault) → HasFile found.version found.image found.below → end_at (body_of found) faults.Truncated tail ≡ Err e → file_in (body_of found ++ tail) ≡ Err e
tail_fails found tail e has is = let (h, gives, on) = on_tail found tail has in on ∙ ap (after_end h found.image.entries) is

tail_gives : (found : Loaded) (tail digest : List ℕ) → HasFile found.version found.image found.below → end_at (body_of found) faults.Truncated tail ≡ Ok digest → file_in (body_of found ++ tail) ≡ Ok (record found { digest = digest })
tail_gives found tail digest has is = let (h, gives, on) = on_tail found tail has in on ∙ ap (after_end h found.image.entries) is ∙ gives digest

-- ---- behind the digest

left_whole : (digest over rest left : List ℕ) → left ≡ digest ++ (over ++ rest) → over ≡ [] → rest ≡ [] → left ≡ digest ++ []
left_whole digest over rest left parts none end = parts ∙ ap (λ (l : List ℕ). digest ++ (l ++ rest)) none ∙ ap (λ (l : List ℕ). digest ++ l) end

pub sealed_is : (file : Unsealed) (bytes : List ℕ) (known : Option (List ℕ)) → IsUnsealed file bytes known → file.loaded.digest ≡ digest_of file.loaded → file.behind ≡ behind.Nothing
    → (file_in bytes ≡ Ok file.loaded) × IsFileOf bytes file.loaded
sealed_is file bytes known is same none =
    let found = file.loaded in
    let (over, rest) = subst (λ (b : Behind). IsBehind b is.ends.over is.ends.rest) none is.ends.behind_is in
    let left : is.left ≡ found.digest ++ [] = left_whole found.digest is.ends.over is.ends.rest is.left is.ends.parts over rest in (
      ap file_in (is.parts ∙ ap (λ (l : List ℕ). body_of found ++ l) left) ∙ tail_gives found (found.digest ++ []) found.digest is.has (nothing_behind (body_of found) found.digest is.ends.whole same),
      record { has = is.has; text = is.parts ∙ ap (λ (l : List ℕ). body_of found ++ l) (left ∙ append-nil found.digest ∙ same); digest = same },
    )

-- what came of the file, up to what came behind its digest
came_of : (bytes body left digest over rest : List ℕ) → bytes ≡ body ++ left → left ≡ digest ++ (over ++ rest) → bytes ≡ (body ++ (digest ++ over)) ++ rest
came_of bytes body left digest over rest parts ends =
    parts ∙ ap (λ (l : List ℕ). body ++ l) (ends ∙ sym (append_assoc digest over rest)) ∙ sym (append_assoc body (digest ++ over) rest)

-- a fault of its own is that of what came, and of all
refused_by : (file : Unsealed) (bytes : List ℕ) (known : Option (List ℕ)) (e : FileFault) (is : IsUnsealed file bytes known)
    → ((more : List ℕ) → end_at (body_of file.loaded) faults.Truncated (file.loaded.digest ++ (is.ends.over ++ more)) ≡ Err e)
    → (file_in bytes ≡ Err e) × StopsIn (IsRefused e) bytes known
refused_by file bytes known e is fails =
    let found = file.loaded in
    let over = is.ends.over in
    let came = body_of found ++ (found.digest ++ over) in (
      ap file_in (is.parts ∙ ap (λ (l : List ℕ). body_of found ++ l) is.ends.parts) ∙ tail_fails found (found.digest ++ (over ++ is.ends.rest)) e is.has (fails is.ends.rest),
      record {
        came = came;
        rest = is.ends.rest;
        known_is = is.ends.known_is;
        parts = came_of bytes (body_of found) is.left found.digest over is.ends.rest is.parts is.ends.parts;
        kind = tail_fails found (found.digest ++ over) e is.has (ap (λ (l : List ℕ). end_at (body_of found) faults.Truncated (found.digest ++ l)) (sym (append-nil over)) ∙ fails []);
      },
    )

still_some : (over more : List ℕ) → over ≢ [] → (over ++ more) ≢ []
still_some [] more some = absurd (some refl)
still_some (x ∷ over) more some = λ e. absurd cc

-- the reader's fault behind a right digest
read_behind : (file : Unsealed) (bytes : List ℕ) (known : Option (List ℕ)) (is : IsUnsealed file bytes known) → file.loaded.digest ≡ digest_of file.loaded → is.ends.over ≡ [] → StopsIn IsSoundSoFar bytes known
read_behind file bytes known is same none =
    let found = file.loaded in
    let whole = tail_gives found (found.digest ++ []) found.digest is.has (nothing_behind (body_of found) found.digest is.ends.whole same) in
    record {
      came = body_of found ++ (found.digest ++ is.ends.over);
      rest = is.ends.rest;
      known_is = is.ends.known_is;
      parts = came_of bytes (body_of found) is.left found.digest is.ends.over is.ends.rest is.parts is.ends.parts;
      kind = inr (rw (none, whole) refl);
    }

behind_stops : (after : Behind) (e : FileFault) (file : Unsealed) (bytes : List ℕ) (known : Option (List ℕ)) (is : IsUnsealed file bytes known) → file.loaded.digest ≡ digest_of file.loaded
    → IsBehind after is.ends.over is.ends.rest → fault_behind after ≡ Some e → Stops bytes known e
behind_stops behind.Nothing e file bytes known is same here there = absurd cc
behind_stops behind.Byte e file bytes known is same some there =
    let trailing : faults.Trailing ≡ e = cc in
    subst (Stops bytes known) trailing
    (refused_by file bytes known faults.Trailing is (λ more. some_behind (body_of file.loaded) file.loaded.digest (is.ends.over ++ more) is.ends.whole same (still_some is.ends.over more some)))
behind_stops behind.Fault e file bytes known is same none there =
    let read : faults.Read ≡ e = cc in
    subst (Stops bytes known) read (tt, read_behind file bytes known is same none)

-- the fault that comparing the digest answers is the first
pub seal_stops : (file : Unsealed) (bytes : List ℕ) (known : Option (List ℕ)) (e : FileFault) → IsUnsealed file bytes known → Seals {X = ⊤} file (Err e) → Stops bytes known e
seal_stops file bytes known e is (inl another) =
    subst (Stops bytes known) (sym another.1)
    (refused_by file bytes known faults.Digest is (λ more. another_digest (body_of file.loaded) file.loaded.digest (is.ends.over ++ more) is.ends.whole another.0))
seal_stops file bytes known e is (inr behind) = behind_stops file.behind e file bytes known is behind.0 is.ends.behind_is behind.1

-- ---- where a part of the file stops

pub known_stops : (a b : Option (List ℕ)) (e : FileFault) → ((xs : List ℕ) → a ≡ Some xs → Stops xs b e) → IfSome a (λ xs. Stops xs b e)
known_stops a b e f = known_intro a (λ xs. Stops xs b e) f

pub known_unsealed : (a b : Option (List ℕ)) (file : Unsealed) → ((xs : List ℕ) → a ≡ Some xs → IsUnsealed file xs b) → IfSome a (λ xs. IsUnsealed file xs b)
known_unsealed a b file f = known_intro a (λ xs. IsUnsealed file xs b) f

pub tells : (e : FileFault) (old new : ℕ) → (e ≡ faults.Read → Grew old new) → (e ≡ faults.Truncated → new ≡ old) → old ≤ new → Tells e old new
tells faults.Read old new read early more = read refl
tells faults.Truncated old new read early more = early refl
tells faults.Memory old new read early more = more
tells faults.Magic old new read early more = more
tells faults.Version old new read early more = more
tells faults.LevelOutOfRange old new read early more = more
tells faults.Count old new read early more = more
tells faults.EntryForm old new read early more = more
tells faults.Digest old new read early more = more
tells faults.Trailing old new read early more = more
tells faults.Write old new read early more = more

-- the same of entries that are the same
pub taken_as : (xs : List ℕ) (h : Header) (new es : List Entry) (done : List ℕ) → new ≡ es
    → HasFile h.version (loaded_of h new []).image h.below × (done ≡ body_of (loaded_of h new []))
    → HasFile h.version (loaded_of h es []).image h.below × (done ≡ body_of (loaded_of h es []))
taken_as xs h new es done same is = subst (λ (l : List Entry). HasFile h.version (loaded_of h l []).image h.below × (done ≡ body_of (loaded_of h l []))) same is

-- no whole digest came
pub end_stops : (e : FileFault) (found : Loaded) (bytes left : List ℕ) (known : Option (List ℕ)) → HasFile found.version found.image found.below → bytes ≡ body_of found ++ left → EndsEarly left known e → Stops bytes known e
end_stops faults.Truncated found bytes left known has parts short = (ap file_in parts ∙ tail_fails found left faults.Truncated has (too_short (body_of found) left short), tt)
end_stops faults.Read found bytes left known has parts stop = (
  tt,
  record {
    came = body_of found ++ stop.came;
    rest = stop.rest;
    known_is = stop.known_is;
    parts = parts ∙ ap (λ (l : List ℕ). body_of found ++ l) stop.parts ∙ sym (append_assoc (body_of found) stop.came stop.rest);
    kind = inl (tail_fails found stop.came faults.Truncated has (too_short (body_of found) stop.came stop.kind));
  },
)
end_stops faults.Memory found bytes left known has parts early = absurd early
end_stops faults.Magic found bytes left known has parts early = absurd early
end_stops faults.Version found bytes left known has parts early = absurd early
end_stops faults.LevelOutOfRange found bytes left known has parts early = absurd early
end_stops faults.Count found bytes left known has parts early = absurd early
end_stops faults.EntryForm found bytes left known has parts early = absurd early
end_stops faults.Digest found bytes left known has parts early = absurd early
end_stops faults.Trailing found bytes left known has parts early = absurd early
end_stops faults.Write found bytes left known has parts early = absurd early

-- ---- of what is read, if that is known

given : {P Q : List ℕ → Type 0} (a : Option (List ℕ)) → IfSome a P → ((xs : List ℕ) → P xs → Q xs) → IfSome a Q
given None is then = tt
given (Some xs) is then = then xs is

pub image_found : (a b : Option (List ℕ)) (file : Unsealed) → IfSome a (λ xs. IsUnsealed file xs b) → Seals {X = ⊤} file (Ok tt) → IfSome a (λ xs. IsFileOf xs file.loaded)
image_found a b file is right = given a is (λ xs unsealed. (sealed_is file xs b unsealed right.0 right.1).1)

pub image_read : (a b : Option (List ℕ)) (file : Unsealed) → IfSome a (λ xs. IsUnsealed file xs b) → Seals {X = ⊤} file (Ok tt) → IfSome a (λ xs. file_in xs ≡ Ok file.loaded)
image_read a b file is right = given a is (λ xs unsealed. (sealed_is file xs b unsealed right.0 right.1).0)

pub seal_fault : (a b : Option (List ℕ)) (file : Unsealed) (e : FileFault) → IfSome a (λ xs. IsUnsealed file xs b) → Seals {X = ⊤} file (Err e) → IfSome a (λ xs. Stops xs b e)
seal_fault a b file e is wrong = given a is (λ xs unsealed. seal_stops file xs b e unsealed wrong)

-- the answer is a fault
pub exact_fault : (a b : Option (List ℕ)) (r : Result Loaded FileFault) (d e : FileFault) → r ≡ Err d → d ≡ e → IfSome a (λ xs. Stops xs b e) → IfSome a (λ xs. Answers (λ (x : Loaded). x) r (file_in xs))
exact_fault a b r d e is same stops = given a stops (λ xs here. rw (is, same) here.0)

pub stops_in_file : (a b : Option (List ℕ)) (e : FileFault) → IfSome a (λ xs. Stops xs b e) → IfSome a (λ xs. StopsBy xs b e)
stops_in_file a b e stops = given a stops (λ xs here. here.1)

-- ---- the faults of the reader

more_behind : (b : Behind) (old new : ℕ) → TellsBehind b old new → old ≤ new
more_behind behind.Nothing old new told = omega (arith, told)
more_behind behind.Byte old new told = omega (arith, told)
more_behind behind.Fault old new told = told.1

fault_tells : (b : Behind) (e : FileFault) (old new : ℕ) → fault_behind b ≡ Some e → TellsBehind b old new → Tells e old new
fault_tells behind.Nothing e old new is told = absurd cc
fault_tells behind.Byte e old new is told = let trailing : faults.Trailing ≡ e = cc in subst (λ (d : FileFault). Tells d old new) trailing (omega (arith, told))
fault_tells behind.Fault e old new is told = let read : faults.Read ≡ e = cc in subst (λ (d : FileFault). Tells d old new) read told.0

-- what comparing the digest answers tells of them too
pub seal_tells : (file : Unsealed) (e : FileFault) (old new : ℕ) → Seals {X = ⊤} file (Err e) → TellsBehind file.behind old new → Tells e old new
seal_tells file e old new (inl another) told = subst (λ (d : FileFault). Tells d old new) (sym another.1) (more_behind file.behind old new told)
seal_tells file e old new (inr after) told = fault_tells file.behind e old new after.1 told
