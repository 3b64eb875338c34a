-- A level that is read is spelled so, what is spelled so is read, and a fault is the first one.
use Rattle.std.proofs.Common.{◌≡◌, ◌≢◌, ◌⊎◌, ℕ, ◌+◌, ◌^◌, ◌≤◌, ◌<◌, zero, suc, Bool, true, false, not, cond, ltb, eqb, List, [], ◌∷◌, ◌++◌, length, Option, Some, None, Result, Ok, Err, refl, sym, ap, subst, ◌∙◌, append_assoc, arith, inl, inr}
use Rattle.std.specs.Prelude.{codes}
use Rattle.std.specs.Fmt.{decimal, signed_decimal}
use Rattle.std.specs.List.{flat_map, AllByRecursion}
use Rattle.std.proofs.lemmas.Bool.{false≢true, or_right, eqb-true, eqb-false, eq-eqb, ne_eqb, ltb-true, lt-ltb, ltb-false, le-ltb}
use Rattle.std.proofs.lemmas.List.Concat.{flat_map-cons}
use Rattle.awari_rank.specs.Rank.{size_of}
use Rattle.awari_table.specs.declared.TheConstants.{HIGHEST_LEVEL}
use Rattle.awari_table.specs.declared.images.Entry.{Entry}
use Rattle.awari_table.specs.declared.images.Image.{Image}
use Rattle.awari_table.specs.declared.lines.Header.{Header}
use Rattle.awari_table.specs.declared.faults.TableFault.{TableFault}
use Rattle.awari_table.specs.declared.faults.TableFault.TheVariants.{Line, Order, High, Short, Memory}
use Rattle.awari_table.specs.Spelling.{plan_text, entry_line, header_line, block, IsEntry, IsImage}
use Rattle.awari_table.specs.Reading.{entry_at, header_at}
use Rattle.awari_table.specs.Blocks.{◌>>=◌, line_fault, or_fault, entries_at, opened_by, block_at, IsOpened}
use Rattle.awari_table.specs.TableFault.{has_line_feed, Opens, IsInside, IsNoHeader, IsNoEntry, IsDueAt}
use Rattle.awari_table.proofs.LineLaws.{TakesEntry, entry_takes, entry_again, TakesHeader, header_takes, header_again}

-- the value of a step that did not fail
bind_ok : {A B : Type 0} (r : Result A TableFault) (f : A → Result B TableFault) (y : B) → (r >>= f) ≡ Ok y → (x : A) × (r ≡ Ok x) × (f x ≡ Ok y)
bind_ok (Ok x) f y e = (x, refl, e)
bind_ok (Err d) f y e = absurd cc

-- which step failed
bind_err : {A B : Type 0} (r : Result A TableFault) (f : A → Result B TableFault) (y : TableFault) → (r >>= f) ≡ Err y → (r ≡ Err y) ⊎ ((x : A) × (r ≡ Ok x) × (f x ≡ Err y))
bind_err (Ok x) f y e = inr (x, refl, e)
bind_err (Err d) f y e = inl cc

or_fault_ok : {A : Type 0} (o : Option A) (fault : TableFault) (x : A) → or_fault o fault ≡ Ok x → o ≡ Some x
or_fault_ok None fault x e = absurd cc
or_fault_ok (Some y) fault x e = cc

or_fault_err : {A : Type 0} (o : Option A) (fault y : TableFault) → or_fault o fault ≡ Err y → (o ≡ None) × (fault ≡ y)
or_fault_err None fault y e = (refl, cc)
or_fault_err (Some x) fault y e = absurd cc

same_Ok : {A : Type 0} (x y : A) → ◌≡◌ {A = Result A TableFault} (Ok x) (Ok y) → x ≡ y
same_Ok x y e = cc

never : {A : Type 0} {P : Type 0} (x : A) (y : TableFault) → ◌≡◌ {A = Result A TableFault} (Ok x) (Err y) → P
never x y e = absurd cc

-- ---- entries

pub record TakesEntries (n : ℕ) (bytes : List ℕ) (x : List Entry × List ℕ) : Type 0 where
  pub parts : bytes ≡ flat_map entry_line x.0 ++ x.1
  pub sized : length x.0 ≡ n
  pub fits : AllByRecursion IsEntry x.0

entries_parts : (e : Entry) (es : List Entry) (rest : List ℕ) → flat_map entry_line (e ∷ es) ++ rest ≡ entry_line e ++ (flat_map entry_line es ++ rest)
entries_parts e es rest = ap (λ (t : List ℕ). t ++ rest) (flat_map-cons entry_line e es) ∙ append_assoc (entry_line e) (flat_map entry_line es) rest

pub entries_take : (n line : ℕ) (bytes : List ℕ) (x : List Entry × List ℕ) → entries_at n line bytes ≡ Ok x → TakesEntries n bytes x
unfolding entries_at
entries_take zero line bytes x e = subst (λ (y : List Entry × List ℕ). TakesEntries 0 bytes y) (same_Ok _ _ e) (record { parts = refl; sized = refl; fits = tt })
entries_take (suc n) line bytes x e =
    let a = bind_ok (or_fault (entry_at bytes) (line_fault line bytes)) (λ first. entries_at n (line + 1) first.1 >>= λ others. Ok (first.0 ∷ others.0, others.1)) x e in
    let b = bind_ok (entries_at n (line + 1) a.0.1) (λ others. Ok (a.0.0 ∷ others.0, others.1)) x a.2 in
    let first = entry_takes bytes a.0 (or_fault_ok (entry_at bytes) (line_fault line bytes) a.0 a.1) in
    let others = entries_take n (line + 1) a.0.1 b.0 b.1 in
    subst (λ (y : List Entry × List ℕ). TakesEntries (suc n) bytes y) (same_Ok _ _ b.2) (record {
      parts = first.parts ∙ ap (λ (t : List ℕ). entry_line a.0.0 ++ t) others.parts ∙ sym (entries_parts a.0.0 b.0.0 b.0.1);
      sized = ap suc others.sized;
      fits = (first.fits, others.fits);
    })

pub entries_again : (es : List Entry) (line : ℕ) (rest : List ℕ) → AllByRecursion IsEntry es → entries_at (length es) line (flat_map entry_line es ++ rest) ≡ Ok (es, rest)
unfolding entries_at
entries_again [] line rest fits = refl
entries_again (e ∷ es) line rest fits =
    ap (entries_at (suc (length es)) line) (entries_parts e es rest) ∙ rw (entry_again e (flat_map entry_line es ++ rest) fits.0, entries_again es (line + 1) rest fits.1) refl

-- where a line of the form that is due is missing
abbrev IsMissing : Type 0 → ℕ → List ℕ → TableFault → Type 0
IsMissing absent line bytes Short = has_line_feed bytes ≡ false
IsMissing absent line bytes (Line at) = (at ≡ line) × (has_line_feed bytes ≡ true) × absent
IsMissing absent line bytes (High at) = ⊥
IsMissing absent line bytes (Order at) = ⊥
IsMissing absent line bytes Memory = ⊥

missing_by : (absent : Type 0) (line : ℕ) (bytes : List ℕ) (b : Bool) → has_line_feed bytes ≡ b → absent → IsMissing absent line bytes (cond b (Line line) Short)
missing_by absent line bytes true e h = (refl, e, h)
missing_by absent line bytes false e h = e

missing : (absent : Type 0) (line : ℕ) (bytes : List ℕ) (fault : TableFault) → line_fault line bytes ≡ fault → absent → IsMissing absent line bytes fault
missing absent line bytes fault e h = subst (λ (f : TableFault). IsMissing absent line bytes f) e (missing_by absent line bytes (has_line_feed bytes) refl h)

missing_is : (absent : Type 0) (line : ℕ) (bytes : List ℕ) (fault : TableFault) → IsMissing absent line bytes fault → line_fault line bytes ≡ fault
missing_is absent line bytes Short h = rw h refl
missing_is absent line bytes (Line at) h = rw (h.1, h.0) refl
missing_is absent line bytes (High at) h = absurd h
missing_is absent line bytes (Order at) h = absurd h
missing_is absent line bytes Memory h = absurd h

record StopsInside (n line : ℕ) (bytes : List ℕ) (fault : TableFault) : Type 0 where
  entries : List Entry
  rest : List ℕ
  fits : AllByRecursion IsEntry entries
  due : length entries < n
  parts : bytes ≡ flat_map entry_line entries ++ rest
  missing : IsMissing (IsNoEntry rest) (line + length entries) rest fault

no_entry : (bytes : List ℕ) → entry_at bytes ≡ None → IsNoEntry bytes
no_entry bytes none e rest fits parts = let some : entry_at bytes ≡ Some (e, rest) = ap entry_at parts ∙ entry_again e rest fits in cc

entries_stop : (n line : ℕ) (bytes : List ℕ) (fault : TableFault) → entries_at n line bytes ≡ Err fault → StopsInside n line bytes fault
unfolding entries_at
entries_stop zero line bytes fault e = never ([], bytes) fault e
entries_stop (suc n) line bytes fault e =
    elim (bind_err (or_fault (entry_at bytes) (line_fault line bytes)) (λ first. entries_at n (line + 1) first.1 >>= λ others. Ok (first.0 ∷ others.0, others.1)) fault e) [
      | inl h ↦ stop_here n line bytes fault (or_fault_err (entry_at bytes) (line_fault line bytes) fault h)
      | inr h ↦
          let first = entry_takes bytes h.0 (or_fault_ok (entry_at bytes) (line_fault line bytes) h.0 h.1) in
          elim (bind_err (entries_at n (line + 1) h.0.1) (λ others. Ok (h.0.0 ∷ others.0, others.1)) fault h.2) [
            | inl k ↦ stop_later n line bytes h.0 fault first (entries_stop n (line + 1) h.0.1 fault k)
            | inr k ↦ never (h.0.0 ∷ k.0.0, k.0.1) fault k.2
          ]
    ]
  where
    stop_here : (n line : ℕ) (bytes : List ℕ) (fault : TableFault) → (entry_at bytes ≡ None) × (line_fault line bytes ≡ fault) → StopsInside (suc n) line bytes fault
    stop_here n line bytes fault h = record {
      entries = [];
      rest = bytes;
      fits = tt;
      due = omega arith;
      parts = refl;
      missing = let same : line + 0 ≡ line = omega arith in rw same (missing (IsNoEntry bytes) line bytes fault h.1 (no_entry bytes h.0));
    }

    stop_later : (n line : ℕ) (bytes : List ℕ) (x : Entry × List ℕ) (fault : TableFault) → TakesEntry bytes x → StopsInside n (line + 1) x.1 fault → StopsInside (suc n) line bytes fault
    stop_later n line bytes x fault first s = record {
      entries = x.0 ∷ s.entries;
      rest = s.rest;
      fits = (first.fits, s.fits);
      due = omega (arith, s.due);
      parts = first.parts ∙ ap (λ (t : List ℕ). entry_line x.0 ++ t) s.parts ∙ sym (entries_parts x.0 s.entries s.rest);
      missing = let same : line + suc (length s.entries) ≡ line + 1 + length s.entries = omega arith in rw same s.missing;
    }

-- ---- a level

opened_ok_by : (a b : Bool) (h o : Header × List ℕ) (high order : TableFault) → cond a (Err high) (cond (not b) (Err order) (Ok h)) ≡ Ok o → (a ≡ false) × (b ≡ true) × (h ≡ o)
opened_ok_by true b h o high order e = absurd cc
opened_ok_by false true h o high order e = (refl, refl, cc)
opened_ok_by false false h o high order e = absurd cc

opened_err_by : (a b : Bool) (h : Header × List ℕ) (high order f : TableFault) → cond a (Err high) (cond (not b) (Err order) (Ok h)) ≡ Err f → ((a ≡ true) × (high ≡ f)) ⊎ ((a ≡ false) × (b ≡ false) × (order ≡ f))
opened_err_by true b h high order f e = inl (refl, cc)
opened_err_by false true h high order f e = absurd cc
opened_err_by false false h high order f e = inr (refl, refl, cc)

-- the text begins with the next level's header
record IsOpen (next : ℕ) (bytes : List ℕ) (h : Header × List ℕ) : Type 0 where
  level : h.0.level ≡ next
  low : next ≤ HIGHEST_LEVEL
  limit : h.0.limit < 2 ^ 32
  parts : bytes ≡ header_line next h.0.limit ++ h.1

is_open : (next line : ℕ) (bytes : List ℕ) (h o : Header × List ℕ) → TakesHeader bytes h → opened_by next line h ≡ Ok o → IsOpen next bytes o
is_open next line bytes h o t e =
    let k = opened_ok_by (ltb HIGHEST_LEVEL h.0.level) (eqb h.0.level next) h o (High line) (Order line) e in
    let low : h.0.level ≤ HIGHEST_LEVEL = ltb-false HIGHEST_LEVEL h.0.level k.0 in
    let same : h.0.level ≡ next = eqb-true h.0.level next k.1 in
    subst (λ (y : Header × List ℕ). IsOpen next bytes y) k.2 (record {
      level = same;
      low = omega arith;
      limit = t.limit;
      parts = t.parts ∙ ap (λ (n : ℕ). header_line n h.0.limit ++ h.1) same;
    })

pub record TakesBlock (next : ℕ) (bytes : List ℕ) (x : Image × List ℕ) : Type 0 where
  pub parts : bytes ≡ block x.0 ++ x.1
  pub fits : IsImage next x.0

pub block_takes : (next line : ℕ) (bytes : List ℕ) (x : Image × List ℕ) → block_at next line bytes ≡ Ok x → TakesBlock next bytes x
unfolding block_at
block_takes next line bytes x e =
    let a = bind_ok (or_fault (header_at bytes) (line_fault line bytes)) (λ h. opened_by next line h >>= λ opened. entries_at (size_of next) (line + 1) opened.1 >>= λ es. Ok (record { level = next; limit = opened.0.limit; entries = es.0 }, es.1)) x e in
    let b = bind_ok (opened_by next line a.0) (λ opened. entries_at (size_of next) (line + 1) opened.1 >>= λ es. Ok (record { level = next; limit = opened.0.limit; entries = es.0 }, es.1)) x a.2 in
    let d = bind_ok (entries_at (size_of next) (line + 1) b.0.1) (λ es. Ok (record { level = next; limit = b.0.0.limit; entries = es.0 }, es.1)) x b.2 in
    let header = header_takes bytes a.0 (or_fault_ok (header_at bytes) (line_fault line bytes) a.0 a.1) in
    let begun = is_open next line bytes a.0 b.0 header b.1 in
    let es = entries_take (size_of next) (line + 1) b.0.1 d.0 d.1 in
    let whole : bytes ≡ header_line next b.0.0.limit ++ (flat_map entry_line d.0.0 ++ d.0.1) = begun.parts ∙ ap (λ (t : List ℕ). header_line next b.0.0.limit ++ t) es.parts in
    subst (λ (y : Image × List ℕ). TakesBlock next bytes y) (same_Ok _ _ d.2) (record {
      parts = whole ∙ sym (append_assoc (header_line next b.0.0.limit) (flat_map entry_line d.0.0) d.0.1);
      fits = record { number = refl; low = begun.low; limit = begun.limit; sized = es.sized; entries = es.fits };
    })

opened_again : (next line : ℕ) (h : Header × List ℕ) → h.0.level ≡ next → next ≤ HIGHEST_LEVEL → opened_by next line h ≡ Ok h
opened_again next line h same low =
    let a : ltb HIGHEST_LEVEL h.0.level ≡ false = le-ltb HIGHEST_LEVEL h.0.level (omega arith) in
    let b : eqb h.0.level next ≡ true = eq-eqb h.0.level next same in
    rw (a, b) refl

pub block_again : (next line : ℕ) (image : Image) (rest : List ℕ) → IsImage next image → block_at next line (block image ++ rest) ≡ Ok (image, rest)
unfolding block_at
block_again next line image rest fits =
    let header : Header = record { level = image.level; limit = image.limit } in
    let tail : List ℕ = flat_map entry_line image.entries ++ rest in
    let low : image.level ≤ HIGHEST_LEVEL = omega (arith, fits.low, fits.number) in
    let read : header_at (header_line image.level image.limit ++ tail) ≡ Some (header, tail) = header_again header tail (omega arith) fits.limit in
    let opened : opened_by image.level line (header, tail) ≡ Ok (header, tail) = opened_again image.level line (header, tail) refl low in
    let size : size_of image.level ≡ length image.entries = ap size_of fits.number ∙ sym fits.sized in
    let es : entries_at (length image.entries) (line + 1) tail ≡ Ok (image.entries, rest) = entries_again image.entries (line + 1) rest fits.entries in
    let here : block_at image.level line (header_line image.level image.limit ++ tail) ≡ Ok (image, rest) = rw (read, opened, size, es) refl in
    subst (λ (n : ℕ). block_at n line (block image ++ rest) ≡ Ok (image, rest)) fits.number (ap (block_at image.level line) (append_assoc (header_line image.level image.limit) (flat_map entry_line image.entries) rest) ∙ here)

no_header : (bytes : List ℕ) → header_at bytes ≡ None → IsNoHeader bytes
no_header bytes none level limit rest o =
    let h : Header = record { level = level; limit = limit } in
    let some : header_at bytes ≡ Some (h, rest) = ap header_at o.parts ∙ header_again h rest o.level_fits o.limit_fits in cc

opens : (bytes : List ℕ) (h : Header × List ℕ) → TakesHeader bytes h → Opens bytes h.0.level h.0.limit h.1
opens bytes h t = record { level_fits = t.level; limit_fits = t.limit; parts = t.parts }

due_missing : (next line : ℕ) (bytes : List ℕ) (fault : TableFault) → IsMissing (IsNoHeader bytes) line bytes fault → IsDueAt next line bytes fault
due_missing next line bytes Short m = inl m
due_missing next line bytes (Line at) m = inl m
due_missing next line bytes (High at) m = absurd m
due_missing next line bytes (Order at) m = absurd m
due_missing next line bytes Memory m = absurd m

is_inside : (next : ℕ) (bytes : List ℕ) (h : Header × List ℕ) (es : List Entry) (rest : List ℕ) → IsOpen next bytes h → AllByRecursion IsEntry es → length es < size_of next → h.1 ≡ flat_map entry_line es ++ rest → IsInside next bytes h.0.limit es rest
is_inside next bytes h es rest begun fits due parts = record {
  low = begun.low;
  limit_fits = begun.limit;
  fits = fits;
  due = due;
  parts = begun.parts ∙ ap (λ (t : List ℕ). header_line next h.0.limit ++ t) parts;
}

due_inside : (next line : ℕ) (bytes : List ℕ) (h : Header × List ℕ) (fault : TableFault) → IsOpen next bytes h → StopsInside (size_of next) (line + 1) h.1 fault → IsDueAt next line bytes fault
due_inside next line bytes h Short begun s = inr (h.0.limit, s.entries, s.rest, is_inside next bytes h s.entries s.rest begun s.fits s.due s.parts, s.missing)
due_inside next line bytes h (Line at) begun s = inr (h.0.limit, s.entries, s.rest, is_inside next bytes h s.entries s.rest begun s.fits s.due s.parts, s.missing.0, s.missing.1, s.missing.2)
due_inside next line bytes h (High at) begun s = absurd s.missing
due_inside next line bytes h (Order at) begun s = absurd s.missing
due_inside next line bytes h Memory begun s = absurd s.missing

due_header : (next line : ℕ) (bytes : List ℕ) (h : Header × List ℕ) (fault : TableFault) → TakesHeader bytes h → opened_by next line h ≡ Err fault → IsDueAt next line bytes fault
due_header next line bytes h fault t e =
    elim (opened_err_by (ltb HIGHEST_LEVEL h.0.level) (eqb h.0.level next) h (High line) (Order line) fault e) [
      | inl k ↦ subst (λ (f : TableFault). IsDueAt next line bytes f) k.1 (refl, h.0.level, h.0.limit, h.1, opens bytes h t, ltb-true HIGHEST_LEVEL h.0.level k.0)
      | inr k ↦ subst (λ (f : TableFault). IsDueAt next line bytes f) k.2 (refl, h.0.level, h.0.limit, h.1, opens bytes h t, ltb-false HIGHEST_LEVEL h.0.level k.0, eqb-false h.0.level next k.1)
    ]

pub block_stops : (next line : ℕ) (bytes : List ℕ) (fault : TableFault) → block_at next line bytes ≡ Err fault → IsDueAt next line bytes fault
unfolding block_at
block_stops next line bytes fault e =
    elim (bind_err (or_fault (header_at bytes) (line_fault line bytes)) (λ h. opened_by next line h >>= λ opened. entries_at (size_of next) (line + 1) opened.1 >>= λ es. Ok (record { level = next; limit = opened.0.limit; entries = es.0 }, es.1)) fault e) [
      | inl a ↦
          let h = or_fault_err (header_at bytes) (line_fault line bytes) fault a in
          due_missing next line bytes fault (missing (IsNoHeader bytes) line bytes fault h.1 (no_header bytes h.0))
      | inr a ↦
          let header = header_takes bytes a.0 (or_fault_ok (header_at bytes) (line_fault line bytes) a.0 a.1) in
          elim (bind_err (opened_by next line a.0) (λ opened. entries_at (size_of next) (line + 1) opened.1 >>= λ es. Ok (record { level = next; limit = opened.0.limit; entries = es.0 }, es.1)) fault a.2) [
            | inl b ↦ due_header next line bytes a.0 fault header b
            | inr b ↦
                elim (bind_err (entries_at (size_of next) (line + 1) b.0.1) (λ es. Ok (record { level = next; limit = b.0.0.limit; entries = es.0 }, es.1)) fault b.2) [
                  | inl d ↦ due_inside next line bytes b.0 fault (is_open next line bytes a.0 b.0 header b.1) (entries_stop (size_of next) (line + 1) b.0.1 fault d)
                  | inr d ↦ never (record { level = next; limit = b.0.0.limit; entries = d.0.0 }, d.0.1) fault d.2
                ]
          ]
    ]

pub memory_due : (next line : ℕ) (bytes : List ℕ) → IsOpened next bytes → IsDueAt next line bytes Memory
memory_due next line bytes o =
    let t = header_takes bytes o.0 o.1 in
    (o.0.0.limit, o.0.1, subst (λ (n : ℕ). Opens bytes n o.0.0.limit o.0.1) o.2 (opens bytes o.0 t), o.3)

-- ---- a due fault is the one that is met

feed_within : (a b : List ℕ) → has_line_feed (a ++ 10 ∷ b) ≡ true
feed_within [] b = refl
feed_within (c ∷ a) b = or_right (eqb c 10) (has_line_feed (a ++ 10 ∷ b)) (feed_within a b)

-- a line has its line feed
line_has_feed : (front rest bytes : List ℕ) → bytes ≡ (front ++ 10 ∷ []) ++ rest → has_line_feed bytes ≡ true
line_has_feed front rest bytes e = ap has_line_feed (e ∙ append_assoc front (10 ∷ []) rest) ∙ feed_within front rest

none_of : {X : Type 0} (o : Option X) → ((x : X) → o ≡ Some x → ⊥) → o ≡ None
none_of None h = refl
none_of (Some x) h = absurd (h x refl)

header_none : (line : ℕ) (bytes : List ℕ) (fault : TableFault) → IsMissing (IsNoHeader bytes) line bytes fault → header_at bytes ≡ None
header_none line bytes Short m = none_of (header_at bytes) (λ x e.
    let t = header_takes bytes x e in
    let feed = line_has_feed (codes "level " ++ decimal x.0.level ++ codes " limit " ++ decimal x.0.limit) x.1 bytes t.parts in
    false≢true (sym m ∙ feed))
header_none line bytes (Line at) m = none_of (header_at bytes) (λ x e. m.2 x.0.level x.0.limit x.1 (opens bytes x (header_takes bytes x e)))
header_none line bytes (High at) m = absurd m
header_none line bytes (Order at) m = absurd m
header_none line bytes Memory m = absurd m

entry_none : (line : ℕ) (bytes : List ℕ) (fault : TableFault) → IsMissing (IsNoEntry bytes) line bytes fault → entry_at bytes ≡ None
entry_none line bytes Short m = none_of (entry_at bytes) (λ x e.
    let t = entry_takes bytes x e in
    let feed = line_has_feed (signed_decimal x.0.value ++ 32 ∷ [] ++ plan_text x.0.plan ++ 32 ∷ [] ++ decimal x.0.dist) x.1 bytes t.parts in
    false≢true (sym m ∙ feed))
entry_none line bytes (Line at) m = none_of (entry_at bytes) (λ x e. let t = entry_takes bytes x e in m.2 x.0 x.1 t.fits t.parts)
entry_none line bytes (High at) m = absurd m
entry_none line bytes (Order at) m = absurd m
entry_none line bytes Memory m = absurd m

missed : (next line : ℕ) (bytes : List ℕ) (fault : TableFault) → IsMissing (IsNoHeader bytes) line bytes fault → block_at next line bytes ≡ Err fault
unfolding block_at
missed next line bytes fault m = rw (header_none line bytes fault m) (ap (λ (f : TableFault). Err f) (missing_is (IsNoHeader bytes) line bytes fault m))

entries_missed : (n : ℕ) (es : List Entry) (line : ℕ) (rest : List ℕ) (fault : TableFault) → AllByRecursion IsEntry es → length es < n → IsMissing (IsNoEntry rest) (line + length es) rest fault
    → entries_at n line (flat_map entry_line es ++ rest) ≡ Err fault
unfolding entries_at
entries_missed zero es line rest fault fits lt m = absurd (omega arith)
entries_missed (suc n) [] line rest fault fits lt m =
    let same : line + 0 ≡ line = omega arith in
    let here : IsMissing (IsNoEntry rest) line rest fault = rw same at m in
    rw (entry_none line rest fault here) (ap (λ (f : TableFault). Err f) (missing_is (IsNoEntry rest) line rest fault here))
entries_missed (suc n) (e ∷ es) line rest fault fits lt m =
    let same : line + suc (length es) ≡ line + 1 + length es = omega arith in
    let later : IsMissing (IsNoEntry rest) (line + 1 + length es) rest fault = rw same at m in
    ap (entries_at (suc n) line) (entries_parts e es rest) ∙ rw (entry_again e (flat_map entry_line es ++ rest) fits.0, entries_missed n es (line + 1) rest fault fits.1 (omega arith) later) refl

inside_missed : (next line : ℕ) (bytes : List ℕ) (limit : ℕ) (es : List Entry) (rest : List ℕ) (fault : TableFault) → IsInside next bytes limit es rest → IsMissing (IsNoEntry rest) (line + 1 + length es) rest fault → block_at next line bytes ≡ Err fault
unfolding block_at
inside_missed next line bytes limit es rest fault i m =
    let header : Header = record { level = next; limit = limit } in
    let tail : List ℕ = flat_map entry_line es ++ rest in
    let low : next ≤ HIGHEST_LEVEL = i.low in
    let read : header_at (header_line next limit ++ tail) ≡ Some (header, tail) = header_again header tail (omega arith) i.limit_fits in
    let opened : opened_by next line (header, tail) ≡ Ok (header, tail) = opened_again next line (header, tail) refl low in
    let met : entries_at (size_of next) (line + 1) tail ≡ Err fault = entries_missed (size_of next) es (line + 1) rest fault i.fits i.due m in
    ap (block_at next line) i.parts ∙ rw (read, opened, met) refl

header_met : (next line : ℕ) (bytes : List ℕ) (other limit : ℕ) (rest : List ℕ) (fault : TableFault) → Opens bytes other limit rest → opened_by next line (record { level = other; limit = limit }, rest) ≡ Err fault → block_at next line bytes ≡ Err fault
unfolding block_at
header_met next line bytes other limit rest fault o e =
    let header : Header = record { level = other; limit = limit } in
    let read : header_at (header_line other limit ++ rest) ≡ Some (header, rest) = header_again header rest o.level_fits o.limit_fits in
    ap (block_at next line) o.parts ∙ rw (read, e) refl

pub due_again : (next line : ℕ) (bytes : List ℕ) (fault : TableFault) → fault ≢ Memory → IsDueAt next line bytes fault → block_at next line bytes ≡ Err fault
due_again next line bytes Short other (inl m) = missed next line bytes Short m
due_again next line bytes Short other (inr i) = inside_missed next line bytes i.0 i.1 i.2 Short i.3 i.4
due_again next line bytes (Line at) other (inl m) = missed next line bytes (Line at) m
due_again next line bytes (Line at) other (inr i) = inside_missed next line bytes i.0 i.1 i.2 (Line at) i.3 (i.4, i.5, i.6)
due_again next line bytes (High at) other d =
    let high : ltb HIGHEST_LEVEL d.1 ≡ true = lt-ltb HIGHEST_LEVEL d.1 d.5 in
    header_met next line bytes d.1 d.2 d.3 (High at) d.4 (rw (high, d.0) refl)
due_again next line bytes (Order at) other d =
    let low : ltb HIGHEST_LEVEL d.1 ≡ false = le-ltb HIGHEST_LEVEL d.1 d.5 in
    let differs : eqb d.1 next ≡ false = ne_eqb d.1 next d.6 in
    header_met next line bytes d.1 d.2 d.3 (Order at) d.4 (rw (low, differs, d.0) refl)
due_again next line bytes Memory other d = absurd (other refl)
