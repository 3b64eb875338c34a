-- What one call of next says of the text, and that a text has one reading.
use Rattle.std.proofs.Common.{◌≡◌, ◌≢◌, ◌⊎◌, ℕ, ◌+◌, List, [], ◌∷◌, ◌++◌, Option, Some, None, Result, Ok, Err, refl, sym, ap, subst, ◌∙◌, append_assoc, inl, inr}
use Rattle.std.proofs.lemmas.List.Concat.{flat_map-cons}
use Rattle.awari_table.specs.declared.images.Image.{Image}
use Rattle.awari_table.specs.declared.faults.TableFault.{TableFault}
use Rattle.awari_table.specs.declared.faults.TableFault.TheVariants.{Line, Order, High, Short, Memory}
use Rattle.awari_table.specs.Spelling.{block, table_text, IsImage, AreImages}
use Rattle.awari_table.specs.Blocks.{Fails, Steps, AnswersAfter, Answers, block_at, IsOpened}
use Rattle.awari_table.specs.TableFault.{IsDueAt}
use Rattle.awari_table.specs.Place.{Place, Reads}
use Rattle.awari_table.proofs.BlockLaws.{block_takes, block_again, block_stops, memory_due, due_again}

-- ---- one call

failed : (next line : ℕ) (bytes : List ℕ) (fault : TableFault) → Fails fault (block_at next line bytes) → (fault ≡ Memory → IsOpened next bytes) → IsDueAt next line bytes fault
failed next line bytes (Line at) e memory = block_stops next line bytes (Line at) e
failed next line bytes (Order at) e memory = block_stops next line bytes (Order at) e
failed next line bytes (High at) e memory = block_stops next line bytes (High at) e
failed next line bytes Short e memory = block_stops next line bytes Short e
failed next line bytes Memory e memory = memory_due next line bytes (memory refl)

reads_by_steps : (old : Place) (result : Result (Option Image) TableFault) (new : Place) → old.refused ≡ None → Steps old result new → Reads old result new
reads_by_steps old (Ok None) new was s = record { was = was; rest = s.0; same = s.1 }
reads_by_steps old (Ok (Some image)) new was s =
    let t = block_takes old.next old.line old.rest (image, new.rest) s.0 in
    record { was = was; fits = t.fits; parts = t.parts; next = s.1; line = s.2; refused = s.3 }
reads_by_steps old (Err fault) new was s = inl (record { was = was; some = s.0; due = failed old.next old.line old.rest fault s.1 s.2; after = s.3 })

reads_by : (before : Option TableFault) (old : Place) (result : Result (Option Image) TableFault) (new : Place) → old.refused ≡ before → AnswersAfter before old result new → Reads old result new
reads_by None old result new was a = reads_by_steps old result new was a
reads_by (Some fault) old result new was a = subst (λ (r : Result (Option Image) TableFault). Reads old r new) (sym a.0) (inr (record { was = was; same = a.1 }))

pub reads : (old : Place) (result : Result (Option Image) TableFault) (new : Place) → Answers old result new → Reads old result new
reads old result new a = reads_by old.refused old result new refl a

at_fresh : (old : Place) (result : Result (Option Image) TableFault) (new : Place) → old.refused ≡ None → Answers old result new → Steps old result new
at_fresh old result new was a = subst (λ (o : Option TableFault). AnswersAfter o old result new) was a

pub block_some : (image : Image) (rest : List ℕ) → block image ++ rest ≡ [] → ⊥
block_some image rest e = absurd cc

same_image : (r : Result (Image × List ℕ) TableFault) (a b : Image) (x y : List ℕ) → r ≡ Ok (a, x) → r ≡ Ok (b, y) → a ≡ b
same_image r a b x y p q = let both : ◌≡◌ {A = Image × List ℕ} (a, x) (b, y) = cc in ap (λ (k : Image × List ℕ). k.0) both

-- what reading gives is answered
given : (old : Place) (result : Result (Option Image) TableFault) (new : Place) (image : Image) (rest : List ℕ) → old.rest ≡ block image ++ rest → block_at old.next old.line old.rest ≡ Ok (image, rest) → Steps old result new
    → (result ≡ Ok (Some image)) ⊎ (result ≡ Err Memory)
given old (Ok None) new image rest parts e s = absurd (block_some image rest (sym parts ∙ s.0))
given old (Ok (Some other)) new image rest parts e s = inl (ap (λ (i : Image). Ok (Some i)) (same_image _ _ _ _ _ s.0 e))
given old (Err (Line at)) new image rest parts e s = absurd cc
given old (Err (Order at)) new image rest parts e s = absurd cc
given old (Err (High at)) new image rest parts e s = absurd cc
given old (Err Short) new image rest parts e s = absurd cc
given old (Err Memory) new image rest parts e s = inr refl

pub reads_only : (old : Place) (result : Result (Option Image) TableFault) (new : Place) (image : Image) (rest : List ℕ) → Answers old result new → old.refused ≡ None → IsImage old.next image → old.rest ≡ block image ++ rest
    → (result ≡ Ok (Some image)) ⊎ (result ≡ Err Memory)
reads_only old result new image rest a was fits parts =
    given old result new image rest parts (ap (block_at old.next old.line) parts ∙ block_again old.next old.line image rest fits) (at_fresh old result new was a)

refused_by : (old : Place) (result : Result (Option Image) TableFault) (new : Place) (fault : TableFault) → old.rest ≢ [] → block_at old.next old.line old.rest ≡ Err fault → Steps old result new
    → (result ≡ Err fault) ⊎ (result ≡ Err Memory)
refused_by old (Ok None) new fault some e s = absurd (some s.0)
refused_by old (Ok (Some other)) new fault some e s = absurd cc
refused_by old (Err (Line at)) new fault some e s = inl cc
refused_by old (Err (Order at)) new fault some e s = inl cc
refused_by old (Err (High at)) new fault some e s = inl cc
refused_by old (Err Short) new fault some e s = inl cc
refused_by old (Err Memory) new fault some e s = inr refl

pub reads_exact : (old : Place) (result : Result (Option Image) TableFault) (new : Place) (fault : TableFault) → Answers old result new → old.refused ≡ None → old.rest ≢ [] → fault ≢ Memory → IsDueAt old.next old.line old.rest fault
    → (result ≡ Err fault) ⊎ (result ≡ Err Memory)
reads_exact old result new fault a was some other due = refused_by old result new fault some (due_again old.next old.line old.rest fault other due) (at_fresh old result new was a)

pub reads_again : (old : Place) (result : Result (Option Image) TableFault) (new : Place) (fault : TableFault) → Answers old result new → old.refused ≡ Some fault → (result ≡ Err fault) × (new ≡ old)
reads_again old result new fault a was = subst (λ (o : Option TableFault). AnswersAfter o old result new) was a

-- ---- one reading

-- two due faults are one
pub due_once : (level line : ℕ) (bytes : List ℕ) (f g : TableFault) → f ≢ Memory → g ≢ Memory → IsDueAt level line bytes f → IsDueAt level line bytes g → f ≡ g
due_once level line bytes f g m n d e = let both : ◌≡◌ {A = Result (Image × List ℕ) TableFault} (Err f) (Err g) = sym (due_again level line bytes f m d) ∙ due_again level line bytes g n e in cc

-- no fault is due where an image stands
pub due_image : (level line : ℕ) (image : Image) (rest bytes : List ℕ) (fault : TableFault) → fault ≢ Memory → IsImage level image → bytes ≡ block image ++ rest → IsDueAt level line bytes fault → ⊥
due_image level line image rest bytes fault m fits e due =
    let read : block_at level line bytes ≡ Ok (image, rest) = ap (block_at level line) e ∙ block_again level line image rest fits in
    let met : block_at level line bytes ≡ Err fault = due_again level line bytes fault m due in
    cc

-- images that begin the same bytes are one, and so is what follows them
pub same_head : (level : ℕ) (x y : Image) (after rest : List ℕ) → IsImage level x → IsImage level y → block x ++ after ≡ block y ++ rest → (x ≡ y) × (after ≡ rest)
same_head level x y after rest f g e =
    let one = block_again level 0 x after f in
    let two = block_again level 0 y rest g in
    let both : ◌≡◌ {A = Result (Image × List ℕ) TableFault} (Ok (x, after)) (Ok (y, rest)) = sym one ∙ ap (block_at level 0) e ∙ two in
    let pair : ◌≡◌ {A = Image × List ℕ} (x, after) (y, rest) = cc in
    (ap (λ (p : Image × List ℕ). p.0) pair, ap (λ (p : Image × List ℕ). p.1) pair)

pub table_text-cons : (image : Image) (images : List Image) (rest : List ℕ) → table_text (image ∷ images) ++ rest ≡ block image ++ (table_text images ++ rest)
table_text-cons image images rest = ap (λ (t : List ℕ). t ++ rest) (flat_map-cons block image images) ∙ append_assoc (block image) (table_text images) rest

-- the long list has the short one as its front, and what follows the short one's text spells the others
pub record IsLonger (short long : List Image) (after rest : List ℕ) : Type 0 where
  pub top : Image
  pub others : List Image
  pub parts : long ≡ short ++ top ∷ others
  pub spelled : after ≡ block top ++ (table_text others ++ rest)

-- two readings of the same bytes
abbrev pub Parting : List Image → List Image → List ℕ → List ℕ → Type 0
Parting xs ys after rest = ((xs ≡ ys) × (after ≡ rest)) ⊎ (IsLonger xs ys after rest ⊎ IsLonger ys xs rest after)

longer_by : (x y : Image) (xs ys : List Image) (after rest : List ℕ) → x ≡ y → IsLonger xs ys after rest → IsLonger (x ∷ xs) (y ∷ ys) after rest
longer_by x y xs ys after rest head l = record { top = l.top; others = l.others; parts = ap (λ (h : Image). h ∷ ys) (sym head) ∙ ap (λ (t : List Image). x ∷ t) l.parts; spelled = l.spelled }

pub parting : (level : ℕ) (xs ys : List Image) (after rest : List ℕ) → AreImages level xs → AreImages level ys → table_text xs ++ after ≡ table_text ys ++ rest → Parting xs ys after rest
parting level [] [] after rest f g e = inl (refl, e)
parting level [] (y ∷ ys) after rest f g e = inr (inl (record { top = y; others = ys; parts = refl; spelled = e ∙ table_text-cons y ys rest }))
parting level (x ∷ xs) [] after rest f g e = inr (inr (record { top = x; others = xs; parts = refl; spelled = sym e ∙ table_text-cons x xs after }))
parting level (x ∷ xs) (y ∷ ys) after rest f g e =
    let h = same_head level x y (table_text xs ++ after) (table_text ys ++ rest) f.0 g.0 (sym (table_text-cons x xs after) ∙ e ∙ table_text-cons y ys rest) in
    elim (parting (level + 1) xs ys after rest f.1 g.1 h.1) [
      | inl same ↦ let both : ◌≡◌ {A = List Image} (x ∷ xs) (y ∷ ys) = ap (λ (t : List Image). x ∷ t) same.0 ∙ ap (λ (i : Image). i ∷ ys) h.0 in inl (both, same.1)
      | inr other ↦ elim other [
        | inl l ↦ inr (inl (longer_by x y xs ys after rest h.0 l))
        | inr l ↦ inr (inr (longer_by y x ys xs rest after (sym h.0) l))
      ]
    ]

-- the images of a text are told by it
pub images_are : (xs ys : List Image) → AreImages 0 xs → AreImages 0 ys → table_text xs ≡ table_text ys → xs ≡ ys
images_are xs ys f g e =
    elim (parting 0 xs ys [] [] f g (ap (λ (t : List ℕ). t ++ []) e)) [
      | inl same ↦ same.0
      | inr other ↦ elim other [
        | inl l ↦ absurd (block_some l.top (table_text l.others ++ []) (sym l.spelled))
        | inr l ↦ absurd (block_some l.top (table_text l.others ++ []) (sym l.spelled))
      ]
    ]
