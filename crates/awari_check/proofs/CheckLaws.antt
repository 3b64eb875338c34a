-- How far a check has come, and that the first fault is one.
use Rattle.std.proofs.Common.{◌≡◌, ◌≢◌, ◌⊎◌, ℕ, ◌+◌, ◌<◌, suc, ◌≤◌, List, [], ◌∷◌, ◌++◌, length, None, Some, Option, Result, Err, refl, sym, ap, subst, ◌∙◌, append_assoc, arith, inl, inr}
use Rattle.std.specs.Prelude.{IfOk, IfErr}
use Rattle.std.proofs.lemmas.List.{length-append, append-nil}
use Rattle.std.proofs.lemmas.List.Concat.{flat_map-append, flat_map-cons}
use Rattle.std.proofs.Math.Seq.{take-append_seam, get_or-append_seam}
use Rattle.std.specs.List.{flat_map}
use Rattle.awari_table.specs.declared.TheConstants.{HIGHEST_LEVEL}
use Rattle.awari_table.specs.declared.images.Image.{Image}
use Rattle.awari_table.specs.declared.faults.TableFault.{TableFault}
use Rattle.awari_table.specs.declared.faults.TableFault.TheVariants.{Line, Order, High, Short, Memory}
use Rattle.awari_table.specs.Images.{no_image}
use Rattle.awari_table.specs.Shelves.{Consistent, IsShelf}
use Rattle.awari_table.specs.Spelling.{entry_line, header_line, block, table_text, line_count, IsImage, AreImages}
use Rattle.awari_table.specs.TableFault.{Opens, IsDueAt}
use Rattle.awari_table.specs.Place.{Place, TakesImage, IsAtEnd, Refuses, Repeats}
use Rattle.awari_table.proofs.Spelled.{AreImages-push}
use Rattle.awari_table.proofs.TextLaws.{due_once, due_image, same_head, block_some, IsLonger, parting}
use Rattle.awari_table.proofs.ShelfLemmas.{IsShelf-push}
use Rattle.awari_verify.specs.VerifyFault.{IsDue}
use Rattle.awari_check.specs.declared.checks.CheckFault.{CheckFault}
use Rattle.awari_check.specs.declared.checks.CheckFault.TheVariants.{Table, Verify}
use Rattle.awari_check.specs.CheckFault.{IsShelfText, IsLevelFault, IsCheckFault}
use Rattle.awari_check.specs.Stops.{Stops}
use Rattle.awari_table.specs.Certificate.{DistancesAreLeast}
use Rattle.awari_verify.proofs.FaultLemmas.{inconsistent_from_fault, one_due}

-- ---- how far a check has come

-- the shelf's levels are those of the text up to the place
pub record IsChecked (text : List ℕ) (shelf : List Image) (place : Place) : Type 0 where
  pub parts : text ≡ table_text shelf ++ place.rest
  pub fits : AreImages 0 shelf
  pub holds : IsShelf shelf
  pub next : place.next ≡ length shelf
  pub line : place.line ≡ 1 + line_count shelf
  pub fresh : place.refused ≡ None

line_count-push : (images : List Image) (image : Image) → line_count (images ++ image ∷ []) ≡ line_count images + 1 + length image.entries
line_count-push [] image = omega arith
line_count-push (i ∷ images) image = omega (arith, line_count-push images image)

pub checked_more : (text : List ℕ) (shelf next : List Image) (place : Place) (image : Image) (after : Place) → IsChecked text shelf place → TakesImage place image after → Consistent shelf image → next ≡ shelf ++ image ∷ []
    → IsChecked text next after
checked_more text shelf next place image after r t right next-is =
    let spelled : table_text (shelf ++ image ∷ []) ≡ table_text shelf ++ block image = flat_map-append block shelf (image ∷ []) ∙ ap (λ (t : List ℕ). table_text shelf ++ t) (flat_map-cons block image [] ∙ append-nil (block image)) in
    let level : IsImage (0 + length shelf) image = let same : place.next ≡ 0 + length shelf = omega (arith, r.next) in rw same at t.fits in
    subst (λ (is : List Image). IsChecked text is after) (sym next-is) (record {
      parts = r.parts ∙ ap (λ (u : List ℕ). table_text shelf ++ u) t.parts ∙ sym (append_assoc (table_text shelf) (block image) after.rest) ∙ ap (λ (u : List ℕ). u ++ after.rest) (sym spelled);
      fits = AreImages-push 0 shelf image r.fits level;
      holds = IsShelf-push shelf image r.holds right;
      next = omega (arith, t.next, r.next, length-append shelf (image ∷ []));
      line = omega (arith, t.line, r.line, line_count-push shelf image);
      fresh = t.refused;
    })

-- ---- what is answered

pub checked_all : (text : List ℕ) (shelf : List Image) (place after : Place) → IsChecked text shelf place → IsAtEnd place after → IsShelfText text shelf
checked_all text shelf place after r e = record { fits = r.fits; shelf = r.holds; parts = r.parts ∙ ap (λ (u : List ℕ). table_text shelf ++ u) e.rest ∙ append-nil (table_text shelf) }

pub checked_text : (text : List ℕ) (shelf : List Image) (place after : Place) (fault : TableFault) → IsChecked text shelf place → Refuses place fault after ⊎ Repeats place fault after → IsCheckFault text (Table fault)
checked_text text shelf place after fault r (inl f) = record {
  images = shelf;
  rest = place.rest;
  fits = r.fits;
  shelf = r.holds;
  parts = r.parts;
  some = f.some;
  due = rw (← r.next, ← r.line) f.due;
}
checked_text text shelf place after fault r (inr f) = let e : ◌≡◌ {A = Option TableFault} None (Some fault) = sym r.fresh ∙ f.was in absurd cc

-- the header of an image opens its block
block_opens : (level line : ℕ) (image : Image) (bytes rest : List ℕ) → IsImage level image → bytes ≡ block image ++ rest → IsDueAt level line bytes Memory
block_opens level line image bytes rest fits e =
    let tail : List ℕ = flat_map entry_line image.entries ++ rest in
    let low : level ≤ HIGHEST_LEVEL = fits.low in
    let header : Opens bytes level image.limit tail = record {
      level_fits = omega arith;
      limit_fits = fits.limit;
      parts = e ∙ append_assoc (header_line image.level image.limit) (flat_map entry_line image.entries) rest ∙ ap (λ (n : ℕ). header_line n image.limit ++ tail) fits.number;
    } in
    (image.limit, tail, header, low)

level_stops : (shelf : List Image) (place : Place) (image : Image) (after : Place) (fault : CheckFault) → place.next ≡ length shelf → TakesImage place image after → Stops shelf image fault → IsLevelFault shelf place.rest fault
level_stops shelf place image after (Table fault) next t s =
    let fits : IsImage (length shelf) image = rw next at t.fits in
    subst (λ (f : TableFault). IsDueAt (length shelf) (1 + line_count shelf) place.rest f) (sym s) (block_opens (length shelf) (1 + line_count shelf) image place.rest after.rest fits t.parts)
level_stops shelf place image after (Verify level fault) next t s =
    let fits : IsImage (length shelf) image = rw next at t.fits in
    (s.0 ∙ fits.number, image, after.rest, fits, t.parts, s.1)

pub checked_stop : (text : List ℕ) (shelf : List Image) (place : Place) (image : Image) (after : Place) (fault : CheckFault) → IsChecked text shelf place → TakesImage place image after → Stops shelf image fault → IsCheckFault text fault
checked_stop text shelf place image after fault r t s = record {
  images = shelf;
  rest = place.rest;
  fits = r.fits;
  shelf = r.holds;
  parts = r.parts;
  some = λ e. block_some image after.rest (sym t.parts ∙ e);
  due = level_stops shelf place image after fault r.next t s;
}

-- ---- the first fault is one

AreImages-at : (level : ℕ) (images : List Image) (top : Image) (others : List Image) → AreImages level (images ++ top ∷ others) → IsImage (level + length images) top
AreImages-at level [] top others fits = let same : level + 0 ≡ level = omega arith in rw same fits.0
AreImages-at level (i ∷ images) top others fits = let same : level + suc (length images) ≡ level + 1 + length images = omega arith in rw same (AreImages-at (level + 1) images top others fits.1)

IsShelf-at : (images : List Image) (top : Image) (others : List Image) → IsShelf (images ++ top ∷ others) → Consistent images top
IsShelf-at images top others shelf =
    let within : length images < length (images ++ top ∷ others) = omega (arith, length-append images (top ∷ others)) in
    rw (take-append_seam images (top ∷ others), get_or-append_seam images top others no_image) at (shelf.consistent (length images) within)

-- no fault is due where a level stands that is consistent over the shelf
no_level_fault : (shelf : List Image) (rest : List ℕ) (top : Image) (after : List ℕ) (fault : CheckFault) → IsImage (length shelf) top → Consistent shelf top → rest ≡ block top ++ after → fault ≢ Table Memory → IsLevelFault shelf rest fault → ⊥
no_level_fault shelf rest top after (Table fault) fits right e other due = due_image (length shelf) (1 + line_count shelf) top after rest fault (λ h. other (ap (λ (f : TableFault). Table f) h)) fits e due
no_level_fault shelf rest top after (Verify level fault) fits right e other due =
    let same = same_head (length shelf) due.1 top due.2 after due.3 fits (sym due.4 ∙ e) in
    inconsistent_from_fault DistancesAreLeast shelf top fault (subst (λ (i : Image). IsDue shelf i fault) same.0 due.5) right

not_longer : (text : List ℕ) (long : List Image) (rest : List ℕ) (fault : CheckFault) → (f : IsCheckFault text fault) → fault ≢ Table Memory → AreImages 0 long → IsShelf long → IsLonger f.images long f.rest rest → ⊥
not_longer text long rest fault f other fits shelf l =
    let top : IsImage (0 + length f.images) l.top = AreImages-at 0 f.images l.top l.others (subst (λ (is : List Image). AreImages 0 is) l.parts fits) in
    let right : Consistent f.images l.top = IsShelf-at f.images l.top l.others (subst (λ (is : List Image). IsShelf is) l.parts shelf) in
    let same : 0 + length f.images ≡ length f.images = omega arith in
    no_level_fault f.images f.rest l.top (table_text l.others ++ rest) fault (rw same at top) right l.spelled other f.due

one_level_fault : (shelf : List Image) (rest : List ℕ) (f g : CheckFault) → f ≢ Table Memory → g ≢ Table Memory → IsLevelFault shelf rest f → IsLevelFault shelf rest g → f ≡ g
one_level_fault shelf rest (Table f) (Table g) m n x y =
    ap (λ (h : TableFault). Table h) (due_once (length shelf) (1 + line_count shelf) rest f g (λ h. m (ap (λ (k : TableFault). Table k) h)) (λ h. n (ap (λ (k : TableFault). Table k) h)) x y)
one_level_fault shelf rest (Table f) (Verify b g) m n x y = absurd (due_image (length shelf) (1 + line_count shelf) y.1 y.2 rest f (λ h. m (ap (λ (k : TableFault). Table k) h)) y.3 y.4 x)
one_level_fault shelf rest (Verify a f) (Table g) m n x y = absurd (due_image (length shelf) (1 + line_count shelf) x.1 x.2 rest g (λ h. n (ap (λ (k : TableFault). Table k) h)) x.3 x.4 y)
one_level_fault shelf rest (Verify a f) (Verify b g) m n x y =
    let same = same_head (length shelf) x.1 y.1 x.2 y.2 x.3 y.3 (sym x.4 ∙ y.4) in
    let level : a ≡ b = x.0 ∙ sym y.0 in
    let fault : f ≡ g = one_due DistancesAreLeast shelf y.1 f g (subst (λ (i : Image). IsDue shelf i f) same.0 x.5) y.5 in
    cc

pub one_check_fault : (text : List ℕ) (f g : CheckFault) → f ≢ Table Memory → g ≢ Table Memory → IsCheckFault text f → IsCheckFault text g → f ≡ g
one_check_fault text f g m n a b =
    elim (parting 0 a.images b.images a.rest b.rest a.fits b.fits (sym a.parts ∙ b.parts)) [
      | inl same ↦
          let due : IsLevelFault b.images b.rest f = subst (λ (is : List Image). IsLevelFault is b.rest f) same.0 (subst (λ (r : List ℕ). IsLevelFault a.images r f) same.1 a.due) in
          one_level_fault b.images b.rest f g m n due b.due
      | inr other ↦ elim other [
        | inl l ↦ absurd (not_longer text b.images b.rest f a m b.fits b.shelf l)
        | inr l ↦ absurd (not_longer text a.images a.rest g b n a.fits a.shelf l)
      ]
    ]

-- the text of a shelf has no fault
pub no_check_fault : (text : List ℕ) (images : List Image) (fault : CheckFault) → fault ≢ Table Memory → IsShelfText text images → IsCheckFault text fault → ⊥
no_check_fault text images fault other s f =
    let both : table_text f.images ++ f.rest ≡ table_text images ++ [] = sym f.parts ∙ s.parts ∙ sym (append-nil (table_text images)) in
    elim (parting 0 f.images images f.rest [] f.fits s.fits both) [
      | inl same ↦ f.some same.1
      | inr more ↦ elim more [
        | inl l ↦ not_longer text images [] fault f other s.fits s.shelf l
        | inr l ↦ block_some l.top (table_text l.others ++ f.rest) (sym l.spelled)
      ]
    ]

-- ---- what the answer says

only_memory : (text : List ℕ) (images : List Image) (fault : CheckFault) → IsShelfText text images → IsCheckFault text fault → fault ≡ Table Memory
only_memory text images (Table (Line at)) s f = absurd (no_check_fault text images (Table (Line at)) (λ h. cc) s f)
only_memory text images (Table (Order at)) s f = absurd (no_check_fault text images (Table (Order at)) (λ h. cc) s f)
only_memory text images (Table (High at)) s f = absurd (no_check_fault text images (Table (High at)) (λ h. cc) s f)
only_memory text images (Table Short) s f = absurd (no_check_fault text images (Table Short) (λ h. cc) s f)
only_memory text images (Table Memory) s f = refl
only_memory text images (Verify level fault) s f = absurd (no_check_fault text images (Verify level fault) (λ h. cc) s f)

first_or_memory : (text : List ℕ) (f g : CheckFault) → f ≢ Table Memory → IsCheckFault text f → IsCheckFault text g → (g ≡ f) ⊎ (g ≡ Table Memory)
first_or_memory text f (Table (Line at)) m a b = inl (one_check_fault text (Table (Line at)) f (λ h. cc) m b a)
first_or_memory text f (Table (Order at)) m a b = inl (one_check_fault text (Table (Order at)) f (λ h. cc) m b a)
first_or_memory text f (Table (High at)) m a b = inl (one_check_fault text (Table (High at)) f (λ h. cc) m b a)
first_or_memory text f (Table Short) m a b = inl (one_check_fault text (Table Short) f (λ h. cc) m b a)
first_or_memory text f (Table Memory) m a b = inr refl
first_or_memory text f (Verify level fault) m a b = inl (one_check_fault text (Verify level fault) f (λ h. cc) m b a)

module _ {S : Type 0} where
  -- where a fault was answered, that is of no right text
  pub refused_only : (text : List ℕ) (result : Result S CheckFault) (fault : CheckFault) (Same : List Image → S → Type 0) → result ≡ Err fault → IsCheckFault text fault
      → (images : List Image) → IsShelfText text images → IfOk result (λ shelf. Same images shelf) × IfErr result (λ g. g ≡ Table Memory)
  refused_only text result fault Same is f = λ images s. rw is (tt, only_memory text images fault s f)

  -- it is the first one
  pub refused_exact : (text : List ℕ) (result : Result S CheckFault) (fault : CheckFault) → result ≡ Err fault → IsCheckFault text fault
      → (first : CheckFault) → first ≢ Table Memory → IsCheckFault text first → (result ≡ Err first) ⊎ (result ≡ Err (Table Memory))
  refused_exact text result fault is f = λ first other due.
      elim (first_or_memory text first fault other due f) [
        | inl same ↦ inl (is ∙ ap (λ (g : CheckFault). Err g) same)
        | inr memory ↦ inr (is ∙ ap (λ (g : CheckFault). Err g) memory)
      ]
