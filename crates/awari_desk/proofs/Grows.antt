-- A step that only adds to the book keeps the rule.
use Rattle.std.proofs.Common.{◌≡◌, ℕ, ◌≢◌, ◌<◌, List, [], ◌∷◌, ◌++◌, length, set, sym, ap, ◌∙◌, refl, subst, ⊎_elim, append_assoc, append-nil, Bool, true, false, IsTrue, ◌↔◌, fold, arith}
use mathlib.Core.Option.{some}
use lib.ListN.{get_elem?}
use Rattle.crossbeam_utils.specs.Register.{Admits, TurnsAt, Forks, Merges}
use Rattle.atomic_table.proofs.Lists.{at_set, at_snoc}
use Rattle.awari_table.specs.declared.images.Image.{Image}
use Rattle.awari_desk.specs.declared.books.Book.{Book}
use Rattle.awari_desk.specs.Books.{BeginsWith, BeginsWithAll, Sees}

-- each list begins with itself, and with nothing
pub begins_all : (xs : List Image) → BeginsWith xs xs
begins_all xs = ([], sym (append-nil xs))

pub begins_nil : (xs : List Image) → BeginsWith xs []
begins_nil xs = (xs, refl)

pub begins_more : (xs ys zs : List Image) → BeginsWith ys xs → BeginsWith zs ys → BeginsWith zs xs
begins_more xs ys zs s t = (s.0 ++ t.0, t.1 ∙ ap (λ (w : List Image). w ++ t.0) s.1 ∙ append_assoc xs s.0 t.0)

-- one view becomes another that the book begins with
set_keeps : (book : List Image) (views : List (List Image)) (seat : ℕ) (known : List Image) → BeginsWithAll book views → BeginsWith book known → BeginsWithAll book (set views seat known)
set_keeps book views seat known keeps here j v e =
    ⊎_elim (λ (t : (j ≡ seat) × (known ≡ v)). subst (λ (z : List Image). BeginsWith book z) t.1 here) (λ (t : (j ≢ seat) × (get_elem? views j ≡ some v)). keeps j v t.1) (at_set views seat j known v e)

-- a view more
snoc_keeps : (book : List Image) (views : List (List Image)) (known : List Image) → BeginsWithAll book views → BeginsWith book known → BeginsWithAll book (views ++ known ∷ [])
snoc_keeps book views known keeps here j v e =
    ⊎_elim (keeps j v) (λ (z : known ≡ v). subst (λ (w : List Image). BeginsWith book w) z here) (at_snoc views known v j e)

-- the rule as it stands in `Growing`
abbrev Rule : Book → List (List Image) → Type 0
Rule book = BeginsWithAll book.0

-- what a look tells
abbrev Seen : List Image → Book → Book → List Image → Type 0
Seen known _ book now = Sees known book.0 now

pub grows : (seat : ℕ) (known : List Image) (book next : Book) → BeginsWith next.0 book.0 → TurnsAt Rule seat known book next Seen
grows seat known book next more views keeps at =
    (next.0, set_keeps next.0 views seat next.0 (λ j v e. begins_more v book.0 next.0 (keeps j v e) more) (begins_all next.0), (begins_more known book.0 next.0 (keeps seat known at) more, refl))

pub admits : Admits Rule []
admits book views keeps = snoc_keeps book.0 views [] keeps (begins_nil book.0)

pub forks : (seat : ℕ) (known : List Image) → Forks Rule seat known known known
forks seat known book views keeps at =
    let here = keeps seat known at in snoc_keeps book.0 (set views seat known) known (set_keeps book.0 views seat known keeps here) here

pub merges : (seat : ℕ) (known : List Image) (other : ℕ) (told : List Image) → Merges Rule seat known other told told []
merges seat known other told book views keeps at apart there =
    let theirs : BeginsWith book.0 told =
    ⊎_elim (λ (t : (other ≡ seat) × (told ≡ told)). absurd (apart t.0)) (λ (t : (other ≢ seat) × (get_elem? views other ≡ some told)). keeps other told t.1) (at_set views seat other told told there) in
    set_keeps book.0 (set views seat told) other [] (set_keeps book.0 views seat told keeps theirs) (begins_nil book.0)

-- a test that says whether something is pending found nothing
pub none_pending : {A : Type 0} (xs : List A) (b : Bool) → b ≡ false → (IsTrue b ↔ (0 < length xs)) → xs ≡ []
none_pending [] b down test = refl
none_pending (x ∷ xs) b down test = let up : b ≡ true = test.1 (omega arith) in cc

-- what is published of one pending book
pub published_one : (shown next more book : List Image) (log : List (List Image)) → log ≡ next ∷ [] → next ≡ shown ++ more → book ≡ fold (λ (_ n : List Image). n) shown log → book ≡ shown ++ more
published_one shown next more book log one longer is = is ∙ ap (fold (λ (_ n : List Image). n) shown) one ∙ longer

-- it begins with the one that is shown
pub publishes : (seat : ℕ) (known : List Image) (shown book : Book) (next more : List Image) (log : List (List Image)) → log ≡ next ∷ [] → next ≡ shown.0 ++ more → book.0 ≡ fold (λ (_ n : List Image). n) shown.0 log → TurnsAt Rule seat known shown book Seen
publishes seat known shown book next more log one longer is = grows seat known shown book (more, published_one shown.0 next more book.0 log one longer is)
