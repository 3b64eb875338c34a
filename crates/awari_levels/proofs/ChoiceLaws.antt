-- The boards of a level, taken one by one in order of rank.
use Rattle.std.proofs.Common.{◌≡◌, ℕ, ◌+◌, ◌%◌, ◌==◌, ◌≤◌, Bool, true, false, cond, ◌&&◌, List, [], ◌∷◌, ◌++◌, length, take, filter, map, max, None, refl, sym, ◌∙◌, ap, arith}
use Rattle.std.proofs.lemmas.Bool.Decides.{nat_tests}
use Rattle.std.proofs.lemmas.List.{append-nil, length-append, map-append, take_all}
use Rattle.std.proofs.lemmas.List.Elements.{filter-append}
use Rattle.std.proofs.lemmas.List.Sums.{fold-append}
use Rattle.awari_rank.specs.Rank.{size_of}
use Rattle.awari_rank.specs.Tuples.{tuples}
use Rattle.awari_table.proofs.ShelfLemmas.{take-read}
use Rattle.awari_table.specs.Images.{entry_of, greatest_dist}
use Rattle.awari_table.specs.declared.images.Entry.{Entry}
use Rattle.awari_table.specs.declared.images.Image.{Image}
use Rattle.awari_facts.specs.Numbers.{IsAt}
use Rattle.awari_levels.specs.Listing.{due_boards, each, farthest_among, farthest_of, fits, is_weighed, is_within, passes, passing, suits, taken_boards, takes, wanted_boards}
use Rattle.awari_levels.specs.Walks.{Chosen}
use Rattle.awari_members.specs.declared.forms.Form.TheVariants.{Text}
use Rattle.awari_queries.specs.declared.boards.Added.{Added}
use Rattle.awari_queries.specs.declared.boards.Spans.{Spans}
use Rattle.awari_levels.specs.declared.wanted.Wanted.{Wanted}

-- one more at the end of a list
each-push : {A : Type 0} (k before : ℕ) (xs : List A) (x : A) → each k before (xs ++ x ∷ []) ≡ each k before xs ++ cond ((before + (length xs + 1)) % k == 0) (x ∷ []) []
each-push k before [] x = go ((before + 1) % k == 0)
  where
    go : (b : Bool) → cond b (x ∷ []) [] ≡ [] ++ cond b (x ∷ []) []
    go true = refl
    go false = refl
each-push k before (y ∷ ys) x =
    let moved : before + 1 + (length ys + 1) ≡ before + (length (y ∷ ys) + 1) = omega arith in
    let rest = each-push k (before + 1) ys x ∙ ap (λ n. each k (before + 1) ys ++ cond (n % k == 0) (x ∷ []) []) moved in
    go ((before + 1) % k == 0) rest
  where
    go : (b : Bool) → each k (before + 1) (ys ++ x ∷ []) ≡ each k (before + 1) ys ++ cond ((before + (length (y ∷ ys) + 1)) % k == 0) (x ∷ []) []
        → cond b (y ∷ each k (before + 1) (ys ++ x ∷ [])) (each k (before + 1) (ys ++ x ∷ []))
        ≡ cond b (y ∷ each k (before + 1) ys) (each k (before + 1) ys) ++ cond ((before + (length (y ∷ ys) + 1)) % k == 0) (x ∷ []) []
    go true rest = ap (λ t. y ∷ t) rest
    go false rest = rest

-- ---- the farthest

-- what is found of the boards up to a rank
abbrev pub IsFarthestTo : Wanted → List Image → ℕ → ℕ → ℕ → Type 0
IsFarthestTo wanted images level rank farthest = farthest ≡ farthest_among wanted images (take rank (tuples 12 level))

pub farthest-none : (wanted : Wanted) (images : List Image) (level : ℕ) → IsFarthestTo wanted images level 0 0
farthest-none wanted images level = refl

farther : (images : List Image) (most : ℕ) (front : List (List ℕ)) (board : List ℕ) (e : Entry) (within : Bool) → e ≡ entry_of images board → most ≡ greatest_dist (map (entry_of images) front)
    → cond within (max most e.dist) most ≡ greatest_dist (map (entry_of images) (front ++ cond within (board ∷ []) []))
farther images most front board e true at is =
    ap (λ m. max m e.dist) is ∙ ap (λ (x : Entry). max (greatest_dist (map (entry_of images) front)) x.dist) at
    ∙ sym (ap greatest_dist (map-append (entry_of images) front (board ∷ [])) ∙ fold-append (λ m (x : Entry). max m x.dist) 0 (map (entry_of images) front) (entry_of images board ∷ []))
farther images most front board e false at is = is ∙ ap (λ bs. greatest_dist (map (entry_of images) bs)) (sym (append-nil front))

pub farthest-more : (wanted : Wanted) (images : List Image) (level rank most : ℕ) (board : List ℕ) (e : Entry) → IsFarthestTo wanted images level rank most → IsAt images level rank board e
    → IsFarthestTo wanted images level (rank + 1) (cond (is_within wanted images board) (max most e.dist) most)
farthest-more wanted images level rank most board e so_far at =
    farther images most (filter (is_within wanted images) (take rank (tuples 12 level))) board e (is_within wanted images board) at.entry so_far
    ∙ ap (λ bs. greatest_dist (map (entry_of images) bs)) (sym (ap (filter (is_within wanted images)) (take-read (tuples 12 level) rank board at.listed)
    ∙ filter-append (is_within wanted images) (take rank (tuples 12 level)) (board ∷ [])))

pub farthest-all : (wanted : Wanted) (images : List Image) (level rank most : ℕ) → IsFarthestTo wanted images level rank most → rank ≡ size_of level → wanted.farthest ≡ true → most ≡ farthest_of wanted images level
unfolding size_of farthest_of
farthest-all wanted images level rank most all is asked =
    all ∙ ap (farthest_among wanted images) (take_all rank (tuples 12 level) (omega (arith, is)))
    ∙ sym (ap (λ b. cond b (farthest_among wanted images (tuples 12 level)) 0) asked)

pub farthest-unasked : (wanted : Wanted) (images : List Image) (level : ℕ) → wanted.farthest ≡ false → 0 ≡ farthest_of wanted images level
unfolding farthest_of
farthest-unasked wanted images level none = sym (ap (λ b. cond b (farthest_among wanted images (tuples 12 level)) 0) none)

-- ---- those that pass

pick : {A : Type 0} (k passed next : ℕ) (front : List A) (x : A) (passes due : Bool) → passed ≡ length front → next ≡ passed + cond passes 1 0 → due ≡ (passes && (next % k == 0))
    → (next ≡ length (front ++ cond passes (x ∷ []) [])) × (each k 0 front ++ cond due (x ∷ []) [] ≡ each k 0 (front ++ cond passes (x ∷ []) []))
pick k passed next front x false due before count is = (
  omega (arith, before, count, ap length (append-nil front)),
  ap (λ b. each k 0 front ++ cond b (x ∷ []) []) is ∙ append-nil (each k 0 front) ∙ ap (each k 0) (sym (append-nil front)),
)
pick k passed next front x true due before count is =
    let place : next ≡ 0 + (length front + 1) = omega (arith, before, count) in (
      omega (arith, before, count, length-append front (x ∷ [])),
      ap (λ b. each k 0 front ++ cond b (x ∷ []) []) (is ∙ ap (λ n. n % k == 0) place) ∙ sym (each-push k 0 front x),
    )

-- what is known of the board of a rank: whether it passes is counted, and whether it is due
pub record Weighs (wanted : Wanted) (images : List Image) (level passed next : ℕ) (board : List ℕ) (due : Bool) : Type 0 where
  pub count : next ≡ passed + cond (passes wanted (farthest_of wanted images level) images board) 1 0
  pub is : due ≡ (passes wanted (farthest_of wanted images level) images board && (next % wanted.every == 0))

pub weighs : (wanted : Wanted) (images : List Image) (level passed next farthest : ℕ) (board : List ℕ) (pass due : Bool) → farthest ≡ farthest_of wanted images level → pass ≡ passes wanted farthest images board
    → next ≡ passed + cond pass 1 0 → due ≡ (pass && (next % wanted.every == 0)) → Weighs wanted images level passed next board due
weighs wanted images level passed next farthest board pass due found asked count is =
    let same : pass ≡ passes wanted (farthest_of wanted images level) images board = asked ∙ ap (λ l. passes wanted l images board) found in
    record {
      count = count ∙ ap (λ b. passed + cond b 1 0) same;
      is = is ∙ ap (λ b. b && (next % wanted.every == 0)) same;
    }

-- no more pass than there are
pub few-more : (passed next rank : ℕ) (b : Bool) → next ≡ passed + cond b 1 0 → passed ≤ rank → next ≤ rank + 1
few-more passed next rank true is few = omega (arith, is, few)
few-more passed next rank false is few = omega (arith, is, few)

pub chosen-more : (wanted : Wanted) (images : List Image) (level rank passed next : ℕ) (boards : List (List ℕ)) (board : List ℕ) (e : Entry) (due : Bool) → Chosen wanted images level rank passed boards
    → IsAt images level rank board e → Weighs wanted images level passed next board due
    → Chosen wanted images level (rank + 1) next (boards ++ cond due (board ∷ []) [])
chosen-more wanted images level rank passed next boards board e due so_far at weighed = record {
  count = picked.0 ∙ ap length (sym front);
  list = ap (λ bs. bs ++ cond due (board ∷ []) []) so_far.list ∙ picked.1 ∙ ap (each wanted.every 0) (sym front);
}
  where
    test : List ℕ → Bool
    test = passes wanted (farthest_of wanted images level) images

    picked : (next ≡ length (passing wanted images level (take rank (tuples 12 level)) ++ cond (test board) (board ∷ []) []))
        × (each wanted.every 0 (passing wanted images level (take rank (tuples 12 level))) ++ cond due (board ∷ []) []
        ≡ each wanted.every 0 (passing wanted images level (take rank (tuples 12 level)) ++ cond (test board) (board ∷ []) []))
    picked = pick wanted.every passed next (passing wanted images level (take rank (tuples 12 level))) board (test board) due so_far.count weighed.count weighed.is

    front : passing wanted images level (take (rank + 1) (tuples 12 level)) ≡ passing wanted images level (take rank (tuples 12 level)) ++ cond (test board) (board ∷ []) []
    front = ap (passing wanted images level) (take-read (tuples 12 level) rank board at.listed) ∙ filter-append test (take rank (tuples 12 level)) (board ∷ [])

pub chosen-all : (wanted : Wanted) (images : List Image) (level rank passed : ℕ) (boards : List (List ℕ)) → Chosen wanted images level rank passed boards → rank ≡ size_of level
    → boards ≡ due_boards wanted images level
unfolding size_of
chosen-all wanted images level rank passed boards all is =
    all.list ∙ ap (λ bs. each wanted.every 0 (passing wanted images level bs)) (take_all rank (tuples 12 level) (omega (arith, is)))

-- ---- all boards

filter-all : {A : Type 0} (p : A → Bool) → ((x : A) → p x ≡ true) → (xs : List A) → filter p xs ≡ xs
filter-all p passed [] = refl
filter-all p passed (x ∷ xs) = ap (λ b. cond b (x ∷ filter p xs) (filter p xs)) (passed x) ∙ ap (λ t. x ∷ t) (filter-all p passed xs)

each-one : {A : Type 0} (before : ℕ) (xs : List A) → each 1 before xs ≡ xs
each-one before [] = refl
each-one before (x ∷ xs) =
    let due : ((before + 1) % 1 == 0) ≡ true = grind (arith, nat_tests) in
    ap (λ b. cond b (x ∷ each 1 (before + 1) xs) (each 1 (before + 1) xs)) due ∙ ap (λ t. x ∷ t) (each-one (before + 1) xs)

-- what asks for nothing
abbrev pub no_spans : Spans
no_spans = record { value = None; distance = None; plan = None; captures = None; greedy = None; side = None; moves = None; keep = None; trap = None; other = None }

abbrev pub none_added : Added
none_added = record { moves = false; keep = false; greedy = false; trap = false; other = false; waits = false }

abbrev pub all : Wanted
all = record { spans = no_spans; waits = false; ended = false; running = false; farthest = false; every = 1; random = 0; seed = 0; order = None; most = 0; added = none_added; count = false; form = Text }

all_pass : (farthest : ℕ) (images : List Image) (board : List ℕ) → passes all farthest images board ≡ true
unfolding passes is_within fits suits takes is_weighed
all_pass farthest images board = refl

pub all_wanted : (images : List Image) (level : ℕ) → wanted_boards all images level ≡ tuples 12 level
unfolding wanted_boards taken_boards
all_wanted images level = each-one 0 _ ∙ filter-all _ (all_pass (farthest_of all images level) images) (tuples 12 level)
