-- Boards that are held.
use Rattle.std.proofs.Common.{◌≡◌, ℕ, zero, suc, ◌<◌, Bool, true, false, cond, List, [], ◌∷◌, ◌++◌, length, get_or, sum, map, fold, Option, None, All, ℤ, int_lt, Some, None, slice_get, refl, sym, ◌∙◌, ap, subst, arith}
use Rattle.std.proofs.lemmas.List.{get_or-map, length-map, length-take, map-append}
use Rattle.std.proofs.lemmas.Option.{slice_get-get_or}
use Rattle.awari_board.specs.Rules.{IsBoard}
use Rattle.awari_facts.proofs.FactLaws.{same_board}
use Rattle.std.proofs.lemmas.List.Elements.{All-cons, All-head, All-nil, All-tail, All-take}
use Rattle.awari_queries.proofs.HoldingLaws.{first-map, sorted-length, sorted-map}
use Rattle.awari_queries.specs.Holding.{Holds, first, number_of, placed, sorted}
use Rattle.awari_queries.specs.declared.holding.Held.{Held}
use Rattle.awari_queries.specs.declared.holding.Holding.{Holding}
use Rattle.awari_queries.specs.declared.orders.Order.{Order}
use Rattle.awari_rank.specs.Rank.{rank_of}
use Rattle.awari_rank.specs.Tuples.{tuples}
use Rattle.awari_table.specs.declared.images.Image.{Image}
use Rattle.awari_levels.specs.Listing.{is_within, key_if, ordered, sort_key, taken_boards, wanted_boards}
use Rattle.awari_levels.specs.Walks.{AreHeld, IsListed, held_of}
use Rattle.awari_levels.specs.declared.wanted.Wanted.{Wanted}

-- ---- what holds of all

all-placed : {A : Type 0} (P : A → Type 0) (by : A → ℤ) (x : A) (xs : List A) → P x → All P xs → All P (placed by x xs)
all-placed P by x [] px all = All-cons P x [] px all
all-placed {A = A} P by x (y ∷ ys) px all = go (int_lt (by x) (by y)) (all-placed P by x ys px (All-tail P y ys all))
  where
    go : (b : Bool) → All P (placed by x ys) → All P (cond b (x ∷ y ∷ ys) (y ∷ placed by x ys))
    go true rest = All-cons P x (y ∷ ys) px all
    go false rest = All-cons P y (placed by x ys) (All-head P y ys all) rest

all-fold : {A : Type 0} (P : A → Type 0) (by : A → ℤ) (front xs : List A) → All P front → All P xs → All P (fold (λ front x. placed by x front) front xs)
all-fold P by front [] before all = before
all-fold P by front (x ∷ xs) before all = all-fold P by (placed by x front) xs (all-placed P by x front (All-head P x xs all) before) (All-tail P x xs all)

all-few : {A : Type 0} (P : A → Type 0) (n : ℕ) (xs : List A) → All P xs → All P (first n xs)
all-few P zero xs all = all
all-few P (suc n) xs all = All-take P (suc n) xs all

pub all-first : {A : Type 0} (P : A → Type 0) (n : ℕ) (by : A → ℤ) (xs : List A) → All P xs → All P (first n (sorted by xs))
all-first P n by xs all = all-few P n (sorted by xs) (all-fold P by [] xs (All-nil P) all)

-- ---- one more

pub listed_of : (level rank : ℕ) (board : List ℕ) → rank ≡ rank_of board → slice_get (tuples 12 level) rank ≡ Some board → IsListed level board
listed_of level rank board is listed = subst (λ r. slice_get (tuples 12 level) r ≡ Some board) is listed

pub one_held : (wanted : Wanted) (images : List Image) (board : List ℕ) (one : Held) → Some one.number ≡ key_if wanted images board → one.rank ≡ rank_of board → one ≡ held_of wanted images board
unfolding key_if
one_held wanted images board one key ranked = go (is_within wanted images board) key
  where
    go : (b : Bool) → Some one.number ≡ cond b (Some (sort_key wanted.order images board)) None → one ≡ held_of wanted images board
    go true is = let same : one.number ≡ sort_key wanted.order images board = cc in whole one _ _ same ranked
      where
        whole : (h : Held) (n : ℤ) (r : ℕ) → h.number ≡ n → h.rank ≡ r → h ≡ record { number = n; rank = r }
        whole h n r numbered at = ap (λ m. record { number = m; rank = h.rank }) numbered ∙ ap (λ s. record { number = n; rank = s }) at
    go false is = cc

pub held-more : (wanted : Wanted) (images : List Image) (boards : List (List ℕ)) (board : List ℕ) (one : Held) (holding : Holding) → one ≡ held_of wanted images board
    → Holds (map (held_of wanted images) boards ++ one ∷ []) holding → Holds (map (held_of wanted images) (boards ++ board ∷ [])) holding
held-more wanted images boards board one holding is holds =
    subst (λ seen. Holds seen holding) (ap (λ h. map (held_of wanted images) boards ++ h ∷ []) is ∙ sym (map-append (held_of wanted images) boards (board ∷ []))) holds

-- all of them
pub held-all : (wanted : Wanted) (images : List Image) (level : ℕ) (order : Order) (boards : List (List ℕ)) (held : List Held) → wanted.order ≡ Some order → boards ≡ taken_boards wanted images level
    → held ≡ first wanted.most (sorted number_of (map (held_of wanted images) boards)) → All (IsListed level) boards → AreHeld wanted images level (wanted_boards wanted images level) held
unfolding wanted_boards
held-all wanted images level order boards held asked all holds listed =
    let same : first wanted.most (sorted (sort_key wanted.order images) boards) ≡ wanted_boards wanted images level =
    ap (λ o. first wanted.most (sorted (sort_key o images) boards)) asked ∙ ap (λ bs. first wanted.most (ordered (Some order) images bs)) all
    ∙ ap (λ o. first wanted.most (ordered o images (taken_boards wanted images level))) (sym asked) in
    subst (λ bs. AreHeld wanted images level bs held) same (record {
      each = holds
          ∙ ap (first wanted.most) (sorted-map (held_of wanted images) number_of (sort_key wanted.order images) (λ b. refl) boards)
          ∙ first-map (held_of wanted images) wanted.most (sorted (sort_key wanted.order images) boards);
      listed = all-first (IsListed level) wanted.most (sort_key wanted.order images) boards listed;
    })

first-long : {A B : Type 0} (n : ℕ) (xs : List A) (ys : List B) → length xs ≡ length ys → length (first n xs) ≡ length (first n ys)
first-long zero xs ys same = same
first-long (suc n) xs ys same = omega (arith, length-take (suc n) xs, length-take (suc n) ys, same)

ordered-long : (order : Option Order) (images : List Image) (boards : List (List ℕ)) → length (ordered order images boards) ≡ length boards
ordered-long None images boards = refl
ordered-long (Some order) images boards = sorted-length (sort_key (Some order) images) boards

-- the first ones are as many, however they are ordered
pub many-held : (wanted : Wanted) (images : List Image) (level : ℕ) → length (first wanted.most (taken_boards wanted images level)) ≡ length (wanted_boards wanted images level)
unfolding wanted_boards
many-held wanted images level =
    first-long wanted.most (taken_boards wanted images level) (ordered wanted.order images (taken_boards wanted images level)) (sym (ordered-long wanted.order images (taken_boards wanted images level)))

pub many-all : (wanted : Wanted) (images : List Image) (level : ℕ) → wanted.order ≡ None → first wanted.most (taken_boards wanted images level) ≡ wanted_boards wanted images level
unfolding wanted_boards
many-all wanted images level none = ap (λ o. first wanted.most (ordered o images (taken_boards wanted images level))) (sym none)

-- ---- one by one

pub held-long : (wanted : Wanted) (images : List Image) (level : ℕ) (boards : List (List ℕ)) (held : List Held) → AreHeld wanted images level boards held → length held ≡ length boards
held-long wanted images level boards held are = ap length are.each ∙ length-map boards (held_of wanted images)

-- the board of a rank that is held
pub held-next : (wanted : Wanted) (images : List Image) (level place : ℕ) (boards : List (List ℕ)) (held : List Held) (d : Held) (board : List ℕ) → AreHeld wanted images level boards held → place < length held
    → IsBoard board → sum board ≡ level → rank_of board ≡ (get_or held place d).rank → slice_get boards place ≡ Some board
held-next wanted images level place boards held d board are inside whole stones ranked =
    let low : place < length boards = omega (arith, inside, held-long wanted images level boards held are) in
    let one : get_or held place d ≡ held_of wanted images (get_or boards place []) = ap (λ hs. get_or hs place d) are.each ∙ get_or-map (held_of wanted images) boards place [] d low in
    let same : board ≡ get_or boards place [] = same_board level (rank_of (get_or boards place [])) (get_or boards place []) board whole stones (ranked ∙ ap (λ (h : Held). h.rank) one) (are.listed place [] low) in
    slice_get-get_or boards place [] low ∙ ap (λ b. Some b) (sym same)
