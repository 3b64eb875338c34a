-- A walk over the boards of a level, one by one.
use Rattle.std.proofs.Common.{◌≡◌, ℕ, zero, suc, ◌+◌, ◌-◌, ◌<◌, ◌%◌, ◌==◌, Bool, true, false, cond, ◌&&◌, List, [], ◌∷◌, ◌++◌, length, take, drop, ℤ, Option, Some, None, refl, sym, ◌∙◌, ap, subst, append-nil, arith}
use Rattle.std.proofs.lemmas.List.{length-append, take-append-drop, take-append-le, take_all}
use Rattle.std.proofs.lemmas.List.Elements.{filter-append}
use Rattle.core.specs.Option.{is_some}
use Rattle.awari_queries.proofs.Sampling.{left-none, left-push, taken-push}
use Rattle.awari_queries.specs.Draws.{drawn, drawn_on, is_drawn, is_taken, left_after, sample, taken}
use Rattle.awari_queries.specs.Holding.{first}
use Rattle.awari_queries.specs.declared.draws.Draw.{Draw}
use Rattle.awari_rank.specs.Rank.{size_of}
use Rattle.awari_rank.specs.Tuples.{tuples}
use Rattle.awari_table.specs.declared.images.Entry.{Entry}
use Rattle.awari_table.specs.declared.images.Image.{Image}
use Rattle.awari_facts.specs.Numbers.{IsAt}
use Rattle.awari_levels.proofs.ChoiceLaws.{Weighs, chosen-all, chosen-more}
use Rattle.awari_levels.specs.Listing.{due_boards, each, farthest_of, is_within, key_if, passes, passing, sort_key, taken_boards}
use Rattle.awari_levels.specs.Walks.{Chosen, Drawn, IsChoice, Steps, Walked}
use Rattle.awari_levels.specs.declared.walks.Choice.{Choice}
use Rattle.awari_levels.specs.declared.walks.Taken.{Taken}
use Rattle.awari_levels.specs.declared.walks.Walk.{Walk}
use Rattle.awari_levels.specs.declared.wanted.Wanted.{Wanted}

-- the board of a rank that is not due
pub drawn-skip : (wanted : Wanted) (images : List Image) (level rank passed next : ℕ) (sample draw : Option Draw) (boards : List (List ℕ)) (board : List ℕ) (e : Entry) (due : Bool)
    → Drawn wanted images level rank passed sample draw boards → IsAt images level rank board e → Weighs wanted images level passed next board due → due ≡ false
    → Drawn wanted images level (rank + 1) next sample draw boards
drawn-skip wanted images level rank passed next sample draw boards board e due so_far at weighed none = record {
  due = so_far.due;
  chosen =
      subst (Chosen wanted images level (rank + 1) next) (ap (λ b. so_far.due ++ cond b (board ∷ []) []) none ∙ append-nil so_far.due)
      (chosen-more wanted images level rank passed next so_far.due board e due so_far.chosen at weighed);
  left = so_far.left;
  taken = so_far.taken;
}

-- one that is due, and is taken or not
drawn-due : (wanted : Wanted) (images : List Image) (level rank passed next : ℕ) (sample draw then : Option Draw) (boards : List (List ℕ)) (board : List ℕ) (e : Entry) (due : Bool)
    → Drawn wanted images level rank passed sample draw boards → IsAt images level rank board e → Weighs wanted images level passed next board due → due ≡ true → then ≡ drawn_on draw
    → Drawn wanted images level (rank + 1) next sample then (boards ++ cond (is_taken draw) (board ∷ []) [])
drawn-due wanted images level rank passed next sample draw then boards board e due so_far at weighed some drawing = record {
  due = so_far.due ++ board ∷ [];
  chosen =
      subst (Chosen wanted images level (rank + 1) next) (ap (λ b. so_far.due ++ cond b (board ∷ []) []) some)
      (chosen-more wanted images level rank passed next so_far.due board e due so_far.chosen at weighed);
  left = drawing ∙ ap drawn_on so_far.left ∙ sym (left-push sample so_far.due board);
  taken =
      ap (λ bs. bs ++ cond (is_taken draw) (board ∷ []) []) so_far.taken ∙ ap (λ d. taken sample so_far.due ++ cond (is_taken d) (board ∷ []) []) so_far.left
      ∙ sym (taken-push sample so_far.due board);
}

pub drawn-pass : (wanted : Wanted) (images : List Image) (level rank passed next : ℕ) (sample draw then : Option Draw) (boards : List (List ℕ)) (board : List ℕ) (e : Entry) (due : Bool)
    → Drawn wanted images level rank passed sample draw boards → IsAt images level rank board e → Weighs wanted images level passed next board due → due ≡ true → then ≡ drawn_on draw
    → is_taken draw ≡ false → Drawn wanted images level (rank + 1) next sample then boards
drawn-pass wanted images level rank passed next sample draw then boards board e due so_far at weighed some drawing none =
    subst (Drawn wanted images level (rank + 1) next sample then) (ap (λ b. boards ++ cond b (board ∷ []) []) none ∙ append-nil boards)
    (drawn-due wanted images level rank passed next sample draw then boards board e due so_far at weighed some drawing)

pub drawn-more : (wanted : Wanted) (images : List Image) (level rank passed next : ℕ) (sample draw then : Option Draw) (boards : List (List ℕ)) (board : List ℕ) (e : Entry) (due : Bool)
    → Drawn wanted images level rank passed sample draw boards → IsAt images level rank board e → Weighs wanted images level passed next board due → due ≡ true → then ≡ drawn_on draw
    → is_taken draw ≡ true → Drawn wanted images level (rank + 1) next sample then (boards ++ board ∷ [])
drawn-more wanted images level rank passed next sample draw then boards board e due so_far at weighed some drawing one =
    subst (Drawn wanted images level (rank + 1) next sample then) (ap (λ b. boards ++ cond b (board ∷ []) []) one)
    (drawn-due wanted images level rank passed next sample draw then boards board e due so_far at weighed some drawing)

-- all boards were passed
pub drawn-all : (wanted : Wanted) (images : List Image) (level rank passed : ℕ) (sample draw : Option Draw) (boards : List (List ℕ)) → Drawn wanted images level rank passed sample draw boards
    → rank ≡ size_of level → boards ≡ taken sample (due_boards wanted images level)
drawn-all wanted images level rank passed sample draw boards all is = all.taken ∙ ap (taken sample) (chosen-all wanted images level rank passed all.due all.chosen is)

pub taken-all : (wanted : Wanted) (images : List Image) (level : ℕ) (choice : Choice) (boards : List (List ℕ)) → IsChoice wanted images level choice
    → boards ≡ taken choice.sample (due_boards wanted images level) → boards ≡ taken_boards wanted images level
unfolding taken_boards
taken-all wanted images level choice boards chosen is = is ∙ ap (λ d. taken d (due_boards wanted images level)) chosen.sample

-- a board that passes has a key
pub passes-key : (wanted : Wanted) (images : List Image) (farthest : ℕ) (board : List ℕ) (key : Option ℤ) → key ≡ key_if wanted images board → passes wanted farthest images board ≡ true
    → key ≡ Some (sort_key wanted.order images board)
unfolding key_if passes
passes-key wanted images farthest board key is passed = is ∙ ap (λ b. cond b (Some (sort_key wanted.order images board)) None) (first (is_within wanted images board) _ passed)
  where
    first : (a b : Bool) → (a && b) ≡ true → a ≡ true
    first true b h = refl
    first false b h = h

-- one more is counted, or not
pub count-step : (wanted : Wanted) (images : List Image) (level rank count next : ℕ) (sample : Option Draw) (boards : List (List ℕ)) (taken : Option Taken) (walk : Walk) (b : Bool) → b ≡ is_some taken
    → Steps wanted images level rank sample boards taken walk → count ≡ length boards → next ≡ count + cond b 1 0
    → (after : List (List ℕ)) × Walked wanted images level (rank + 1) sample after walk × (next ≡ length after)
count-step wanted images level rank count next sample boards None walk true is steps many more = cc
count-step wanted images level rank count next sample boards None walk false is steps many more = (boards, steps, omega (arith, many, more))
count-step wanted images level rank count next sample boards (Some taken) walk true is steps many more =
    (boards ++ steps.0 ∷ [], steps.2, omega (arith, many, more, length-append boards (steps.0 ∷ [])))
count-step wanted images level rank count next sample boards (Some taken) walk false is steps many more = cc

pub due-passes : (passes due now : Bool) → due ≡ (passes && now) → due ≡ true → passes ≡ true
due-passes true due now is some = refl
due-passes false due now is some = cc

pub none-some : {A : Type 0} (x : A) → None ≡ Some x → ⊥
none-some x is = cc

-- ---- the first ones

each-append : {A : Type 0} (k before : ℕ) (xs ys : List A) → each k before (xs ++ ys) ≡ each k before xs ++ each k (before + length xs) ys
each-append k before [] ys = let same : before ≡ before + 0 = omega arith in ap (λ n. each k n ys) same
each-append {A} k before (x ∷ xs) ys =
    let moved : before + 1 + length xs ≡ before + length (x ∷ xs) = omega arith in
    go ((before + 1) % k == 0) (each-append k (before + 1) xs ys ∙ ap (λ n. each k (before + 1) xs ++ each k n ys) moved)
  where
    go : (b : Bool) → each k (before + 1) (xs ++ ys) ≡ each k (before + 1) xs ++ each k (before + length (x ∷ xs)) ys
        → cond b (x ∷ each k (before + 1) (xs ++ ys)) (each k (before + 1) (xs ++ ys)) ≡ cond b (x ∷ each k (before + 1) xs) (each k (before + 1) xs) ++ each k (before + length (x ∷ xs)) ys
    go true rest = ap (λ t. x ∷ t) rest
    go false rest = rest

taken-append : {A : Type 0} (d : Option Draw) (xs ys : List A) → taken d (xs ++ ys) ≡ taken d xs ++ taken (left_after d xs) ys
taken-append None xs ys = ap (λ l. xs ++ taken l ys) (sym (left-none xs))
taken-append (Some d) [] ys = refl
taken-append {A} (Some d) (x ∷ xs) ys = go (is_drawn d) (taken-append (Some (drawn d)) xs ys)
  where
    go : (b : Bool) → sample (drawn d) (xs ++ ys) ≡ sample (drawn d) xs ++ taken (left_after (Some (drawn d)) xs) ys
        → cond b (x ∷ sample (drawn d) (xs ++ ys)) (sample (drawn d) (xs ++ ys)) ≡ cond b (x ∷ sample (drawn d) xs) (sample (drawn d) xs) ++ taken (left_after (Some (drawn d)) xs) ys
    go true rest = ap (λ t. x ∷ t) rest
    go false rest = rest

-- others come behind those that were taken
pub drawn-before : (wanted : Wanted) (images : List Image) (level rank passed : ℕ) (sample draw : Option Draw) (boards : List (List ℕ)) → Drawn wanted images level rank passed sample draw boards
    → (rest : List (List ℕ)) × (boards ++ rest ≡ taken sample (due_boards wanted images level))
drawn-before wanted images level rank passed sample draw boards so_far =
    let front = passing wanted images level (take rank (tuples 12 level)) in
    let back = passing wanted images level (drop rank (tuples 12 level)) in
    let due : due_boards wanted images level ≡ so_far.due ++ each wanted.every (0 + length front) back =
    ap (λ bs. each wanted.every 0 (passing wanted images level bs)) (sym (take-append-drop rank (tuples 12 level)))
    ∙ ap (each wanted.every 0) (filter-append (passes wanted (farthest_of wanted images level) images) (take rank (tuples 12 level)) (drop rank (tuples 12 level)))
    ∙ each-append wanted.every 0 front back ∙ ap (λ bs. bs ++ each wanted.every (0 + length front) back) (sym so_far.chosen.list) in (
      taken (left_after sample so_far.due) (each wanted.every (0 + length front) back),
      sym (ap (taken sample) due ∙ taken-append sample so_far.due (each wanted.every (0 + length front) back)
          ∙ ap (λ bs. bs ++ taken (left_after sample so_far.due) (each wanted.every (0 + length front) back)) (sym so_far.taken)),
    )

-- how many are wanted still, where so many were taken; 0 is all
abbrev pub IsLeft : ℕ → ℕ → ℕ → Type 0
IsLeft zero left count = left ≡ 0
IsLeft (suc n) left count = (0 < left) × (left + count ≡ suc n)

pub left-all : (most : ℕ) → IsLeft most most 0
left-all zero = refl
left-all (suc n) = (omega arith, omega arith)

pub left-more : (most left next : ℕ) (boards : List (List ℕ)) (board : List ℕ) → IsLeft most left (length boards) → (left ≡ 1 → ⊥) → next ≡ left - 1 → IsLeft most next (length (boards ++ board ∷ []))
left-more zero left next boards board is more less = omega (arith, is, less)
left-more (suc n) left next boards board is more less =
    let many : 1 < left = grind (arith, is.0, more) in
    (omega (arith, many, less), omega (arith, many, less, is.1, length-append boards (board ∷ [])))

-- the last one that is wanted
pub first-last : (most left : ℕ) (boards rest : List (List ℕ)) (board : List ℕ) → IsLeft most left (length boards) → left ≡ 1 → boards ++ board ∷ [] ≡ first most ((boards ++ board ∷ []) ++ rest)
first-last zero left boards rest board is last = absurd (omega (arith, is, last))
first-last (suc n) left boards rest board is last =
    let many : length (boards ++ board ∷ []) ≡ suc n = omega (arith, is.1, last, length-append boards (board ∷ [])) in
    sym (take-append-le (suc n) (boards ++ board ∷ []) rest (omega (arith, many)) ∙ take_all (suc n) (boards ++ board ∷ []) (omega (arith, many)))

-- all that there are
pub first-all : (most left : ℕ) (boards : List (List ℕ)) → IsLeft most left (length boards) → boards ≡ first most boards
first-all zero left boards is = refl
first-all (suc n) left boards is = sym (take_all (suc n) boards (omega (arith, is.0, is.1)))
