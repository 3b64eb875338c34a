-- A note more in a queue of batches.
use Rattle.std.proofs.Common.{◌≡◌, ℕ, suc, ◌+◌, ◌-◌, ◌<◌, Bool, true, false, cond, nat_lt, List, [], ◌∷◌, ◌++◌, length, get_or, set, map, refl, sym, ap, subst, ◌∙◌, arith, length-set}
use Rattle.std.proofs.lemmas.Bool.Decides.{nat_tests}
use Rattle.std.proofs.lemmas.List.{get_or-map, length-map, map-set, map-append, length_push}
use Rattle.awari_owner.specs.Outboxes.{put_behind, with_note}
use Rattle.awari_owner.specs.Queues.{spare_behind, spare, room_of}
use Rattle.awari_block.specs.declared.notes.Note.{Note}

-- a queue with a batch that is not full at its end
behind_last : (b : List Note) (rest : List (List Note)) (m : Note) → 0 < spare_behind b rest
    → put_behind b rest m ≡ set (b ∷ rest) (length rest) (get_or (b ∷ rest) (length rest) [] ++ m ∷ [])
behind_last b [] m some = ap (λ t. cond t ((b ++ m ∷ []) ∷ []) (b ∷ (m ∷ []) ∷ [])) (less (length b) some)
  where
    less : (n : ℕ) → 0 < 32 - n → nat_lt n 32 ≡ true
    less n h = grind (arith, nat_tests)
behind_last b (c ∷ rest) m some = ap (λ l. b ∷ l) (behind_last c rest m some)

behind_spare : (b : List Note) (rest : List (List Note)) (m : Note) → 0 < spare_behind b rest → spare (put_behind b rest m) + 1 ≡ spare_behind b rest
behind_spare b [] m some = subst (λ t. spare (cond t ((b ++ m ∷ []) ∷ []) (b ∷ (m ∷ []) ∷ [])) + 1 ≡ 32 - length b) (sym (less (length b) some)) (let more = length_push b m in omega (arith, more, some))
  where
    less : (n : ℕ) → 0 < 32 - n → nat_lt n 32 ≡ true
    less n h = grind (arith, nat_tests)
behind_spare b (c ∷ rest) m some = under (put_behind c rest m) (some_behind c rest m) (behind_spare c rest m some)
  where
    some_behind : (c : List Note) (rest : List (List Note)) (m : Note) → 0 < length (put_behind c rest m)
    some_behind c [] m = at (nat_lt (length c) 32)
      where
        at : (t : Bool) → 0 < length (cond t ((c ++ m ∷ []) ∷ []) (c ∷ (m ∷ []) ∷ []))
        at true = omega arith
        at false = omega arith
    some_behind c (d ∷ rest) m = omega arith

    under : (q : List (List Note)) → 0 < length q → spare q + 1 ≡ spare_behind c rest → spare (b ∷ q) + 1 ≡ spare_behind c rest
    under [] h e = absurd (omega (arith, h))
    under (d ∷ q) h e = e

behind_new : (b : List Note) (rest : List (List Note)) (m : Note) → spare_behind b rest ≡ 0 → put_behind b rest m ≡ (b ∷ rest) ++ (m ∷ []) ∷ []
behind_new b [] m none = ap (λ t. cond t ((b ++ m ∷ []) ∷ []) (b ∷ (m ∷ []) ∷ [])) (more (length b) none)
  where
    more : (n : ℕ) → 32 - n ≡ 0 → nat_lt n 32 ≡ false
    more n h = grind (arith, nat_tests)
behind_new b (c ∷ rest) m none = ap (λ l. b ∷ l) (behind_new c rest m none)

-- in the last batch
pub note_last : (q : List (List Note)) (m : Note) → 0 < spare q → with_note q m ≡ set q (length q - 1) (get_or q (length q - 1) [] ++ m ∷ [])
note_last [] m some = absurd (omega (arith, some))
note_last (b ∷ rest) m some = let last : suc (length rest) - 1 ≡ length rest = omega arith in subst (λ k. put_behind b rest m ≡ set (b ∷ rest) k (get_or (b ∷ rest) k [] ++ m ∷ [])) (sym last) (behind_last b rest m some)

pub note_last-spare : (q : List (List Note)) (m : Note) → 0 < spare q → spare (with_note q m) + 1 ≡ spare q
note_last-spare [] m some = absurd (omega (arith, some))
note_last-spare (b ∷ rest) m some = behind_spare b rest m some

-- in a new one
pub note_new : (q : List (List Note)) (m : Note) → spare q ≡ 0 → with_note q m ≡ q ++ (m ∷ []) ∷ []
note_new [] m none = refl
note_new (b ∷ rest) m none = behind_new b rest m none

pub spare_new : (q : List (List Note)) (m : Note) → spare (q ++ (m ∷ []) ∷ []) ≡ 31
spare_new [] m = refl
spare_new (b ∷ rest) m = under b rest
  where
    under : (b : List Note) (rest : List (List Note)) → spare_behind b (rest ++ (m ∷ []) ∷ []) ≡ 31
    under b [] = refl
    under b (c ∷ rest) = under c rest

pub some_batch : (q : List (List Note)) → 0 < spare q → 0 < length q
some_batch [] some = absurd (omega (arith, some))
some_batch (b ∷ rest) some = omega arith

-- what is spare in the last batch
pub spare_last : (q : List (List Note)) → 0 < length q → spare q ≡ 32 - length (get_or q (length q - 1) [])
spare_last [] some = absurd (omega (arith, some))
spare_last (b ∷ rest) some = let last : suc (length rest) - 1 ≡ length rest = omega arith in subst (λ k. spare_behind b rest ≡ 32 - length (get_or (b ∷ rest) k [])) (sym last) (at b rest)
  where
    at : (b : List Note) (rest : List (List Note)) → spare_behind b rest ≡ 32 - length (get_or (b ∷ rest) (length rest) [])
    at b [] = refl
    at b (c ∷ rest) = at c rest

-- the batches as they are stored, each seen by f
module _ {X : Type 0} (f : X → List Note) (xs : List X) (places : ℕ) (m : Note) where
  pub put_last : (last new : X) → 0 < spare (map f xs) → last ≡ get_or xs (length xs - 1) last → f new ≡ f last ++ m ∷ []
      → (map f (set xs (length xs - 1) new) ≡ with_note (map f xs) m) × (room_of places (map f (set xs (length xs - 1) new)) + 1 ≡ room_of places (map f xs))
  put_last last new some at is =
      let long : length (map f xs) ≡ length xs = length-map xs f in
      let many = some_batch (map f xs) some in
      let seen : get_or (map f xs) (length xs - 1) [] ≡ f last = get_or-map f xs (length xs - 1) last [] (omega (arith, many, long)) ∙ ap f (sym at) in
      let same : map f (set xs (length xs - 1) new) ≡ with_note (map f xs) m =
      map-set f xs (length xs - 1) new ∙ ap (set (map f xs) (length xs - 1)) (is ∙ ap (λ b. b ++ m ∷ []) (sym seen))
      ∙ ap (λ k. set (map f xs) (k - 1) (get_or (map f xs) (k - 1) [] ++ m ∷ [])) (sym long) ∙ sym (note_last (map f xs) m some) in (
        same,
        (let one = note_last-spare (map f xs) m some in
            let len : length (with_note (map f xs) m) ≡ length (map f xs) = ap length (note_last (map f xs) m some) ∙ length-set (map f xs) (length (map f xs) - 1) (get_or (map f xs) (length (map f xs) - 1) [] ++ m ∷ []) in
            subst (λ q. room_of places q + 1 ≡ room_of places (map f xs)) (sym same) (omega (arith, one, len))),
      )

  pub put_new : (new : X) → spare (map f xs) ≡ 0 → f new ≡ m ∷ [] → 0 < room_of places (map f xs)
      → (map f (xs ++ new ∷ []) ≡ with_note (map f xs) m) × (room_of places (map f (xs ++ new ∷ [])) + 1 ≡ room_of places (map f xs)) × (length xs < places)
  put_new new none is room =
      let long : length (map f xs) ≡ length xs = length-map xs f in
      let less : length xs < places = omega (arith, room, none, long) in
      let seen : map f (xs ++ new ∷ []) ≡ map f xs ++ (m ∷ []) ∷ [] = map-append f xs (new ∷ []) ∙ ap (λ b. map f xs ++ b ∷ []) is in (
        seen ∙ sym (note_new (map f xs) m none),
        (let more = length_push (map f xs) (m ∷ []) in
            let now = spare_new (map f xs) m in
            subst (λ q. room_of places q + 1 ≡ room_of places (map f xs)) (sym seen) (omega (arith, more, now, none, less, long))),
        less,
      )

module _ {X : Type 0} (f : X → List Note) (xs : List X) where
  pub open_last : (last : X) → 0 < length xs → last ≡ get_or xs (length xs - 1) last → spare (map f xs) ≡ 32 - length (f last)
  open_last last some at =
      let long : length (map f xs) ≡ length xs = length-map xs f in
      let seen : get_or (map f xs) (length xs - 1) [] ≡ f last = get_or-map f xs (length xs - 1) last [] (omega (arith, some)) ∙ ap f (sym at) in
      spare_last (map f xs) (omega (arith, some, long)) ∙ ap (λ k. 32 - length (get_or (map f xs) (k - 1) [])) long ∙ ap (λ b. 32 - length b) seen
