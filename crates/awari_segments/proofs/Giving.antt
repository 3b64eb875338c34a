-- What lists by distance have once the boards of a wave and a kind left them.
use Rattle.std.proofs.Common.{◌≡◌, ◌≢◌, ℕ, zero, suc, ◌+◌, ◌<◌, List, [], ◌∷◌, ◌++◌, length, map, ℤ, pos, neg_ℤ, Some, refl, sym, subst, ◌∙◌, arith, true, inl, inr, append_assoc}
use Rattle.std.proofs.lemmas.Int.{ints}
use Rattle.std.proofs.lemmas.List.{get_or-map, length-map}
use Rattle.std.proofs.lemmas.List.Elements.{All-append, All-from_recursion}
use Rattle.std.proofs.lemmas.List.Sorted.{IsPermutation-refl, IsPermutation-sym, IsPermutation-trans, IsPermutation-append_comm, IsPermutation-append_left, IsPermutation-append_right, All-permutation}
use Rattle.std.specs.List.{All, AllByRecursion}
use Rattle.std.specs.List.Sorted.{IsPermutation}
use Rattle.awari_block.specs.Blocks.{Due, cell_in, due_dist, due_rank, is_settled_in, IsBlock, IsDueAs}
use Rattle.awari_block.specs.Boards.{GivesFresh, other, value_of_kind}
use Rattle.awari_segments.specs.ByDistance.{AreOfScore, AreSigned, IsAboveZero, IsBelowZero, listed_of}
use Rattle.awari_block.specs.Cells.{IsEither}
use Rattle.awari_segments.specs.Lists.{dues_from, dues_of, list_at, without}
use Rattle.awari_block.specs.Part.{Part, InBlock, part_of, settled_at}
use Rattle.awari_segments.specs.declared.by_distance.ByDistance.{ByDistance}
use Rattle.awari_block.specs.declared.cells.Cell.{Cell}
use Rattle.awari_block.specs.declared.notes.Kind.{Kind}
use Rattle.awari_block.specs.declared.notes.Kind.TheVariants.{Won, Lost}
use Rattle.awari_block.specs.declared.stakes.Stake.{Stake}
use Rattle.awari_block.proofs.BlockLemmas.{due_settled, settled_inside}
use Rattle.awari_block.proofs.Freshness.{settled_cell}
use Rattle.awari_block.proofs.Giving.{due_at}
use Rattle.awari_block.proofs.ListParts.{All-append_first, All-append_second}

-- ---- lists

front_swap : (xs ys zs : List Due) → IsPermutation (xs ++ (ys ++ zs)) (ys ++ (xs ++ zs))
front_swap xs ys zs =
    subst (λ (l : List Due). IsPermutation l (ys ++ (xs ++ zs))) (append_assoc xs ys zs)
    (subst (IsPermutation ((xs ++ ys) ++ zs)) (append_assoc ys xs zs) (IsPermutation-append_left zs (xs ++ ys) (ys ++ xs) (IsPermutation-append_comm xs ys)))

pub dues_without : (n d : ℕ) (ls : List (List ℕ)) (k : ℕ) → n ≡ d + k → IsPermutation {X = Due} (map (λ r. (n, r)) (list_at ls k) ++ dues_from d (without ls k)) (dues_from d ls)
dues_without n d [] k is = IsPermutation-refl []
dues_without n d (l ∷ ls) zero is =
    subst (λ (m : ℕ). IsPermutation {X = Due} (map (λ r. (m, r)) l ++ dues_from (suc d) ls) (map (λ r. (d, r)) l ++ dues_from (suc d) ls)) (let e : d ≡ n = omega (arith, is) in e)
    (IsPermutation-refl (map (λ r. (d, r)) l ++ dues_from (suc d) ls))
dues_without n d (l ∷ ls) (suc k) is =
    IsPermutation-trans _ _ _ (front_swap (map (λ r. (n, r)) (list_at ls k)) (map (λ r. (d, r)) l) (dues_from (suc d) (without ls k)))
    (IsPermutation-append_right (map (λ r. (d, r)) l) _ _ (dues_without n (suc d) ls k (omega (arith, is))))

unmapped : (Q : Due → Type 0) (w : ℕ) (xs : List ℕ) → All Q (map (λ r. (w, r)) xs) → All (λ r. Q (w, r)) xs
unmapped Q w xs all k d h = subst Q (get_or-map (due_at w) xs k d (w, d) h) (all k (w, d) (let long : length (map (due_at w) xs) ≡ length xs = length-map xs (due_at w) in omega (arith, h, long)))

-- ---- nothing is left of a distance

of_both : (P : Due → Type 0) (xs ys : List Due) → AllByRecursion P xs → AllByRecursion P ys → AllByRecursion P (xs ++ ys)
of_both P [] ys a b = b
of_both P (x ∷ xs) ys a b = (a.0, of_both P xs ys a.1 b)

apart : (n d : ℕ) (l : List ℕ) → d ≢ n → AllByRecursion (λ (f : Due). due_dist f ≢ n) (map (due_at d) l)
apart n d [] ne = tt
apart n d (r ∷ l) ne = (ne, apart n d l ne)

above : (n d : ℕ) (ls : List (List ℕ)) → n < d → AllByRecursion (λ (f : Due). due_dist f ≢ n) (dues_from d ls)
above n d [] h = tt
above n d (l ∷ ls) h = of_both (λ (f : Due). due_dist f ≢ n) (map (due_at d) l) (dues_from (suc d) ls) (apart n d l (omega arith)) (above n (suc d) ls (omega arith))

none_at : (n d : ℕ) (ls : List (List ℕ)) (k : ℕ) → n ≡ d + k → AllByRecursion (λ (f : Due). due_dist f ≢ n) (dues_from d (without ls k))
none_at n d [] k is = tt
none_at n d (l ∷ ls) zero is = above n (suc d) ls (omega (arith, is))
none_at n d (l ∷ ls) (suc k) is =
    of_both (λ (f : Due). due_dist f ≢ n) (map (due_at d) l) (dues_from (suc d) (without ls k)) (apart n d l (omega (arith, is))) (none_at n (suc d) ls k (omega (arith, is)))

-- of two lists of fresh boards
-- ---- the boards of a block

-- these boards are given away, and what is left is right
pub record IsGiven (kind : Kind) (P : ℤ → Type 0) (start : ℕ) (cells : List Cell) (stake : Stake) (fresh rest : List Due) (given : List ℕ) (stay : List Due) : Type 0 where
  pub gives : GivesFresh kind (part_of stake start cells fresh) (part_of stake start cells rest) given
  pub scores : AreOfScore P start cells stay

-- the boards that some lists have, of which this holds
module _ (stake : Stake) (start : ℕ) (cells : List Cell) (fresh : List Due) (sound : IsBlock stake start cells fresh) where
  -- if the board of this is of the open wave, it has this value
  abbrev IsValued : ℤ → Due → Type 0
  IsValued v f = due_dist f ≡ stake.wave → InBlock (part_of stake start cells fresh) (due_rank f) × (settled_at (part_of stake start cells fresh) (due_rank f) ≡ Some (v, stake.wave))

  value_at : (P : ℤ → Type 0) (v : ℤ) (f : Due) → ((s : ℤ) → IsEither stake.gain s → P s → s ≡ v) → is_settled_in start cells (due_rank f) ≡ true → IsDueAs stake f (cell_in start cells (due_rank f))
      → P (cell_in start cells (due_rank f)).score → IsValued v f
  value_at P v f sign settled due score e =
      let inside = settled_inside start cells (due_rank f) settled in
      let cell = cell_in start cells (due_rank f) in
      ((inside.0, inside.1), settled_cell cell stake.wave inside.2 (due.near ∙ e) ∙ (λ i. Some (sign cell.score due.valued score i, stake.wave)))

  -- boards of the open wave leave the lists of a kind
  module _ (kind : Kind) (P Q : ℤ → Type 0) (sign : (s : ℤ) → IsEither stake.gain s → P s → s ≡ value_of_kind kind stake.gain) (opposite : (s : ℤ) → IsEither stake.gain s → Q s → s ≡ value_of_kind (other kind) stake.gain)
      (mine others : List (List ℕ)) (rest : List Due) (whole : IsPermutation (dues_of mine ++ dues_of others) fresh) (left : IsPermutation (dues_of (without mine stake.wave) ++ dues_of others) rest)
      (of_mine : AreOfScore P start cells (dues_of mine)) (of_others : AreOfScore Q start cells (dues_of others)) where
    abbrev given : List ℕ
    given = list_at mine stake.wave

    abbrev gone : List Due
    gone = map (due_at stake.wave) given

    abbrev stay : List Due
    stay = dues_of (without mine stake.wave)

    gone_first : IsPermutation (gone ++ stay) (dues_of mine)
    gone_first = dues_without stake.wave 0 mine stake.wave (omega arith)

    moved : IsPermutation (gone ++ rest) fresh
    moved =
        IsPermutation-trans _ _ _ (IsPermutation-append_right gone _ _ (IsPermutation-sym _ _ left))
        (IsPermutation-trans _ _ _ (subst (λ (l : List Due). IsPermutation l (dues_of mine ++ dues_of others)) (append_assoc gone stay (dues_of others)) (IsPermutation-append_left (dues_of others) (gone ++ stay) (dues_of mine) gone_first)) whole)

    settled : All (λ (f : Due). is_settled_in start cells (due_rank f) ≡ true) (dues_of mine ++ dues_of others)
    settled = All-permutation (λ (f : Due). is_settled_in start cells (due_rank f) ≡ true) fresh _ (IsPermutation-sym _ _ whole) (All-from_recursion (λ (f : Due). is_settled_in start cells (due_rank f) ≡ true) fresh (due_settled (is_settled_in start cells) fresh sound.settled))

    due : All (λ (f : Due). IsDueAs stake f (cell_in start cells (due_rank f))) (dues_of mine ++ dues_of others)
    due = All-permutation (λ (f : Due). IsDueAs stake f (cell_in start cells (due_rank f))) fresh _ (IsPermutation-sym _ _ whole) sound.due

    mine_valued : All (IsValued (value_of_kind kind stake.gain)) (gone ++ stay)
    mine_valued = All-permutation (IsValued (value_of_kind kind stake.gain)) (dues_of mine) _ (IsPermutation-sym _ _ gone_first) (λ k d h. value_at P _ _ sign
        (All-append_first (λ (f : Due). is_settled_in start cells (due_rank f) ≡ true) (dues_of mine) (dues_of others) settled k d h)
        (All-append_first (λ (f : Due). IsDueAs stake f (cell_in start cells (due_rank f))) (dues_of mine) (dues_of others) due k d h) (of_mine k d h))

    others_valued : All (IsValued (value_of_kind (other kind) stake.gain)) (dues_of others)
    others_valued k d h = value_at Q _ _ opposite
        (All-append_second (λ (f : Due). is_settled_in start cells (due_rank f) ≡ true) (dues_of mine) (dues_of others) settled k d h)
        (All-append_second (λ (f : Due). IsDueAs stake f (cell_in start cells (due_rank f))) (dues_of mine) (dues_of others) due k d h) (of_others k d h)

    pub given_away : IsGiven kind P start cells stake fresh rest given stay
    given_away = record {
      gives = record {
        rest = refl;
        moved = moved;
        valued = λ k d h. unmapped (IsValued (value_of_kind kind stake.gain)) stake.wave given (All-append_first (IsValued (value_of_kind kind stake.gain)) gone stay mine_valued) k d h refl;
        left = λ k d h e. (All-permutation (IsValued (value_of_kind (other kind) stake.gain)) (stay ++ dues_of others) rest left
            (All-append (IsValued (value_of_kind (other kind) stake.gain)) stay (dues_of others)
            (λ j c less at. absurd (All-from_recursion _ stay (none_at stake.wave 0 mine stake.wave (omega arith)) j c less at)) others_valued) k d h e).1;
      };
      scores = All-append_second (λ (f : Due). P (cell_in start cells (due_rank f)).score) gone stay (All-permutation (λ (f : Due). P (cell_in start cells (due_rank f)).score) (dues_of mine) _ (IsPermutation-sym _ _ gone_first) of_mine);
    }

below_is : (gain : ℕ) (s : ℤ) → IsEither gain s → IsBelowZero s → s ≡ neg_ℤ (pos gain)
below_is gain s (inl up) low = absurd (omega (arith, ints, up, low))
below_is gain s (inr down) low = down

above_is : (gain : ℕ) (s : ℤ) → IsEither gain s → IsAboveZero s → s ≡ pos gain
above_is gain s (inl up) high = up
above_is gain s (inr down) high = absurd (omega (arith, ints, down, high))

-- ---- the lists of a kind are given away

module _ (wave : ℕ) (fresh : ByDistance) (stake : Stake) (start : ℕ) (cells : List Cell) (at : stake.wave ≡ wave) (sound : IsBlock stake start cells (listed_of fresh)) (signed : AreSigned start cells fresh) where
  pub lost_given : (lost : List (List ℕ)) → lost ≡ without fresh.lost wave
      → GivesFresh Lost (part_of stake start cells (listed_of fresh)) (part_of stake start cells (dues_of lost ++ dues_of fresh.won)) (list_at fresh.lost wave) × AreSigned start cells (record { lost = lost; won = fresh.won })
  lost_given lost is =
      subst (λ (ls : List (List ℕ)). GivesFresh Lost (part_of stake start cells (listed_of fresh)) (part_of stake start cells (dues_of ls ++ dues_of fresh.won)) (list_at fresh.lost wave) × AreSigned start cells (record { lost = ls; won = fresh.won })) (sym is)
      (subst (λ w. GivesFresh Lost (part_of stake start cells (listed_of fresh)) (part_of stake start cells (dues_of (without fresh.lost w) ++ dues_of fresh.won)) (list_at fresh.lost w) × AreSigned start cells (record { lost = without fresh.lost w; won = fresh.won })) at
      (away.gives, record { lost = away.scores; won = signed.won }))
    where
      stay : List Due
      stay = dues_of (without fresh.lost stake.wave)

      away : IsGiven Lost IsBelowZero start cells stake (listed_of fresh) (stay ++ dues_of fresh.won) (list_at fresh.lost stake.wave) stay
      away = given_away stake start cells (listed_of fresh) sound Lost IsBelowZero IsAboveZero (below_is stake.gain) (above_is stake.gain) fresh.lost fresh.won (stay ++ dues_of fresh.won)
          (IsPermutation-refl (listed_of fresh)) (IsPermutation-refl (stay ++ dues_of fresh.won)) signed.lost signed.won

  pub won_given : (won : List (List ℕ)) → won ≡ without fresh.won wave
      → GivesFresh Won (part_of stake start cells (listed_of fresh)) (part_of stake start cells (dues_of fresh.lost ++ dues_of won)) (list_at fresh.won wave) × AreSigned start cells (record { lost = fresh.lost; won = won })
  won_given won is =
      subst (λ (ls : List (List ℕ)). GivesFresh Won (part_of stake start cells (listed_of fresh)) (part_of stake start cells (dues_of fresh.lost ++ dues_of ls)) (list_at fresh.won wave) × AreSigned start cells (record { lost = fresh.lost; won = ls })) (sym is)
      (subst (λ w. GivesFresh Won (part_of stake start cells (listed_of fresh)) (part_of stake start cells (dues_of fresh.lost ++ dues_of (without fresh.won w))) (list_at fresh.won w) × AreSigned start cells (record { lost = fresh.lost; won = without fresh.won w })) at
      (away.gives, record { lost = signed.lost; won = away.scores }))
    where
      stay : List Due
      stay = dues_of (without fresh.won stake.wave)

      away : IsGiven Won IsAboveZero start cells stake (listed_of fresh) (dues_of fresh.lost ++ stay) (list_at fresh.won stake.wave) stay
      away = given_away stake start cells (listed_of fresh) sound Won IsAboveZero IsBelowZero (above_is stake.gain) (below_is stake.gain) fresh.won fresh.lost (dues_of fresh.lost ++ stay)
          (IsPermutation-append_comm (dues_of fresh.won) (dues_of fresh.lost)) (IsPermutation-append_comm stay (dues_of fresh.lost)) signed.won signed.lost

-- what is said of a kind
pub gives_as : (kind k : Kind) (part new : Part) (given : List ℕ) → kind ≡ k → GivesFresh k part new given → GivesFresh kind part new given
gives_as kind k part new given is gives = subst (λ (j : Kind). GivesFresh j part new given) (sym is) gives
