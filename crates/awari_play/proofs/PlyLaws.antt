-- The plies of a play, one more at a time, and the boards that stand in it.
use Rattle.std.proofs.Common.{◌≡◌, ℕ, zero, suc, ◌+◌, ◌-◌, ◌<◌, ◌≤◌, Bool, true, false, List, [], ◌∷◌, ◌++◌, length, sum, take, get_or, slice_get, ℤ, Option, Some, None, IfSome, refl, sym, ap, ◌∙◌, subst, arith, inl, inr}
use Rattle.std.proofs.lemmas.Bool.{cases_lt}
use Rattle.std.proofs.lemmas.List.{length-map, length-take-le, take_all, take_more}
use Rattle.std.proofs.lemmas.Option.{slice_get-map, slice_get-get_or}
use Rattle.std.specs.Prelude.{option_map}
use Rattle.awari_board.specs.Rules.{IsBoard, IsLegal, captured, next_board}
use Rattle.awari_game.specs.Plays.{Standing, start, after, IsPlay}
use Rattle.awari_game.specs.Shown.{Shows}
use Rattle.awari_theory.proofs.Moves.{stones_kept, move_of}
use Rattle.awari_play.proofs.Following.{one_more}
use Rattle.awari_table.specs.Images.{entry_of}
use Rattle.awari_table.specs.declared.images.Image.{Image}
use Rattle.awari_table.specs.declared.images.Entry.{Entry}
use Rattle.awari_play.specs.declared.plies.Ply.{Ply}
use Rattle.awari_play.specs.declared.plies.Repeat.{Repeat}
use Rattle.awari_play.specs.Plies.{IsRepeatIf, NoneRepeats, boards_in, plies_of, ply_of}

plies-more : (images : List Image) (n : ℕ) (from u : Standing) (xs : List ℕ) (x : ℕ) → IsPlay from xs u → plies_of images n from (xs ++ x ∷ []) ≡ plies_of images n from xs ++ ply_of images (n + length xs) u x ∷ []
unfolding plies_of
plies-more images n from u [] x play =
    let here : n ≡ n + 0 = omega arith in
    ap (λ (m : ℕ). ply_of images m from x ∷ []) here ∙ ap (λ (v : Standing). ply_of images (n + 0) v x ∷ []) (sym play)
plies-more images n from u (y ∷ xs) x play =
    let there : n + 1 + length xs ≡ n + length (y ∷ xs) = omega arith in
    ap (λ (l : List Ply). ply_of images n from y ∷ l) (plies-more images (n + 1) (after from y) u xs x play.1 ∙ ap (λ (m : ℕ). plies_of images (n + 1) (after from y) xs ++ ply_of images m u x ∷ []) there)

-- the next pit of a play is legal
legal_at : (from last u : Standing) (xs : List ℕ) (i d : ℕ) → IsPlay from xs last → i < length xs → IsPlay from (take i xs) u → IsLegal u.board (get_or xs i d)
legal_at from last u [] i d play lt so_far = absurd (omega (arith, lt))
legal_at from last u (x ∷ xs) zero d play lt so_far = subst (λ (v : Standing). IsLegal v.board x) (sym so_far) play.0
legal_at from last u (x ∷ xs) (suc i) d play lt so_far = legal_at (after from x) last u xs i d play.1 (omega (arith, lt)) so_far.1

-- the next pit of a play is legal
pub legal_next : (board moves : List ℕ) (i x : ℕ) (seen last : Standing) → IsPlay (start board) moves last → i < length moves → x ≡ get_or moves i x → Shows seen board (take i moves) → IsLegal seen.board x
legal_next board moves i x seen last play lt is shows =
    subst (IsLegal seen.board) (sym is) (subst (λ b. IsLegal b (get_or moves i x)) (sym shows.shown.board) (legal_at (start board) last shows.standing moves i x play lt shows.play))

pub shows_more : (board moves : List ℕ) (i x : ℕ) (later : Standing) → i < length moves → x ≡ get_or moves i x → Shows later board (take i moves ++ x ∷ []) → Shows later board (take (i + 1) moves)
shows_more board moves i x later lt is shows =
    let more : take i moves ++ x ∷ [] ≡ take (i + 1) moves = ap (λ (z : ℕ). take i moves ++ z ∷ []) is ∙ sym (take_more moves i x lt) in
    subst (Shows later board) more shows

-- what is told of the first i plies
pub record IsTold (images : List Image) (board moves : List ℕ) (i : ℕ) (seen : Standing) (plies : List Ply) : Type 0 where
  pub shows : Shows seen board (take i moves)
  pub known : sum seen.board < length images
  pub each : plies ≡ plies_of images 1 (start board) (take i moves)

pub told-start : (images : List Image) (board moves : List ℕ) (seen : Standing) → sum board < length images → Shows seen board [] → IsTold images board moves 0 seen []
unfolding plies_of
told-start images board moves seen low shows =
    let there : seen.board ≡ board = shows.shown.board ∙ ap (λ (s : Standing). s.board) shows.play in
    record { shows = shows; known = subst (λ b. sum b < length images) (sym there) low; each = refl }

pub told-more : (images : List Image) (board moves : List ℕ) (i x : ℕ) (seen later : Standing) (plies : List Ply) (ply : Ply) → i < length moves → x ≡ get_or moves i x
    → (told : IsTold images board moves i seen plies) → ply ≡ ply_of images (i + 1) told.shows.standing x → Shows later board (take i moves ++ x ∷ []) → IsBoard seen.board → IsLegal seen.board x
    → IsTold images board moves (i + 1) later (plies ++ ply ∷ [])
told-more images board moves i x seen later plies ply lt is told one shows whole legal =
    let more : take i moves ++ x ∷ [] ≡ take (i + 1) moves = ap (λ (z : ℕ). take i moves ++ z ∷ []) is ∙ sym (take_more moves i x lt) in
    let few : length (take i moves) ≡ i = length-take-le i moves (omega (arith, lt)) in
    let number : i + 1 ≡ 1 + length (take i moves) = omega (arith, few) in
    let all = plies-more images 1 (start board) told.shows.standing (take i moves) x told.shows.play in
    let kept = stones_kept seen.board x _ _ whole (move_of seen.board x legal) in
    let at : shows.standing ≡ after told.shows.standing x = one_more (take i moves) x (start board) told.shows.standing shows.standing told.shows.play shows.play in
    let left : later.board ≡ next_board seen.board x = shows.shown.board ∙ ap (λ (v : Standing). v.board) at ∙ ap (λ b. next_board b x) (sym told.shows.shown.board) in
    let fewer : sum later.board ≡ sum (next_board seen.board x) = ap sum left in
    record {
      shows = subst (Shows later board) more shows;
      known = omega (arith, told.known, kept, fewer);
      each =
          ap (λ (l : List Ply). l ++ ply ∷ []) told.each
          ∙ ap (λ (p : Ply). plies_of images 1 (start board) (take i moves) ++ p ∷ []) (one ∙ ap (λ (n : ℕ). ply_of images n told.shows.standing x) number)
          ∙ sym all
          ∙ ap (λ (l : List ℕ). plies_of images 1 (start board) l) more;
    }

pub told-end : (images : List Image) (board moves : List ℕ) (i : ℕ) (seen : Standing) (plies : List Ply) → IsTold images board moves i seen plies → length moves ≤ i → plies ≡ plies_of images 1 (start board) moves
told-end images board moves i seen plies told all = told.each ∙ ap (λ (l : List ℕ). plies_of images 1 (start board) l) (take_all i moves all)

-- a ply of these fields
abbrev pub ply_with : ℕ → ℕ → ℕ → ℤ → List ℕ → Entry → Ply
ply_with n x c r b e = record { number = n; pit = x; captured = c; running = r; board = b; entry = e }

-- what stands after a ply is what is told of it
pub told-ply : (images : List Image) (board pits : List ℕ) (n x c : ℕ) (r : ℤ) (b : List ℕ) (e : Entry) (seen later : Standing) → (shows : Shows seen board pits) → Shows later board (pits ++ x ∷ [])
    → c ≡ captured seen.board x → r ≡ later.running → b ≡ next_board seen.board x → e ≡ entry_of images b → ply_with n x c r b e ≡ ply_of images n shows.standing x
told-ply images board pits n x c r b e seen later shows further takes is_running there is_entry =
    let s = shows.standing in
    let at : further.standing ≡ after s x = one_more pits x (start board) s further.standing shows.play further.play in
    let here : seen.board ≡ s.board = shows.shown.board in
    let took : c ≡ captured s.board x = takes ∙ ap (λ p. captured p x) here in
    let ahead : r ≡ (after s x).running = is_running ∙ further.shown.running ∙ ap (λ (v : Standing). v.running) at in
    let left : b ≡ next_board s.board x = there ∙ ap (λ p. next_board p x) here in
    let says : e ≡ entry_of images (next_board s.board x) = is_entry ∙ ap (λ p. entry_of images p) left in
    ap (λ (k : ℕ). ply_with n x k r b e) took
    ∙ ap (λ (z : ℤ). ply_with n x (captured s.board x) z b e) ahead
    ∙ ap (λ (p : List ℕ). ply_with n x (captured s.board x) (after s x).running p e) left
    ∙ ap (λ (f : Entry). ply_with n x (captured s.board x) (after s x).running (next_board s.board x) f) says

-- ---- the boards that stand

pub first_stands : (board : List ℕ) (plies : List Ply) → slice_get (boards_in board plies) 0 ≡ Some board
first_stands board plies = refl

at_ply : (board : List ℕ) (plies : List Ply) (k : ℕ) (d : Ply) → k < length plies → slice_get (boards_in board plies) (suc k) ≡ Some (get_or plies k d).board
at_ply board plies k d lt = slice_get-map (λ (ply : Ply). ply.board) plies k ∙ ap (λ o. option_map (λ (ply : Ply). ply.board) o) (slice_get-get_or plies k d lt)

pub ply_stands : (board : List ℕ) (plies : List Ply) (count : ℕ) (d : Ply) → 1 ≤ count → count ≤ length plies → slice_get (boards_in board plies) count ≡ Some (get_or plies (count - 1) d).board
ply_stands board plies zero d some within = absurd (omega (arith, some))
ply_stands board plies (suc k) d some within =
    let here : k ≡ suc k - 1 = omega arith in
    at_ply board plies k d (omega (arith, within)) ∙ ap (λ (j : ℕ). Some (get_or plies j d).board) here

pub boards_len : (board : List ℕ) (plies : List Ply) → length (boards_in board plies) ≡ length plies + 1
boards_len board plies = let same = length-map plies (λ (ply : Ply). ply.board) in omega (arith, same)

-- none of the first few boards is the one after this ply
pub record IsNew (boards : List (List ℕ)) (first again : ℕ) : Type 0 where
  pub new : (i : ℕ) → i < first → slice_get boards i ≡ slice_get boards again → ⊥

pub new-none : (boards : List (List ℕ)) (again : ℕ) → IsNew boards 0 again
new-none boards again = record { new = λ i below same. omega (arith, below) }

pub new-more : (boards : List (List ℕ)) (first again : ℕ) → (slice_get boards first ≡ slice_get boards again → ⊥) → IsNew boards first again → IsNew boards (first + 1) again
new-more boards first again other before = record {
  new = λ i below same. elim (cases_lt i first) [
    | inl lt ↦ before.new i lt same
    | inr ge ↦ let e : i ≡ first = omega (arith, ge, below) in other (subst (λ j. slice_get boards j ≡ slice_get boards again) e same)
  ];
}

-- no board of the first n stands twice
pub record IsFresh (boards : List (List ℕ)) (n : ℕ) : Type 0 where
  pub none : NoneRepeats boards n

pub fresh-start : (boards : List (List ℕ)) → IsFresh boards 1
fresh-start boards = record { none = λ i j before below same. omega (arith, before, below) }

pub fresh-more : (boards : List (List ℕ)) (n : ℕ) → ((i : ℕ) → i < n → slice_get boards i ≡ slice_get boards n → ⊥) → IsFresh boards n → IsFresh boards (n + 1)
fresh-more boards n new before = record {
  none = λ i j earlier below same. elim (cases_lt j n) [
    | inl lt ↦ before.none i j earlier lt same
    | inr ge ↦ let e : j ≡ n = omega (arith, ge, below) in new i (omega (arith, earlier, e)) (subst (λ k. slice_get boards i ≡ slice_get boards k) e same)
  ];
}

-- a repeat is within the plies
pub repeat_within : (even : Bool) (board : List ℕ) (plies : List Ply) (repeat : Option Repeat) → IsRepeatIf even (boards_in board plies) repeat → IfSome repeat (λ r. r.again ≤ length plies)
repeat_within even board plies None h = tt
repeat_within true board plies (Some r) h = let len = boards_len board plies in omega (arith, h.within, len)
repeat_within false board plies (Some r) h = absurd (cc h)
