-- Play in which one side holds out: each ply leaves one ply less, or captures with the last.
use Rattle.std.proofs.Common.{◌≡◌, ◌≢◌, ℕ, ◌+◌, ◌<◌, ◌≤◌, ◌⊎◌, ◌↔◌, nat_eq, IsTrue, Bool, true, false, not, List, [], ◌∷◌, ◌++◌, length, sum, take, ℤ, pos, ◌-ℤ◌, ◌≤ℤ◌, ◌<ℤ◌, Option, None, Some, Result, Ok, Err, refl, sym, ap, ◌∙◌, subst, arith, inl, inr, length-append}
use Rattle.std.specs.Prelude.{int_lt, IfOk, IfSome, IsSome, IsSomeAnd}
use Rattle.std.proofs.lemmas.Bool.{cases_lt}
use Rattle.std.proofs.lemmas.Bool.Decides.{nat_tests}
use Rattle.std.proofs.lemmas.Int.{ints}
use Rattle.std.proofs.lemmas.List.{take-append-le, take_all}
use Rattle.awari_board.specs.Rules.{IsBoard, IsEnd, IsEnded, IsLegal, IsMove, captured, next_board}
use Rattle.awari_game.specs.Plays.{Standing, start, after, IsPlay, Follows}
use Rattle.awari_game.specs.Shown.{Shows}
use Rattle.awari_table.specs.Certificate.{Table, plies, MovesIn, MovesNoLater, IsRight}
use Rattle.awari_table.specs.Images.{entry_of, table_of}
use Rattle.awari_table.specs.declared.images.Entry.{Entry}
use Rattle.awari_table.specs.declared.images.Image.{Image}
use Rattle.awari_table.specs.declared.rules.Reached.{Reached}
use Rattle.awari_table.specs.Reached.{Reaches}
use Rattle.awari_table.proofs.CertificateLemmas.{plies_cases}
use Rattle.awari_theory.proofs.OlderLemmas.{DistancesFall-least}
use Rattle.awari_theory.proofs.Moves.{stones_kept, move_of}
use Rattle.awari_theory.proofs.Sides.{quiet_more, quiet_none}
use Rattle.awari_play.proofs.Following.{follows_more, one_more, one_standing}
use Rattle.awari_play.proofs.Lowered.{one_move}
use Rattle.awari_play.specs.Holding.{IsFar, TakesPlies}
use Rattle.awari_play.specs.LongestLine.{HoldsLongest, HoldsOut, IsDuePit, IsLongestLine, favours_mover}

-- ---- the pit that holds out longest

-- what a pit leads to says whether its move takes this many plies
takes_by : (t : Table) (p : List ℕ) (x k : ℕ) (s : Reached) → Reaches t p x (Some s) → (s.plies ≡ k → TakesPlies t p x k) × (TakesPlies t p x k → s.plies ≡ k)
takes_by t p x k s reaches = (
  (λ is. let (q, move, v, d) = reaches in (s.captured, q, move, sym d ∙ is)),
  (λ takes. let (c, q, move, is) = takes in sym (one_move t p x c q s reaches move).0 ∙ is),
)

nat_eq_is : (a b : ℕ) → IsTrue (nat_eq a b) ↔ (a ≡ b)
nat_eq_is a b = (λ sure. grind (arith, nat_tests), λ same. grind (arith, nat_tests))

pub takes_is : (t : Table) (p : List ℕ) (x k n : ℕ) (s : Reached) → Reaches t p x (Some s) → n ≡ k → IsTrue (nat_eq s.plies n) ↔ TakesPlies t p x k
takes_is t p x k n s reaches same =
    let by = takes_by t p x k s reaches in
    let test = nat_eq_is s.plies n in
    ((λ sure. by.0 (test.0 sure ∙ same)), (λ takes. test.1 (by.1 takes ∙ sym same)))

-- no pit below this one takes this many plies
pub record NoneTakes (t : Table) (p : List ℕ) (k x : ℕ) : Type 0 where
  pub none : (y : ℕ) → y < x → TakesPlies t p y k → ⊥

pub none_takes : (t : Table) (p : List ℕ) (k : ℕ) → NoneTakes t p k 0
none_takes t p k = record { none = λ y below takes. omega (arith, below) }

pub none_takes-more : (t : Table) (p : List ℕ) (k x : ℕ) (b : Bool) → IsTrue b ↔ TakesPlies t p x k → b ≡ false → NoneTakes t p k x → NoneTakes t p k (x + 1)
none_takes-more t p k x b is fails before = record {
  none = λ y below takes. elim (cases_lt y x) [
    | inl lt ↦ before.none y lt takes
    | inr ge ↦ let e : y ≡ x = omega (arith, ge, below) in clash b fails (is.1 (subst (λ z. TakesPlies t p z k) e takes))
  ];
}
  where
    clash : (b : Bool) → b ≡ false → IsTrue b → ⊥
    clash b e sure = grind arith

-- the lowest that takes the most holds out longest
pub holds_longest : (t : Table) (p : List ℕ) (k x : ℕ) → MovesNoLater t p k → NoneTakes t p k x → TakesPlies t p x k → HoldsLongest t p x
holds_longest t p k x most before (c, q, move, is) = record {
  captured = c;
  next = q;
  move = move;
  most = λ y d r other. let within = most y d r other in omega (arith, within, is);
  lowest = λ y d r below other.
      let within = most y d r other in
      elim (cases_lt (plies d (t.dist r)) k) [
        | inl lt ↦ omega (arith, lt, is)
        | inr ge ↦ absurd (before.none y below (d, r, other, omega (arith, ge, within)))
      ];
}

-- some pit takes them
pub one_takes : (t : Table) (p : List ℕ) (k x : ℕ) → MovesIn t p k → NoneTakes t p k x → 6 ≤ x → ⊥
one_takes t p k x (y, c, q, move, is) before all = before.none y (let own = move.legal.own in omega (arith, own, all)) (c, q, move, is)

-- ---- a board whose distance is not 0

pub far_open : (t : Table) (p : List ℕ) → IsRight t p → 1 ≤ t.dist p → IsEnded p → ⊥
far_open t p r far stuck = let end : IsEnd p _ = record { stuck = stuck; gains = refl } in omega (arith, (r.ends _ end).2, far)

pub far_legal : (t : Table) (p : List ℕ) → IsRight t p → 1 ≤ t.dist p → (x : ℕ) × IsLegal p x
far_legal t p r far = let (x, plan, legal) = r.has_plan (far_open t p r far) in (x, legal)

even_or_lost : (v : ℤ) → (pos 0 <ℤ v → ⊥) → (v <ℤ pos 0) ⊎ (v ≡ pos 0)
even_or_lost v low = grind (arith, ints)

pub far_lost : (t : Table) (p : List ℕ) → IsRight t p → 1 ≤ t.dist p → (pos 0 <ℤ t.value p → ⊥) → (t.value p <ℤ pos 0) × MovesIn t p (t.dist p) × MovesNoLater t p (t.dist p)
far_lost t p r far low = elim (even_or_lost (t.value p) low) [
  | inl down ↦ (let both = r.distances.lost (far_open t p r far) down in (down, both.0, both.1))
  | inr even ↦ absurd (omega (arith, r.distances.even even, far))
]

-- ---- one ply

up_turns : (v w : ℤ) → (pos 0 -ℤ w) ≡ v → pos 0 <ℤ v → w <ℤ pos 0
up_turns v w gain up = omega (arith, ints, gain, up)

down_turns : (v w : ℤ) → (pos 0 -ℤ w) ≤ℤ v → v <ℤ pos 0 → pos 0 <ℤ w
down_turns v w more down = omega (arith, ints, more, down)

-- the plan of a won board takes as many plies as the distance
won_plies : (t : Table) (p : List ℕ) (x c : ℕ) (q : List ℕ) → IsRight t p → 1 ≤ t.dist p → pos 0 <ℤ t.value p → t.plan p ≡ Some x → IsMove p x c q → plies c (t.dist q) ≡ t.dist p
won_plies t p x c q r far up plan move =
    let soonest = (r.distances.won (far_open t p r far) up).1 x c q move (r.plan_gains x c q plan move) in
    elim (plies_cases c (t.dist q)) [
      | inl taken ↦ omega (arith, taken.1, soonest, far)
      | inr quiet ↦ elim (r.distances.winning up x c q plan move) [
        | inl some ↦ absurd (omega (arith, some, quiet.0))
        | inr near ↦ omega (arith, near, soonest, quiet.1)
      ]
    ]

-- and so does the pit of a lost board that holds out longest
lost_plies : (t : Table) (p : List ℕ) (x c : ℕ) (q : List ℕ) → IsRight t p → 1 ≤ t.dist p → t.value p <ℤ pos 0 → HoldsLongest t p x → IsMove p x c q → plies c (t.dist q) ≡ t.dist p
lost_plies t p x c q r far down holds move =
    let both = r.distances.lost (far_open t p r far) down in
    let (y, d, s, other, is) = both.0 in
    let within = holds.most y d s other in
    let own = both.1 x holds.captured holds.next holds.move in
    let same : c ≡ holds.captured = move.captures ∙ sym holds.move.captures in
    let there : q ≡ holds.next = move.leaves ∙ sym holds.move.leaves in
    let alike : plies c (t.dist q) ≡ plies holds.captured (t.dist holds.next) = ap (λ n. plies n (t.dist q)) same ∙ ap (λ b. plies holds.captured (t.dist b)) there in
    omega (arith, alike, is, within, own)

-- the side is the one that the board favours
pub record IsGood (t : Table) (first : Bool) (s : Standing) : Type 0 where
  pub won : s.first_moves ≡ first → pos 0 <ℤ t.value s.board
  pub lost : s.first_moves ≡ not first → t.value s.board <ℤ pos 0

due_plies : (t : Table) (p : List ℕ) (x c : ℕ) (q : List ℕ) → IsRight t p → 1 ≤ t.dist p → IsDuePit t p x → IsMove p x c q → plies c (t.dist q) ≡ t.dist p
due_plies t p x c q r far due move = elim (cases_sign (t.value p)) [
  | inl up ↦ won_plies t p x c q r far up (due.favoured up) move
  | inr low ↦ let down = (far_lost t p r far low).0 in lost_plies t p x c q r far down (due.other down) move
]
  where
    cases_sign : (v : ℤ) → (pos 0 <ℤ v) ⊎ (pos 0 <ℤ v → ⊥)
    cases_sign v = grind (arith, ints)

turn_won : (first moves : Bool) → not moves ≡ first → moves ≡ not first
turn_won true true e = sym e
turn_won true false e = refl
turn_won false true e = refl
turn_won false false e = sym e

turn_lost : (first moves : Bool) → not moves ≡ not first → moves ≡ first
turn_lost true true e = refl
turn_lost true false e = sym e
turn_lost false true e = sym e
turn_lost false false e = refl

good_next : (t : Table) (first : Bool) (s : Standing) (x : ℕ) → IsRight t s.board → IsDuePit t s.board x → captured s.board x ≡ 0 → IsGood t first s → IsGood t first (after s x)
good_next t first s x r due none good =
    let move : IsMove s.board x 0 (next_board s.board x) = subst (λ c. IsMove s.board x c (next_board s.board x)) none (move_of s.board x due.legal) in
    record {
      won = λ turn. let down = good.lost (turn_won first s.first_moves turn) in down_turns _ _ (r.no_more x 0 _ move) down;
      lost = λ turn. let up = good.won (turn_lost first s.first_moves turn) in up_turns _ _ (r.plan_gains x 0 _ (due.favoured up) move) up;
    }

-- ---- a play so far

-- nothing was captured, and the distance has fallen by as many plies
pub record IsOpen (t : Table) (first : Bool) (dist k : ℕ) (s : Standing) : Type 0 where
  pub quiet : s.quiet ≡ k
  pub left : t.dist s.board + k ≡ dist
  pub good : 0 < dist → IsGood t first s

-- or the last ply captured
abbrev pub IsOnWay : Table → Bool → ℕ → ℕ → Standing → Type 0
IsOnWay t first dist k s = ((s.quiet ≡ 0) × (k ≡ dist)) ⊎ IsOpen t first dist k s

open_at : (t : Table) (first : Bool) (dist k : ℕ) (s : Standing) → k < dist → IsOnWay t first dist k s → IsOpen t first dist k s
open_at t first dist k s near way = elim way [ inl come ↦ absurd (omega (arith, come.1, near)) | inr still ↦ still ]

way-more : (t : Table) (first : Bool) (dist k : ℕ) (s : Standing) (x : ℕ) → IsRight t s.board → IsDuePit t s.board x → k < dist → IsOpen t first dist k s
    → IsOnWay t first dist (k + 1) (after s x)
way-more t first dist k s x r due near still =
    let far : 1 ≤ t.dist s.board = omega (arith, still.left, near) in
    let takes = due_plies t s.board x _ _ r far due (move_of s.board x due.legal) in
    let left = still.left in
    elim (plies_cases (captured s.board x) (t.dist (next_board s.board x))) [
      | inl taken ↦ inl (quiet_none (captured s.board x) s.quiet taken.0, omega (arith, taken.1, takes, left))
      | inr quiet ↦ inr (record {
        quiet = quiet_more (captured s.board x) s.quiet quiet.0 ∙ ap (λ n. n + 1) still.quiet;
        left = omega (arith, quiet.1, takes, left);
        good = λ some. good_next t first s x r due quiet.0 (still.good some);
      })
    ]

-- each proper beginning of the play has captured nothing
abbrev pub StaysQuiet : List ℕ → List ℕ → Type 0
StaysQuiet board moves = (n : ℕ) (s : Standing) → n < length moves → IsPlay (start board) (take n moves) s → s.quiet ≡ n

stays_quiet-more : (board moves : List ℕ) (x : ℕ) (u : Standing) → IsPlay (start board) moves u → u.quiet ≡ length moves → StaysQuiet board moves → StaysQuiet board (moves ++ x ∷ [])
stays_quiet-more board moves x u whole none before n s below play =
    let within : n ≤ length moves = let more = length-append moves (x ∷ []) in omega (arith, below, more) in
    let begins : IsPlay (start board) (take n moves) s = subst (λ xs. IsPlay (start board) xs s) (take-append-le n moves (x ∷ []) within) play in
    elim (cases_lt n (length moves)) [
      | inl lt ↦ before n s lt begins
      | inr ge ↦
          let all : IsPlay (start board) moves s = subst (λ xs. IsPlay (start board) xs s) (take_all n moves ge) begins in
          let same : s ≡ u = one_standing moves (start board) s u all whole in
          let quiet : s.quiet ≡ u.quiet = ap (λ (v : Standing). v.quiet) same in
          omega (arith, quiet, none, within, ge)
    ]

holds_more : (t : Table) (side : Bool) (xs : List ℕ) (x : ℕ) (from s : Standing) → IsPlay from xs s → (s.first_moves ≡ side → HoldsLongest t s.board x)
    → HoldsOut t side from xs → HoldsOut t side from (xs ++ x ∷ [])
holds_more t side [] x from s play is holds = (subst (λ (v : Standing). v.first_moves ≡ side → HoldsLongest t v.board x) play is, tt)
holds_more t side (y ∷ xs) x from s play is holds = (holds.0, holds_more t side xs x (after from y) s play.1 is holds.1)

first_won : (v : ℤ) → true ≡ int_lt (pos 0) v → pos 0 <ℤ v
first_won v e = grind (arith, ints, nat_tests)

first_lost : (v : ℤ) → v ≢ pos 0 → true ≡ not (int_lt (pos 0) v) → v <ℤ pos 0
first_lost v other e = grind (arith, ints, nat_tests)

good_start : (t : Table) (board : List ℕ) → IsRight t board → 0 < t.dist board → IsGood t (favours_mover t board) (start board)
good_start t board r far = record {
  won = first_won (t.value board);
  lost = first_lost (t.value board) (λ even. omega (arith, r.distances.even even, far));
}

either_side : (first moves : Bool) → (moves ≡ first) ⊎ (moves ≡ not first)
either_side true true = inl refl
either_side true false = inr refl
either_side false true = inr refl
either_side false false = inl refl

good_uneven : (t : Table) (first : Bool) (s : Standing) → IsGood t first s → t.value s.board ≢ pos 0
good_uneven t first s good even = elim (either_side first s.first_moves) [
  | inl turn ↦ (let up = good.won turn in omega (arith, ints, up, even))
  | inr turn ↦ (let down = good.lost turn in omega (arith, ints, down, even))
]

some_moves : (moves : List ℕ) → moves ≢ [] → 0 < length moves
some_moves [] some = absurd (some refl)
some_moves (x ∷ xs) some = omega arith

-- The play of a longest line after k plies, by what images say. This is the entry of its board, which is right.
pub record IsHeld (images : List Image) (k : ℕ) (board : List ℕ) (seen : Standing) (e : Entry) (moves : List ℕ) : Type 0 where
  pub shows : Shows seen board moves
  pub size : length moves ≡ k
  pub favoured : Follows (table_of images).plan (favours_mover (table_of images) board) (start board) moves
  pub other : HoldsOut (table_of images) (not (favours_mover (table_of images) board)) (start board) moves
  pub quiet : StaysQuiet board moves
  pub way : IsOnWay (table_of images) (favours_mover (table_of images) board) ((table_of images).dist board) k shows.standing
  pub entry : e ≡ entry_of images seen.board
  pub right : IsRight (table_of images) seen.board

module _ (images : List Image) (board : List ℕ) where
  abbrev t : Table
  t = table_of images

  abbrev first : Bool
  first = favours_mover t board

  pub held-start : (seen : Standing) (e : Entry) → IsRight t board → e ≡ entry_of images board → Shows seen board [] → IsHeld images 0 board seen e []
  held-start seen e r same shows =
      let at : shows.standing ≡ start board = shows.play in
      let there : seen.board ≡ board = shows.shown.board ∙ ap (λ (s : Standing). s.board) at in
      let opened : IsOpen t first (t.dist board) 0 (start board) = record { quiet = refl; left = omega arith; good = good_start t board r } in
      record {
        shows = shows;
        size = refl;
        favoured = tt;
        other = tt;
        quiet = λ n s below. absurd (omega (arith, below));
        way = inr (subst (IsOpen t first (t.dist board) 0) (sym at) opened);
        entry = same ∙ sym (ap (entry_of images) there);
        right = subst (IsRight t) (sym there) r;
      }

  -- a ply on the way has a board whose distance is not 0
  pub held-far : (k : ℕ) (seen : Standing) (e : Entry) (moves : List ℕ) → k < t.dist board → IsHeld images k board seen e moves → IsFar images seen.board e
  held-far k seen e moves near held =
      let left = (open_at t _ _ _ _ near held.way).left in
      record { entry = held.entry; right = held.right; far = subst (λ b. 1 ≤ t.dist b) (sym held.shows.shown.board) (omega (arith, left, near)) }

  pub held-more : (k : ℕ) (seen later : Standing) (e f : Entry) (moves : List ℕ) (x : ℕ) → k < t.dist board → IsDuePit t seen.board x → IsHeld images k board seen e moves
      → Shows later board (moves ++ x ∷ []) → IsRight t later.board → f ≡ entry_of images later.board → IsHeld images (k + 1) board later f (moves ++ x ∷ [])
  held-more k seen later e f moves x near due held shows r same =
      let s = held.shows.standing in
      let at : shows.standing ≡ after s x = one_more moves x (start board) s shows.standing held.shows.play shows.play in
      let there : seen.board ≡ s.board = held.shows.shown.board in
      let right : IsRight t s.board = subst (IsRight t) there held.right in
      let mine : IsDuePit t s.board x = subst (λ b. IsDuePit t b x) there due in
      let still : IsOpen t first (t.dist board) k s = open_at t _ _ _ _ near held.way in
      let good = still.good (omega (arith, near)) in
      let more = length-append moves (x ∷ []) in
      record {
        shows = shows;
        size = omega (arith, more, held.size);
        favoured = follows_more t.plan _ moves x (start board) s held.shows.play (λ turn. mine.favoured (good.won turn)) held.favoured;
        other = holds_more t _ moves x (start board) s held.shows.play (λ turn. mine.other (good.lost turn)) held.other;
        quiet = stays_quiet-more board moves x s held.shows.play (still.quiet ∙ sym held.size) held.quiet;
        way = subst (IsOnWay t first (t.dist board) (k + 1)) (sym at) (way-more t _ _ k s x right mine near still);
        entry = same;
        right = r;
      }

  -- after as many plies as the distance it is the line
  pub held-end : (k : ℕ) (seen : Standing) (e : Entry) (moves : List ℕ) → k ≡ t.dist board → IsHeld images k board seen e moves → IsLongestLine t board moves
  held-end k seen e moves all held = record {
    last = held.shows.standing;
    play = held.shows.play;
    favoured = held.favoured;
    other = held.other;
    quiet = held.quiet;
    ends = λ some. elim held.way [
      | inl come ↦ inl come.0
      | inr still ↦ inr (ended_at (omega (arith, some_moves moves some, held.size, all)) still)
    ];
    size = held.size ∙ all;
  }
    where
      right : IsRight t held.shows.standing.board
      right = subst (IsRight t) held.shows.shown.board held.right

      ended_at : 0 < t.dist board → IsOpen t first (t.dist board) k held.shows.standing → IsEnded held.shows.standing.board
      ended_at some still = λ x legal.
          let far = (DistancesFall-least t _ right.distances).uneven (λ stuck. stuck x legal) (good_uneven t _ _ (still.good some)) in
          let left = still.left in
          omega (arith, far, left, all)

-- ---- the pit by an entry

-- the plan of a board that favours its mover
pub far_planned : (images : List Image) (p : List ℕ) (e : Entry) → IsFar images p e → pos 0 <ℤ e.value → IsSomeAnd e.plan (IsDuePit (table_of images) p)
far_planned images p e is up =
    let t = table_of images in
    let (x, plan, legal) = is.right.has_plan (far_open t p is.right is.far) in
    let won : pos 0 <ℤ t.value p = subst (λ (f : Entry). pos 0 <ℤ f.value) is.entry up in
    let due : IsDuePit t p x = record { legal = legal; favoured = λ same. plan; other = λ down. absurd (omega (arith, ints, won, down)) } in
    subst (λ o. IsSomeAnd o (IsDuePit t p)) (sym (ap (λ (f : Entry). f.plan) is.entry ∙ plan)) due

-- and of any other that which holds out longest
pub far_stubborn : (images : List Image) (p : List ℕ) (e : Entry) (r : Option ℕ) → IsFar images p e → (pos 0 <ℤ e.value → ⊥)
    → (MovesNoLater (table_of images) p e.dist → IfSome r (HoldsLongest (table_of images) p)) → (MovesIn (table_of images) p e.dist → IsSome r) → IsSomeAnd r (IsDuePit (table_of images) p)
far_stubborn images p e r is low holds some =
    let t = table_of images in
    let lost = far_lost t p is.right is.far (λ up. low (subst (λ (f : Entry). pos 0 <ℤ f.value) (sym is.entry) up)) in
    let dist : t.dist p ≡ e.dist = sym (ap (λ (f : Entry). f.dist) is.entry) in
    both r (holds (subst (MovesNoLater t p) dist lost.2)) (some (subst (MovesIn t p) dist lost.1)) lost.0
  where
    both : (r : Option ℕ) → IfSome r (HoldsLongest (table_of images) p) → IsSome r → (table_of images).value p <ℤ pos 0 → IsSomeAnd r (IsDuePit (table_of images) p)
    both None h is down = absurd cc
    both (Some x) h is down = record { legal = h.move.legal; favoured = λ up. absurd (omega (arith, ints, up, down)); other = λ same. h }

pub far_stubborn_ok : {F : Type 0} (images : List Image) (p : List ℕ) (e : Entry) (r : Result (Option ℕ) F) → IsFar images p e → (pos 0 <ℤ e.value → ⊥)
    → (MovesNoLater (table_of images) p e.dist → IfOk r (λ o. IfSome o (HoldsLongest (table_of images) p))) → (MovesIn (table_of images) p e.dist → IfOk r IsSome) → IfOk r (λ o. IsSomeAnd o (IsDuePit (table_of images) p))
far_stubborn_ok images p e (Ok r) is low holds some = far_stubborn images p e r is low holds some
far_stubborn_ok images p e (Err f) is low holds some = tt
