-- The predecessors of a board are found one after the other, and listed.
use Rattle.std.proofs.Common.{◌≡◌, ℕ, ◌+◌, ◌<◌, ◌≤◌, List, [], ◌∷◌, ◌++◌, length, get_or, set, map, refl, sym, ap, subst, ◌∙◌, arith, length-set, append_assoc, append-nil, suc, length-append, inl, inr, slice_index, All, sum, ◌^◌}
use Rattle.std.proofs.lemmas.List.{length_push, take_more_set, get_or-take, get_or-map, map-append, get_or_default}
use Rattle.std.proofs.Math.Seq.{get_or-append_seam}
use Rattle.awari_scan.specs.Found.{code_of, Lists, Source, IsSource, IsCodable, IsCodeOf}
use Rattle.awari_unmove.specs.Predecessors.{ComesBefore, IsPredecessors}
use Rattle.awari_board.specs.Rules.{IsBoard, IsMove}
use Rattle.awari_rank.specs.Rank.{size_of}
use Rattle.awari_rank.proofs.Ranking.{rank_of-below}
use Rattle.awari_rank.proofs.Examples.{highest}
use Rattle.awari_rank.proofs.Reaching.{size_of-grows}
use Rattle.awari_unmove.proofs.Walking.{IsQuiet-next}
use Rattle.awari_block.specs.Notes.{IsQuietMove}

-- how many items were seen, and how many there are in all
pub seen_more : {X : Type 0} (seen left more : List X) (x : X) → left ≡ x ∷ more → length (seen ++ left) ≡ length seen + 1 + length more
seen_more {X = X} seen left more x is = length-append seen left ∙ ap (λ (l : List X). length seen + length l) is ∙ (let e : length seen + suc (length more) ≡ length seen + 1 + length more = omega arith in e)

-- the next source, where one is left
pub record IsNext (q : List ℕ) (level : ℕ) (seen left : List Source) (t : ℕ) : Type 0 where
  pub y : Source
  pub more : List Source
  pub splits : left ≡ y ∷ more
  pub at : code_of y ≡ t
  pub source : IsSource level y

split_left : (seen left : List Source) → length seen < length (seen ++ left) → (y : Source) × (more : List Source) × (left ≡ y ∷ more)
split_left seen [] less = (let none = ap length (append-nil seen) in absurd (omega (arith, less, none)))
split_left seen (y ∷ more) less = (y, more, refl)

pub code_parts : (y : Source) (code : ℕ) → y.1 < 6 → code_of y ≡ code → IsCodeOf y code
code_parts y code own at = (omega (arith, own, at), omega (arith, own, at))

-- one more is put behind them
pub Lists-more : (targets : List ℕ) (n : ℕ) (sources : List Source) (y : Source) (t : ℕ) → n < length targets → t ≡ code_of y → Lists targets n sources
    → Lists (set targets n t) (n + 1) (sources ++ y ∷ [])
Lists-more targets n sources y t high is before = record {
  many = (let more = length_push sources y in let many = before.many in omega (arith, more, many));
  room = (let long = length-set targets n t in omega (arith, high, long));
  are = take_more_set targets n t high ∙ ap (λ ts. ts ++ t ∷ []) before.are ∙ ap (λ u. map code_of sources ++ u ∷ []) is ∙ sym (map-append code_of sources (y ∷ []));
}

-- what stands in a place
pub Lists-at : (targets : List ℕ) (n : ℕ) (seen left more : List Source) (y : Source) (d : ℕ) → Lists targets n (seen ++ left) → left ≡ y ∷ more → length seen < n
    → code_of y ≡ get_or targets (length seen) d
Lists-at targets n seen left more y d lists is less =
    let here : get_or (seen ++ left) (length seen) y ≡ y = ap (λ l. get_or (seen ++ l) (length seen) y) is ∙ get_or-append_seam seen y more y in
    let long = lists.many in
    ap code_of (sym here) ∙ sym (get_or-map code_of (seen ++ left) (length seen) y d (omega (arith, long, less)))
    ∙ ap (λ ts. get_or ts (length seen) d) (sym lists.are) ∙ get_or-take n targets (length seen) d less

-- the predecessor behind the first k of n that are listed
pub next_source : (q : List ℕ) (level : ℕ) (targets : List ℕ) (n k : ℕ) (seen left : List Source) (d : ℕ) → ((p : List ℕ) (x : ℕ) → IsBoard p → IsQuietMove p x q → sum q + 0 ≡ sum p) → sum q ≡ level
    → length seen ≡ k → IsPredecessors q (seen ++ left) → Lists targets n (seen ++ left) → k < n → IsNext q level seen left (get_or targets k d)
next_source q level targets n k seen left d keeps stones many predecessors listed less =
    let all = listed.many in
    let next = split_left seen left (omega (arith, many, all, less)) in
    let quiet = IsQuiet-next q seen left next.1 next.0 predecessors next.2 in
    record {
      y = next.0;
      more = next.1;
      splits = next.2;
      at = Lists-at targets n seen left next.1 next.0 d listed next.2 (omega (arith, many, less)) ∙ ap (λ i. get_or targets i d) many;
      source = (quiet.board, sym (keeps next.0.0 next.0.1 quiet.board quiet.move) ∙ (let same : sum q + 0 ≡ level = omega (arith, stones) in same), (q, quiet.move));
    }

-- and where all n were seen, none is left
pub none_left : (targets : List ℕ) (n k : ℕ) (seen left : List Source) → length seen ≡ k → Lists targets n (seen ++ left) → n ≤ k → seen ++ left ≡ seen
none_left targets n k seen [] many listed end = append-nil seen
none_left targets n k seen (y ∷ more) many listed end = (let all = listed.many in let long = length-append seen (y ∷ more) in absurd (omega (arith, many, all, long, end)))

-- ---- predecessors that are found one after the other

-- behind the found first targets stand those of the pairs that were seen, and the others are still to come
pub record IsFinding (pairs : List Source) (old now : List ℕ) (found count : ℕ) (seen left : List Source) : Type 0 where
  pub whole : pairs ≡ seen ++ left
  pub room : found + length pairs ≤ length old
  pub many : count ≡ found + length seen
  pub same : length now ≡ length old
  pub listed : (before : List Source) → Lists old found before → Lists now count (before ++ seen)

pub IsFinding-none : (pairs : List Source) (old : List ℕ) (found : ℕ) (left : List Source) → left ≡ pairs → found + length pairs ≤ length old → IsFinding pairs old old found found [] left
IsFinding-none pairs old found left is room = record {
  whole = sym is;
  room = room;
  many = omega arith;
  same = refl;
  listed = λ before are. subst (Lists old found) (sym (append-nil before)) are;
}

-- there is a place for the next
pub IsFinding-place : (pairs : List Source) (old now : List ℕ) (found count : ℕ) (seen left more : List Source) (y : Source) → IsFinding pairs old now found count seen left → left ≡ y ∷ more → count < length now
IsFinding-place pairs old now found count seen left more y before is =
    let long : length pairs ≡ length (seen ++ left) = ap length before.whole in
    let was = seen_more seen left more y is in let many = before.many in let same = before.same in let room = before.room in
    omega (arith, long, was, many, same, room)

pub IsFinding-more : (pairs : List Source) (old now : List ℕ) (found count : ℕ) (seen left more : List Source) (y : Source) (t : ℕ) → IsFinding pairs old now found count seen left
    → left ≡ y ∷ more → t ≡ code_of y → IsFinding pairs old (set now count t) found (count + 1) (seen ++ y ∷ []) more
IsFinding-more pairs old now found count seen left more y t before is at = record {
  whole = before.whole ∙ ap (λ l. seen ++ l) is ∙ sym (append_assoc seen (y ∷ []) more);
  room = before.room;
  many = (let many = before.many in let push = length_push seen y in omega (arith, many, push));
  same = length-set now count t ∙ before.same;
  listed = λ front are. subst (Lists (set now count t) (count + 1)) (append_assoc front seen (y ∷ []))
      (Lists-more now count (front ++ seen) y t (IsFinding-place pairs old now found count seen left more y before is) at (before.listed front are));
}

-- and the next fits its code
pub IsFinding-fits : (pairs : List Source) (old now : List ℕ) (found count : ℕ) (seen left more : List Source) (y : Source) → IsFinding pairs old now found count seen left → left ≡ y ∷ more → All IsCodable pairs
    → IsCodable y
IsFinding-fits pairs old now found count seen left more y before is all =
    subst IsCodable (ap (λ l. get_or l (length seen) y) (before.whole ∙ ap (λ l. seen ++ l) is) ∙ get_or-append_seam seen y more y)
    (all (length seen) y (let long = ap length before.whole in let was = seen_more seen left more y is in omega (arith, long, was)))

-- a level has few enough boards for codes
pub level_few : (n : ℕ) → n ≤ 24 → size_of n ≤ 2 ^ 29
level_few n low = omega (arith, size_of-grows n 24 low, highest)

-- each predecessor fits its code
pub codable : (q : List ℕ) (sources : List Source) → ((p : List ℕ) (x : ℕ) → IsBoard p → IsMove p x 0 q → sum q + 0 ≡ sum p) → sum q ≤ 24 → IsPredecessors q sources → All IsCodable sources
codable q sources keeps low are k d h =
    let y : Source = get_or sources k d in
    let quiet = (are.listed y.0 y.1).0 (k, h, get_or_default sources k y d h) in
    let below = rank_of-below y.0 quiet.board.pits in
    let same = keeps y.0 y.1 quiet.board quiet.move in
    let size : size_of (sum y.0) ≡ size_of (sum q) = ap size_of (let e : sum y.0 ≡ sum q = omega (arith, same) in e) in
    let few = level_few (sum q) low in
    (omega (arith, below, size, few), quiet.move.legal.own)

-- no move comes before itself
pub not_before_itself : (a b : Source) → a.0 ≡ b.0 → a.1 ≡ b.1 → ComesBefore a b → ⊥
not_before_itself a b boards pits (inl less) = omega (arith, less, pits)
not_before_itself a b boards pits (inr more) =
    let same : slice_index a.0 a.1 ≡ slice_index b.0 b.1 = ap (λ (p : List ℕ). slice_index p a.1) boards ∙ ap (slice_index b.0) pits in
    let less = more.1 in omega (arith, less, same)
