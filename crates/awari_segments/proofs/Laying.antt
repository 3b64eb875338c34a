-- What is laid for the blocks.
use Rattle.std.proofs.Common.{◌≡◌, ◌≢◌, ℕ, ◌+◌, ◌/◌, ◌<◌, ◌≤◌, ◌==◌, Bool, true, false, cond, List, [], ◌∷◌, ◌++◌, length, get_or, map, filter, sum, refl, sym, ap, subst, ◌∙◌, arith, append_assoc, append-nil, eqb-true}
use Rattle.std.proofs.lemmas.Bool.Decides.{nat_tests}
use Rattle.std.proofs.lemmas.List.{length_push}
use Rattle.awari_board.specs.Rules.{IsBoard}
use Rattle.awari_rank.specs.Rank.{rank_of}
use Rattle.awari_block.specs.Notes.{IsQuietMove}
use Rattle.awari_unmove.specs.Predecessors.{IsPredecessors}
use Rattle.awari_scan.specs.Found.{Lists, Source, code_of}
use Rattle.awari_scan.proofs.Finding.{IsNext, next_source, none_left}
use Rattle.awari_segments.specs.Lists.{list_at, with_put}
use Rattle.awari_segments.specs.Segments.{AreSourcesOf, Finds, Puts, codes_to}
use Rattle.awari_segments.proofs.ListLemmas.{with_put-at, with_put-other}

pub codes_to-append : (span to : ℕ) (xs ys : List Source) → codes_to span to (xs ++ ys) ≡ codes_to span to xs ++ codes_to span to ys
codes_to-append span to [] ys = refl
codes_to-append span to (x ∷ xs) ys = at (rank_of x.0 / span == to) (codes_to-append span to xs ys)
  where
    at : (b : Bool) → codes_to span to (xs ++ ys) ≡ codes_to span to xs ++ codes_to span to ys
        → map code_of (cond b (x ∷ filter (λ y. rank_of y.0 / span == to) (xs ++ ys)) (filter (λ y. rank_of y.0 / span == to) (xs ++ ys)))
        ≡ map code_of (cond b (x ∷ filter (λ y. rank_of y.0 / span == to) xs) (filter (λ y. rank_of y.0 / span == to) xs)) ++ codes_to span to ys
    at true is = ap (λ l. code_of x ∷ l) is
    at false is = is

pub puts_none : (span : ℕ) (lists : List (List ℕ)) → Puts span [] lists lists
puts_none span lists to = sym (append-nil (list_at lists to))

pub puts_both : (span : ℕ) (xs ys : List Source) (a b c : List (List ℕ)) → Puts span xs a b → Puts span ys b c → Puts span (xs ++ ys) a c
puts_both span xs ys a b c one two to =
    two to ∙ ap (λ l. l ++ codes_to span to ys) (one to) ∙ append_assoc (list_at a to) (codes_to span to xs) (codes_to span to ys)
    ∙ ap (λ l. list_at a to ++ l) (sym (codes_to-append span to xs ys))

-- one that is put goes to the list of its block
pub puts_one : (span : ℕ) (y : Source) (old new : List (List ℕ)) → new ≡ with_put old (rank_of y.0 / span) (code_of y) → Puts span (y ∷ []) old new
puts_one span y old new is to = ap (λ ls. list_at ls to) is ∙ at (rank_of y.0 / span == to) refl
  where
    differ : (a b : ℕ) → (a == b) ≡ false → b ≢ a
    differ a b e = grind (arith, nat_tests)

    at : (b : Bool) → (rank_of y.0 / span == to) ≡ b
        → list_at (with_put old (rank_of y.0 / span) (code_of y)) to ≡ list_at old to ++ map code_of (cond (rank_of y.0 / span == to) (y ∷ []) [])
    at true e =
        subst (λ (b : Bool). list_at (with_put old (rank_of y.0 / span) (code_of y)) to ≡ list_at old to ++ map code_of (cond b (y ∷ []) [])) (sym e)
        (subst (λ (t : ℕ). list_at (with_put old (rank_of y.0 / span) (code_of y)) t ≡ list_at old t ++ code_of y ∷ []) (eqb-true (rank_of y.0 / span) to e)
        (with_put-at old (rank_of y.0 / span) (code_of y)))
    at false e =
        subst (λ (b : Bool). list_at (with_put old (rank_of y.0 / span) (code_of y)) to ≡ list_at old to ++ map code_of (cond b (y ∷ []) [])) (sym e)
        (with_put-other old (rank_of y.0 / span) (code_of y) to (differ (rank_of y.0 / span) to e) ∙ sym (append-nil (list_at old to)))

-- ---- the boards of one rank after another

pub sources_both : (level : ℕ) (rs ss : List ℕ) (xs ys : List Source) → AreSourcesOf level rs xs → AreSourcesOf level ss ys → AreSourcesOf level (rs ++ ss) (xs ++ ys)
sources_both level [] ss xs ys none other = subst (λ (l : List Source). AreSourcesOf level ss (l ++ ys)) (sym none) other
sources_both level (r ∷ rs) ss xs ys (q, own, others, board, stones, rank, are, rest, is) other =
    (q, own, others ++ ys, board, stones, rank, are, sources_both level rs ss others ys rest other, ap (λ l. l ++ ys) is ∙ append_assoc own others ys)

pub finds_none : (level span : ℕ) (lists : List (List ℕ)) → Finds level span [] lists lists
finds_none level span lists = ([], refl, puts_none span lists)

pub finds_both : (level span : ℕ) (rs ss : List ℕ) (a b c : List (List ℕ)) → Finds level span rs a b → Finds level span ss b c → Finds level span (rs ++ ss) a c
finds_both level span rs ss a b c one two =
    (one.0 ++ two.0, sources_both level rs ss one.0 two.0 one.1 two.1, puts_both span one.0 two.0 a b c one.2 two.2)

-- ---- the predecessors of one board

-- Of the n predecessors of q that are listed, the notes of the first k are laid.
pub record IsLaying (span : ℕ) (old now : List (List ℕ)) (q : List ℕ) (targets : List ℕ) (n k : ℕ) : Type 0 where
  pub seen : List Source
  pub left : List Source
  pub many : length seen ≡ k
  pub predecessors : IsPredecessors q (seen ++ left)
  pub listed : Lists targets n (seen ++ left)
  pub laid : Puts span seen old now

pub IsLaying-none : (span : ℕ) (old : List (List ℕ)) (q : List ℕ) (targets : List ℕ) (n : ℕ) → ((sources : List Source) × IsPredecessors q sources × Lists targets n sources)
    → IsLaying span old old q targets n 0
IsLaying-none span old q targets n found = record { seen = []; left = found.0; many = refl; predecessors = found.1; listed = found.2; laid = puts_none span old }

pub IsLaying-next : (span level : ℕ) (old now : List (List ℕ)) (q : List ℕ) (targets : List ℕ) (n k : ℕ) (d : ℕ)
    → ((p : List ℕ) (x : ℕ) → IsBoard p → IsQuietMove p x q → sum q + 0 ≡ sum p) → sum q ≡ level
    → (laying : IsLaying span old now q targets n k) → k < n → IsNext q level laying.seen laying.left (get_or targets k d)
IsLaying-next span level old now q targets n k d keeps stones laying less =
    next_source q level targets n k laying.seen laying.left d keeps stones laying.many laying.predecessors laying.listed less

code_rank : (y : Source) → y.1 < 6 → code_of y / 8 ≡ rank_of y.0
code_rank y own = omega (arith, own)

pub IsLaying-more : (span level : ℕ) (old now new : List (List ℕ)) (q : List ℕ) (targets : List ℕ) (n k : ℕ) (t : ℕ) → (laying : IsLaying span old now q targets n k)
    → IsNext q level laying.seen laying.left t → new ≡ with_put now (t / 8 / span) t → IsLaying span old new q targets n (k + 1)
IsLaying-more span level old now new q targets n k t laying next is =
    let all : laying.seen ++ laying.left ≡ (laying.seen ++ next.y ∷ []) ++ next.more = ap (λ l. laying.seen ++ l) next.splits ∙ sym (append_assoc laying.seen (next.y ∷ []) next.more) in
    record {
      seen = laying.seen ++ next.y ∷ [];
      left = next.more;
      many = length_push laying.seen next.y ∙ (let is = laying.many in omega (arith, is));
      predecessors = subst (IsPredecessors q) all laying.predecessors;
      listed = subst (Lists targets n) all laying.listed;
      laid = puts_both span laying.seen (next.y ∷ []) old now new laying.laid
          (puts_one span next.y now new (is ∙ ap (λ u. with_put now (u / 8 / span) u) (sym next.at) ∙ ap (λ r. with_put now (r / span) (code_of next.y)) (code_rank next.y next.source.2.1.legal.own)));
    }

pub IsLaying-end : (span level rank : ℕ) (old now : List (List ℕ)) (q : List ℕ) (targets : List ℕ) (n k : ℕ) → IsBoard q → sum q ≡ level → rank_of q ≡ rank
    → IsLaying span old now q targets n k → n ≤ k → Finds level span (rank ∷ []) old now
IsLaying-end span level rank old now q targets n k board stones at laying end =
    let all = none_left targets n k laying.seen laying.left laying.many laying.listed end in
    (laying.seen, (q, laying.seen, [], board, stones, at, subst (IsPredecessors q) all laying.predecessors, refl, sym (append-nil laying.seen)), laying.laid)
