-- Which rule a board breaks first, and that at most one fault is due.
use Rattle.std.proofs.Common.{◌≡◌, ◌↔◌, ℕ, ◌<◌, List, [], ◌∷◌, ◌++◌, Option, Some, None, IsNone, IfSome, Bool, IsTrue, MatchOption, inl, inr, refl, sym, subst, ◌∙◌, arith}
use Rattle.std.proofs.lemmas.Bool.{false≢true, cases_lt}
use Rattle.awari_rank.specs.Rank.{size_of}
use Rattle.awari_rank.proofs.Ranking.{rank_fixes}
use Rattle.awari_table.specs.Certificate.{Table, IsRightBy}
use Rattle.awari_table.specs.declared.images.Image.{Image}
use Rattle.awari_table.specs.Images.{table_of}
use Rattle.awari_table.specs.Shelves.{ConsistentBy}
use Rattle.awari_verify.specs.declared.search.Refusal.{Refusal}
use Rattle.awari_verify.specs.declared.rules.Rule.{Rule}
use Rattle.awari_verify.specs.declared.rules.Rule.TheVariants.{V1, V2, V3, V4, V5, V6, V7}
use Rattle.awari_verify.specs.declared.verdicts.VerifyFault.{VerifyFault}
use Rattle.awari_verify.specs.declared.verdicts.VerifyFault.TheVariants.{WrongLevel, WrongSize, Refused, Memory}
use Rattle.awari_verify.specs.FirstFailure.{BreaksFirst, IsFirst, IsRefusal}
use Rattle.awari_verify.proofs.LevelLemmas.{Consistent-right}
use Rattle.awari_verify.specs.VerifyFault.{number_of, IsDueBy, IsFaultAfter, IsShaped, IsWrongLimit}

-- a test of V6 stands for it
breaks_by : (Asked : Table → List ℕ → Type 0) (t : Table) (p : List ℕ) (test : Bool) (rule : Rule) → (Asked t p → IsTrue test) → BreaksFirst (λ u q. IsTrue test) t p rule → BreaksFirst Asked t p rule
breaks_by Asked t p test V1 kept b = b
breaks_by Asked t p test V2 kept b = b
breaks_by Asked t p test V3 kept b = b
breaks_by Asked t p test V4 kept b = b
breaks_by Asked t p test V5 kept b = b
breaks_by Asked t p test V6 kept b = (b.0, b.1, b.2, b.3, b.4, λ asked. b.5 (kept asked))
breaks_by Asked t p test V7 kept b = b

pub judged_by : (Asked : Table → List ℕ → Type 0) (t : Table) (p : List ℕ) (test : Bool) (broken : Option Rule) → IsTrue test ↔ Asked t p
    → MatchOption broken (IsRightBy (λ u q. IsTrue test) t p) (BreaksFirst (λ u q. IsTrue test) t p) → MatchOption broken (IsRightBy Asked t p) (BreaksFirst Asked t p)
judged_by Asked t p test None same r = record {
  in_range = r.in_range;
  ends = r.ends;
  has_plan = r.has_plan;
  no_more = r.no_more;
  plan_gains = r.plan_gains;
  distances = same.0 r.distances;
}
judged_by Asked t p test (Some rule) same b = breaks_by Asked t p test rule same.1 b

-- a board that breaks a rule is not right
pub wrong_from_breaks : (Asked : Table → List ℕ → Type 0) (t : Table) (p : List ℕ) (rule : Rule) → BreaksFirst Asked t p rule → IsRightBy Asked t p → ⊥
wrong_from_breaks Asked t p V1 b r = b r.in_range
wrong_from_breaks Asked t p V2 b r = b.1 r.ends
wrong_from_breaks Asked t p V3 b r = b.2 r.has_plan
wrong_from_breaks Asked t p V4 b r = b.3 r.no_more
wrong_from_breaks Asked t p V5 b r = b.4 r.plan_gains
wrong_from_breaks Asked t p V6 b r = b.5 r.distances
wrong_from_breaks Asked t p V7 b r = b

-- an image with a fault is not consistent
pub inconsistent_from_fault : (Asked : Table → List ℕ → Type 0) (shelf : List Image) (image : Image) (fault : VerifyFault) → IsDueBy Asked shelf image fault → ConsistentBy Asked shelf image → ⊥
inconsistent_from_fault Asked shelf image WrongLevel f c = f (c.next, c.low)
inconsistent_from_fault Asked shelf image WrongSize f c = f.2 c.sized
inconsistent_from_fault Asked shelf image (Refused rank rule) f c =
    elim f.1 [
      | inl refusal ↦ wrong_from_breaks Asked _ refusal.breach.board rule refusal.breach.breaks (c.right refusal.breach.board refusal.breach.is_board refusal.breach.stones)
      | inr limit ↦ limit.wrong c.limited
    ]
inconsistent_from_fault Asked shelf image Memory f c = f

-- a board has one first broken rule
one_rule : (Asked : Table → List ℕ → Type 0) (t : Table) (p : List ℕ) (r s : Rule) → BreaksFirst Asked t p r → BreaksFirst Asked t p s → r ≡ s
one_rule Asked t p V1 V1 a b = refl
one_rule Asked t p V1 V2 a b = absurd (a b.0)
one_rule Asked t p V1 V3 a b = absurd (a b.0)
one_rule Asked t p V1 V4 a b = absurd (a b.0)
one_rule Asked t p V1 V5 a b = absurd (a b.0)
one_rule Asked t p V1 V6 a b = absurd (a b.0)
one_rule Asked t p V2 V1 a b = absurd (b a.0)
one_rule Asked t p V2 V2 a b = refl
one_rule Asked t p V2 V3 a b = absurd (a.1 b.1)
one_rule Asked t p V2 V4 a b = absurd (a.1 b.1)
one_rule Asked t p V2 V5 a b = absurd (a.1 b.1)
one_rule Asked t p V2 V6 a b = absurd (a.1 b.1)
one_rule Asked t p V3 V1 a b = absurd (b a.0)
one_rule Asked t p V3 V2 a b = absurd (b.1 a.1)
one_rule Asked t p V3 V3 a b = refl
one_rule Asked t p V3 V4 a b = absurd (a.2 b.2)
one_rule Asked t p V3 V5 a b = absurd (a.2 b.2)
one_rule Asked t p V3 V6 a b = absurd (a.2 b.2)
one_rule Asked t p V4 V1 a b = absurd (b a.0)
one_rule Asked t p V4 V2 a b = absurd (b.1 a.1)
one_rule Asked t p V4 V3 a b = absurd (b.2 a.2)
one_rule Asked t p V4 V4 a b = refl
one_rule Asked t p V4 V5 a b = absurd (a.3 b.3)
one_rule Asked t p V4 V6 a b = absurd (a.3 b.3)
one_rule Asked t p V5 V1 a b = absurd (b a.0)
one_rule Asked t p V5 V2 a b = absurd (b.1 a.1)
one_rule Asked t p V5 V3 a b = absurd (b.2 a.2)
one_rule Asked t p V5 V4 a b = absurd (b.3 a.3)
one_rule Asked t p V5 V5 a b = refl
one_rule Asked t p V5 V6 a b = absurd (a.4 b.4)
one_rule Asked t p V6 V1 a b = absurd (b a.0)
one_rule Asked t p V6 V2 a b = absurd (b.1 a.1)
one_rule Asked t p V6 V3 a b = absurd (b.2 a.2)
one_rule Asked t p V6 V4 a b = absurd (b.3 a.3)
one_rule Asked t p V6 V5 a b = absurd (b.4 a.4)
one_rule Asked t p V6 V6 a b = refl
one_rule Asked t p V1 V7 a b = absurd b
one_rule Asked t p V2 V7 a b = absurd b
one_rule Asked t p V3 V7 a b = absurd b
one_rule Asked t p V4 V7 a b = absurd b
one_rule Asked t p V5 V7 a b = absurd b
one_rule Asked t p V6 V7 a b = absurd b
one_rule Asked t p V7 V1 a b = absurd a
one_rule Asked t p V7 V2 a b = absurd a
one_rule Asked t p V7 V3 a b = absurd a
one_rule Asked t p V7 V4 a b = absurd a
one_rule Asked t p V7 V5 a b = absurd a
one_rule Asked t p V7 V6 a b = absurd a
one_rule Asked t p V7 V7 a b = absurd a

-- no board before a refused one is refused
not_before : {Asked : Table → List ℕ → Type 0} {t : Table} {level low high rank rank' : ℕ} {r r' : Rule} → IsRefusal Asked t level low high rank r → IsRefusal Asked t level low high rank' r' → rank < rank' → ⊥
not_before {Asked} {t} a b before =
    let ranked = a.breach.ranked in
    let above = a.above in
    wrong_from_breaks Asked t a.breach.board _ a.breach.breaks (b.before a.breach.board a.breach.is_board a.breach.stones (omega arith) (omega arith))

same_rank : {Asked : Table → List ℕ → Type 0} {t : Table} {level low high rank rank' : ℕ} {r r' : Rule} → IsRefusal Asked t level low high rank r → IsRefusal Asked t level low high rank' r' → rank ≡ rank'
same_rank {rank = rank} {rank' = rank'} a b =
    elim (cases_lt rank rank') [
      | inl before ↦ absurd (not_before a b before)
      | inr le ↦ elim (cases_lt rank' rank) [
        | inl before ↦ absurd (not_before b a before)
        | inr ge ↦ omega arith
      ]
    ]

same_rule : {Asked : Table → List ℕ → Type 0} {t : Table} {level low high rank rank' : ℕ} {r r' : Rule} → IsRefusal Asked t level low high rank r → IsRefusal Asked t level low high rank' r' → r ≡ r'
same_rule {Asked} {t} {r = r} {r' = r'} a b =
    let ranks = same_rank a b in
    let boards : b.breach.board ≡ a.breach.board
    = rank_fixes b.breach.board a.breach.board b.breach.is_board.pits a.breach.is_board.pits (b.breach.stones ∙ sym a.breach.stones) (b.breach.ranked ∙ sym ranks ∙ sym a.breach.ranked)
    in
    one_rule Asked t a.breach.board r r' a.breach.breaks (subst (λ (p : List ℕ). BreaksFirst Asked t p r') boards b.breach.breaks)

-- where a board is refused, the limit is not looked at
not_limit : {Asked : Table → List ℕ → Type 0} {shelf : List Image} {image : Image} {rank rank' : ℕ} {r r' : Rule} → IsRefusal Asked (table_of (shelf ++ image ∷ [])) image.level 0 (size_of image.level) rank r → IsWrongLimit Asked shelf image rank' r' → ⊥
not_limit {Asked} {shelf} {image} a w =
    let ranked = a.breach.ranked in
    let below = a.below in
    wrong_from_breaks Asked _ a.breach.board _ a.breach.breaks (w.right a.breach.board a.breach.is_board a.breach.stones (omega arith) (omega arith))

pub one_due : (Asked : Table → List ℕ → Type 0) (shelf : List Image) (image : Image) (fault other : VerifyFault) → IsDueBy Asked shelf image fault → IsDueBy Asked shelf image other → fault ≡ other
one_due Asked shelf image WrongLevel WrongLevel a b = refl
one_due Asked shelf image WrongLevel WrongSize a b = absurd (a (b.0, b.1))
one_due Asked shelf image WrongLevel (Refused rank rule) a (shaped, b) = absurd (a (shaped.next, shaped.low))
one_due Asked shelf image WrongSize WrongLevel a b = absurd (b (a.0, a.1))
one_due Asked shelf image WrongSize WrongSize a b = refl
one_due Asked shelf image WrongSize (Refused rank rule) a (shaped, b) = absurd (a.2 shaped.sized)
one_due Asked shelf image (Refused rank rule) WrongLevel (shaped, a) b = absurd (b (shaped.next, shaped.low))
one_due Asked shelf image (Refused rank rule) WrongSize (shaped, a) b = absurd (b.2 shaped.sized)
one_due Asked shelf image (Refused rank rule) (Refused rank' rule') (_, inl a) (_, inl b) =
    let ranks = same_rank a b in
    let rules = same_rule a b in
    cc
one_due Asked shelf image (Refused rank rule) (Refused rank' rule') (_, inl a) (_, inr b) = absurd (not_limit a b)
one_due Asked shelf image (Refused rank rule) (Refused rank' rule') (_, inr a) (_, inl b) = absurd (not_limit b a)
one_due Asked shelf image (Refused rank rule) (Refused rank' rule') (_, inr a) (_, inr b) =
    let ranks = a.at_0 ∙ sym b.at_0 in
    let rules = a.named ∙ sym b.named in
    cc
one_due Asked shelf image Memory other a b = absurd a
one_due Asked shelf image WrongLevel Memory a b = absurd b
one_due Asked shelf image WrongSize Memory a b = absurd b
one_due Asked shelf image (Refused rank rule) Memory a b = absurd b

-- the shape of an image does not rest on V6
pub due_early : (Asked Other : Table → List ℕ → Type 0) (shelf : List Image) (image : Image) (fault : VerifyFault) → number_of fault < 22 → IsDueBy Asked shelf image fault → IsDueBy Other shelf image fault
due_early Asked Other shelf image WrongLevel early due = due
due_early Asked Other shelf image WrongSize early due = due
due_early Asked Other shelf image (Refused rank rule) early due = absurd (omega (arith, early))
due_early Asked Other shelf image Memory early due = due

-- once the boards were looked at
pub decided : (Asked : Table → List ℕ → Type 0) (shelf : List Image) (image : Image) (first : Option Refusal) (fault : Option VerifyFault) → IsShaped shelf image
    → IsFirst Asked (table_of (shelf ++ image ∷ [])) image.level 0 (size_of image.level) first → IsFaultAfter image first fault → (IsNone fault ↔ ConsistentBy Asked shelf image) × IfSome fault (IsDueBy Asked shelf image)
decided Asked shelf image None None shaped right limited = ((λ _. Consistent-right Asked shelf image shaped right limited, λ _. refl), tt)
decided Asked shelf image None (Some fault) shaped right (is, wrong) = (
  (λ none. absurd (false≢true (sym none)), λ c. absurd (wrong c.limited)),
  subst (IsDueBy Asked shelf image) (sym is) (shaped, inr (record { named = refl; at_0 = refl; right = right; wrong = wrong })),
)
decided Asked shelf image (Some r) None shaped refusal is = absurd (cc)
decided Asked shelf image (Some r) (Some fault) shaped refusal is =
    let same : fault ≡ Refused r.rank r.rule = cc in
    let due : IsDueBy Asked shelf image (Refused r.rank r.rule) = (shaped, inl refusal) in (
      (λ none. absurd (false≢true (sym none)), λ c. absurd (inconsistent_from_fault Asked shelf image (Refused r.rank r.rule) due c)),
      subst (IsDueBy Asked shelf image) (sym same) due,
    )
