-- What is known of a level while its boards are looked at.
use Rattle.std.proofs.Common.{◌≡◌, ◌⊎◌, ℕ, ◌<◌, ◌≤◌, nat_lt, if◌then◌else◌, Bool, true, false, List, sum, inl, inr, Option, Some, None, MatchOption, refl, arith}
use Rattle.std.proofs.lemmas.Bool.Decides.{nat_tests}
use Rattle.awari_board.specs.Rules.{IsBoard}
use Rattle.awari_table.specs.Certificate.{Table, DistancesAreLeast}
use Rattle.awari_verify.specs.FirstFailure.{RightBetween, IsBreach, IsRefusal}
use Rattle.awari_verify.specs.Pieces.{refusal_at, refusal_of, Looks}
use Rattle.awari_verify.specs.declared.pieces.Nearest.{Nearest}
use Rattle.awari_verify.specs.declared.rules.Rule.{Rule}

-- nothing was to be looked at
pub Looks-none : (t : Table) (level : ℕ) (In : List ℕ → Type 0) (a : Nearest) → ((p : List ℕ) → IsBoard p → sum p ≡ level → In p → ⊥) → Looks t level In a a
Looks-none t level In a empty = record {
  nearer = omega arith;
  known = λ end k. k;
  right = λ p board stones here lt. absurd (empty p board stones here);
}

-- fewer boards
pub Looks-some : (t : Table) (level : ℕ) (A C : List ℕ → Type 0) (a b : Nearest) → Looks t level A a b → ((p : List ℕ) → IsBoard p → sum p ≡ level → C p → A p) → Looks t level C a b
Looks-some t level A C a b looks within = record {
  nearer = looks.nearer;
  known = looks.known;
  right = λ p board stones here lt. looks.right p board stones (within p board stones here) lt;
}

-- first some boards and then others
pub Looks-then : (t : Table) (level : ℕ) (A B C : List ℕ → Type 0) (a b c : Nearest) → Looks t level A a b → Looks t level B b c → ((p : List ℕ) → IsBoard p → sum p ≡ level → C p → A p ⊎ B p) → Looks t level C a c
Looks-then t level A B C a b c first second covers =
    let near = first.nearer in
    let nearer = second.nearer in record {
      nearer = omega (arith, near, nearer);
      known = λ end k. second.known end (first.known end k);
      right = λ p board stones here lt.
          elim (covers p board stones here) [
            | inl one ↦ first.right p board stones one (omega (arith, nearer, lt))
            | inr other ↦ second.right p board stones other lt
          ];
    }

-- some boards and others, each by themselves
pub Looks-both : (t : Table) (level : ℕ) (A B C : List ℕ → Type 0) (s a b : Nearest) → Looks t level A s a → Looks t level B s b → ((p : List ℕ) → IsBoard p → sum p ≡ level → C p → A p ⊎ B p)
    → Looks t level C s (if nat_lt b.rank a.rank then b else a)
Looks-both t level A B C s a b first second covers = go (nat_lt b.rank a.rank) refl
  where
    go : (test : Bool) → nat_lt b.rank a.rank ≡ test → Looks t level C s (if test then b else a)
    go true is =
        let less : b.rank < a.rank = grind (arith, nat_tests, is) in record {
          nearer = second.nearer;
          known = second.known;
          right = λ p board stones here lt.
              elim (covers p board stones here) [
                | inl one ↦ first.right p board stones one (omega (arith, less, lt))
                | inr other ↦ second.right p board stones other lt
              ];
        }
    go false is =
        let least : a.rank ≤ b.rank = grind (arith, nat_tests, is) in record {
          nearer = first.nearer;
          known = first.known;
          right = λ p board stones here lt.
              elim (covers p board stones here) [
                | inl one ↦ first.right p board stones one lt
                | inr other ↦ second.right p board stones other (omega (arith, least, lt))
              ];
        }

-- all boards were looked at
pub Looks-all : (t : Table) (level boards : ℕ) (In : List ℕ → Type 0) (s : Nearest) → Looks t level In (record { rank = boards; rule = None }) s → ((p : List ℕ) → IsBoard p → sum p ≡ level → In p)
    → MatchOption (refusal_of s) (RightBetween DistancesAreLeast t level 0 boards) (λ r. IsRefusal DistancesAreLeast t level 0 boards r.rank r.rule)
Looks-all t level boards In s looks all = go s.rule (looks.known boards refl)
  where
    go : (rule : Option Rule) → MatchOption rule (s.rank ≡ boards) (λ rule. (s.rank < boards) × IsBreach DistancesAreLeast t level s.rank rule)
        → MatchOption (refusal_at s.rank rule) (RightBetween DistancesAreLeast t level 0 boards) (λ r. IsRefusal DistancesAreLeast t level 0 boards r.rank r.rule)
    go None end = λ p board stones ge lt. looks.right p board stones (all p board stones) (omega (arith, end, lt))
    go (Some rule) known =
        record {
          above = omega arith;
          below = known.0;
          before = λ p board stones ge lt. looks.right p board stones (all p board stones) lt;
          breach = known.1;
        }
