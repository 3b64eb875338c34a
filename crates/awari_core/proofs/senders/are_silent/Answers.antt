use Rattle.std.proofs.Common.{rules, ◌<◌, ℕ, Bool, true, false, List, length, All, IsTrue}
use Rattle.std.proofs.lemmas.Iterator.{YieldsList-from_slice, cases_from_all}
use Rattle.std.proofs.lemmas.Iterator.Search.{true_from_All}
use Rattle.std.proofs.lemmas.List.Elements.{All-from_all_within}
use Rattle.std.specs.Bool.{MatchBool}
use Rattle.std.specs.List.{AllWithin, HoldsAt}
use borrow.Author.Tests.{tests}
use Rattle.awari_core.specs.Core.{IsSilent, Sender}
use Rattle.awari_core.proofs.senders.are_silent.Goals as goal

all_of : (P Q : Sender → Type 0) (r : Bool) (xs : List Sender) → MatchBool r (AllWithin P xs 0 (length xs)) ((k : ℕ) × (k < length xs) × HoldsAt Q xs k) → IsTrue r → All P xs
all_of P Q true xs met t = All-from_all_within P xs met
all_of P Q false xs met t = absurd cc

pub returns : goal.returns
returns c =
    let met = cases_from_all _ _ _ IsSilent (λ s. IsSilent s → ⊥) c.all.ensures.ran (YieldsList-from_slice c.args.senders.now cc) (λ x q k. search (rules, tests)) (λ x q k. search (rules, tests)) in (
      all_of IsSilent (λ s. IsSilent s → ⊥) c.all.result c.args.senders.now met,
      true_from_All IsSilent (λ s. IsSilent s → ⊥) c.all.result c.args.senders.now (λ x p n. n p) met,
    )
