use Rattle.std.proofs.Common.{◌≡◌, ◌≢◌, ◌<◌, ◌^◌, ℕ, List, Option, Some, None, IfSome, IsNone, rules, subst}
use Rattle.std.specs.Str.Parse.{IsNumeral, digits_value, without_leading_plus}
use Rattle.clap.proofs.WalkLemmas.{one_text-rows}
use Rattle.clap.specs.Matches.{found_of}
use Rattle.awari_words.proofs.requests.byte.Goals as goal

-- the number that the text spells, and that it spells none
abbrev SpellsIn : Option (List ℕ) → ℕ → Type 0
SpellsIn o n = (o ≢ None) × ((t : List ℕ) → o ≡ Some t → n ≡ digits_value 10 (without_leading_plus t))

abbrev SpellsNoneIn : Option (List ℕ) → Type 0
SpellsNoneIn o = (t : List ℕ) → o ≡ Some t → IsNumeral 10 (without_leading_plus t) → digits_value 10 (without_leading_plus t) < 2 ^ 8 → ⊥

pub returns-clause-some : goal.returns-clause-some
returns-clause-some c =
    subst (λ o. IfSome c.get_one.result (SpellsIn o)) (one_text-rows (found_of c.args.given.now) c.args.name.now) (search rules)

pub returns-clause-none : goal.returns-clause-none
returns-clause-none c =
    subst (λ o. IsNone c.get_one.result → SpellsNoneIn o) (one_text-rows (found_of c.args.given.now) c.args.name.now) (search rules)
