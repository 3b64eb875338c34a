use Rattle.std.proofs.Common.{◌≡◌, [], map, rules, subst, true}
use Rattle.clap.specs.Words.{HasKind, HasMatchesOf, fault_of, is_simple_and_free}
use Rattle.awari_words.proofs.CommandLaws.{commands_are_free, commands_are_simple}
use Rattle.awari_words.proofs.requests.understand.Goals as goal

pub returns-in_err-matches-clause-faults : goal.returns-in_err-matches-clause-faults
returns-in_err-matches-clause-faults g c =
    let fails = subst (λ app. is_simple_and_free app ≡ true → HasKind (fault_of app (map g.S.AsStr.text c.args.words.now)) c.in_err-matches.field-0.0)
    c.in_ok-commands.ensures.0 c.in_err-matches.ensures.kinds commands_are_free in
    search rules

pub returns-clause-understood : goal.returns-clause-understood
returns-clause-understood g c =
    let found = subst (λ app. HasMatchesOf app (map g.S.AsStr.text c.args.words.now) c.in_ok-matches.matches)
    c.in_ok-commands.ensures.0 c.in_ok-matches.ensures.matches commands_are_simple in
    found.1

pub returns-clause-faults : goal.returns-clause-faults
returns-clause-faults g c =
    subst (λ app. is_simple_and_free app ≡ true → fault_of app (map g.S.AsStr.text c.args.words.now) ≡ [])
    c.in_ok-commands.ensures.0 c.in_ok-matches.ensures.kinds commands_are_free
