use Rattle.std.proofs.Common.{refl}
use Rattle.awari_queries.proofs.HeldLaws.{holds-behind, holds-more}
use Rattle.awari_queries.proofs.holding.Holding.hold.Goals as goal

pub returns-then-is_behind-clause-held : goal.returns-then-is_behind-clause-held
returns-then-is_behind-clause-held c = λ seen holds.
    let behind = c.if-is_behind.ensures refl in
    holds-behind seen c.args.one c.args.self.now behind.0 behind.1 behind.2 holds

pub returns-then-self-eq0-clause-held : goal.returns-then-self-eq0-clause-held
returns-then-self-eq0-clause-held c = λ seen holds. holds-more seen c.args.one c.args.self.now _ refl refl c.in_ok-push.ensures holds

pub returns-clause-held : goal.returns-clause-held
returns-clause-held c = λ seen holds. c.in_ok-done.ensures.held _ (holds-more seen c.args.one c.args.self.now _ refl refl c.in_ok-push.ensures holds)
