use Rattle.std.proofs.Common.{◌≡◌, ap, arith, inl, length, subst}
use Rattle.std.proofs.KnownBytes.{Appends-trans}
use Rattle.std.specs.Io.KnownBytes.{Appends}
use Rattle.awari_answers.specs.declared.telling.Summary.{Summary}
use Rattle.awari_builds.specs.Migrating.{migrated_lines}
use Rattle.awari_builds.proofs.migrating.run_migrate.Goals as goal

pub returns-clause-migrated : goal.returns-clause-migrated
returns-clause-migrated g c = λ done.
    let migrated = c.in-Ok.migrated.limits.items in
    let summary : Summary = record { levels = c.len-levels.result; digest = c.in-Ok.migrated.digest } in
    let wrote =
    subst (λ lines. Appends (g.W.Write.contents c.args.writer.now) (g.W.Write.contents c.print_migrated.new.writer) (migrated_lines lines)) c.deref.ensures.value
    (c.print_migrated.ensures c.if-not-print_migrated.false) in
    let counted : summary.levels ≡ length migrated = omega (arith, c.len-levels.ensures, c.deref.ensures.len, ap length c.deref.ensures.value) in
    (migrated, summary, counted, c.in-Ok.ensures.exact, Appends-trans _ _ _ (migrated_lines migrated) _ wrote (c.print.ensures (c.status_of.ensures.written.0 done)))

pub returns-then-not-print_migrated-clause-leaves : goal.returns-then-not-print_migrated-clause-leaves
returns-then-not-print_migrated-clause-leaves g c = λ names others are have. inl (c.in-Ok.migrated.limits.items, c.in-Ok.migrated.digest, c.in-Ok.ensures.exact names others are have)

pub returns-clause-leaves : goal.returns-clause-leaves
returns-clause-leaves g c = λ names others are have. inl (c.in-Ok.migrated.limits.items, c.in-Ok.migrated.digest, c.in-Ok.ensures.exact names others are have)

pub returns-in-Err-clause-migrated : goal.returns-in-Err-clause-migrated
returns-in-Err-clause-migrated g c = λ done. absurd (omega arith)
