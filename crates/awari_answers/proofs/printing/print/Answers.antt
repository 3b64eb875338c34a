use Rattle.std.proofs.Common.{◌∙◌}
use Rattle.std.specs.Io.KnownBytes.{Appends}
use Rattle.awari_answers.proofs.PrintLaws.{put_together}
use Rattle.awari_answers.proofs.printing.print.Goals as goal

pub returns-in-Ok : goal.returns-in-Ok
returns-in-Ok g c = λ done.
    put_together (Appends _ _) (λ text. text.bytes) c.new-text.result c.writeln.new.self (g.T.Display.output c.args.lines.now) c.as_bytes.result.now c.new-text.ensures
    (c.as_bytes.ensures.value ∙ c.deref.ensures.0) c.in-Ok.ensures.writes (c.print_bytes.ensures done)
