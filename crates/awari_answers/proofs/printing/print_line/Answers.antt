use Rattle.std.proofs.Common.{◌∙◌}
use Rattle.std.specs.Io.KnownBytes.{Appends}
use Rattle.awari_answers.proofs.PrintLaws.{put_together}
use Rattle.awari_streams.specs.Counted.{AppendsFront}
use Rattle.awari_answers.proofs.printing.print_line.Goals as goal

pub returns-in-Ok-clause-whole : goal.returns-in-Ok-clause-whole
returns-in-Ok-clause-whole g c = λ done.
    put_together (Appends _ _) (λ text. text.bytes) c.new-text.result c.writeln.new.self (g.T.Display.output c.args.line.now) c.as_bytes.result.now c.new-text.ensures
    (c.as_bytes.ensures.value ∙ c.deref.ensures.0) c.in-Ok.ensures.writes (c.write_front.ensures.whole done)

pub returns-in-Ok-clause-front : goal.returns-in-Ok-clause-front
returns-in-Ok-clause-front g c =
    put_together (AppendsFront _ _) (λ text. text.bytes) c.new-text.result c.writeln.new.self (g.T.Display.output c.args.line.now) c.as_bytes.result.now c.new-text.ensures
    (c.as_bytes.ensures.value ∙ c.deref.ensures.0) c.in-Ok.ensures.writes c.write_front.ensures.front
