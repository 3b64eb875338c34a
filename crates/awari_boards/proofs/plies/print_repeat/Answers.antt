use Rattle.std.proofs.Common.{List, ◌++◌, ◌∷◌, [], false, refl, subst}
use Rattle.std.specs.Io.KnownBytes.{Appends}
use Rattle.awari_members.specs.Members.{Named, line_text}
use Rattle.awari_members.specs.Forms.{form_of}
use Rattle.awari_boards.proofs.plies.print_repeat.Goals as goal

pub returns : goal.returns
unfolding Rattle.awari_boards.specs.Plies.shown_repeat
returns g c = λ done.
    subst (λ (members : List Named). Appends (g.W.Write.contents c.args.writer.now) (g.W.Write.contents c.print_members.new.writer) (line_text (form_of c.args.json false) members ++ 10 ∷ []))
    (rw (c.number.ensures.said) refl) (c.print_members.ensures done)
