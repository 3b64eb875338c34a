use denote.Shadow.{shadow}
use denote.Text.{Utf8}
use Rattle.std.proofs.Common.{◌≡◌, ℕ, List, [], ◌++◌, drop, map}
use Rattle.std.specs.Fmt.{HasWritten, IsPlainFormatter}
use Rattle.awari_members.specs.Members.{marked, said}
use Rattle.awari_members.proofs.lines.MarkedDisplay.fmt.Given as goal

abbrev pub invariant-loop-member : goal.invariant-loop-member
invariant-loop-member g l = record {
  text : shadow (Utf8 l.mark);
  written : IsPlainFormatter l.initial.f → (done : List ℕ) × HasWritten g.W.Write.write_str_gives l.initial.f done l.f
      × (done ++ marked l.form l.mark (map said (drop l.member-index l.members)) ≡ marked l.form [] (map said l.members));
}
