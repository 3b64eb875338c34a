use Rattle.std.proofs.Common.{SFits, w8, rules, subst, sym}
use Rattle.std.proofs.lemmas.Int.{to_z-of_z}
use Rattle.awari_board.specs.Rules.{IsEnd}
use Rattle.awari_scan.proofs.outlooks.end_of.Goals as goal

pub returns : goal.returns
returns c =
    let held : SFits w8 c.in-Some.gain = search rules in
    rw (← c.board.ensures) (subst (IsEnd c.board.result) (sym (to_z-of_z w8 c.in-Some.gain held)) ((c.end.ensures.some c.in-Some.gain).0 c.in-Some.is))
