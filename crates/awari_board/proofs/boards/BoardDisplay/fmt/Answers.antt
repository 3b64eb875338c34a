use Rattle.std.proofs.Common.{◌∙◌, sym, subst}
use Rattle.std.specs.Prelude.{IsUtf8}
use Rattle.awari_board.proofs.Spelled.{text_utf8}
use Rattle.awari_board.proofs.boards.BoardDisplay.fmt.Goals as goal

pub unreachable-requires : goal.unreachable-requires
unreachable-requires g c = c.in_default.ensures.cases.0 (subst IsUtf8 (sym (c.as_slice.ensures.value ∙ c.print-digits.ensures.text)) (text_utf8 c.args.self.now c.print-digits.ensures.board))
