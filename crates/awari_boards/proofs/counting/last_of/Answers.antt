use Rattle.std.proofs.Common.{Bool, cond, ap, sym, ◌∙◌}
use Rattle.awari_boards.proofs.PlayLaws.{byte-cond, ended-some, over_plays-none}
use Rattle.awari_boards.specs.Plays.{one, one_if_captures, one_if_ended}
use Rattle.awari_boards.proofs.counting.last_of.Goals as goal

pub returns : goal.returns
returns c = record {
  plays = sym (over_plays-none one c.args.captured c.args.board.now);
  captures = c.from.ensures ∙ byte-cond _ ∙ sym (over_plays-none one_if_captures c.args.captured c.args.board.now);
  ends = c.from-2.ensures ∙ byte-cond _ ∙ ap (λ (b : Bool). cond b 1 0) (c.is_some.ensures ∙ ended-some c.args.board.now c.end.result c.end.ensures.none) ∙ sym (over_plays-none one_if_ended c.args.captured c.args.board.now);
}
