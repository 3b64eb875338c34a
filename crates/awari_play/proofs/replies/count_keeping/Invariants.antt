use Rattle.std.proofs.Common.{◌≡◌, ◌≤◌, count_by, take}
use Rattle.awari_play.specs.Worths.{keeps}
use Rattle.awari_play.proofs.replies.count_keeping.Given as goal

abbrev pub invariant-loop-reply : goal.invariant-loop-reply
invariant-loop-reply l = record {
  few : l.count ≤ l.reply-index;
  counted : l.count ≡ count_by (keeps l.fn.entry.value) (take l.reply-index l.replies);
}
