use Rattle.std.proofs.Common.{◌≡◌, ◌+◌, ◌-◌, ◌<◌, List, Some, Option, IfSome, sum, sym, ap, subst, ◌∙◌, arith}
use Rattle.awari_rank.specs.Rank.{size_of}
use Rattle.awari_rank.proofs.Reaching.{size_of-positive}
use Rattle.awari_index.specs.Runs.{AreAllTails, AreRuns, IsHead}
use Rattle.awari_index.specs.declared.runs.Run.{Run}
use Rattle.awari_index.proofs.RunLists.{AreRuns-more, AreRuns-none, end_of, first_head, head_below, head_low, next_end, next_heads, some_fillings}
use Rattle.awari_index.proofs.runs.runs_of.Goals as goal

pub unrank-requires-clause-in_range : goal.unrank-requires-clause-in_range
unrank-requires-clause-in_range c = size_of-positive c.args.level

pub loop-head-init : goal.loop-head-init
loop-head-init c =
    let head = first_head c.args.level c.unrank.result c.unrank.ensures.board c.unrank.ensures.stones c.unrank.ensures.rank in
    record {
      runs = subst (λ (rs : List Run). AreRuns c.args.level c.args.tails.now.starts.items rs c.run_from.result.start) (sym c.new-runs.ensures.items)
          (AreRuns-none c.args.level c.args.tails.now.starts.items c.run_from.result.start (ap (λ (r : Run). r.start) c.run_from.ensures ∙ c.unrank.ensures.rank));
      head = subst (IsHead c.args.level) (sym c.run_from.ensures) head;
    }

pub loop-head-preserved : goal.loop-head-preserved
loop-head-preserved c =
    let n = c.args.level in
    let starts = c.args.tails.now.starts.items in
    let run : Run = c.in-Some.run' in
    let is : c.loop-head.head ≡ Some run = c.in-Some.is in
    let head : IsHead n run = subst (λ (o : Option Run). IfSome o (IsHead n)) is c.loop-head.invariant.head in
    let runs : AreRuns n starts c.loop-head.runs.items run.start = subst (λ (o : Option Run). AreRuns n starts c.loop-head.runs.items (end_of n o)) is c.loop-head.invariant.runs in
    record {
      runs = subst (λ (rs : List Run). AreRuns n starts rs (end_of n c.next_run-head.result)) (sym c.in_ok-push.ensures.items)
          (AreRuns-more n starts c.loop-head.runs.items run (end_of n c.next_run-head.result) runs head
          (next_end n _ starts run c.next_run-head.result (head_low n run head) c.next_run-head.ensures.some c.next_run-head.ensures.none));
      head = next_heads n _ starts run c.next_run-head.result (head_low n run head) c.next_run-head.ensures.some;
    }

pub next_run-head-requires : goal.next_run-head-requires
next_run-head-requires c =
    let n = c.args.level in
    let run : Run = c.in-Some.run' in
    let head : IsHead n run = subst (λ (o : Option Run). IfSome o (IsHead n)) c.in-Some.is c.loop-head.invariant.head in
    let same : n ≡ sum run.board = sym (head_low n run head) in
    record {
      low = (let few = c.requires.low in omega (arith, few, same));
      head = subst (λ m. IsHead m run) same head;
      tails = subst (λ m. AreAllTails (m + 1) c.args.tails.now.starts.items c.args.tails.now.boards.items) same c.requires.tails;
    }

pub loop-head-smaller : goal.loop-head-smaller
loop-head-smaller c =
    let n = c.args.level in
    let starts = c.args.tails.now.starts.items in
    let run : Run = c.in-Some.run' in
    let head : IsHead n run = subst (λ (o : Option Run). IfSome o (IsHead n)) c.in-Some.is c.loop-head.invariant.head in
    let here : end_of n c.loop-head.head ≡ run.start = ap (end_of n) c.in-Some.is in
    let next = next_end n _ starts run c.next_run-head.result (head_low n run head) c.next_run-head.ensures.some c.next_run-head.ensures.none in
    let below = head_below n run head in
    let some = some_fillings n starts c.args.tails.now.boards.items run head c.requires.tails in
    let smaller : size_of n - end_of n c.next_run-head.result < size_of n - end_of n c.loop-head.head = omega (arith, here, next, below, some) in
    smaller
