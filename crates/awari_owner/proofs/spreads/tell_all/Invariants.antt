use Rattle.std.proofs.Common.{◌≡◌, vec_len}
use Rattle.awari_block.specs.Boards.{Settles}
use Rattle.awari_owner.proofs.Telling.{IsTelling}
use Rattle.awari_owner.proofs.spreads.tell_all.Given as goal

abbrev pub invariant-loop-k : goal.invariant-loop-k
invariant-loop-k l = record {
  same_queues : vec_len l.queues ≡ vec_len l.initial.queues;
  settles : Settles l.initial.boards l.boards;
  telling : IsTelling l.initial.boards l.boards l.span l.kind l.initial.queues.items l.queues.items l.predecessors.board l.predecessors.targets l.predecessors.count l.k;
}
