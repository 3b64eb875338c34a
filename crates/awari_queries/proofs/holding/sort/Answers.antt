use Rattle.std.proofs.Common.{rules}
use Rattle.std.proofs.lemmas.List.Sorted.{answers_always}
use Rattle.awari_queries.proofs.SortLaws.{sorted-stably}
use Rattle.awari_queries.specs.Holding.{number_of}
use Rattle.awari_queries.proofs.holding.sort.Goals as goal

pub returns : goal.returns
returns c = sorted-stably number_of _ _ (c.in_ok-done.ensures.sorted number_of (answers_always _ _ _ (λ f a r g h. search rules))) (c.in_ok-done.ensures.stable number_of (answers_always _ _ _ (λ f a r g h. search rules)))
