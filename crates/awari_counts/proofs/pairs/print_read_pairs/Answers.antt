use Rattle.std.proofs.Common.{inl, subst}
use Rattle.std.specs.Io.KnownBytes.{Appends}
use Rattle.awari_facts.specs.Sources.{limit_of}
use Rattle.awari_counts.proofs.PairLaws.{read-asked}
use Rattle.awari_counts.specs.Pairs.{pair_lines}
use Rattle.awari_play.proofs.Lasting.{err_same}
use Rattle.awari_counts.proofs.pairs.print_read_pairs.Goals as goal

pub returns-clause-printed : goal.returns-clause-printed
returns-clause-printed g c = λ images says done.
    subst (λ ms. Appends (g.W.Write.contents c.args.writer.now) (g.W.Write.contents c.print_pairs_on.new.writer) (pair_lines c.args.wish.form c.args.wish.pair ms c.args.wish.level (limit_of ms c.args.wish.level)))
    (c.in_ok-said.ensures.said images says) (c.print_pairs_on.ensures.printed done)

pub returns-in_err-said-clause-fault : goal.returns-in_err-said-clause-fault
returns-in_err-said-clause-fault g c = err_same c.from_residual.result _ _ c.from_residual.ensures.1 (inl c.in_err-said.ensures.fault)

pub returns-clause-fault : goal.returns-clause-fault
returns-clause-fault g c = read-asked c.args.wish _ c.in_ok-said.said c.print_pairs_on.result c.in_ok-said.ensures.said c.print_pairs_on.ensures.fault
