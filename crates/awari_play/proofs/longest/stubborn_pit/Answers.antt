use Rattle.std.proofs.Common.{rules}
use Rattle.awari_table.specs.Images.{table_of}
use Rattle.awari_play.proofs.HoldingOut.{none_takes, none_takes-more, holds_longest, one_takes}
use Rattle.awari_play.proofs.longest.stubborn_pit.Goals as goal

pub loop-pit-init : goal.loop-pit-init
loop-pit-init g c = record { none = λ images says. none_takes (table_of images) _ _; keeps = g.met.T.Table.lasting.itself _ }

pub loop-pit-preserved : goal.loop-pit-preserved
loop-pit-preserved g c =
    let i = c.loop-pit.invariant in
    let laws = g.met.T.Table.lasting in
    record {
      none = λ images says. none_takes-more (table_of images) _ _ _ _ (c.in_ok-takes.ensures.takes images (laws.says _ _ images i.keeps says)) c.if-branch.false (i.none images says);
      keeps = laws.on _ _ _ i.keeps c.takes.ensures.keeps;
    }

pub returns-then-branch-clause-holds : goal.returns-then-branch-clause-holds
returns-then-branch-clause-holds g c = λ images says later.
    let i = c.loop-pit.invariant in
    let laws = g.met.T.Table.lasting in
    holds_longest (table_of images) _ _ _ later (i.none images says) ((c.in_ok-takes.ensures.takes images (laws.says _ _ images i.keeps says)).0 (search rules))

pub returns-clause-some : goal.returns-clause-some
returns-clause-some g c = λ images says moves. absurd (one_takes (table_of images) _ _ _ moves (c.loop-pit.invariant.none images says) c.loop-pit-test.false)
