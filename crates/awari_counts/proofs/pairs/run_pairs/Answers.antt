use Rattle.std.proofs.Common.{Ok, ap}
use Rattle.awari_counts.proofs.PairLaws.{appended, printed-said, printed-verified}
use Rattle.awari_counts.proofs.pairs.run_pairs.Goals as goal

pub returns-then-query-clause-found : goal.returns-then-query-clause-found
returns-then-query-clause-found g c = λ done.
    let said = c.run_pairs_said.ensures.found done in
    let asked = c.in-Ok.ensures.asked in
    printed-said _ c.args.query.now _ _ c.if-query.true (record {
      level = c.in-Ok.wish.level;
      asked = asked.level;
      printed = record {
        opened = said.opened;
        framed = said.framed;
        known = said.known;
        said = λ images says. appended c.args.query.now asked.by c.in-Ok.wish.pair c.in-Ok.wish.form c.in-Ok.wish.level images _ _ asked.named asked.asked asked.form (said.said images says);
      };
    })

pub returns-in-Ok-print_pairs_on-clause-found : goal.returns-in-Ok-print_pairs_on-clause-found
returns-in-Ok-print_pairs_on-clause-found g c = λ done.
    let images = c.in-Ok-load_to.shelf in
    let asked = c.in-Ok.ensures.asked in
    printed-verified _ c.args.query.now _ _ c.if-query.false (record {
      level = c.in-Ok.wish.level;
      asked = asked.level;
      images = images;
      stored = c.in-Ok-load_to.ensures.levels;
      printed =
          appended c.args.query.now asked.by c.in-Ok.wish.pair c.in-Ok.wish.form c.in-Ok.wish.level images _ _ asked.named asked.asked asked.form
          (c.in-Ok-print_pairs_on.ensures.printed (ap (λ b. Ok b) (c.status_of.ensures.written.0 done)));
    })
