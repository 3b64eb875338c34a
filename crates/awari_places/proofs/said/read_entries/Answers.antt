use Rattle.std.proofs.Common.{◌≡◌, ◌+◌, ◌∷◌, [], length, ap, arith, subst, ◌∙◌}
use Rattle.std.proofs.lemmas.List.{length-append}
use Rattle.awari_folder.proofs.States.{unchanged, unchanged_then}
use Rattle.awari_places.proofs.Collecting.{AreFirst, first-more, first-none}
use Rattle.awari_places.proofs.Reading.{still_says}
use Rattle.awari_places.proofs.Running.{run-none}
use Rattle.awari_rank.specs.Rank.{size_of}
use Rattle.awari_places.proofs.said.read_entries.Goals as goal

pub loop-rank-init : goal.loop-rank-init
loop-rank-init g c = record {
  many = ap length c.in-Ok.ensures;
  unchanged = unchanged _;
  said = λ levels images says low. (run-none images c.args.level c.new-run.result c.new-run.ensures, first-none _ levels c.args.level images c.in-Ok.entries says low c.in-Ok.ensures);
}

pub loop-rank-preserved : goal.loop-rank-preserved
loop-rank-preserved g c =
    let i = c.loop-rank.invariant in
    let e = c.in-Ok-entry_in_run.entry in
    let long : length c.push.new.self ≡ length c.loop-rank.entries + 1 = ap length c.in-Ok-push.ensures.ok ∙ length-append c.loop-rank.entries (e ∷ []) in
    record {
      many = omega (arith, long, i.many);
      unchanged = unchanged_then _ _ _ i.unchanged c.in-Ok-entry_in_run.ensures.same;
      said = λ levels images says low.
          let before = i.said levels images says low in
          let still = still_says _ _ levels images i.unchanged.stands says in (
            c.entry_in_run.ensures.run levels images still low before.0,
            first-more images c.args.level c.loop-rank.rank c.loop-rank.entries c.push.new.self e before.1 (c.in-Ok-entry_in_run.ensures.entry levels images still low before.0) c.in-Ok-push.ensures.ok,
          );
    }

pub returns-clause-entries : goal.returns-clause-entries
returns-clause-entries g c = λ levels images says low.
    let all : c.loop-rank.rank ≡ size_of c.args.level = omega (arith, c.loop-rank.auto.rank-end, c.loop-rank-test.false, c.size-boards.ensures.boards) in
    subst (λ rank. AreFirst images c.args.level rank c.loop-rank.entries) all (c.loop-rank.invariant.said levels images says low).1
