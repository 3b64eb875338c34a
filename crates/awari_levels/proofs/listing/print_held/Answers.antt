use Rattle.std.proofs.Common.{◌≡◌, true, ap, arith, sum, take, subst, sym, ◌∙◌}
use Rattle.std.proofs.lemmas.List.{take_all}
use Rattle.awari_facts.proofs.SourceLaws.{says_still}
use Rattle.awari_folder.proofs.States.{unchanged, unchanged_then}
use Rattle.awari_table.proofs.ShelfLemmas.{take-read}
use Rattle.awari_table.specs.Images.{entry_of}
use Rattle.awari_play.proofs.Lasting.{err_same}
use Rattle.awari_levels.proofs.FaultLaws.{list_board}
use Rattle.awari_levels.proofs.HeldLaws.{held-long, held-next}
use Rattle.awari_facts.proofs.RankLaws.{at_board}
use Rattle.awari_levels.proofs.ListingLaws.{Lists, lists-all, lists-more, lists-none}
use Rattle.awari_levels.proofs.listing.print_held.Goals as goal

pub loop-place-init : goal.loop-place-init
loop-place-init g c = record { unchanged = unchanged _; listed = λ images says boards held. lists-none c.args.asked.wanted.now images _ _ c.new_batch-batch.ensures }

pub loop-place-preserved : goal.loop-place-preserved
loop-place-preserved g c =
    let i = c.loop-place.invariant in
    record {
      unchanged = unchanged_then _ _ _ i.unchanged c.in_ok-entry.ensures.same;
      listed = λ images says boards held.
          let still = says_still c.args.asked.source _ _ images i.unchanged.stands says in
          let next = held-next c.args.asked.wanted.now images c.args.asked.level c.loop-place.place boards c.args.held.now _ c.unrank-board.result held c.loop-place-test.true c.unrank-board.ensures.board
          c.unrank-board.ensures.stones c.unrank-board.ensures.rank in
          let at = at_board images c.args.asked.level _ c.unrank-board.result c.in_ok-entry.entry c.unrank-board.ensures.board c.unrank-board.ensures.stones c.unrank-board.ensures.rank
          (c.in_ok-entry.ensures.entry images still ∙ ap (entry_of images) c.new.ensures) in
          subst (λ bs. Lists c.args.asked.wanted.now images bs (g.W.Write.contents c.args.writer.now) (g.W.Write.contents c.push_board.new.writer) c.push_board.new.batch.items)
          (sym (take-read boards c.loop-place.place c.unrank-board.result next))
          (lists-more c.args.asked.wanted.now images (take c.loop-place.place boards) c.unrank-board.result c.numbers_of-numbers.result _ _ _ _ _ (i.listed images says boards held)
          (c.numbers_of-numbers.ensures _ images (says_still c.args.asked.source _ _ images c.in_ok-entry.ensures.same.stands still) c.unrank-board.result at) (c.push_board.ensures c.if-not-push_board.false));
    }

pub returns-clause-printed : goal.returns-clause-printed
returns-clause-printed g c = λ images says boards held done.
    let written : c.print_bytes.result ≡ true = cc in
    lists-all c.args.asked.wanted.now images (take c.loop-place.place boards) boards _ _ _ _ (c.loop-place.invariant.listed images says boards held)
    (take_all c.loop-place.place boards (omega (arith, c.loop-place-test.false, held-long c.args.asked.wanted.now images c.args.asked.level boards c.args.held.now held)))
    (rw c.as_slice.ensures.value at (c.print_bytes.ensures written))

pub returns-in_err-entry-clause-fault : goal.returns-in_err-entry-clause-fault
returns-in_err-entry-clause-fault g c =
    err_same c.from_residual.result _ _ c.from_residual.ensures.1 (
    list_board c.args.asked.source c.args.asked.level _ _ c.new.result _ c.loop-place.invariant.unchanged.stands (ap sum c.new.ensures ∙ c.unrank-board.ensures.stones) c.in_err-entry.ensures.fault)
