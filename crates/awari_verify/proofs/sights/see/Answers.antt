use Rattle.std.proofs.Common.{◌≡◌, sum, sym, ap, ◌∙◌, ◌<◌, ◌≢◌, ◌++◌, ◌∷◌, [], None, length, get_or, arith, below_more, length-set, get_or-set_other, get_or-set_same, slice_set}
use Rattle.awari_table.specs.Images.{table_of}
use Rattle.awari_table.specs.declared.images.Entry.{Entry}
use Rattle.awari_table.specs.Reached.{Reaches}
use Rattle.awari_table.proofs.EntryLemmas.{entry_of-top}
use Rattle.awari_verify.proofs.sights.see.Goals as goal

pub loop-pit-preserved : goal.loop-pit-preserved
loop-pit-preserved c =
    let six = c.loop-pit.invariant.0 in (
      simp length-set six,
      below_more (λ x. Reaches (table_of (c.args.shelf.now ++ c.args.image.now ∷ [])) c.args.board.now x (get_or (slice_set c.loop-pit.seen.moves c.loop-pit.pit c.reached.result) x None)) c.loop-pit.pit
          (λ k h. let ne : k ≢ c.loop-pit.pit = omega arith in rw get_or-set_other (c.loop-pit.invariant.1 k h))
          (let lt : c.loop-pit.pit < length c.loop-pit.seen.moves = omega arith in rw get_or-set_same c.reached.ensures),
    )

pub returns : goal.returns
returns c =
    let top : sum c.args.board.now ≡ length c.args.shelf.now = c.requires.stones ∙ c.requires.shaped.next in
    let entry = entry_of-top c.args.shelf.now c.args.image.now c.args.board.now c.at-seen.result top (rw c.requires.ranked c.at-seen.ensures) in record {
      stones = sym c.requires.stones;
      value = ap (λ (e : Entry). e.value) entry;
      plan = ap (λ (e : Entry). e.plan) entry;
      dist = ap (λ (e : Entry). e.dist) entry;
      at_end = c.end_seen-seen.ensures;
      six = c.loop-pit.invariant.0;
      moves = λ x lt. c.loop-pit.invariant.1 x (omega arith);
    }
