use Rattle.std.proofs.Common.{◌≡◌, ◌+◌, ◌-◌, ◌/◌, ◌^◌, ◌<◌, ◌≤◌, ◌∙◌, ℕ, false, Some, length, refl, ap, subst, subst₂, sum, sym, rules, arith}
use Rattle.std.proofs.lemmas.Grind.{common_steps}
use Rattle.std.proofs.lemmas.Result.{err_from_is_err_and}
use Rattle.awari_board.specs.Rules.{IsBoard}
use Rattle.awari_rank.specs.Rank.{rank_of, size_of}
use Rattle.awari_block.specs.Boards.{TakesFirst, stake_of}
use Rattle.awari_block.specs.Part.{Part, IsLeastDue}
use Rattle.awari_owner.specs.Spread.{Spreads, PutsAll, IsPartOf, is_held}
use Rattle.awari_owner.specs.Outboxes.{Outboxes}
use Rattle.awari_owner.specs.Sound.{SameStake, SpreadsFirst}
use Rattle.awari_owner.specs.Queues.{batches_of, room_in}
use Rattle.awari_block.specs.declared.stakes.Stake.{Stake}
use Rattle.awari_owner.proofs.Firsts.{fewer_unspread, spread_first, taken_low, taken_place, taken_settles, IsTold}
use Rattle.awari_owner.proofs.Giving.{sound_spread}
use Rattle.awari_owner.specs.Predecessors.{ArePredecessors}
use Rattle.awari_owner.proofs.Sending.{batches_length, all_batches}
use Rattle.awari_owner.proofs.Sharing.{outboxes_of, own_stays, room_for, sends_by}
use Rattle.awari_owner.proofs.Spreading.{sources_of}
use Rattle.awari_owner.proofs.parts.Part.spread_one.Goals as goal

-- the length of a block, by the level where the boards stand
span_is : (old : Part) (stake : Stake) (boards many owners span : ℕ) → stake ≡ stake_of old → boards ≡ size_of stake.level → many ≡ owners → span ≡ (boards + (many - 1)) / many
    → span ≡ (size_of old.level + (owners - 1)) / owners
span_is old stake boards many owners span at size count is =
    is ∙ ap (λ s. (s + (many - 1)) / many) (size ∙ ap (λ (p : Stake). size_of p.level) at) ∙ ap (λ n. (size_of old.level + (n - 1)) / n) count

-- the first fresh board is of the open wave
due_now : (old part : Part) (stake : Stake) (dist : ℕ) → stake ≡ stake_of old → dist ≡ stake.wave → old ≡ part → IsLeastDue old (Some dist) → IsLeastDue part (Some part.wave)
due_now old part stake dist at near view due =
    subst (λ (o : Part). IsLeastDue o (Some o.wave)) view (subst (λ d. IsLeastDue old (Some d)) (near ∙ ap (λ (p : Stake). p.wave) at) due)

pub board_of-requires-clause-index : goal.board_of-requires-clause-index
board_of-requires-clause-index c =
    let takes : TakesFirst c.self.inside.boards c.take_first-rank.new.self c.take_first-rank.result = c.take_first-rank.ensures.first in
    c.self.invariant.index ∙ sym (ap (λ (t : Part). t.level) takes.rest)

pub tell_all-requires-clause-found : goal.tell_all-requires-clause-found
tell_all-requires-clause-found c = subst (λ n. ArePredecessors n c.of-predecessors.result) c.board_of.ensures.stones c.of-predecessors.ensures.found

pub tell_all-requires-clause-can : goal.tell_all-requires-clause-can
tell_all-requires-clause-can c =
    let takes : TakesFirst c.self.inside.boards c.take_first-rank.new.self c.take_first-rank.result = c.take_first-rank.ensures.first in record {
      low = search rules;
      positive = subst (λ (t : Part). 1 ≤ t.gain) (sym takes.rest) c.self.invariant.opened;
      inward = taken_low c.self.inside.boards c.take_first-rank.new.self c.take_first-rank.result takes;
      near = search rules;
    }

pub tell_all-requires-clause-room : goal.tell_all-requires-clause-room
tell_all-requires-clause-room c =
    let old : Part = c.self.inside.boards in
    let takes : TakesFirst old c.take_first-rank.new.self c.take_first-rank.result = c.take_first-rank.ensures.first in
    let made : IsPartOf old (outboxes_of c.outboxes.inside.owner c.outboxes.inside.queues.items) = subst₂ (λ (o : Part) (b : Outboxes). IsPartOf o b) (sym c.self.view_is) (sym c.outboxes.view_is) c.requires.part in
    let many : 0 < size_of old.level = subst (λ (p : Stake). 0 < size_of p.level) c.stake-stake.ensures.stake (subst (λ n. 0 < n) c.size.ensures.boards c.size.ensures.some) in
    let spans = span_is old c.stake-stake.result c.size.result c.len.result (length c.outboxes.inside.queues.items) c.block_length-span.result c.stake-stake.ensures.stake c.size.ensures.boards (search rules) c.block_length-span.ensures in
    let after : length c.reserve_others.new.queues.items ≡ length c.outboxes.inside.queues.items = search rules in
    let room : (to : ℕ) → to < length c.outboxes.inside.queues.items → (to ≡ c.outboxes.inside.owner → ⊥) → 288 ≤ room_in c.reserve_others.new.queues.items to = λ to h. c.in_ok-reserve_others.ensures.room to (search (rules, h)) in
    λ r below out.
    let found = room_for old c.outboxes.inside.owner c.outboxes.inside.queues.items c.reserve_others.new.queues.items c.block_length-span.result made many spans after room r
    (subst (λ (t : Part). r < size_of t.level) takes.rest below) (subst (λ (t : Part). is_held t r ≡ false) takes.rest out) in
    (search (rules, found.0), found.1)

pub invariant_of-self : goal.invariant_of-self
invariant_of-self c =
    let takes : TakesFirst c.self.inside.boards c.take_first-rank.new.self c.take_first-rank.result = c.take_first-rank.ensures.first in
    let settles = taken_settles c.self.inside.boards c.take_first-rank.new.self c.tell_all.new.boards c.take_first-rank.result takes c.tell_all.ensures.settles in
    record {
      opened = (let now = settles.same.gain in let was = c.self.invariant.opened in omega (arith, now, was));
      fresh = c.tell_all.ensures.settles.fresh c.take_first-rank.ensures.fresh;
      index = c.self.invariant.index ∙ sym settles.same.level;
    }

pub invariant_of-outboxes-2 : goal.invariant_of-outboxes-2
invariant_of-outboxes-2 c =
    let old : Part = c.self.inside.boards in
    let takes : TakesFirst old c.take_first-rank.new.self c.take_first-rank.result = c.take_first-rank.ensures.first in
    let made : IsPartOf old (outboxes_of c.outboxes.inside.owner c.outboxes.inside.queues.items) = subst₂ (λ (o : Part) (b : Outboxes). IsPartOf o b) (sym c.self.view_is) (sym c.outboxes.view_is) c.requires.part in
    let told = c.tell_all.ensures in
    let puts : PutsAll old c.block_length-span.result c.kind-kind.result c.reserve_others.new.queues.items c.tell_all.new.queues.items told.sources =
    subst (λ (t : Part). PutsAll t c.block_length-span.result c.kind-kind.result c.reserve_others.new.queues.items c.tell_all.new.queues.items told.sources) takes.rest told.puts in
    let are = sources_of c.of-predecessors.result.board told.sources (λ p x is move. c.moves_keep_boards.ensures.stones p c.of-predecessors.result.board x 0 is move) told.predecessors in
    let stones = ap sum c.of-predecessors.ensures.same ∙ c.board_of.ensures.stones ∙ ap (λ (t : Part). t.level) takes.rest in
    let many : 0 < size_of old.level = subst (λ (p : Stake). 0 < size_of p.level) c.stake-stake.ensures.stake (subst (λ n. 0 < n) c.size.ensures.boards c.size.ensures.some) in
    let spans = span_is old c.stake-stake.result c.size.result c.len.result (length c.outboxes.inside.queues.items) c.block_length-span.result c.stake-stake.ensures.stake c.size.ensures.boards (search rules) c.block_length-span.ensures in
    let after : length c.tell_all.new.queues.items ≡ length c.outboxes.inside.queues.items = search rules in
    let many' : length (batches_of c.tell_all.new.queues.items) ≡ length (batches_of c.outboxes.inside.queues.items) =
    batches_length c.tell_all.new.queues.items ∙ after ∙ sym (batches_length c.outboxes.inside.queues.items) in
    record {
      few = omega (arith, many', c.outboxes.invariant.few);
      one = omega (arith, many', c.outboxes.invariant.one);
      own =
          own_stays old c.of-predecessors.result.board told.sources c.kind-kind.result c.block_length-span.result c.outboxes.inside.owner c.outboxes.inside.queues.items c.reserve_others.new.queues.items c.tell_all.new.queues.items
          are stones made many spans c.in_ok-reserve_others.ensures.same puts ∙ c.outboxes.invariant.own;
      batches = all_batches old c.block_length-span.result c.kind-kind.result told.sources c.outboxes.inside.queues.items c.reserve_others.new.queues.items c.tell_all.new.queues.items after c.in_ok-reserve_others.ensures.same puts
          c.outboxes.invariant.batches;
    }

pub returns-clause-spread : goal.returns-clause-spread
returns-clause-spread c = λ _.
    let old : Part = c.self.inside.boards in
    let takes : TakesFirst old c.take_first-rank.new.self c.take_first-rank.result = c.take_first-rank.ensures.first in
    let made : IsPartOf old (outboxes_of c.outboxes.inside.owner c.outboxes.inside.queues.items) = subst₂ (λ (o : Part) (b : Outboxes). IsPartOf o b) (sym c.self.view_is) (sym c.outboxes.view_is) c.requires.part in
    let told = c.tell_all.ensures in
    let puts : PutsAll old c.block_length-span.result c.kind-kind.result c.reserve_others.new.queues.items c.tell_all.new.queues.items told.sources =
    subst (λ (t : Part). PutsAll t c.block_length-span.result c.kind-kind.result c.reserve_others.new.queues.items c.tell_all.new.queues.items told.sources) takes.rest told.puts in
    let level = ap (λ (p : Stake). p.level) c.stake-stake.ensures.stake in
    let wave = ap (λ (p : Stake). p.wave) c.stake-stake.ensures.stake in
    let both : Spreads old c.tell_all.new.boards c.of-predecessors.result.board told.sources × IsTold old c.of-predecessors.result.board told.sources c.kind-kind.result =
    spread_first old c.take_first-rank.new.self c.tell_all.new.boards c.take_first-rank.result takes c.tell_all.ensures.settles c.cell.result c.of-predecessors.result.board told.sources c.kind-kind.result
    c.ranks_tell_boards_apart.ensures
    (λ p x r is move. c.moves_keep_boards.ensures.board p r x 0 is move)
    (λ p x r is move. c.moves_keep_boards.ensures.stones p r x 0 is move)
    (let far = c.if-dist.false in let at = c.if-dist-stake.false in search (rules, wave)) c.self.invariant.opened
    (subst IsBoard (sym c.of-predecessors.ensures.same) c.board_of.ensures.board) (ap sum c.of-predecessors.ensures.same ∙ c.board_of.ensures.stones ∙ ap (λ (t : Part). t.level) takes.rest) (ap rank_of c.of-predecessors.ensures.same ∙ c.board_of.ensures.rank)
    c.cell.ensures.stored c.kind-kind.ensures told.predecessors told.hears in
    let many : 0 < size_of old.level = subst (λ (p : Stake). 0 < size_of p.level) c.stake-stake.ensures.stake (subst (λ n. 0 < n) c.size.ensures.boards c.size.ensures.some) in
    let spans = span_is old c.stake-stake.result c.size.result c.len.result (length c.outboxes.inside.queues.items) c.block_length-span.result c.stake-stake.ensures.stake c.size.ensures.boards (search rules) c.block_length-span.ensures in
    let after : length c.tell_all.new.queues.items ≡ length c.outboxes.inside.queues.items = search rules in
    let sends = sends_by old c.of-predecessors.result.board told.sources c.kind-kind.result c.block_length-span.result c.outboxes.inside.owner c.outboxes.inside.queues.items c.reserve_others.new.queues.items c.tell_all.new.queues.items
    c.self.invariant.opened both.1 made many spans after c.in_ok-reserve_others.ensures.same puts in
    let does : SpreadsFirst old c.tell_all.new.boards (outboxes_of c.outboxes.inside.owner c.outboxes.inside.queues.items) (outboxes_of c.outboxes.inside.owner c.tell_all.new.queues.items) = record {
      board = c.of-predecessors.result.board;
      sources = told.sources;
      notes = _;
      spreads = both.0;
      sends = sends;
      fewer = fewer_unspread old c.take_first-rank.new.self c.tell_all.new.boards c.take_first-rank.result takes c.tell_all.ensures.settles;
      due = due_now old old c.stake-stake.result c.in-Some.dist c.stake-stake.ensures.stake c.if-dist-stake.false refl c.in-Some.ensures.least;
      sound = λ value taken sent coming.
          sound_spread c.ranks_tell_boards_apart.ensures
          (λ p x r is move. (c.moves_keep_boards.ensures.board p r x 0 is move, (let kept = c.moves_keep_boards.ensures.stones p r x 0 is move in omega (arith, kept))))
          value old c.tell_all.new.boards _ _ taken sent coming c.of-predecessors.result.board told.sources _ both.0 sends (taken_place old c.take_first-rank.new.self c.tell_all.new.boards c.take_first-rank.result takes c.tell_all.ensures.settles) (c.tell_all.ensures.settles.fresh c.take_first-rank.ensures.fresh);
    } in
    subst₂ (λ (o : Part) (b : Outboxes). SpreadsFirst o c.tell_all.new.boards b (outboxes_of c.outboxes.inside.owner c.tell_all.new.queues.items)) c.self.view_is c.outboxes.view_is does

pub returns-clause-stays : goal.returns-clause-stays
returns-clause-stays c = (
  subst (λ (o : Part). SameStake o c.tell_all.new.boards) c.self.view_is
      (taken_place c.self.inside.boards c.take_first-rank.new.self c.tell_all.new.boards c.take_first-rank.result c.take_first-rank.ensures.first c.tell_all.ensures.settles),
  search rules,
  batches_length c.tell_all.new.queues.items ∙ (let after : length c.tell_all.new.queues.items ≡ length c.outboxes.inside.queues.items = search rules in after)
      ∙ sym (batches_length c.outboxes.inside.queues.items) ∙ ap (λ (b : Outboxes). length b.queues) c.outboxes.view_is,
)

pub returns-in_err-reserve_others-clause-fault : goal.returns-in_err-reserve_others-clause-fault
returns-in_err-reserve_others-clause-fault c =
    let p = err_from_is_err_and c.from_residual.result c.from_residual.ensures.1 in
    let wave = ap (λ (p : Stake). p.wave) c.stake-stake.ensures.stake in
    let at : c.in-Some.dist ≡ c.stake-stake.result.wave = c.if-dist-stake.false in
    let near : c.self.inside.boards.wave < 2 ^ 32 - 1 = (let far = c.if-dist.false in search (rules, wave)) in
    rw (p.1, p.2) (
      due_now c.self.inside.boards c.args.self.now c.stake-stake.result c.in-Some.dist c.stake-stake.ensures.stake at c.self.view_is c.in-Some.ensures.least,
      subst (λ (o : Part). o.wave < 2 ^ 32 - 1) c.self.view_is near,
      grind (arith, common_steps),
    )
