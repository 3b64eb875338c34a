use Rattle.std.proofs.Common.{◌≡◌, ℕ, List, sum, sym, rules, length, get_or}
use Rattle.awari_rank.specs.Rank.{rank_of}
use Rattle.awari_table.specs.declared.images.Entry.{Entry}
use Rattle.awari_table.specs.declared.images.Image.{Image}
use Rattle.awari_table.specs.Images.{entry_of, no_entry, table_of}
use Rattle.awari_table.proofs.EntryLemmas.{entry_of-rank}
use Rattle.awari_play.specs.Planning.{with_top}
use Rattle.awari_play.proofs.Serving.{NoneBelow, none_below, none_more, none_serves}
use Rattle.awari_play.proofs.plans.lowest_plan.Goals as goal

-- the entry of its rank is the board's own
own_entry : (shelf : List Image) (entries : List Entry) (p : List ℕ) (rank : ℕ) → sum p ≡ length shelf → rank_of p ≡ rank → get_or entries rank no_entry ≡ entry_of (with_top shelf entries) p
own_entry shelf entries p rank stones ranked = sym (entry_of-rank shelf (record { level = length shelf; limit = 0; entries = entries }) p rank stones ranked)

-- before any pit is tried
none_tried : (shelf : List Image) (entries : List Entry) (p : List ℕ) → NoneBelow (table_of (with_top shelf entries)) p 0
none_tried shelf entries p = none_below (table_of (with_top shelf entries)) p

pub serves-requires-clause-own : goal.serves-requires-clause-own
serves-requires-clause-own c = own_entry c.args.shelf.now c.args.entries.now c.args.board.now c.args.rank c.requires.stones c.requires.ranked

pub serves-requires-2-clause-own : goal.serves-requires-2-clause-own
serves-requires-2-clause-own c = own_entry c.args.shelf.now c.args.entries.now c.args.board.now c.args.rank c.requires.stones c.requires.ranked

pub serves-requires-3-clause-own : goal.serves-requires-3-clause-own
serves-requires-3-clause-own c = own_entry c.args.shelf.now c.args.entries.now c.args.board.now c.args.rank c.requires.stones c.requires.ranked

pub serves-requires-4-clause-own : goal.serves-requires-4-clause-own
serves-requires-4-clause-own c = own_entry c.args.shelf.now c.args.entries.now c.args.board.now c.args.rank c.requires.stones c.requires.ranked

pub serves-requires-5-clause-own : goal.serves-requires-5-clause-own
serves-requires-5-clause-own c = own_entry c.args.shelf.now c.args.entries.now c.args.board.now c.args.rank c.requires.stones c.requires.ranked

pub serves-requires-6-clause-own : goal.serves-requires-6-clause-own
serves-requires-6-clause-own c = own_entry c.args.shelf.now c.args.entries.now c.args.board.now c.args.rank c.requires.stones c.requires.ranked

pub returns-then-serves : goal.returns-then-serves
returns-then-serves c = (c.serves.ensures.0 (search rules), (none_tried c.args.shelf.now c.args.entries.now c.args.board.now).none)

pub returns-then-serves-2 : goal.returns-then-serves-2
returns-then-serves-2 c = (c.serves-2.ensures.0 (search rules), (none_more 0 c.serves.ensures c.if-serves.false (none_tried c.args.shelf.now c.args.entries.now c.args.board.now)).none)

pub returns-then-serves-3 : goal.returns-then-serves-3
returns-then-serves-3 c = (c.serves-3.ensures.0 (search rules), (none_more 1 c.serves-2.ensures c.if-serves-2.false (none_more 0 c.serves.ensures c.if-serves.false (none_tried c.args.shelf.now c.args.entries.now c.args.board.now))).none)

pub returns-then-serves-4 : goal.returns-then-serves-4
returns-then-serves-4 c = (c.serves-4.ensures.0 (search rules), (none_more 2 c.serves-3.ensures c.if-serves-3.false (none_more 1 c.serves-2.ensures c.if-serves-2.false (none_more 0 c.serves.ensures c.if-serves.false (none_tried c.args.shelf.now c.args.entries.now c.args.board.now)))).none)

pub returns-then-serves-5 : goal.returns-then-serves-5
returns-then-serves-5 c = (c.serves-5.ensures.0 (search rules), (none_more 3 c.serves-4.ensures c.if-serves-4.false (none_more 2 c.serves-3.ensures c.if-serves-3.false (none_more 1 c.serves-2.ensures c.if-serves-2.false (none_more 0 c.serves.ensures c.if-serves.false (none_tried c.args.shelf.now c.args.entries.now c.args.board.now))))).none)

pub returns-then-serves-6 : goal.returns-then-serves-6
returns-then-serves-6 c = (c.serves-6.ensures.0 (search rules), (none_more 4 c.serves-5.ensures c.if-serves-5.false (none_more 3 c.serves-4.ensures c.if-serves-4.false (none_more 2 c.serves-3.ensures c.if-serves-3.false (none_more 1 c.serves-2.ensures c.if-serves-2.false (none_more 0 c.serves.ensures c.if-serves.false (none_tried c.args.shelf.now c.args.entries.now c.args.board.now)))))).none)

pub returns : goal.returns
returns c = none_serves (table_of (with_top c.args.shelf.now c.args.entries.now)) c.args.board.now (none_more 5 c.serves-6.ensures c.if-serves-6.false (none_more 4 c.serves-5.ensures c.if-serves-5.false (none_more 3 c.serves-4.ensures c.if-serves-4.false (none_more 2 c.serves-3.ensures c.if-serves-3.false (none_more 1 c.serves-2.ensures c.if-serves-2.false (none_more 0 c.serves.ensures c.if-serves.false (none_tried c.args.shelf.now c.args.entries.now c.args.board.now)))))))
