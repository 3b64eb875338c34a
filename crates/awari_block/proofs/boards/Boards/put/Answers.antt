use Rattle.std.proofs.Common.{◌≡◌, ◌∙◌, true, false, sym, inl, inr, rules}
use Rattle.std.proofs.lemmas.Bool.{false≢true}
use Rattle.awari_block.specs.Cells.{is_settled}
use Rattle.awari_block.proofs.Putting.{cell_read, joined_boards, joined_fresh, joined_seen, kept_boards, kept_fresh, kept_seen, put_new}
use Rattle.awari_block.proofs.boards.Boards.put.Given.{Over}
use Rattle.awari_block.proofs.boards.Boards.put.Goals as goal

-- a board that this does not settle
back : (g : Over) (c : goal.After-self-1 g) → is_settled c.args.cell.mark ≡ true → is_settled c.index.result.now.mark ≡ true
back g c settled = elim c.then-not-is_settled.either [
  | inl not ↦ absurd (false≢true (sym not ∙ c.is_settled.ensures ∙ settled))
  | inr was ↦ sym c.is_settled-was_settled.ensures ∙ was.1
]

pub invariant_of-self : goal.invariant_of-self
invariant_of-self g c = kept_boards g.F.FreshSet.dues g.F.FreshSet.right c.self.inside c.self.invariant c.args.self.now c.self.view_is c.args.rank c.index.result.now c.args.cell c.requires (cell_read g.F.FreshSet.dues g.F.FreshSet.right c.self.inside c.args.self.now c.args.rank c.index.result.now c.args.cell c.self.view_is c.requires c.index.ensures) c.depend_on_their_cells.ensures (back g c)

pub returns-then-not-is_settled-clause-settles : goal.returns-then-not-is_settled-clause-settles
returns-then-not-is_settled-clause-settles g c = kept_seen g.F.FreshSet.dues g.F.FreshSet.right c.self.inside c.self.invariant c.args.self.now c.self.view_is c.args.rank c.index.result.now c.args.cell c.requires (cell_read g.F.FreshSet.dues g.F.FreshSet.right c.self.inside c.args.self.now c.args.rank c.index.result.now c.args.cell c.self.view_is c.requires c.index.ensures) c.depend_on_their_cells.ensures (back g c)

pub returns-then-not-is_settled-clause-joins : goal.returns-then-not-is_settled-clause-joins
returns-then-not-is_settled-clause-joins g c = kept_fresh g.F.FreshSet.dues g.F.FreshSet.right c.self.inside c.self.invariant c.args.self.now c.self.view_is c.args.rank c.index.result.now c.args.cell c.requires (cell_read g.F.FreshSet.dues g.F.FreshSet.right c.self.inside c.args.self.now c.args.rank c.index.result.now c.args.cell c.self.view_is c.requires c.index.ensures) c.depend_on_their_cells.ensures (back g c)

pub insert-requires : goal.insert-requires
insert-requires g c =
    let settled : is_settled c.args.cell.mark ≡ true = search rules in
    let unset : is_settled c.index.result.now.mark ≡ false = search rules in
    record { new = (c.self.inside.start, c.self.inside.cells.items, put_new g.F.FreshSet.dues g.F.FreshSet.right c.self.inside c.self.invariant c.args.self.now c.self.view_is c.args.rank c.index.result.now c.args.cell c.requires (cell_read g.F.FreshSet.dues g.F.FreshSet.right c.self.inside c.args.self.now c.args.rank c.index.result.now c.args.cell c.self.view_is c.requires c.index.ensures) settled unset) }

pub invariant_of-self-2 : goal.invariant_of-self-2
invariant_of-self-2 g c =
    let settled : is_settled c.args.cell.mark ≡ true = search rules in
    let unset : is_settled c.index.result.now.mark ≡ false = search rules in
    joined_boards g.F.FreshSet.dues g.F.FreshSet.right c.self.inside c.self.invariant c.args.self.now c.self.view_is c.args.rank c.index.result.now c.args.cell c.requires (cell_read g.F.FreshSet.dues g.F.FreshSet.right c.self.inside c.args.self.now c.args.rank c.index.result.now c.args.cell c.self.view_is c.requires c.index.ensures) settled unset c.insert.new.self c.in_ok-insert.ensures.joins (c.in_ok-insert.ensures.right c.self.inside.start c.self.inside.cells.items)

pub returns-clause-settles : goal.returns-clause-settles
returns-clause-settles g c =
    let settled : is_settled c.args.cell.mark ≡ true = search rules in
    let unset : is_settled c.index.result.now.mark ≡ false = search rules in
    joined_seen g.F.FreshSet.dues g.F.FreshSet.right c.self.inside c.self.invariant c.args.self.now c.self.view_is c.args.rank c.index.result.now c.args.cell c.requires (cell_read g.F.FreshSet.dues g.F.FreshSet.right c.self.inside c.args.self.now c.args.rank c.index.result.now c.args.cell c.self.view_is c.requires c.index.ensures) settled unset c.insert.new.self c.in_ok-insert.ensures.joins

pub returns-clause-joins : goal.returns-clause-joins
returns-clause-joins g c =
    let settled : is_settled c.args.cell.mark ≡ true = search rules in
    let unset : is_settled c.index.result.now.mark ≡ false = search rules in
    joined_fresh g.F.FreshSet.dues g.F.FreshSet.right c.self.inside c.self.invariant c.args.self.now c.self.view_is c.args.rank c.index.result.now c.args.cell c.requires (cell_read g.F.FreshSet.dues g.F.FreshSet.right c.self.inside c.args.self.now c.args.rank c.index.result.now c.args.cell c.self.view_is c.requires c.index.ensures) settled unset c.insert.new.self c.in_ok-insert.ensures.joins
