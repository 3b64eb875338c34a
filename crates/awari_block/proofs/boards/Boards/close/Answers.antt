use Rattle.std.proofs.Common.{ap, sym, ◌∙◌}
use Rattle.awari_block.specs.Part.{Part, part_of}
use Rattle.awari_block.proofs.boards.Boards.close.Goals as goal

pub returns : goal.returns
returns g c =
    let none = ap (λ (o : Part). o.fresh) c.self.view_is ∙ c.requires.1 in
    ap (part_of c.self.inside.stake c.self.inside.start c.self.inside.cells.items) (sym none) ∙ c.self.view_is
