use Rattle.std.proofs.Common.{rules}
use Rattle.awari_lines.proofs.Grids.{parts_paired, parts_looked, parts_flag}
use Rattle.awari_lines.proofs.looks.settle_pair.Goals as goal

pub look_beside-requires : goal.look_beside-requires
look_beside-requires g c = record {
  other = search rules;
  this = search rules;
  paired = parts_paired c.args.all.now _ _ c.args.i c.args.j _ _ c.split_at_mut-front.ensures.front c.split_at_mut-front.ensures.back c.requires.pair.0 c.requires.pair.1 c.requires.grid;
}

pub returns-clause-looked : goal.returns-clause-looked
returns-clause-looked g c =
    parts_looked c.args.all.now _ _ c.args.i c.args.j c.index-front-i.result c.index-back-0.result c.split_at_mut-front.ensures.front c.split_at_mut-front.ensures.back c.requires.pair.0 c.requires.pair.1 c.requires.grid
    _ _ c.look_beside.ensures.here c.look_beside.ensures.there c.look_beside.ensures.exact

pub returns-clause-flag : goal.returns-clause-flag
returns-clause-flag g c =
    parts_flag c.args.all.now _ _ c.args.i c.args.j c.index-front-i.result c.index-back-0.result c.split_at_mut-front.ensures.front c.split_at_mut-front.ensures.back c.requires.pair.0 c.requires.pair.1 c.requires.grid
    _ _ _ c.look_beside.ensures.flag
