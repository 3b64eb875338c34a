use Rattle.std.proofs.Common.{refl}
use Rattle.awari_phase.proofs.Pairs.{other_of, this_of, owners_paired, owners_looked, owners_flag, rest_written}
use Rattle.awari_phase.proofs.settling.settle_pair.Goals as goal

pub look_beside-requires : goal.look_beside-requires
look_beside-requires c = record {
  other = other_of c.args.all.now _ _ c.args.i c.args.j c.index-front-i.result c.index-back-0.result c.split_at_mut-front.ensures.front c.split_at_mut-front.ensures.back c.requires.pair.0 c.requires.pair.1 c.requires.grid;
  this = this_of c.args.all.now _ _ c.args.i c.args.j c.index-front-i.result c.index-back-0.result c.split_at_mut-front.ensures.front c.split_at_mut-front.ensures.back c.requires.pair.0 c.requires.pair.1 c.requires.grid;
  paired = owners_paired c.args.all.now _ _ c.args.i c.args.j c.index-front-i.result c.index-back-0.result c.split_at_mut-front.ensures.front c.split_at_mut-front.ensures.back c.requires.pair.0 c.requires.pair.1 c.requires.grid;
}

pub returns-clause-looked : goal.returns-clause-looked
returns-clause-looked c =
    owners_looked c.args.all.now _ _ c.args.i c.args.j c.index-front-i.result c.index-back-0.result c.split_at_mut-front.ensures.front c.split_at_mut-front.ensures.back c.requires.pair.0 c.requires.pair.1 c.requires.grid
    _ _ c.look_beside.ensures.here c.look_beside.ensures.there c.look_beside.ensures.exact

pub returns-clause-flag : goal.returns-clause-flag
returns-clause-flag c =
    owners_flag c.args.all.now _ _ c.args.i c.args.j c.index-front-i.result c.index-back-0.result c.split_at_mut-front.ensures.front c.split_at_mut-front.ensures.back c.requires.pair.0 c.requires.pair.1 c.requires.grid
    _ _ _ c.look_beside.ensures.flag

pub returns-clause-rest : goal.returns-clause-rest
returns-clause-rest c =
    rest_written c.args.all.now _ _ c.args.i c.args.j c.index-front-i.result c.index-back-0.result c.split_at_mut-front.ensures.front c.split_at_mut-front.ensures.back c.requires.pair.0 c.requires.pair.1 c.requires.grid
    _ _ refl refl
