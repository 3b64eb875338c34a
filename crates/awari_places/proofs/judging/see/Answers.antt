use Rattle.std.proofs.Common.{ap}
use Rattle.awari_table.specs.declared.images.Entry.{Entry}
use Rattle.awari_verify.proofs.SightLemmas.{SeesEnd-end}
use Rattle.awari_play.proofs.Lasting.{err_same, refused_at, refused_before}
use Rattle.awari_places.proofs.judging.see.Goals as goal

pub returns-clause-sees : goal.returns-clause-sees
returns-clause-sees g c = λ images says.
    let is = c.in_ok-entry.ensures.entry images says in
    record {
      stones = c.stones.ensures.stones;
      value = ap (λ (e : Entry). e.value) is;
      plan = ap (λ (e : Entry). e.plan) is;
      dist = ap (λ (e : Entry). e.dist) is;
      at_end = SeesEnd-end _ _ c.end.ensures.none c.end.ensures.some;
      six = c.in_ok-moves.ensures.six;
      moves = c.in_ok-moves.ensures.moves images (g.met.T.Table.lasting.says _ _ images c.entry.ensures.keeps says);
    }

pub returns-in_err-entry-clause-fault : goal.returns-in_err-entry-clause-fault
returns-in_err-entry-clause-fault g c =
    err_same c.from_residual.result _ _ c.from_residual.ensures.1 (
    refused_at _ _ _ _ c.requires c.in_err-entry.ensures.fault)

pub returns-in_err-moves-clause-fault : goal.returns-in_err-moves-clause-fault
returns-in_err-moves-clause-fault g c =
    err_same c.from_residual-in_err-moves.result _ _ c.from_residual-in_err-moves.ensures.1 (
    refused_before _ g.met.T.Table.lasting _ _ _ c.entry.ensures.keeps c.in_err-moves.ensures.fault)
