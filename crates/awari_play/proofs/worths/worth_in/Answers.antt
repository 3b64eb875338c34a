use Rattle.awari_play.proofs.worths.worth_in.Goals as goal

pub returns-clause-worth : goal.returns-clause-worth
returns-clause-worth g c = λ images says.
    let (next, move, value, plies) = c.in_ok-reached.ensures.reached images says in
    record {
      pit = c.worth_by.ensures.pit;
      worth = record {
        next = next;
        move = rw (c.worth_by.ensures.pit, c.worth_by.ensures.captured) move;
        gain = rw (c.worth_by.ensures.captured, ← value) c.worth_by.ensures.gain;
        even = c.worth_by.ensures.even;
        uneven = rw (c.worth_by.ensures.captured, ← plies) c.worth_by.ensures.uneven;
      };
    }
