use Rattle.std.proofs.Common.{◌≡◌, ◌+◌, subst, sym, ap, ◌∙◌, arith}
use Rattle.awari_block.specs.Boards.{Settles}
use Rattle.awari_block.specs.Part.{Part, IsTallied}
use Rattle.awari_owner.specs.Sound.{OpensGain}
use Rattle.awari_heard.proofs.Gains.{opened}
use Rattle.awari_owner.proofs.Hearing.{hears_still}
use Rattle.awari_block.proofs.Settling.{same_stake}
use Rattle.awari_owner.proofs.parts.Part.open_gain.Goals as goal

pub invariant_of-self : goal.invariant_of-self
invariant_of-self c =
    let settles : Settles (record c.self.inside.boards { gain = c.args.gain; wave = 0 }) c.open_gain.new.self = c.in-Ok.ensures.opens.settles in
    record {
      opened = (let now = settles.same.gain in omega (arith, now, c.requires.positive));
      fresh = c.in-Ok.ensures.fresh;
      index = c.self.invariant.index ∙ sym settles.same.level;
    }

pub returns : goal.returns
returns c =
    let old : Part = c.self.inside.boards in
    let new : Part = c.open_gain.new.self in
    let next : c.args.gain + 1 ≡ old.gain = c.requires.next ∙ sym (ap (λ (v : Part). v.gain) c.self.view_is) in
    let opens = c.in-Ok.ensures.opens in
    let settles : Settles (record old { gain = c.args.gain; wave = 0 }) new = opens.settles in
    let does : OpensGain c.args.gain old new = record {
      settles = settles;
      tallied = λ value notes tallied.
          subst (λ (n : Part). IsTallied value n notes) (same_stake (record old { gain = c.args.gain; wave = 0 }) new settles.same)
          (opened value notes old new.cells new.fresh c.args.gain c.requires.positive next settles.size (λ k high. opens.cells.inside k high (omega arith) high) tallied);
      own = λ notes own. hears_still old new notes own settles.same.level settles.same.start settles.size settles.stays settles.joins;
      fresh = c.in-Ok.ensures.fresh;
    } in
    subst (λ (o : Part). OpensGain c.args.gain o new) c.self.view_is does
