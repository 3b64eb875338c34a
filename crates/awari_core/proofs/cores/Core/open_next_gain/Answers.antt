use Rattle.std.proofs.Common.{rules, ◌≡◌, ◌-◌, ◌<◌, ℕ, length, get_or, refl, sym, subst, arith}
use Rattle.awari_heard.specs.Level.{no_part}
use Rattle.awari_core.specs.Core.{Core, IsAllQuiet, OpensNextGain, owner_part}
use Rattle.awari_owner.specs.Sound.{OpensGain}
use Rattle.awari_core.proofs.Effects.{core_of}
use Rattle.awari_core.proofs.Rounds.{sound_gain}
use Rattle.awari_core.proofs.cores.Core.open_next_gain.Goals as goal

pub invariant_of-self-2 : goal.invariant_of-self-2
invariant_of-self-2 c =
    let old = core_of c.self.inside in
    let more = c.if-self-le1.false in
    let count : length c.open_gains.new.parts.items ≡ length c.self.inside.parts.items = search rules in
    let each : (i : ℕ) → i < length old.parts → OpensGain (c.self.inside.gain - 1) (owner_part old i) (get_or c.open_gains.new.parts.items i no_part) = λ i low. c.open_gains.ensures.opened i (search (rules, low)) in
    sound_gain old (c.self.inside.gain - 1) c.open_gains.new.parts.items c.self.invariant (subst IsAllQuiet (sym c.self.view_is) c.requires) (omega (arith, more)) count each

pub returns-clause-sound : goal.returns-clause-sound
returns-clause-sound c = invariant_of-self-2 c

pub returns-clause-opened : goal.returns-clause-opened
returns-clause-opened c =
    let old = core_of c.self.inside in
    let more = c.if-self-le1.false in
    let count : length c.open_gains.new.parts.items ≡ length c.self.inside.parts.items = search rules in
    let each : (i : ℕ) → i < length old.parts → OpensGain (c.self.inside.gain - 1) (owner_part old i) (get_or c.open_gains.new.parts.items i no_part) = λ i low. c.open_gains.ensures.opened i (search (rules, low)) in
    subst (λ (o : Core). OpensNextGain o (record old { gain = c.self.inside.gain - 1; parts = c.open_gains.new.parts.items })) c.self.view_is (record {
      shelf = refl;
      room = refl;
      gain = refl;
      senders = refl;
      count = count;
      parts = λ _. each;
      closed = λ last. absurd (omega (arith, last, more));
    })
