use Rattle.std.proofs.Common.{◌≡◌, ◌+◌, ◌<◌, ◌++◌, ◌∷◌, [], ℕ, List, length, get_or, take, ap, sym, subst, rules, arith}
use Rattle.std.proofs.lemmas.List.{take_more}
use Rattle.awari_core.specs.Core.{Core, Runs}
use Rattle.awari_core.specs.declared.cores.Ran.{Ran}
use Rattle.awari_core.specs.declared.events.Event.{Event}
use Rattle.awari_core.specs.declared.events.Event.TheVariants.{Spread}
use Rattle.awari_core.proofs.Effects.{runs_refused, runs_taken}
use Rattle.awari_core.proofs.cores.Core.run.Goals as goal
use Rattle.awari_core.proofs.cores.Core.run.Goals.{in-Ok, in-Err}

-- the events up to one more
more : (old new : Core) (events : List Event) (k taken refused : ℕ) (ran : Ran) → k < length events → ran ≡ record { taken = taken; refused = refused }
    → Runs old (take k events ++ get_or events k (Spread 0) ∷ []) new taken refused → Runs old (take (k + 1) events) new ran.taken ran.refused
more old new events k taken refused ran low is runs =
    subst (λ (r : Ran). Runs old (take (k + 1) events) new r.taken r.refused) (sym is)
    (subst (λ (l : List Event). Runs old l new taken refused) (sym (take_more events k (Spread 0) low)) runs)

pub loop-event-preserved : goal.loop-event-preserved
loop-event-preserved c =
    let counted = c.loop-event.invariant.counted in
    let event : Event = get_or c.args.events.now c.loop-event.event-index (Spread 0) in
    elim c.match-step.branch [
      | in-Ok w ↦ record {
        counted = (let is = ap (λ (r : Ran). r.taken + r.refused) w.ran-is in omega (arith, counted, is));
        sound = w.in-Ok.ensures.sound;
        leads = more c.args.self.now c.step.new.self c.args.events.now c.loop-event.event-index (c.loop-event.ran.taken + 1) c.loop-event.ran.refused c.match-step.ran (search rules) w.ran-is
            (runs_taken c.args.self.now c.loop-event.self c.step.new.self (take c.loop-event.event-index c.args.events.now) c.loop-event.ran.taken c.loop-event.ran.refused event c.loop-event.invariant.leads
            w.in-Ok.ensures.enabled w.in-Ok.ensures.done w.in-Ok.ensures.sound);
      }
      | in-Err w ↦ record {
        counted = (let is = ap (λ (r : Ran). r.taken + r.refused) w.ran-is in omega (arith, counted, is));
        sound = w.in-Err.ensures.sound;
        leads = subst (λ (o : Core). Runs c.args.self.now (take (c.loop-event.event-index + 1) c.args.events.now) o c.match-step.ran.taken c.match-step.ran.refused) (sym w.in-Err.ensures.err)
            (more c.args.self.now c.loop-event.self c.args.events.now c.loop-event.event-index c.loop-event.ran.taken (c.loop-event.ran.refused + 1) c.match-step.ran (search rules) w.ran-is
            (runs_refused c.args.self.now c.loop-event.self (take c.loop-event.event-index c.args.events.now) c.loop-event.ran.taken c.loop-event.ran.refused event w.in-Err.field-0 c.loop-event.invariant.leads w.in-Err.ensures.refused));
      }
    ]
