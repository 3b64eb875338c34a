use Rattle.std.proofs.Common.{rules, ◌≡◌, ◌<◌, List, length, get_or, sym, subst, ◌∙◌, arith, length-set}
use Rattle.std.proofs.lemmas.List.{get_or_default}
use Rattle.awari_heard.specs.Level.{no_part}
use Rattle.awari_owner.specs.Sound.{OpensGain}
use Rattle.awari_block.specs.Part.{Part}
use Rattle.awari_core.proofs.Rounds.{later_set, more_set}
use Rattle.awari_core.proofs.openings.open_gains.Goals as goal

pub loop-part-preserved : goal.loop-part-preserved
loop-part-preserved c =
    let items : List Part = c.loop-part.part-items in
    let i = c.loop-part.part-index in
    let low : i < length items = search rules in
    let was : get_or items i c.part-item.result ≡ get_or c.args.parts.now.items i no_part = sym (get_or_default items i no_part c.part-item.result low) ∙ c.loop-part.invariant.later i (omega arith) in
    record {
      count = length-set items i c.open_gain.new.self ∙ c.loop-part.invariant.count;
      opened = more_set (λ k p. OpensGain c.args.gain (get_or c.args.parts.now.items k no_part) p) items no_part i c.open_gain.new.self low c.loop-part.invariant.opened
          (subst (λ (p : Part). OpensGain c.args.gain p c.open_gain.new.self) was c.open_gain.ensures);
      later = later_set items c.args.parts.now.items no_part i c.open_gain.new.self c.loop-part.invariant.later;
    }
