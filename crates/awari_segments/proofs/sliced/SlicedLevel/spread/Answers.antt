use Rattle.std.proofs.Common.{List, ap, inr, subst, arith}
use Rattle.awari_block.specs.Blocks.{times_due}
use Rattle.awari_block.specs.Part.{Part}
use Rattle.awari_segments.specs.Each.{AreFrom, HasDue, PassesFirst}
use Rattle.awari_segments.proofs.Stages.{passes_before}
use Rattle.awari_segments.specs.Slices.{SlicedView}
use Rattle.awari_segments.proofs.Going.{goes_both}
use Rattle.awari_segments.proofs.sliced.SlicedLevel.spread.Goals as goal

pub returns-in_ok-after-in-Some : goal.returns-in_ok-after-in-Some
returns-in_ok-after-in-Some c =
    let dist = c.in-Some.dist in
    let old = c.args.self in
    let mid = c.in_ok-opened-in-Some.opened in
    let new = c.in_ok-after-in-Some.after in
    let at = c.in_ok-opened-in-Some.ensures in
    let least : AreFrom dist old.parts = subst (λ (v : SlicedView). AreFrom dist v.parts) c.self.view_is (subst (λ (l : List Part). AreFrom dist l) c.as_slice.ensures.value c.in-Some.ensures.least) in
    let due : HasDue dist old.parts = subst (λ (v : SlicedView). HasDue dist v.parts) c.self.view_is (subst (λ (l : List Part). HasDue dist l) c.as_slice.ensures.value c.in-Some.ensures.some) in
    let first : PassesFirst dist mid.parts new.parts = subst (λ w. PassesFirst w mid.parts new.parts) at.wave c.in_ok-after-in-Some.ensures.first in
    record {
      goes_on = goes_both old mid new at.goes_on c.in_ok-after-in-Some.ensures.goes_on;
      opens = λ idle more.
          let none = ap (λ fs. times_due fs due.1) (idle due.0 due.3) in
          let some = due.6 in
          absurd (omega (arith, none, some));
      spreads = inr (dist, least, due, passes_before dist old.parts mid.parts new.parts at.fresh first);
    }
