use Rattle.std.proofs.Common.{◌≡◌, ◌/◌, inl, inr, ap, refl, rules, slice_index_or, subst, sym, ◌∙◌, arith, length-set}
use Rattle.std.proofs.lemmas.Bool.{cases_lt}
use Rattle.std.proofs.lemmas.List.{get_or_default}
use Rattle.awari_block.specs.Cells.{is_settled}
use Rattle.awari_block.specs.Part.{InBlock}
use Rattle.awari_block.specs.declared.cells.Cell.{Cell}
use Rattle.awari_segments.specs.Segments.{IsCodeFor}
use Rattle.awari_segments.proofs.Ahead.{TellsBelow-end, TellsBelow-more, TellsBelow-none}
use Rattle.awari_segments.proofs.hearing.settled_among.Goals as goal

pub loop-k-init : goal.loop-k-init
loop-k-init c = record { long = refl; below = TellsBelow-none _ _ _; codes = λ j d less. absurd (omega (arith, less)) }

pub loop-k-preserved : goal.loop-k-preserved
loop-k-preserved c =
    let few = c.requires.few in
    let long = c.loop-k.invariant.long in
    let test = c.loop-k-test.true in
    let codes = c.args.codes.now in
    let k = c.loop-k.k in
    let held : InBlock c.args.segment.now (slice_index_or codes k 0 / 8) = search rules in
    let mine : IsCodeFor c.args.segment.now (slice_index_or codes k 0) = (held, c.if-code-ge6.false) in
    record {
      long = length-set c.loop-k.settled k c.is_settled.result ∙ long;
      below = TellsBelow-more c.args.segment.now codes c.loop-k.settled k c.is_settled.result (omega (arith, few, long, test)) c.loop-k.invariant.below
          (λ told. ap (λ (d : Cell). is_settled d.mark) (sym c.cell.ensures.stored) ∙ sym c.is_settled.ensures ∙ told);
      codes = λ j d less. elim (cases_lt j k) [
        | inl below ↦ c.loop-k.invariant.codes j d below
        | inr beyond ↦
            let same : k ≡ j = omega (arith, less, beyond) in
            subst (λ n. IsCodeFor c.args.segment.now (slice_index_or codes n d)) same (subst (IsCodeFor c.args.segment.now) (get_or_default codes k 0 d test) mine)
      ];
    }

pub returns : goal.returns
returns c = record {
  codes = λ j d less. let end = c.loop-k-test.false in c.loop-k.invariant.codes j d (omega (arith, less, end));
  settled = TellsBelow-end c.args.segment.now c.args.codes.now c.loop-k.settled c.loop-k.k c.loop-k-test.false c.loop-k.invariant.below;
}
