use Rattle.std.proofs.Common.{ap, ◌∙◌, arith}
use Rattle.std.proofs.lemmas.Int.{ints}
use Rattle.awari_play.proofs.lowering.by_moves.Goals as goal

pub returns-then-own-gt0 : goal.returns-then-own-gt0
returns-then-own-gt0 c =
    let own = ap (λ e. e.value) c.requires.own in
    let up = c.if-own-gt0.true in record {
      even = λ even. absurd (omega (arith, ints, up, own, even));
      won = λ _. c.nearest.ensures;
      lost = λ down. absurd (omega (arith, ints, up, own, down));
    }

pub returns-then-own-lt0 : goal.returns-then-own-lt0
returns-then-own-lt0 c =
    let own = ap (λ e. e.value) c.requires.own in
    let down = c.if-own-lt0.true in record {
      even = λ even. absurd (omega (arith, ints, down, own, even));
      won = λ up. absurd (omega (arith, ints, down, own, up));
      lost = λ _. c.farthest.ensures;
    }

pub returns-else-own-lt0 : goal.returns-else-own-lt0
returns-else-own-lt0 c =
    let own = ap (λ e. e.value) c.requires.own in
    let not_up = c.if-own-gt0.false in
    let not_down = c.if-own-lt0.false in record {
      even = λ _. c.from.ensures ∙ ap (λ e. e.dist) c.requires.own;
      won = λ up. absurd (omega (arith, ints, not_up, own, up));
      lost = λ down. absurd (omega (arith, ints, not_down, own, down));
    }
