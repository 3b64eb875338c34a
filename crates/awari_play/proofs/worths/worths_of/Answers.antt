use Rattle.std.proofs.Common.{◌≡◌, ◌∙◌, ◌↔◌, [], ℕ, Contains, ap, arith, map, rules, subst, sym, take}
use Rattle.std.proofs.Math.Seq.{take-length}
use Rattle.std.proofs.lemmas.List.{get_or_default}
use Rattle.std.proofs.lemmas.List.Elements.{All-push}
use Rattle.std.specs.List.Sorted.{IsStrictlyIncreasing}
use Rattle.awari_board.specs.Rules.{IsLegal}
use Rattle.awari_play.proofs.Lasting.{err_same, refused_before}
use Rattle.awari_play.proofs.Worthing.{pits-of, worths-more, worths-of}
use Rattle.awari_play.specs.MoveWorth.{pit_of}
use Rattle.awari_play.proofs.worths.worths_of.Goals as goal

pub loop-pit-init : goal.loop-pit-init
loop-pit-init g c =
    let empty : c.new-worths.result.items ≡ [] = search rules in
    record {
      few = search rules;
      legal = rw empty (λ k d low. absurd (omega (arith, low)));
      each = λ images says. rw empty tt;
      keeps = g.met.T.Table.lasting.itself _;
    }

pub worth_in-requires-clause-legal : goal.worth_in-requires-clause-legal
worth_in-requires-clause-legal g c =
    (c.moves-moves.ensures.legal _).0 (
      c.loop-pit.pit-index,
      rw (← c.as_slice-pit-items.ensures.value) c.loop-pit-test.true,
      rw (← c.as_slice-pit-items.ensures.value) (get_or_default _ _ _ _ c.loop-pit-test.true),
    )

pub loop-pit-preserved : goal.loop-pit-preserved
loop-pit-preserved g c =
    let i = c.loop-pit.invariant in
    let laws = g.met.T.Table.lasting in
    let legal =
    (c.moves-moves.ensures.legal _).0 (
      c.loop-pit.pit-index,
      rw (← c.as_slice-pit-items.ensures.value) c.loop-pit-test.true,
      rw (← c.as_slice-pit-items.ensures.value) (get_or_default _ _ _ _ c.loop-pit-test.true),
    ) in
    record {
      few = search rules;
      legal = rw c.push.ensures.items (All-push (λ w. IsLegal c.args.board.now w.pit) _ _ i.legal (subst (IsLegal c.args.board.now) (sym c.in_ok-worth_in.ensures.pit) legal));
      each = λ images says.
          rw c.push.ensures.items (worths-more _ _ _ _ _ _ _ c.loop-pit-test.true (get_or_default _ _ _ _ c.loop-pit-test.true) (i.each images says)
          (c.in_ok-worth_in.ensures.worth images (laws.says _ _ images i.keeps says)));
      keeps = laws.on _ _ _ i.keeps c.worth_in.ensures.keeps;
    }

pub returns-clause-worths : goal.returns-clause-worths
returns-clause-worths g c = λ images says.
    let each = c.loop-pit.invariant.each images says in
    let end : c.loop-pit.pit-index ≡ _ = omega (arith, c.loop-pit-test.false, c.loop-pit.auto.pit-index-end) in
    let pits : map pit_of c.loop-pit.worths.items ≡ c.moves-moves.result.items =
    pits-of _ _ _ _ each ∙ ap (λ n. take n c.as_slice-pit-items.result.now) end ∙ take-length _ ∙ c.as_slice-pit-items.ensures.value in
    record {
      legal = subst (λ l. (pit : ℕ) → Contains l pit ↔ IsLegal c.args.board.now pit) (sym pits) c.moves-moves.ensures.legal;
      ascending = subst IsStrictlyIncreasing (sym pits) c.moves-moves.ensures.ascending;
      worth = worths-of _ _ _ _ each;
    }

pub returns-in_err-worth_in-clause-fault : goal.returns-in_err-worth_in-clause-fault
returns-in_err-worth_in-clause-fault g c =
    err_same c.from_residual.result _ _ c.from_residual.ensures.1 (
    refused_before _ g.met.T.Table.lasting _ _ _ c.loop-pit.invariant.keeps c.in_err-worth_in.ensures.fault)
