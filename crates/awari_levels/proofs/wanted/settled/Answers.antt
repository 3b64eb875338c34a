use Rattle.std.proofs.Common.{refl, sym, ◌∙◌}
use Rattle.awari_facts.specs.Facts.{gains_in, legal_moves, other_value}
use Rattle.awari_table.specs.Images.{entry_of}
use Rattle.awari_levels.proofs.WantedLaws.{weighed-last, within-not_fit, within-not_suit, within-weighed}
use Rattle.awari_levels.proofs.wanted.settled.Goals as goal

pub returns-then-not-fits-clause-some : goal.returns-then-not-fits-clause-some
returns-then-not-fits-clause-some c = λ images board at. within-not_fit c.args.wanted.now images board c.args.seen.now.entry at.entry (sym c.fits.ensures ∙ c.if-not-fits.true)

pub returns-then-not-suits_rules-clause-some : goal.returns-then-not-suits_rules-clause-some
returns-then-not-suits_rules-clause-some c = λ images board at.
    within-not_suit c.args.wanted.now images board c.args.seen.now.entry at.entry (sym c.fits.ensures ∙ c.if-not-fits.false) (sym (c.suits_rules.ensures images board at) ∙ c.if-not-suits_rules.true)

pub returns-then-asks_turned-clause-none : goal.returns-then-asks_turned-clause-none
returns-then-asks_turned-clause-none c = λ images board at none.
    within-weighed c.args.wanted.now images board c.args.seen.now.entry at.entry (sym c.fits.ensures ∙ c.if-not-fits.false) (sym (c.suits_rules.ensures images board at) ∙ c.if-not-suits_rules.false)

pub returns-clause-some : goal.returns-clause-some
returns-clause-some c = λ images board at.
    weighed-last c.args.wanted.now images board _ _ refl (c.asks_moves.ensures.none c.if-asks_moves.false (gains_in images board) (entry_of images board).value) (sym (c.asks_turned.ensures.none c.if-asks_turned.false (legal_moves board) (entry_of images board).value (other_value images board)))
    ∙ within-weighed c.args.wanted.now images board c.args.seen.now.entry at.entry (sym c.fits.ensures ∙ c.if-not-fits.false) (sym (c.suits_rules.ensures images board at) ∙ c.if-not-suits_rules.false)
