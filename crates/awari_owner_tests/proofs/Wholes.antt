-- The parts of owners go on being all blocks of a level, whatever the owners do.
use Rattle.std.proofs.Common.{◌≡◌, ℕ, suc, ◌+◌, ◌<◌, List, [], ◌∷◌, length, sym, subst, ◌∙◌, arith, get_or}
use Rattle.awari_heard.specs.Level.{AreBlocks, AreWhole}
use Rattle.awari_rank.specs.Rank.{size_of}
use Rattle.awari_phase.specs.declared.owners.Owner.{Owner}
use Rattle.awari_phase.specs.Owners.{AllGrown, Grown, parts_of}

pub blocks_grown : (level low high : ℕ) (os ps : List Owner) → length ps ≡ length os → ((i : ℕ) (d : Owner) → i < length os → Grown (get_or os i d) (get_or ps i d))
    → AreBlocks level low high (parts_of os) → AreBlocks level low high (parts_of ps)
blocks_grown level low high [] [] many each whole = whole
blocks_grown level low high [] (p ∷ ps) many each whole = absurd (omega (arith, many))
blocks_grown level low high (o ∷ os) [] many each whole = absurd (omega (arith, many))
blocks_grown level low high (o ∷ os) (p ∷ ps) many each whole =
    let g : Grown o p = each 0 o (omega arith) in (
      (g.level ∙ whole.0.0, g.start ∙ whole.0.1),
      subst (λ (n : ℕ). AreBlocks level (low + n) high (parts_of ps)) (sym g.long)
          (blocks_grown level (low + length o.part.cells) high os ps (omega (arith, many)) (λ i d h. each (suc i) d (omega (arith, h))) whole.1),
    )

pub whole_grown : (level : ℕ) (os ps : List Owner) → AllGrown os ps → AreWhole level (parts_of os) → AreWhole level (parts_of ps)
whole_grown level os ps s = blocks_grown level 0 (size_of level) os ps s.many s.each
