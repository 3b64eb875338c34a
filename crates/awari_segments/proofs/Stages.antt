-- What follows of the steps of a level for its segments.
use Rattle.std.proofs.Common.{◌≡◌, ℕ, ◌<◌, All, List, Vec, sym, subst, ◌∙◌, arith}
use Rattle.std.specs.Vec.{with_items}
use Rattle.std.proofs.lemmas.List.{get_or_default, with_items_is}
use Rattle.awari_block.specs.Blocks.{Due, due_dist}
use Rattle.awari_block.specs.Part.{Part, IsClosed}
use Rattle.awari_block.specs.declared.stakes.Stake.{Stake}
use Rattle.awari_heard.specs.Level.{no_part}
use Rattle.awari_segments.specs.Each.{NoneAreFresh, PassesFirst, SameFresh}
use Rattle.awari_block.specs.Each.{EachTo}
use Rattle.awari_segments.specs.Segments.{AreSegments}

-- the blocks that take the places of others are as many
pub kept_items : {Z : Type 0} (P : Part → Part → Type 0) (v : Vec Part Z) (new : List Part) → EachTo P v.items new → (with_items v new).items ≡ new
kept_items P v new each = let same = each.many in let len = v.ok.0 in with_items_is v new (omega (arith, same, len))

-- once the last gain is closed, each of them is closed
pub all_closed : (stake : Stake) (span : ℕ) (parts : List Part) → AreSegments stake span parts → stake.gain ≡ 1 → NoneAreFresh parts → All IsClosed parts
all_closed stake span parts grid last idle i d h =
    let same = get_or_default parts i no_part d h in
    subst IsClosed same (grid.gain i h ∙ last, idle i h)

-- what was so before the distance was opened is so after it
pub passes_before : (dist : ℕ) (old mid new : List Part) → EachTo SameFresh old mid → PassesFirst dist mid new → PassesFirst dist old new
passes_before dist old mid new same first i few before =
    let many = same.many in
    first i (omega (arith, few, many)) (λ j less. subst (λ fs. All (λ (f : Due). dist < due_dist f) fs) (sym (same.each j no_part (omega (arith, less, few)))) (before j less))
