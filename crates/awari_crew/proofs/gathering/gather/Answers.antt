use Rattle.std.proofs.Common.{◌^◌, List, sym, subst, ◌∙◌}
use Rattle.std.specs.List.Sorted.{IsPermutation}
use Rattle.awari_block.specs.Each.{EachTo}
use Rattle.awari_block.specs.Part.{Part}
use Rattle.awari_heard.specs.Level.{AreHeard, AreWhole}
use Rattle.awari_lines.specs.Rings.{SameHistory}
use Rattle.awari_lines.specs.declared.ends.Ends.{Ends}
use Rattle.awari_crew.specs.Gathered.{AreAligned}
use Rattle.awari_crew.specs.declared.letters.Letter.{Letter}
use Rattle.awari_crew.proofs.Parts.{sorted_heard}
use Rattle.awari_crew.proofs.gathering.gather.Goals as goal

pub returns-clause-heard : goal.returns-clause-heard
returns-clause-heard c = λ value are.
    let sorted = c.sort_unstable_by_key.new.self.items in
    subst (AreHeard value) (sym c.in_ok-parts.ensures)
    (sorted_heard c.args.homes.items c.settle.new.all c.requires.grid (subst (λ (l : List (Ends Letter)). EachTo SameHistory l c.settle.new.all) (c.as_mut_slice.ensures.value ∙ c.in_ok-ends.ensures.ends) (record { many = c.settle.ensures.many; each = c.settle.ensures.same })) c.settle.ensures.exact
    (c.settle.ensures.flag.0 c.if-not-settle.false) value c.args.level (2 ^ c.args.log) c.ranks_tell_boards_apart.ensures are sorted (subst (λ (l : List Part). IsPermutation l sorted) c.in_ok-ends.ensures.segments c.sort_unstable_by_key.ensures.permutation)
    (subst (AreWhole c.args.level) c.as_slice.ensures.value (c.are_blocks.ensures.whole c.if-not-are_blocks.false)) (subst (AreAligned (2 ^ c.args.log)) c.as_slice.ensures.value (c.are_blocks.ensures.aligned c.if-not-are_blocks.false)))
