use Rattle.std.proofs.Common.{◌≡◌, ◌∙◌, Bool, true, false, pos, refl}
use Rattle.core.specs.Bool.{then_some}
use Rattle.awari_levels.specs.Listing.{zero_if}
use Rattle.awari_levels.proofs.ListingLaws.{numbers_are}
use Rattle.awari_levels.proofs.batches.names_asked.Goals as goal

nothing : (b : Bool) → then_some b (pos 0) ≡ zero_if b
nothing true = refl
nothing false = refl

pub returns : goal.returns
returns c =
    let added = c.args.added in
    numbers_are refl (c.then_some.ensures ∙ nothing added.moves) (c.then_some-2.ensures ∙ nothing added.keep) (c.then_some-3.ensures ∙ nothing added.greedy) (c.then_some-4.ensures ∙ nothing added.trap)
    (c.then_some-5.ensures ∙ nothing added.other) (c.then_some-6.ensures ∙ nothing added.waits)
