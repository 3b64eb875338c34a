use Rattle.awari_levels.proofs.ListingLaws.{numbers_are}
use Rattle.awari_levels.proofs.listing.numbers_of.Goals as goal

pub returns : goal.returns
returns c = λ stands images says board at.
    numbers_are at.entry (c.number_if.ensures stands images says board at) (c.number_if-2.ensures stands images says board at) (c.number_if-3.ensures stands images says board at)
    (c.number_if-4.ensures stands images says board at) (c.number_if-5.ensures stands images says board at) (c.number_if-6.ensures stands images says board at)
