use Rattle.std.proofs.Common.{◌∙◌, rules, FitsSigned, w8}
use Rattle.std.proofs.lemmas.Int.{to_z-of_z}
use Rattle.awari_facts.proofs.SourceLaws.{value_there}
use Rattle.awari_facts.specs.Sources.{images_of}
use Rattle.awari_facts.proofs.sources.value_on.Goals as goal

pub returns : goal.returns
returns c =
    let fits : FitsSigned w8 c.value_at.result = search rules in
    to_z-of_z w8 _ fits ∙ value_there (images_of c.args.levels) c.args.board.now _ _ c.value_at.result c.value_at.ensures c.stones.ensures.stones c.rank.ensures.rank
