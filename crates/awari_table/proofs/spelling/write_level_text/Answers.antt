use Rattle.std.proofs.Common.{◌<◌, ◌^◌, arith}
use Rattle.std.proofs.lemmas.Result.{on_ok_weaker}
use Rattle.awari_table.proofs.Spelled.{image_fits}
use Rattle.awari_table.proofs.spelling.write_level_text.Goals as goal

pub returns-clause-image : goal.returns-clause-image
returns-clause-image g c =
    let small : c.args.level.now.limit < 2 ^ 32 = omega (arith, c.limit.ensures) in
    on_ok_weaker _ (image_fits c.args.level.now c.number.ensures.level small) c.write_entries.ensures.fit
