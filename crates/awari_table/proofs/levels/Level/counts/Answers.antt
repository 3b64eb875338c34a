use Rattle.std.proofs.Common.{◌<◌, length, FitsSigned, w8, rules, arith}
use Rattle.std.proofs.lemmas.Int.{to_z-of_z}
use Rattle.std.proofs.lemmas.Option.{slice_get-get_or}
use Rattle.awari_table.specs.Images.{no_entry}
use Rattle.awari_table.proofs.CountLemmas.{counted, counted_all}
use Rattle.awari_table.proofs.levels.Level.counts.Goals as goal

pub loop-rank-preserved : goal.loop-rank-preserved
loop-rank-preserved c =
    let fits : FitsSigned w8 c.value_at-value.result = search rules in
    let same = to_z-of_z w8 c.value_at-value.result fits in
    let within : c.loop-rank.rank < length c.args.self.now.entries = omega (arith, c.loop-rank-test.true, c.loop-rank.invariant.0) in
    let found = slice_get-get_or c.args.self.now.entries c.loop-rank.rank no_entry within in
    (c.loop-rank.invariant.0, rw (c.from-won.ensures, c.from-lost.ensures, same, c.value_at-value.ensures) (counted _ _ _ _ _ found c.loop-rank.invariant.1))

pub returns : goal.returns
returns c =
    let boards = c.loop-rank.invariant.0 in
    let (won, lost, once) = counted_all c.args.self.now.entries c.loop-rank.rank _ _ (omega (arith, boards, c.loop-rank-test.false)) c.loop-rank.invariant.1 in
    search (rules, arith, won, lost, once, boards)
