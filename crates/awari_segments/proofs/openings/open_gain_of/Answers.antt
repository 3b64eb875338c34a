use Rattle.std.proofs.Common.{◌≡◌, ◌+◌, ◌≤◌, [], ap, rules}
use Rattle.awari_block.specs.declared.stakes.Stake.{Stake}
use Rattle.awari_segments.proofs.openings.open_gain_of.Goals as goal

pub returns : goal.returns
returns c =
    let at = ap (λ (s : Stake). s.gain) c.stake.ensures.stake in
    let one : 1 ≤ c.args.gain = search rules in
    let next : c.args.segment.now.gain ≡ c.args.gain + 1 = search rules in
    let idle : c.args.segment.now.fresh ≡ [] = search rules in
    record { positive = one; next = next; idle = idle; opens = c.in_ok-open_gain.ensures.opens }
