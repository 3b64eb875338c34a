use Rattle.std.proofs.Common.{arith}
use Rattle.awari_packed.specs.Packed.{pits_of}
use Rattle.awari_packed.proofs.Digits.{long-pits_of}
use Rattle.awari_packed.proofs.RankSums.{ranked}
use Rattle.awari_packed.proofs.ranks.rank.Goals as goal

pub overflow_sub-boards : goal.overflow_sub-boards
overflow_sub-boards c =
    omega (
      arith,
      ranked (pits_of c.args.bits) (pits_of c.right_sums-sums.result) (long-pits_of c.args.bits) c.right_sums-sums.ensures.sums,
      c.level-boards.ensures,
      c.two_pits.ensures,
    )

pub overflow_sub-boards-2 : goal.overflow_sub-boards-2
overflow_sub-boards-2 c =
    omega (
      arith,
      ranked (pits_of c.args.bits) (pits_of c.right_sums-sums.result) (long-pits_of c.args.bits) c.right_sums-sums.ensures.sums,
      c.level-boards.ensures,
      c.two_pits.ensures,
      c.two_pits-2.ensures,
    )

pub overflow_sub-boards-3 : goal.overflow_sub-boards-3
overflow_sub-boards-3 c =
    omega (
      arith,
      ranked (pits_of c.args.bits) (pits_of c.right_sums-sums.result) (long-pits_of c.args.bits) c.right_sums-sums.ensures.sums,
      c.level-boards.ensures,
      c.two_pits.ensures,
      c.two_pits-2.ensures,
      c.two_pits-3.ensures,
    )

pub overflow_sub-boards-4 : goal.overflow_sub-boards-4
overflow_sub-boards-4 c =
    omega (
      arith,
      ranked (pits_of c.args.bits) (pits_of c.right_sums-sums.result) (long-pits_of c.args.bits) c.right_sums-sums.ensures.sums,
      c.level-boards.ensures,
      c.two_pits.ensures,
      c.two_pits-2.ensures,
      c.two_pits-3.ensures,
      c.two_pits-4.ensures,
    )

pub overflow_sub-result : goal.overflow_sub-result
overflow_sub-result c =
    omega (
      arith,
      ranked (pits_of c.args.bits) (pits_of c.right_sums-sums.result) (long-pits_of c.args.bits) c.right_sums-sums.ensures.sums,
      c.level-boards.ensures,
      c.two_pits.ensures,
      c.two_pits-2.ensures,
      c.two_pits-3.ensures,
      c.two_pits-4.ensures,
      c.two_pits-5.ensures,
    )

pub returns : goal.returns
returns c =
    omega (
      arith,
      ranked (pits_of c.args.bits) (pits_of c.right_sums-sums.result) (long-pits_of c.args.bits) c.right_sums-sums.ensures.sums,
      c.level-boards.ensures,
      c.two_pits.ensures,
      c.two_pits-2.ensures,
      c.two_pits-3.ensures,
      c.two_pits-4.ensures,
      c.two_pits-5.ensures,
    )
