use Rattle.std.proofs.Common.{◌++◌}
use Rattle.awari_scan.proofs.targets.find_all.Goals as goal
use Rattle.awari_scan.proofs.Finding.{codable}
use Rattle.awari_scan.specs.Found.{IsCodable}
use Rattle.awari_block.proofs.ListParts.{All-append_first, All-append_second}

pub returns-clause-found : goal.returns-clause-found
returns-clause-found c = (c.of-own.result.own ++ c.of-own.result.far, c.of-own.ensures.predecessors, c.find_far.ensures.found c.of-own.result.own c.find_own-found.ensures.found)

pub find_own-found-requires-clause-codes : goal.find_own-found-requires-clause-codes
find_own-found-requires-clause-codes c =
    All-append_first IsCodable c.of-own.result.own c.of-own.result.far
    (codable c.args.board.now (c.of-own.result.own ++ c.of-own.result.far) (λ p x is move. c.moves_keep_boards.ensures.stones p c.args.board.now x 0 is move) c.requires.low c.of-own.ensures.predecessors)

pub find_far-requires-clause-codes : goal.find_far-requires-clause-codes
find_far-requires-clause-codes c =
    All-append_second IsCodable c.of-own.result.own c.of-own.result.far
    (codable c.args.board.now (c.of-own.result.own ++ c.of-own.result.far) (λ p x is move. c.moves_keep_boards.ensures.stones p c.args.board.now x 0 is move) c.requires.low c.of-own.ensures.predecessors)
