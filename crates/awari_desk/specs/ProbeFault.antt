-- Why a board is not probed.
use Rattle.std.specs.Prelude.{ℕ}
use Rattle.awari_board.specs.BoardFault.{number_of as board_number_of}
use Rattle.awari_desk.specs.Answering.{Answering}
use Rattle.awari_desk.specs.declared.faults.ProbeFault.{ProbeFault}
use Rattle.awari_desk.specs.declared.faults.ProbeFault.TheVariants.{Board, Ask}

-- the number of the fault inside it
abbrev pub number_of : {S F : Type 0} → Answering S F → ProbeFault F → ℕ
number_of asked (Board fault) = board_number_of fault
number_of asked (Ask fault) = asked.number fault
