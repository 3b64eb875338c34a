-- The files of a folder while they are asked. Private functions alone go by these: no public contract does.
use Rattle.awari_desk.specs.Answering.{Answering}
use Rattle.awari_folder.specs.State.{State}
use Rattle.awari_places.specs.Asked.{Keeps, stands_in}
use Rattle.awari_boards.specs.Said.{IsEntrySaid, AreMovesSaid}
use Rattle.awari_boards.specs.Unsaid.{line_of, number_of}
use Rattle.awari_boards.specs.declared.files.Asked.{Asked}
use Rattle.awari_boards.specs.declared.unsaid.Unsaid.{Unsaid}

-- how they answer a service
abbrev pub by_lent : {F : Type 0} → (F → State) → Answering (Asked F) Unsaid
by_lent state = record {
  seen = λ asked. asked.files.levels;
  entry = λ old new board said. Keeps state old.files new.files × IsEntrySaid (stands_in state old.files) old.files.levels new.files.levels board said;
  moves = λ replies old new board said. Keeps state old.files new.files × AreMovesSaid replies (stands_in state old.files) old.files.levels new.files.levels board said;
  line = line_of;
  number = number_of;
}
