use Rattle.awari_desk.proofs.Grows.{grows, begins_all}
use Rattle.awari_desk.proofs.looks.look_at_moves.Goals as goal

pub enter_as-requires : goal.enter_as-requires
enter_as-requires c book = grows _ _ book book (begins_all book.0)
