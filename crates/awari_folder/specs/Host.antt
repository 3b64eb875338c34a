-- Of the host's files nothing is known, but how many calls came to nothing.
use Rattle.std.specs.Prelude.{None, ⊤}
use Rattle.awari_folder.specs.declared.host.HostFolder.{HostFolder}
use Rattle.awari_folder.specs.State.{State}

abbrev pub state_of : {R : Type 0} → HostFolder R → State
state_of folder = record { stands = λ _. None; may_leave = λ _ _. ⊥; is_clear = λ _. ⊤; refusals = record { refused = folder.refused; lacking = folder.lacking }; stuck = folder.stuck }
