-- Why a command that builds ends early.
use Rattle.std.specs.Prelude.{List, [], ◌∷◌}
use Rattle.awari_build.specs.BuildFault.{refusal_of as build_refusal_of}
use Rattle.awari_desk.specs.DeskFault.{reason_of as desk_reason_of}
use Rattle.awari_desk.specs.ServeFault.{reason_of as serve_reason_of}
use Rattle.awari_faults.specs.Refusals.{Words}
use Rattle.awari_folder.specs.FolderFault.{refusal_of as folder_refusal_of}
use Rattle.awari_phase.specs.PhaseFault.{refusal_of as phase_refusal_of}
use Rattle.awari_builds.specs.declared.faults.CommandFault.{CommandFault}
use Rattle.awari_builds.specs.declared.faults.CommandFault.TheVariants.{Folder, Build, Start, Desk, Serve}

-- what is told of the fault inside it
abbrev pub refusal_of : CommandFault → List Words
refusal_of (Folder fault) = folder_refusal_of fault
refusal_of (Build fault) = build_refusal_of fault
refusal_of (Start fault) = phase_refusal_of fault
refusal_of (Desk fault) = desk_reason_of fault ∷ []
refusal_of (Serve fault) = serve_reason_of fault ∷ []
