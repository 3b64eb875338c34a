-- The command `serve`: what is answered.
use Rattle.std.specs.Prelude.{◌<◌, ℕ, List, length, Option}
use Rattle.awari_build.specs.declared.faults.BuildFault.TheVariants as build_fault
use Rattle.awari_desk.specs.Desks.{by_reader}
use Rattle.awari_desk.specs.Service.{IsInput, HasServed}
use Rattle.awari_folder.specs.Contents.{IsStoredIn, Stands}
use Rattle.awari_phase.specs.declared.faults.PhaseFault.TheVariants as phase_fault
use Rattle.awari_table.specs.Shelves.{IsShelf}
use Rattle.awari_table.specs.declared.images.Image.{Image}
use Rattle.awari_builds.specs.declared.faults.CommandFault.{CommandFault}
use Rattle.awari_builds.specs.declared.faults.CommandFault.TheVariants.{Build}

-- Where the input is known, and what the writer holds: what was written is the output for it, of a reader that knew these levels.
abbrev pub IsServed : List Image → Option (List ℕ) → Option (List ℕ) → Option (List ℕ) → Type 0
IsServed known input before after = (bytes : List ℕ) × (last : List Image) × IsInput input bytes × HasServed by_reader known before bytes after last

-- The reader knew right levels: those that the folder stores, where it is known what its names have.
abbrev pub PrintsService : Stands → Option (List ℕ) → Option (List ℕ) → Option (List ℕ) → Type 0
PrintsService stands input before after = (images : List Image) × (digest : List ℕ) × IsShelf images × IsStoredIn stands images digest × IsServed images input before after

-- Right levels up to `top` at least are there. No definition says that there are any: a shelf of them shows it, which is built.
abbrev pub HasLevelsTo : ℕ → Type 0
HasLevelsTo top = (book : List Image) × IsShelf book × (top < length book)

-- why a level is not built that nobody can ask for
abbrev pub nobody_asks : CommandFault
nobody_asks = Build (build_fault.Phase phase_fault.Stopped)
