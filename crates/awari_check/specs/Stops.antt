-- Why an image was not put on a shelf. A private function alone goes by this: no public contract does.
use Rattle.std.specs.Prelude.{◌≡◌, List}
use Rattle.awari_table.specs.declared.images.Image.{Image}
use Rattle.awari_table.specs.declared.faults.TableFault.TheVariants.{Memory}
use Rattle.awari_verify.specs.VerifyFault.{IsDue}
use Rattle.awari_check.specs.declared.checks.CheckFault.{CheckFault}
use Rattle.awari_check.specs.declared.checks.CheckFault.TheVariants.{Table, Verify}

abbrev pub Stops : List Image → Image → CheckFault → Type 0
Stops shelf image (Table fault) = fault ≡ Memory
Stops shelf image (Verify level fault) = (level ≡ image.level) × IsDue shelf image fault
