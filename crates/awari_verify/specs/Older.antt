-- The older rules: which of what is seen of a board keeps their V6, and why an image is not the next level by them.
use Rattle.std.specs.Prelude.{◌≡◌, ◌≢◌, ◌<◌, ◌≤◌, ◌⊎◌, List, pos, ◌<ℤ◌, IfSome, IsNone, All}
use Rattle.awari_table.specs.declared.TheConstants.{HIGHEST_FALLING_LEVEL}
use Rattle.awari_table.specs.declared.images.Image.{Image}
use Rattle.awari_theory.specs.Older.{DistancesFall}
use Rattle.awari_verify.specs.declared.rules.Seen.{Seen}
use Rattle.awari_verify.specs.declared.verdicts.VerifyFault.{VerifyFault}
use Rattle.awari_verify.specs.declared.verdicts.VerifyFault.TheVariants.{WrongLevel}
use Rattle.awari_verify.specs.Sights.{IsNearer, KeepsEven, KeepsWinning}
use Rattle.awari_verify.specs.VerifyFault.{IsDueBy}

abbrev pub KeepsFalling : Seen → Type 0
KeepsFalling s =
    KeepsEven s × (IsNone s.end → s.entry.value ≢ pos 0 → 1 ≤ s.entry.dist) × KeepsWinning s
    × (s.entry.value <ℤ pos 0 → All (λ o. IfSome o (λ m. IsNearer m s.entry.dist)) s.moves)

-- the fault of the image over the shelf: by these rules a level above 12 is none
abbrev pub IsDueOld : List Image → Image → VerifyFault → Type 0
IsDueOld shelf image fault =
    ((HIGHEST_FALLING_LEVEL < image.level) × (fault ≡ WrongLevel)) ⊎ ((image.level ≤ HIGHEST_FALLING_LEVEL) × IsDueBy DistancesFall shelf image fault)
