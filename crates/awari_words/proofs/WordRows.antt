-- Rows that compute.
use Rattle.std.proofs.Common.{◌≡◌, [], ◌∷◌, Some, codes, refl}
use Rattle.clap.proofs.OnLiterals.{clap_on_literals}
use Rattle.clap.specs.Words.{fault_of}
use Rattle.clap.specs.declared.error.kind.ErrorKind.TheVariants.{ValueValidation}
use Rattle.awari_words.specs.Commands.{awari_commands}
use Rattle.awari_words.specs.Named.{named}

pub judge_row : named (codes "awari" ∷ codes "judge" ∷ codes "0/1" ∷ codes "9" ∷ codes "02" ∷ codes "1" ∷ codes "3" ∷ [])
    ≡ Some (codes "judge", (codes "BOARD", codes "0/1" ∷ []) ∷ (codes "LIMIT", codes "9" ∷ []) ∷ (codes "MOVES", codes "02" ∷ codes "1" ∷ codes "3" ∷ []) ∷ [])
unfolding clap_on_literals
judge_row = refl

pub build_row : named (codes "awari" ∷ codes "build" ∷ codes "-j" ∷ codes "3" ∷ codes "12" ∷ codes "--progress" ∷ [])
    ≡ Some (
      codes "build",
      (codes "threads", codes "3" ∷ []) ∷ (codes "TOP", codes "12" ∷ []) ∷ (codes "progress", codes "true" ∷ []) ∷ (codes "estimate", codes "false" ∷ []) ∷ (codes "owners", codes "0" ∷ [])
          ∷ (codes "room", codes "64" ∷ []) ∷ (codes "sweeps", codes "1000" ∷ []) ∷ [],
    )
unfolding clap_on_literals
build_row = refl

pub high_row : fault_of awari_commands (codes "awari" ∷ codes "build" ∷ codes "25" ∷ []) ≡ ValueValidation ∷ []
unfolding clap_on_literals
high_row = refl
