-- Why an image is not the next level of a shelf.
use Rattle.std.specs.Prelude.{◌≡◌, ◌≢◌, ◌⊎◌, ℕ, ◌≤◌, List, [], ◌∷◌, ◌++◌, length, codes, Option, Some, None, MatchOption}
use Rattle.awari_faults.specs.Refusals.{Words, alone, number, word}
use Rattle.awari_rank.specs.Rank.{size_of}
use Rattle.awari_table.specs.declared.images.Image.{Image}
use Rattle.awari_table.specs.declared.TheConstants.{HIGHEST_LEVEL}
use Rattle.awari_table.specs.Certificate.{Table, DistancesAreLeast}
use Rattle.awari_table.specs.Images.{table_of, greatest_dist}
use Rattle.awari_verify.specs.FirstFailure.{RightBetween, IsRefusal}
use Rattle.awari_verify.specs.Rule.{rule_name}
use Rattle.awari_verify.specs.declared.rules.Rule.{Rule}
use Rattle.awari_verify.specs.declared.rules.Rule.TheVariants.{V7}
use Rattle.awari_verify.specs.declared.search.Refusal.{Refusal}
use Rattle.awari_verify.specs.declared.verdicts.VerifyFault.{VerifyFault}
use Rattle.awari_verify.specs.declared.verdicts.VerifyFault.TheVariants.{WrongLevel, WrongSize, Refused, Memory}

-- what is told of each
abbrev pub reason_of : VerifyFault → Words
reason_of WrongLevel = alone 20
reason_of WrongSize = alone 21
reason_of (Refused rank rule) = record { number = 22; fields = number (codes "rank") rank ∷ word (codes "rule") (rule_name rule) ∷ [] }
reason_of Memory = alone 23

abbrev pub number_of : VerifyFault → ℕ
number_of fault = (reason_of fault).number

-- the image is of the level above the shelf, and has an entry for each board
pub record IsShaped (shelf : List Image) (image : Image) : Type 0 where
  pub next : image.level ≡ length shelf
  pub low : image.level ≤ HIGHEST_LEVEL
  pub sized : length image.entries ≡ size_of image.level

-- every board is right, and the limit is not the greatest distance
pub record IsWrongLimit (Asked : Table → List ℕ → Type 0) (shelf : List Image) (image : Image) (rank : ℕ) (rule : Rule) : Type 0 where
  pub named : rule ≡ V7
  pub at_0 : rank ≡ 0
  pub right : RightBetween Asked (table_of (shelf ++ image ∷ [])) image.level 0 (size_of image.level)
  pub wrong : image.limit ≢ greatest_dist image.entries

-- The fault of the image over the shelf. Each excludes the others, and that the image is consistent.
abbrev pub IsDueBy : (Table → List ℕ → Type 0) → List Image → Image → VerifyFault → Type 0
IsDueBy Asked shelf image WrongLevel = (image.level ≡ length shelf) × (image.level ≤ HIGHEST_LEVEL) → ⊥
IsDueBy Asked shelf image WrongSize = (image.level ≡ length shelf) × (image.level ≤ HIGHEST_LEVEL) × (length image.entries ≢ size_of image.level)
IsDueBy Asked shelf image (Refused rank rule) =
    IsShaped shelf image × (IsRefusal Asked (table_of (shelf ++ image ∷ [])) image.level 0 (size_of image.level) rank rule ⊎ IsWrongLimit Asked shelf image rank rule)
IsDueBy Asked shelf image Memory = ⊥

-- by the rules in force
abbrev pub IsDue : List Image → Image → VerifyFault → Type 0
IsDue shelf image fault = IsDueBy DistancesAreLeast shelf image fault

-- the fault for this first refusal, or where there is none for a wrong limit
abbrev pub IsFaultAfter : Image → Option Refusal → Option VerifyFault → Type 0
IsFaultAfter image None fault = MatchOption fault (image.limit ≡ greatest_dist image.entries) (λ f. (f ≡ Refused 0 V7) × (image.limit ≢ greatest_dist image.entries))
IsFaultAfter image (Some first) fault = fault ≡ Some (Refused first.rank first.rule)
