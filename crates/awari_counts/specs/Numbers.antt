-- A level in numbers, and the levels that are asked for. Private functions alone go by these: no public contract does.
use Rattle.std.specs.Prelude.{◌≡◌, ℕ, ◌<◌, min, List, Option, Some, None}
use Rattle.awari_answers.specs.Asked.{AreLevelsTo, IsUnloaded}
use Rattle.awari_answers.specs.LevelLines.{IsToldOf}
use Rattle.awari_answers.specs.declared.asked.NoAnswer.{NoAnswer}
use Rattle.awari_folder.specs.Contents.{AreNames, Stands}
use Rattle.awari_places.specs.Opening.{AreFramed, CountsOpened, IsUnopened}
use Rattle.awari_places.specs.declared.opening.Opened.{Opened}
use Rattle.awari_table.specs.Images.{greatest_dist}
use Rattle.awari_table.specs.declared.TheConstants.{HIGHEST_LEVEL}
use Rattle.awari_table.specs.declared.images.Image.{Image}
use Rattle.awari_facts.specs.Loads.{CountsLoaded, HasLevel, IsNoFolder, IsNoLevel}
use Rattle.awari_counts.specs.Tallies.{IsTallyOf}
use Rattle.awari_counts.specs.declared.counts.Numbers.{Numbers}

-- these are the level's numbers, and its limit is the greatest distance
pub record AreNumbersOf (image : Image) (numbers : Numbers) : Type 0 where
  pub told : IsToldOf image numbers.told
  pub tally : IsTallyOf image.limit image.entries numbers.tally
  pub greatest : image.limit ≡ greatest_dist image.entries

-- the levels that the folder stores, up to the one of this number if there is one
abbrev pub HasLevels : Option ℕ → Stands → List Image → Type 0
HasLevels None stands images = AreLevelsTo HIGHEST_LEVEL stands images
HasLevels (Some level) stands images = HasLevel level stands images

-- the files of them, by their headers
abbrev pub HasOpened : Option ℕ → Stands → Opened → Type 0
HasOpened None stands opened = (names : ℕ → Option (List ℕ)) → AreNames stands names → AreFramed HIGHEST_LEVEL names opened
HasOpened (Some level) stands opened = ((names : ℕ → Option (List ℕ)) → AreNames stands names → AreFramed (min level HIGHEST_LEVEL) names opened) × (level < opened.levels)

-- Why they are not loaded, or not opened: the first fault up to there, or the one of this number is not there.
abbrev pub IsNotLoaded : Type 0 → Option ℕ → Stands → NoAnswer → Type 0
IsNotLoaded lacked None stands fault = IsNoFolder (IsUnloaded lacked HIGHEST_LEVEL stands) fault
IsNotLoaded lacked (Some level) stands fault = IsNoLevel (IsUnloaded lacked (min level HIGHEST_LEVEL) stands) (CountsLoaded level stands) level fault

abbrev pub IsNotOpened : Option ℕ → Stands → NoAnswer → Type 0
IsNotOpened None stands fault = IsNoFolder (IsUnopened HIGHEST_LEVEL stands) fault
IsNotOpened (Some level) stands fault = IsNoLevel (IsUnopened (min level HIGHEST_LEVEL) stands) (CountsOpened level stands) level fault
