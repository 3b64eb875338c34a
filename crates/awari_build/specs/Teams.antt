-- What a team is once it has built a level.
use Rattle.std.specs.Prelude.{◌≡◌, ℕ, ◌-◌, ◌<◌, ◌≤◌, ◌⊎◌, true}
use Rattle.awari_build.specs.declared.teams.Team.{Team}
use Rattle.awari_build.specs.declared.teams.TheConstants.{LEAST_LEVEL, LEVELS_OF_REST}

-- it has one level less to rest, if it rests
abbrev pub rested : Team → Team
rested team = record team { rest = team.rest - 1 }

-- it gave up, and rests
abbrev pub given_up : Team → Team
given_up team = record team { rest = LEVELS_OF_REST; gave_up = true }

-- The team built the level of this many stones. One of them builds a low level, or any level if they rest. Only several give up.
pub record HasBuilt (level : ℕ) (old new : Team) : Type 0 where
  pub low : level < LEAST_LEVEL → new ≡ old
  pub rests : LEAST_LEVEL ≤ level → 0 < old.rest → new ≡ rested old
  pub works : LEAST_LEVEL ≤ level → old.rest ≡ 0 → (new ≡ old) ⊎ ((new ≡ given_up old) × (2 ≤ old.threads))
  pub threads : new.threads ≡ old.threads
