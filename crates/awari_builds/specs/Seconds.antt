-- A time in seconds, as progress tells it.
use Rattle.std.specs.Prelude.{ℕ, ◌/◌, ◌%◌, List, ◌++◌, codes, decimal}
use Rattle.core.specs.Duration.{as_nanos}
use Rattle.core.specs.declared.time.Duration.{Duration}

-- the whole seconds, and the tenths behind a point: a hundred milliseconds are one
abbrev pub seconds_text : Duration → List ℕ
seconds_text time = decimal (as_nanos time / 1_000_000_000) ++ codes "." ++ decimal (as_nanos time % 1_000_000_000 / 1_000_000 / 100)
