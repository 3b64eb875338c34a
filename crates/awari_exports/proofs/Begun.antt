-- A file that was read.
use Rattle.std.proofs.Common.{ℕ, List, Option, Some, None}
use Rattle.std.specs.Prelude.{IsSomeAnd}
use Rattle.awari_file.specs.Source.{BeginsRight}
use Rattle.awari_folder.specs.Candidates.{CandidateView, IsReadFrom, IsUntouched}
use Rattle.awari_folder.proofs.Placing.{begins_read}

-- its bytes begin as a file does
pub begins_in : (read : Option CandidateView) (bytes : List ℕ) → IsSomeAnd read (λ c. IsReadFrom c bytes × IsUntouched c) → BeginsRight bytes
begins_in None bytes is = absurd is
begins_in (Some c) bytes is = begins_read c.file bytes is.0.0 is.0.1
