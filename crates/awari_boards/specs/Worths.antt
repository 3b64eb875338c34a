-- The command `moves`: what is printed of the legal moves of a board.
use Rattle.std.specs.Prelude.{ℕ, Bool, false, true, List, Option}
use Rattle.std.specs.Io.KnownBytes.{Appends}
use Rattle.awari_folder.specs.Contents.{Stands}
use Rattle.awari_shown.specs.Json.{weighed_json}
use Rattle.awari_play.specs.Worths.{IsWeighed}
use Rattle.awari_shown.specs.Moves.{weighed_text}
use Rattle.awari_play.specs.declared.weighing.Weighed.{Weighed}
use Rattle.awari_queries.specs.declared.questions.MovesQuery.{MovesQuery}
use Rattle.awari_boards.specs.Known.{IsKnown}

-- the moves of a board, as JSON with the board, or as lines
abbrev pub shown_worths : Bool → List ℕ → Weighed → List ℕ
shown_worths true board w = weighed_json board w
shown_worths false board w = weighed_text w

-- Where it is known what the writer holds, what was written are the moves of the board that is asked for, or the end.
abbrev pub PrintsWorths : MovesQuery → Stands → Option (List ℕ) → Option (List ℕ) → Type 0
PrintsWorths q stands before after = (board : List ℕ) × (w : Weighed) × IsKnown q.unverified stands q.board.now board (λ images. IsWeighed q.replies images board w)
    × Appends before after (shown_worths q.json board w)
