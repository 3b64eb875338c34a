-- The command `ask`: what is printed of a board.
use Rattle.std.specs.Prelude.{◌≡◌, ℕ, Bool, false, true, List, Option}
use Rattle.std.specs.Io.KnownBytes.{Appends}
use Rattle.awari_folder.specs.Contents.{Stands}
use Rattle.awari_shown.specs.Json.{entry_json}
use Rattle.awari_queries.specs.declared.questions.AskQuery.{AskQuery}
use Rattle.awari_table.specs.Images.{entry_of}
use Rattle.awari_table.specs.Spelling.{entry_line}
use Rattle.awari_table.specs.declared.images.Entry.{Entry}
use Rattle.awari_boards.specs.Known.{IsKnown}

-- the entry of a board, as JSON with the board, or as a line
abbrev pub shown_entry : Bool → List ℕ → Entry → List ℕ
shown_entry true board e = entry_json board e
shown_entry false board e = entry_line e

-- Where it is known what the writer holds, what was written is the entry of the board that is asked for.
abbrev pub PrintsEntry : AskQuery → Stands → Option (List ℕ) → Option (List ℕ) → Type 0
PrintsEntry q stands before after = (board : List ℕ) × (e : Entry) × IsKnown q.unverified stands q.board.now board (λ images. e ≡ entry_of images board)
    × Appends before after (shown_entry q.json board e)
