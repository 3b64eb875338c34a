-- What a move is worth by the files of levels.
use Rattle.std.proofs.Common.{◌≡◌, ◌≢◌, ◌<◌, ℕ, List, [], ap, pos, ◌-ℤ◌, refl, subst, sum, sym, ◌∙◌}
use Rattle.std.specs.Prelude.{slice_index_or}
use Rattle.awari_board.specs.Rules.{IsMove}
use Rattle.awari_play.specs.MoveWorth.{IsWorthOf}
use Rattle.awari_play.specs.declared.worths.MoveWorth.{MoveWorth}
use Rattle.awari_table.specs.Certificate.{plies}
use Rattle.awari_table.specs.Images.{entry_of, no_image, table_of}
use Rattle.awari_table.specs.declared.images.Entry.{Entry}
use Rattle.awari_table.specs.declared.images.Image.{Image}
use Rattle.awari_exports.specs.Files.{AreFilesOf, TellsEntry, entry_in}
use Rattle.awari_exports.specs.Told.{told_entry}
use Rattle.awari_exports.specs.declared.answers.PlainEntry.{PlainEntry}

-- what all levels say of a board is what the image of its stones says
of_image : (levels : List Image) (board : List ℕ) → entry_of levels board ≡ entry_in (slice_index_or levels (sum board) no_image) board
unfolding entry_of
of_image levels board = refl

-- what the file of a board's level tells is what the levels say
pub told_by_levels : (count : ℕ) (files : List (List ℕ)) (levels : List Image) (board bytes : List ℕ) (told : PlainEntry) → AreFilesOf count files levels → sum board < count
    → bytes ≡ slice_index_or files (sum board) [] → TellsEntry bytes board told → told ≡ told_entry (entry_of levels board)
told_by_levels count files levels board bytes told are there at tells =
    let file = are (sum board) there in
    tells file.version (slice_index_or levels (sum board) no_image) file.below file.has file.own (at ∙ file.text) ∙ ap (λ (e : Entry). told_entry e) (sym (of_image levels board))

pub worth_is : (levels : List Image) (board next : List ℕ) (pit captured : ℕ) (told : PlainEntry) (w : MoveWorth) → IsMove board pit captured next → told ≡ told_entry (entry_of levels next)
    → w.pit ≡ pit → w.captured ≡ captured → w.value ≡ pos captured -ℤ told.value → (w.value ≡ pos 0 → w.plies ≡ 0) → (w.value ≢ pos 0 → w.plies ≡ plies captured told.distance)
    → IsWorthOf (table_of levels) board pit w
worth_is levels board next pit captured told w move is same_pit same gain even uneven = record {
  pit = same_pit;
  worth = record {
    next = next;
    move = subst (λ (c : ℕ). IsMove board w.pit c next) (sym same) (subst (λ (x : ℕ). IsMove board x captured next) (sym same_pit) move);
    gain = gain ∙ ap (λ (e : PlainEntry). pos captured -ℤ e.value) is ∙ ap (λ (c : ℕ). pos c -ℤ (entry_of levels next).value) (sym same);
    even = even;
    uneven = λ some. uneven some ∙ ap (λ (e : PlainEntry). plies captured e.distance) is ∙ ap (λ (c : ℕ). plies c (entry_of levels next).dist) (sym same);
  };
}
