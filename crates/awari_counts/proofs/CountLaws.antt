-- The lines of values, of distances and of levels.
use Rattle.std.proofs.Common.{◌≡◌, ℕ, ◌+◌, ◌<◌, Bool, count_by, List, [], ◌∷◌, ◌++◌, length, get_or, slice_get, take, Option, refl, sym, ◌∙◌, ap, subst, append_assoc, arith}
use Rattle.std.proofs.KnownBytes.{Appends-trans}
use Rattle.std.proofs.lemmas.Grind.{flat_map-append}
use Rattle.std.proofs.lemmas.List.{append-nil}
use Rattle.std.specs.Io.KnownBytes.{Appends}
use Rattle.awari_table.specs.declared.images.Entry.{Entry}
use Rattle.awari_table.specs.declared.images.Image.{Image}
use Rattle.awari_answers.specs.LevelLines.{IsToldOf}
use Rattle.awari_answers.specs.declared.telling.LevelLine.{LevelLine}
use Rattle.std.specs.Prelude.{IsSomeAnd}
use Rattle.awari_table.proofs.ShelfLemmas.{take-read}
use Rattle.awari_facts.proofs.SourceLaws.{image_of}
use Rattle.awari_counts.specs.Numbers.{AreNumbersOf}
use Rattle.awari_counts.specs.declared.counts.Numbers.{Numbers}
use Rattle.awari_queries.specs.declared.columns.Column.{Column}
use Rattle.awari_queries.specs.declared.columns.Column.TheVariants.{Value, Distance}
use Rattle.awari_members.specs.declared.forms.Form.{Form}
use Rattle.awari_counts.specs.Counts.{boards_of_distance, boards_of_value, count_lines, distance_lines, lines_of_levels, names_of_levels, shown_level, shown_levels, shown_told, told_of, top_of, value_lines}
use Rattle.awari_counts.specs.Ranges.{number_at}
use Rattle.awari_counts.specs.Rows.{head_of, row_lines}
use Rattle.awari_counts.specs.Tallies.{AreCounted}

-- the row of a column's numbers
pub row-counted : (form : Form) (column : Column) (test : ℕ → Entry → Bool) (n : ℕ) (entries : List Entry) (counts : List ℕ) (before after : Option (List ℕ)) → AreCounted test n entries counts
    → ((boards : ℕ → ℕ) → ((k : ℕ) → k < length counts → get_or counts k 0 ≡ boards k) → Appends before after (row_lines form (head_of form column) column boards (length counts)))
    → Appends before after (row_lines form (head_of form column) column (λ k. count_by (test k) entries) n)
row-counted form column test n entries counts before after are lines =
    subst (λ m. Appends before after (row_lines form (head_of form column) column (λ k. count_by (test k) entries) m)) are.long
    (lines (λ k. count_by (test k) entries) (λ k inside. are.each k (omega (arith, inside, are.long))))

-- what stands above a level's values and distances, and their lines
pub counted-all : (form : Form) (image : Image) (told : LevelLine) (before first second after : Option (List ℕ)) → told ≡ told_of image → Appends before first (top_of form told)
    → Appends first second (row_lines form (head_of form Value) Value (λ k. boards_of_value image.entries (number_at Value k)) 256)
    → Appends second after (row_lines form (head_of form Distance) Distance (boards_of_distance image.entries) (image.limit + 1)) → Appends before after (count_lines form image)
unfolding count_lines value_lines distance_lines
counted-all form image told before first second after is top values distances =
    Appends-trans before first after _ _ (subst (λ t. Appends before first (top_of form t)) is top) (Appends-trans first second after _ _ values distances)

-- what is told of a level
pub told_is : (image : Image) (told : LevelLine) → IsToldOf image told → told ≡ told_of image
told_is image told is = rw (is.level, is.boards, is.won, is.even, is.lost, is.limit) refl

-- one level more
levels-push : (form : Form) (images : List Image) (image : Image) (told : LevelLine) → IsToldOf image told
    → lines_of_levels form (images ++ image ∷ []) ≡ lines_of_levels form images ++ (shown_told form told ++ 10 ∷ [])
unfolding shown_level
levels-push form images image told tells =
    flat_map-append (λ image. shown_level form image ++ 10 ∷ []) images (image ∷ [])
    ∙ ap (λ t. lines_of_levels form images ++ t) (append-nil (shown_level form image ++ 10 ∷ []) ∙ ap (λ t. shown_told form t ++ 10 ∷ []) (sym (told_is image told tells)))

-- the line of the next level
pub level-line : (form : Form) (images : List Image) (number : ℕ) (numbers : Numbers) (before now after : Option (List ℕ)) → IsSomeAnd (slice_get images number) (λ image. AreNumbersOf image numbers)
    → Appends before now (shown_levels form (take number images)) → Appends now after (shown_told form numbers.told ++ 10 ∷ []) → Appends before after (shown_levels form (take (number + 1) images))
level-line form images number numbers before now after there so_far line =
    let (image, found, are) = image_of (slice_get images number) (λ image. AreNumbersOf image numbers) there in
    let lines = ap (λ xs. names_of_levels form ++ lines_of_levels form xs) (take-read images number image found) ∙ ap (λ t. names_of_levels form ++ t) (levels-push form (take number images) image numbers.told are.told)
    ∙ sym (append_assoc (names_of_levels form) (lines_of_levels form (take number images)) (shown_told form numbers.told ++ 10 ∷ [])) in
    subst (Appends before after) (sym lines) (Appends-trans before now after _ _ so_far line)

-- the lines of no level
pub level-none : (form : Form) (images : List Image) (before after : Option (List ℕ)) → Appends before after (names_of_levels form) → Appends before after (shown_levels form (take 0 images))
level-none form images before after names = subst (Appends before after) (sym (append-nil (names_of_levels form))) names
