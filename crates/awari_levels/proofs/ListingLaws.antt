-- Lines of boards, some written and some kept; and boards that are held.
use Rattle.std.proofs.Common.{◌≡◌, ℕ, true, false, cond, length, List, [], ◌∷◌, ◌++◌, Option, ℤ, sym, ◌∙◌, ap, subst, append_assoc, append-nil}
use Rattle.std.proofs.KnownBytes.{Appends-nil, Appends-trans}
use Rattle.std.proofs.lemmas.Grind.{flat_map-append}
use Rattle.std.specs.Fmt.{decimal}
use Rattle.std.specs.Io.KnownBytes.{Appends}
use Rattle.awari_table.specs.declared.images.Entry.{Entry}
use Rattle.awari_table.specs.declared.images.Image.{Image}
use Rattle.awari_levels.proofs.ChoiceLaws.{all, all_wanted}
use Rattle.awari_levels.specs.Batches.{Passes}
use Rattle.awari_levels.specs.Boards.{AppendsWanted, level_lines, wanted_text}
use Rattle.awari_levels.specs.declared.batches.LineNumbers.{LineNumbers}
use Rattle.awari_levels.specs.Listing.{AppendsLines, board_line, board_lines, header_of, header_text, line_of, numbers_of, wanted_boards}
use Rattle.awari_levels.specs.declared.wanted.Wanted.{Wanted}

-- the lines of boards so far
abbrev pub Lists : Wanted → List Image → List (List ℕ) → Option (List ℕ) → Option (List ℕ) → List ℕ → Type 0
Lists wanted images boards before now kept = Passes before now [] kept (header_of wanted ++ board_lines wanted images boards)

pub lists-none : (wanted : Wanted) (images : List Image) (before : Option (List ℕ)) (kept : List ℕ) → kept ≡ header_of wanted → Lists wanted images [] before before kept
lists-none wanted images before kept is = ([], Appends-nil before, is ∙ sym (append-nil (header_of wanted)))

pub lists-more : (wanted : Wanted) (images : List Image) (boards : List (List ℕ)) (board : List ℕ) (n : LineNumbers) (before now after : Option (List ℕ)) (kept keeps : List ℕ)
    → Lists wanted images boards before now kept → n ≡ numbers_of wanted images board → Passes now after kept keeps (line_of wanted.form board n) → Lists wanted images (boards ++ board ∷ []) before after keeps
lists-more wanted images boards board n before now after kept keeps so_far at line = (
  so_far.0 ++ line.0,
  Appends-trans before now after so_far.0 line.0 so_far.1 line.1,
  append_assoc so_far.0 line.0 keeps ∙ ap (λ t. so_far.0 ++ t) line.2 ∙ sym (append_assoc so_far.0 kept (line_of wanted.form board n)) ∙ ap (λ t. t ++ line_of wanted.form board n) so_far.2
      ∙ append_assoc (header_of wanted) (board_lines wanted images boards) (line_of wanted.form board n)
      ∙ ap (λ t. header_of wanted ++ t) (ap (λ m. board_lines wanted images boards ++ line_of wanted.form board m) at
      ∙ ap (λ t. board_lines wanted images boards ++ t) (sym (append-nil (board_line wanted images board)))
      ∙ sym (flat_map-append (board_line wanted images) boards (board ∷ []))),
)

-- what was kept is written
pub lists-all : (wanted : Wanted) (images : List Image) (boards whole : List (List ℕ)) (before now after : Option (List ℕ)) (kept : List ℕ) → Lists wanted images boards before now kept
    → boards ≡ whole → Appends now after kept → AppendsLines wanted images whole before after
lists-all wanted images boards whole before now after kept lines is rest =
    subst (λ bs. AppendsLines wanted images bs before after) is (subst (Appends before after) lines.2 (Appends-trans before now after lines.0 kept lines.1 rest))

-- the lines of all boards of a level
pub all_listed : (images : List Image) (level : ℕ) (before after : Option (List ℕ)) → AppendsLines all images (wanted_boards all images level) before after → Appends before after (level_lines images level)
unfolding header_text level_lines
all_listed images level before after listed = subst (λ boards. Appends before after (board_lines all images boards)) (all_wanted images level) listed

-- ---- what is wanted

-- what is written of all boards of a level
pub all_wanted-lines : (images : List Image) (level : ℕ) (before after : Option (List ℕ)) → AppendsWanted images level all before after → Appends before after (level_lines images level)
unfolding wanted_text
all_wanted-lines images level before after written = all_listed images level before after written

pub wanted-lines : (images : List Image) (level : ℕ) (wanted : Wanted) (before after : Option (List ℕ)) → wanted.count ≡ false → AppendsLines wanted images (wanted_boards wanted images level) before after
    → AppendsWanted images level wanted before after
unfolding wanted_text
wanted-lines images level wanted before after none lines =
    subst (Appends before after)
    (sym (ap (λ b. cond b (decimal (length (wanted_boards wanted images level)) ++ 10 ∷ []) (header_of wanted ++ board_lines wanted images (wanted_boards wanted images level))) none)) lines

pub wanted-count : (images : List Image) (level : ℕ) (wanted : Wanted) (count : ℕ) (before after : Option (List ℕ)) → wanted.count ≡ true → count ≡ length (wanted_boards wanted images level)
    → Appends before after (decimal count ++ 10 ∷ []) → AppendsWanted images level wanted before after
unfolding wanted_text
wanted-count images level wanted count before after asked is line =
    subst (Appends before after)
    (ap (λ n. decimal n ++ 10 ∷ []) is
    ∙ sym (ap (λ b. cond b (decimal (length (wanted_boards wanted images level)) ++ 10 ∷ []) (header_of wanted ++ board_lines wanted images (wanted_boards wanted images level))) asked)) line

-- ---- the numbers of a line

abbrev pub the_numbers : Entry → Option ℤ → Option ℤ → Option ℤ → Option ℤ → Option ℤ → Option ℤ → LineNumbers
the_numbers e moves keep greedy trap other waits = record { entry = e; moves = moves; keep = keep; greedy = greedy; trap = trap; other = other; waits = waits }

pub numbers_are : {e e2 : Entry} {m m2 k k2 g g2 t t2 o o2 w w2 : Option ℤ} → e ≡ e2 → m ≡ m2 → k ≡ k2 → g ≡ g2 → t ≡ t2 → o ≡ o2 → w ≡ w2
    → the_numbers e m k g t o w ≡ the_numbers e2 m2 k2 g2 t2 o2 w2
numbers_are one two three four five six seven = cc

-- the same lines by other names of the level and of what is wanted
pub asked-lines : (images : List Image) (level other : ℕ) (wanted given : Wanted) (before after : Option (List ℕ)) → level ≡ other → wanted ≡ given → AppendsWanted images level wanted before after
    → AppendsWanted images other given before after
asked-lines images level other wanted given before after same is lines =
    subst (λ n. AppendsWanted images n given before after) same (subst (λ (w : Wanted). AppendsWanted images level w before after) is lines)
