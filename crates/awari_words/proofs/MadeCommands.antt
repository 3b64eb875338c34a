-- A command is made of its row word by word, and the program of the rows command by command.
use Rattle.std.proofs.Common.{◌≡◌, ◌+◌, ◌<◌, ◌∷◌, [], ℕ, List, get_or, length, map, refl, take}
use Rattle.std.proofs.lemmas.List.{map_more}
use Rattle.std.proofs.lemmas.List.Sums.{fold-append}
use Rattle.clap.specs.Walk.{Rule}
use Rattle.clap.specs.Simple.{App, Shape, with_rule, with_subcommand}
use Rattle.awari_words.specs.Commands.{command}
use Rattle.awari_words.specs.Making.{with_subcommands}

pub next_word : {W : Type 0} (rule : W → Rule) (name : List ℕ) (words : List W) (k : ℕ) (none : W) (old new : App) (made : Rule)
    → k < length words → old ≡ record { top = command name (map rule (take k words)); subs = [] } → made ≡ rule (get_or words k none) → new ≡ with_rule old made
    → new ≡ record { top = command name (map rule (take (k + 1) words)); subs = [] }
next_word rule name words k none old new made inside so_far is_next is = rw (is, is_next, so_far, map_more rule words k none inside) refl

pub next_row : {R : Type 0} (shape : R → Shape) (first : App) (rows : List R) (k : ℕ) (none : R) (old new : App) (made : Shape)
    → k < length rows → old ≡ with_subcommands first (map shape (take k rows)) → made ≡ shape (get_or rows k none) → new ≡ with_subcommand old made
    → new ≡ with_subcommands first (map shape (take (k + 1) rows))
next_row shape first rows k none old new made inside so_far is_next is =
    rw (is, is_next, so_far, map_more shape rows k none inside, fold-append with_subcommand first (map shape (take k rows)) (shape (get_or rows k none) ∷ [])) refl
