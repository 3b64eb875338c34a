use Rattle.std.proofs.Common.{◌≡◌, ◌^◌, ℕ, List, refl, subst₂, sym}
use Rattle.awari_segments.specs.Lists.{list_at}
use Rattle.awari_segments.specs.Segments.{FindsFor}
use Rattle.awari_segments.proofs.Tells.{tells_of}
use Rattle.awari_segments.proofs.turns.take_notes.Goals as goal

pub returns-clause-tells : goal.returns-clause-tells
returns-clause-tells c =
    let stake = c.args.turn.stake in
    let span = 2 ^ c.args.finder.log in
    let level : c.args.finder.index.now ≡ stake.level = sym c.requires.level.0 in
    let lost = subst₂ (λ (n : ℕ) (ranks : List ℕ). FindsFor n span ranks (list_at c.find_row.new.row.lost)) level c.as_slice-lost.ensures.value c.in_ok-find_row.ensures.lost in
    let won = subst₂ (λ (n : ℕ) (ranks : List ℕ). FindsFor n span ranks (list_at c.find_row.new.row.won)) level c.as_slice-won.ensures.value c.in_ok-find_row.ensures.won in
    tells_of stake span stake.level c.args.segments.now c.take_boards.new.segments c.take_boards.new.chunk.lost.items c.take_boards.new.chunk.won.items c.find_row.new.row c.ranks_tell_boards_apart.ensures
    (λ p q x is move. c.moves_keep_boards.ensures.stones p q x 0 is move) (λ p q x is move. c.moves_keep_boards.ensures.board p q x 0 is move) refl c.requires.opened c.in_ok-left.ensures.takes lost won
