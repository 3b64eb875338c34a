-- A play judged word by word, and a word move by move.
use Rattle.std.proofs.Common.{◌≡◌, ℕ, ◌+◌, ◌<◌, List, [], ◌∷◌, ◌++◌, length, get_or, take, drop, ℤ, Some, ◌↔◌, sym, ap, ◌∙◌, subst, arith}
use Rattle.std.proofs.lemmas.List.{append_assoc, drop_more, flat_map_more, length-append, length-map, length-take-le, map-append, map_more, take_all, take_more, take-append-drop}
use Rattle.std.proofs.lemmas.List.Concat.{flat_map-append}
use Rattle.std.specs.Borrow.{Bor}
use Rattle.awari_board.specs.MoveFault.{IsDue}
use Rattle.awari_board.specs.Rules.{IsBoard}
use Rattle.awari_board.specs.declared.moves.MoveFault.{MoveFault}
use Rattle.awari_game.specs.Plays.{Standing, IsOutcome, IsPlay, start}
use Rattle.awari_game.specs.Shown.{Shows, IsShown}
use Rattle.awari_boards.specs.Judgement.{bytes_of, pit_named, pits_named, IsRefusedAt, IsJudged}
use Rattle.awari_boards.specs.declared.judgements.Judgement.{Judgement}

-- one more move of a word is played
pub word-more : (game next : Standing) (board pits word : List ℕ) (i pit : ℕ) → Shows game board (pits ++ pits_named (take i word)) → i < length word
    → pit ≡ pit_named (get_or word i 0) → ((b p : List ℕ) → Shows game b p → Shows next b (p ++ pit ∷ []))
    → Shows next board (pits ++ pits_named (take (i + 1) word))
word-more game next board pits word i pit before inside is step =
    let named : pits ++ pits_named (take (i + 1) word) ≡ (pits ++ pits_named (take i word)) ++ pit ∷ [] =
    ap (λ p. pits ++ p) (map_more pit_named word i 0 inside ∙ ap (λ x. pits_named (take i word) ++ x ∷ []) (sym is))
    ∙ sym (append_assoc pits (pits_named (take i word)) (pit ∷ [])) in
    subst (Shows next board) (sym named) (step board _ before)

-- the next move of a word is refused
pub word-refused : (game : Standing) (board pits word : List ℕ) (i pit : ℕ) (fault : MoveFault) → Shows game board (pits ++ pits_named (take i word)) → i < length word
    → pit ≡ pit_named (get_or word i 0) → IsDue game.board pit fault → IsRefusedAt board (pits ++ pits_named word) (length pits + (i + 1)) fault
word-refused game board pits word i pit fault before inside is due = record {
  before = pits ++ pits_named (take i word);
  pit = pit;
  rest = pits_named (drop (i + 1) word);
  parts =
      ap (λ bytes. pits ++ pits_named bytes) (sym (take-append-drop i word))
      ∙ ap (λ p. pits ++ p) (map-append pit_named (take i word) (drop i word))
      ∙ ap (λ bytes. pits ++ (pits_named (take i word) ++ pits_named bytes)) (drop_more word i 0 inside)
      ∙ ap (λ x. pits ++ (pits_named (take i word) ++ x ∷ pits_named (drop (i + 1) word))) (sym is)
      ∙ sym (append_assoc pits (pits_named (take i word)) (pit ∷ pits_named (drop (i + 1) word)));
  place = omega (arith, length-append pits (pits_named (take i word)), length-map (take i word) pit_named, length-take-le i word (omega arith));
  standing = before.standing;
  play = before.play;
  due = subst (λ b. IsDue b pit fault) before.shown.board due;
}

-- the bytes of some words, and of the next
pub bytes-more : (words : List (Bor (List ℕ))) (i : ℕ) (d : Bor (List ℕ)) → i < length words
    → bytes_of (take (i + 1) words) ≡ bytes_of (take i words) ++ (get_or words i d).now
bytes-more words i d inside = ap bytes_of (take_more words i d inside) ∙ sym (flat_map_more (λ word. word.now) [] (take i words) (get_or words i d))

-- as many moves as these have bytes, and those of the next word
pub words-counted : (words : List (Bor (List ℕ))) (i : ℕ) (d : Bor (List ℕ)) (played : ℕ) → i < length words → played ≡ length (bytes_of (take i words))
    → played + length (get_or words i d).now ≡ length (bytes_of (take (i + 1) words))
words-counted words i d played inside counted =
    omega (arith, counted, ap length (bytes-more words i d inside), length-append (bytes_of (take i words)) (get_or words i d).now)

-- one more word is played
pub words-more : (game next : Standing) (board : List ℕ) (words : List (Bor (List ℕ))) (i : ℕ) (d : Bor (List ℕ)) (word : List ℕ)
    → Shows game board (pits_named (bytes_of (take i words))) → i < length words → word ≡ (get_or words i d).now
    → ((b p : List ℕ) → Shows game b p → Shows next b (p ++ pits_named word))
    → Shows next board (pits_named (bytes_of (take (i + 1) words)))
words-more game next board words i d word before inside is step =
    let named : pits_named (bytes_of (take (i + 1) words)) ≡ pits_named (bytes_of (take i words)) ++ pits_named word =
    ap pits_named (bytes-more words i d inside ∙ ap (λ w. bytes_of (take i words) ++ w) (sym is)) ∙ map-append pit_named (bytes_of (take i words)) word in
    subst (Shows next board) (sym named) (step board _ before)

-- a move that is refused is so whatever comes behind it
pub refused-on : (board pits more : List ℕ) (number : ℕ) (fault : MoveFault) → IsRefusedAt board pits number fault → IsRefusedAt board (pits ++ more) number fault
refused-on board pits more number fault refused = record {
  before = refused.before;
  pit = refused.pit;
  rest = refused.rest ++ more;
  parts = ap (λ p. p ++ more) refused.parts ∙ append_assoc refused.before (refused.pit ∷ refused.rest) more;
  place = refused.place;
  standing = refused.standing;
  play = refused.play;
  due = refused.due;
}

-- a move of the next word is refused
pub words-refused : (game : Standing) (board : List ℕ) (words : List (Bor (List ℕ))) (i : ℕ) (d : Bor (List ℕ)) (word : List ℕ) (number played : ℕ) (fault : MoveFault)
    → Shows game board (pits_named (bytes_of (take i words))) → i < length words → word ≡ (get_or words i d).now → played ≡ length (bytes_of (take i words))
    → ((b p : List ℕ) → Shows game b p → IsRefusedAt b (p ++ pits_named word) (length p + number) fault)
    → IsRefusedAt board (pits_named (bytes_of words)) (played + number) fault
words-refused game board words i d word number played fault before inside is counted step =
    let bytes = bytes_of (take i words) in
    let rest = bytes_of (drop (i + 1) words) in
    let parts : bytes ++ (word ++ rest) ≡ bytes_of words =
    ap (λ w. bytes ++ (w ++ rest)) is
    ∙ ap (λ ws. bytes ++ bytes_of ws) (sym (drop_more words i d inside))
    ∙ sym (flat_map-append (λ w. w.now) (take i words) (drop i words))
    ∙ ap bytes_of (take-append-drop i words) in
    let all : (pits_named bytes ++ pits_named word) ++ pits_named rest ≡ pits_named (bytes_of words) =
    append_assoc (pits_named bytes) (pits_named word) (pits_named rest)
    ∙ ap (λ p. pits_named bytes ++ p) (sym (map-append pit_named word rest))
    ∙ sym (map-append pit_named bytes (word ++ rest))
    ∙ ap pits_named parts in
    let place : length (pits_named bytes) + number ≡ played + number = omega (arith, length-map bytes pit_named, counted) in
    subst (λ p. IsRefusedAt board p (played + number) fault) all
    (refused-on board _ _ _ fault (subst (λ n. IsRefusedAt board (pits_named bytes ++ pits_named word) n fault) place (step board _ before)))

-- all words are played
pub judging-end : (game : Standing) (board : List ℕ) (words : List (Bor (List ℕ))) (i limit : ℕ) (judgement : Judgement) → IsBoard board
    → Shows game board (pits_named (bytes_of (take i words))) → i ≡ length words
    → judgement.board ≡ game.board → judgement.running ≡ game.running → judgement.quiet ≡ game.quiet
    → ((s : Standing) (x : ℤ) → IsShown game s → (judgement.outcome ≡ Some x) ↔ IsOutcome limit s x) → IsJudged board limit (pits_named (bytes_of words)) judgement
judging-end game board words i limit judgement whole before all is_board is_running is_quiet outcome = record {
  whole = whole;
  standing = before.standing;
  play = subst (λ pits. IsPlay (start board) pits before.standing) (ap (λ w. pits_named (bytes_of w)) (take_all i words (omega arith))) before.play;
  reached = is_board ∙ before.shown.board;
  running = is_running ∙ before.shown.running;
  quiet = is_quiet ∙ before.shown.quiet;
  outcome = λ x. outcome before.standing x before.shown;
}
