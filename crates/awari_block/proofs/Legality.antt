-- What the tests of the rules decide.
use Rattle.std.proofs.Common.{◌≡◌, ℕ, true, ◌&&◌, List, ◌==◌, eqb-true, refl, sym, ◌∙◌}
use Rattle.std.proofs.lemmas.Bool.{and_parts}
use Rattle.awari_board.specs.Rules.{IsMove, captured, next_board}
use Rattle.awari_board.specs.Tests.{is_legal}
use Rattle.awari_board.proofs.Legal.{legal_is}

-- a quiet move is counted where no Won note of it is heard
pub quiet_counted : (p : List ℕ) (x c : ℕ) (q : List ℕ) → IsMove p x c q → c ≡ 0 → (is_legal p x && (captured p x == 0)) ≡ true
quiet_counted p x c q move none =
    let legal = (legal_is p x).1 move.legal in
    let zero : captured p x ≡ 0 = sym move.captures ∙ none in
    rw (legal, zero) refl

pub counted_quiet : (p : List ℕ) (x : ℕ) → (is_legal p x && (captured p x == 0)) ≡ true → IsMove p x 0 (next_board p x)
counted_quiet p x e =
    let parts = and_parts (is_legal p x) (captured p x == 0) e in
    record { legal = (legal_is p x).0 parts.0; captures = sym (eqb-true (captured p x) 0 parts.1); leaves = refl }
