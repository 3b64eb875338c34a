-- A move as a whole.
use Rattle.std.proofs.Common.{◌≡◌, ℕ, true, List, sym, [], ◌∷◌, length, get_or, refl, ap, ◌∙◌, arith}
use Rattle.awari_board.specs.Rules.{IsLegal, IsMove, sown, last_pit, captured, captured_stones, captured_pits, emptied, next_board, turned}
use Rattle.awari_board.specs.Tests.{is_legal}
use Rattle.awari_board.proofs.Legal.{legal_is}

-- a sowing, a capture and a turn make a move
pub IsMove-from_steps : (board : List ℕ) (x : ℕ) (strewn : List ℕ) (last c : ℕ) (left next : List ℕ) → IsLegal board x → strewn ≡ sown board x → last ≡ last_pit board x → c ≡ captured_stones strewn last → left ≡ emptied strewn last (captured_pits strewn last) → next ≡ turned left → IsMove board x c next
IsMove-from_steps board x strewn last c left next legal sowed landed taken emptied_is turn = record {
  legal = legal;
  captures = taken ∙ ap (λ b. captured_stones b last) sowed ∙ ap (captured_stones (sown board x)) landed;
  leaves = turn ∙ ap turned (emptied_is ∙ ap (λ b. emptied b last (captured_pits b last)) sowed ∙ ap (λ l. emptied (sown board x) l (captured_pits (sown board x) l)) landed);
}

-- the other player's pits come first
pub turned-items : (pits : List ℕ) → length pits ≡ 12 → get_or pits 6 0 ∷ get_or pits 7 0 ∷ get_or pits 8 0 ∷ get_or pits 9 0 ∷ get_or pits 10 0 ∷ get_or pits 11 0 ∷ get_or pits 0 0 ∷ get_or pits 1 0 ∷ get_or pits 2 0 ∷ get_or pits 3 0 ∷ get_or pits 4 0 ∷ get_or pits 5 0 ∷ [] ≡ turned pits
turned-items (a ∷ b ∷ c ∷ d ∷ e ∷ f ∷ u ∷ v ∷ w ∷ x ∷ y ∷ z ∷ []) long = refl
turned-items _ long = absurd (omega arith)

-- a move, where its parts are computed
pub IsMove-from_tests : (board : List ℕ) (x c : ℕ) (next : List ℕ) → is_legal board x ≡ true → captured board x ≡ c → next_board board x ≡ next → IsMove board x c next
IsMove-from_tests board x c next legal takes leaves = record {
  legal = (legal_is board x).0 legal;
  captures = sym takes;
  leaves = sym leaves;
}
