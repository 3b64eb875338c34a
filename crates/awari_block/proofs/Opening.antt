-- What the opening of a gain makes of the cells, one after another.
use Rattle.std.proofs.Common.{◌≡◌, ◌≢◌, ℕ, ◌+◌, ◌<◌, ◌≤◌, ◌⊎◌, inl, inr, List, length, get_or, set, refl, sym, ap, subst, ◌∙◌, arith, get_or-set_same, get_or-set_other}
use Rattle.std.proofs.lemmas.Bool.{cases_eq, cases_lt}
use Rattle.awari_block.specs.declared.cells.Cell.{Cell}
use Rattle.awari_block.specs.Cells.{view_of}
use Rattle.awari_block.specs.Steps.{cell_after_opening}
use Rattle.awari_block.specs.Blocks.{no_cell}
use Rattle.awari_block.specs.Boards.{OpensCells}
use Rattle.awari_block.specs.Part.{Part, SameLevel}

put_cases : (xs ys : List Cell) (i : ℕ) (next : Cell) → ys ≡ set xs i next → i < length xs → (k : ℕ)
    → ((k ≡ i) × (get_or ys k no_cell ≡ next)) ⊎ ((k ≢ i) × (get_or ys k no_cell ≡ get_or xs k no_cell))
put_cases xs ys i next put high k = elim (cases_eq k i) [
  | inl same ↦ inl (same, ap (λ (l : List Cell). get_or l k no_cell) put ∙ subst (λ z. get_or (set xs i next) z no_cell ≡ next) (sym same) (rw get_or-set_same refl))
  | inr other ↦ inr (other, ap (λ (l : List Cell). get_or l k no_cell) put ∙ rw get_or-set_other refl)
]

module _ (old new : Part) where
  -- cells that the opening leaves as they are
  pub opens_still : (low high : ℕ) → ((k : ℕ) → k < length old.cells → low ≤ k → k < high → cell_after_opening (view_of (get_or old.cells k no_cell)) old.level old.gain ≡ view_of (get_or old.cells k no_cell))
      → OpensCells old old low high
  opens_still low high still = record { inside = λ k h from to. sym (still k h from to); outside = λ k out. refl }

  -- one cell, which is put
  pub opens_one : (i : ℕ) (next : Cell) → new.cells ≡ set old.cells i next → i < length old.cells
      → view_of next ≡ cell_after_opening (view_of (get_or old.cells i no_cell)) old.level old.gain → OpensCells old new i (i + 1)
  opens_one i next put high opened = record {
    inside = λ k h from to. elim (put_cases old.cells new.cells i next put high k) [
      | inl at ↦ ap view_of at.1 ∙ opened ∙ ap (λ j. cell_after_opening (view_of (get_or old.cells j no_cell)) old.level old.gain) (sym at.0)
      | inr other ↦ (let o = other.0 in absurd (o (omega (arith, from, to))))
    ];
    outside = λ k out. elim (put_cases old.cells new.cells i next put high k) [
      | inl at ↦ (let a = at.0 in absurd (past k a out))
      | inr other ↦ other.1
    ];
  }
    where
      past : (k : ℕ) → k ≡ i → (k < i) ⊎ (i + 1 ≤ k) → ⊥
      past k a (inl less) = omega (arith, a, less)
      past k a (inr more) = omega (arith, a, more)

-- what is read of one cell, at the level and gain of the part
module _ (part : Part) (i n t : ℕ) (cell : Cell) (read : get_or part.cells i no_cell ≡ cell) (level : part.level ≡ n) (gain : part.gain ≡ t) where
  at_part : cell_after_opening (view_of cell) n t ≡ cell_after_opening (view_of (get_or part.cells i no_cell)) part.level part.gain
  at_part =
      ap (λ (d : Cell). cell_after_opening (view_of d) n t) (sym read) ∙ ap (λ m. cell_after_opening (view_of (get_or part.cells i no_cell)) m t) (sym level)
      ∙ ap (λ u. cell_after_opening (view_of (get_or part.cells i no_cell)) part.level u) (sym gain)

  pub put_one : (new : Part) (next : Cell) → new.cells ≡ set part.cells i next → i < length part.cells → view_of next ≡ cell_after_opening (view_of cell) n t → OpensCells part new i (i + 1)
  put_one new next put high opened = opens_one part new i next put high (opened ∙ at_part)

-- cells after cells
pub opens_both : (a b c : Part) (low mid high : ℕ) → low ≤ mid → mid ≤ high → SameLevel a b → length b.cells ≡ length a.cells → OpensCells a b low mid → OpensCells b c mid high → OpensCells a c low high
opens_both a b c low mid high first last same size one two = record {
  inside = λ k h from to. elim (cases_lt k mid) [
    | inl less ↦ ap view_of (two.outside k (inl less)) ∙ one.inside k h from less
    | inr more ↦
        two.inside k (omega (arith, h, size)) more to ∙ ap (λ (d : Cell). cell_after_opening (view_of d) b.level b.gain) (one.outside k (inr more))
        ∙ ap (λ n. cell_after_opening (view_of (get_or a.cells k no_cell)) n b.gain) same.level ∙ ap (λ t. cell_after_opening (view_of (get_or a.cells k no_cell)) a.level t) same.gain
  ];
  outside = λ k out. two.outside k (later k out) ∙ one.outside k (earlier k out);
}
  where
    later : (k : ℕ) → (k < low) ⊎ (high ≤ k) → (k < mid) ⊎ (high ≤ k)
    later k (inl less) = inl (omega (arith, less, first))
    later k (inr more) = inr more

    earlier : (k : ℕ) → (k < low) ⊎ (high ≤ k) → (k < low) ⊎ (mid ≤ k)
    earlier k (inl less) = inl less
    earlier k (inr more) = inr (omega (arith, more, last))
