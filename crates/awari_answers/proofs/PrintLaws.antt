-- Lines that are put together before they are written.
use Rattle.std.proofs.Common.{◌≡◌, List, [], ◌∷◌, ◌++◌, ℕ, Option, Some, None, ap, append_assoc, drop, length, subst, sym, take, take-append-drop, ◌-◌, ◌∙◌}
use Rattle.std.specs.Prelude.{IfSome}
use Rattle.std.specs.Io.KnownBytes.{Appends}
use Rattle.std.proofs.KnownBytes.{Appends-trans}
use Rattle.std.proofs.lemmas.List.{take_rest}
use Rattle.core.specs.Fmt.{WritesText, with_newline}
use Rattle.core.proofs.fmt.Output.{contents_after_writes}

-- what holds of what was put together, and then written
pub put_together : {W : Type 0} (P : List ℕ → Type 0) (bytes : W → List ℕ) (none made : W) (text : Option (List ℕ)) (written : List ℕ) → bytes none ≡ [] → written ≡ bytes made
    → WritesText (λ s xs t. bytes t ≡ bytes s ++ xs) none (with_newline text) made → P written → IfSome text (λ lines. P (lines ++ 10 ∷ []))
put_together P bytes none made None written is same wrote holds = tt
put_together P bytes none made (Some lines) written is same wrote holds =
    let whole : bytes made ≡ bytes none ++ (lines ++ 10 ∷ []) = contents_after_writes (λ s xs t. bytes t ≡ bytes s ++ xs) bytes (λ s xs t took. took) none (lines ++ 10 ∷ []) made wrote in
    subst P (same ∙ whole ∙ ap (λ front. front ++ (lines ++ 10 ∷ [])) is) holds

-- a piece more came
pub piece_more : (all done rest : List ℕ) (n : ℕ) (old mid new : Option (List ℕ)) → all ≡ done ++ rest → Appends old mid done → Appends mid new (take n rest)
    → (come : List ℕ) × (all ≡ come ++ take (length rest - n) (drop n rest)) × Appends old new come
piece_more all done rest n old mid new split first more = (
  done ++ take n rest,
  split ∙ ap (λ l. done ++ l) (sym (take-append-drop n rest)) ∙ sym (append_assoc done (take n rest) (drop n rest)) ∙ ap (λ l. (done ++ take n rest) ++ l) (sym (take_rest rest n)),
  Appends-trans old mid new done (take n rest) first more,
)
