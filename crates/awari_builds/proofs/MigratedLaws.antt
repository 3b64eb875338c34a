-- The lines of levels that were brought over.
use Rattle.std.proofs.Common.{◌≡◌, ℕ, suc, ◌+◌, ◌<◌, List, [], ◌∷◌, ◌++◌, length, get_or, take, Option, sym, ap, ◌∙◌, subst, arith, append-nil, append_assoc}
use Rattle.std.specs.Io.KnownBytes.{Appends}
use Rattle.std.proofs.KnownBytes.{Appends-trans}
use Rattle.std.proofs.lemmas.List.{take_more, length-take-le}
use Rattle.awari_migrate.specs.declared.migrating.Limits.{Limits}
use Rattle.awari_builds.specs.Migrating.{migrated_line, lines_from, migrated_lines}

-- one more level
pub lines_from-push : (level : ℕ) (migrated : List Limits) (limits : Limits) → lines_from level (migrated ++ limits ∷ []) ≡ lines_from level migrated ++ migrated_line (length migrated + level) limits
unfolding lines_from
lines_from-push level [] limits =
    let here : level ≡ length {A = Limits} [] + level = omega arith in
    append-nil (migrated_line level limits) ∙ ap (λ n. migrated_line n limits) here
lines_from-push level (first ∷ migrated) limits =
    let place : length migrated + suc level ≡ length (first ∷ migrated) + level = omega arith in
    let rest : lines_from (suc level) (migrated ++ limits ∷ []) ≡ lines_from (suc level) migrated ++ migrated_line (length (first ∷ migrated) + level) limits =
    lines_from-push (suc level) migrated limits ∙ ap (λ n. lines_from (suc level) migrated ++ migrated_line n limits) place in
    ap (λ t. migrated_line level first ++ t) rest ∙ sym (append_assoc (migrated_line level first) (lines_from (suc level) migrated) (migrated_line (length (first ∷ migrated) + level) limits))

pub migrated_more : (migrated : List Limits) (level : ℕ) (none : Limits) (before middle after : Option (List ℕ)) → level < length migrated
    → Appends before middle (migrated_lines (take level migrated)) → Appends middle after (migrated_line level (get_or migrated level none)) → Appends before after (migrated_lines (take (level + 1) migrated))
migrated_more migrated level none before middle after inside wrote written =
    subst (Appends before after) (sym lines) (Appends-trans before middle after (migrated_lines (take level migrated)) (migrated_line level limits) wrote written)
  where
    limits : Limits
    limits = get_or migrated level none

    place : length (take level migrated) + 0 ≡ level
    place = omega (arith, length-take-le level migrated (omega arith))

    lines : migrated_lines (take (level + 1) migrated) ≡ migrated_lines (take level migrated) ++ migrated_line level limits
    lines = ap migrated_lines (take_more migrated level none inside) ∙ lines_from-push 0 (take level migrated) limits ∙ ap (λ n. migrated_lines (take level migrated) ++ migrated_line n limits) place
