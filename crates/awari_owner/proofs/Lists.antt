-- Lists of notes, joined end to end, and lists that are written over.
use Rattle.std.proofs.Common.{◌≡◌, Bool, true, false, cond, nat_lt, List, [], ◌∷◌, ◌++◌, length, refl, sym, ap, ◌∙◌, append_assoc, append-nil, fold}
use Rattle.awari_owner.specs.Outboxes.{put_behind, with_note, with_notes, notes_of}
use Rattle.awari_block.specs.declared.notes.Note.{Note}

-- ---- batches

pub notes_of-append : (a b : List (List Note)) → notes_of (a ++ b) ≡ notes_of a ++ notes_of b
notes_of-append [] b = refl
notes_of-append (x ∷ a) b = ap (λ l. x ++ l) (notes_of-append a b) ∙ sym (append_assoc x (notes_of a) (notes_of b))

pub notes_of-last : (a : List (List Note)) (b : List Note) → notes_of (a ++ b ∷ []) ≡ notes_of a ++ b
notes_of-last a b = notes_of-append a (b ∷ []) ∙ ap (λ l. notes_of a ++ l) (append-nil b)

notes_of-behind : (b : List Note) (rest : List (List Note)) (m : Note) → notes_of (put_behind b rest m) ≡ (b ++ notes_of rest) ++ m ∷ []
notes_of-behind b [] m = at (nat_lt (length b) 32)
  where
    at : (t : Bool) → notes_of (cond t ((b ++ m ∷ []) ∷ []) (b ∷ (m ∷ []) ∷ [])) ≡ (b ++ []) ++ m ∷ []
    at true = append-nil (b ++ m ∷ []) ∙ ap (λ l. l ++ m ∷ []) (sym (append-nil b))
    at false = ap (λ l. l ++ m ∷ []) (sym (append-nil b))
notes_of-behind b (c ∷ rest) m = ap (λ l. b ++ l) (notes_of-behind c rest m) ∙ sym (append_assoc b (c ++ notes_of rest) (m ∷ []))

pub notes_of-with_note : (queue : List (List Note)) (m : Note) → notes_of (with_note queue m) ≡ notes_of queue ++ m ∷ []
notes_of-with_note [] m = refl
notes_of-with_note (b ∷ rest) m = notes_of-behind b rest m

-- what is put to a queue comes behind what is there
pub notes_of-with_notes : (queue : List (List Note)) (notes : List Note) → notes_of (with_notes queue notes) ≡ notes_of queue ++ notes
notes_of-with_notes queue [] = sym (append-nil (notes_of queue))
notes_of-with_notes queue (m ∷ notes) =
    notes_of-with_notes (with_note queue m) notes ∙ ap (λ l. l ++ notes) (notes_of-with_note queue m) ∙ append_assoc (notes_of queue) (m ∷ []) notes

-- ---- slices

pub fold_push : {A B : Type 0} (f : A → B → A) (a : A) (xs : List B) (y : B) → fold f a (xs ++ y ∷ []) ≡ f (fold f a xs) y
fold_push f a [] y = refl
fold_push f a (x ∷ xs) y = fold_push f (f a x) xs y
