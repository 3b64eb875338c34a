-- A level that was built and written, and is put on top.
use Rattle.std.proofs.Common.{◌≡◌, ℕ, List, [], ◌∷◌, ◌++◌, length, sym, ap, subst, ◌∙◌, arith}
use Rattle.std.specs.List.{flat_map}
use Rattle.std.proofs.lemmas.List.{length-append}
use Rattle.sha2.proofs.Facts256.{length-sha256}
use Rattle.sha2.specs.Sha256.{sha256}
use Rattle.awari_rank.specs.Rank.{size_of}
use Rattle.awari_table.specs.Shelves.{Consistent}
use Rattle.awari_table.specs.declared.images.Image.{Image}
use Rattle.awari_file.specs.FileText.{HasFile, body_text, entry_text, file_len, file_text, header_text}
use Rattle.awari_folder.specs.NextFile.{IsNextFile}
use Rattle.awari_folder.proofs.Saved.{next_file}
use Rattle.awari_exports.proofs.Mapping.{entries_len, header_len}

-- its file is the next one
pub built : (shelf : List Image) (below digest bytes file : List ℕ) (image pushed : Image) (after : List Image) → Consistent shelf image → HasFile 2 image below
    → bytes ≡ file_text 2 image below → file ≡ bytes → digest ≡ sha256 (body_text 2 image below) → pushed ≡ image → after ≡ shelf ++ pushed ∷ []
    → IsNextFile shelf below file after digest
built shelf below digest bytes file image pushed after right has text same ends is top =
    subst (λ (f : List ℕ). IsNextFile shelf below f after digest) (sym (same ∙ text))
    (subst (λ (s : List Image). IsNextFile shelf below (file_text 2 image below) s digest) (sym (top ∙ ap (λ (i : Image). shelf ++ i ∷ []) is))
    (subst (λ (d : List ℕ). IsNextFile shelf below (file_text 2 image below) (shelf ++ image ∷ []) d) (sym ends) (next_file shelf below image right has)))

-- the file of a level is as long as those of its number
pub long_as_file : (shelf : List Image) (image : Image) (below : List ℕ) → Consistent shelf image → HasFile 2 image below
    → length (file_text 2 image below) ≡ file_len (length shelf)
long_as_file shelf image below right has =
    let body = body_text 2 image below in let header = header_text 2 image.level image.limit below in let entries = flat_map entry_text image.entries in
    let sized : length image.entries ≡ size_of (length shelf) = has.sized ∙ ap (λ (n : ℕ). size_of n) right.next in
    omega (arith, length-append body (sha256 body), length-append header entries, length-sha256 body, header_len 2 image.level image.limit below has.whole, entries_len image.entries, sized)
