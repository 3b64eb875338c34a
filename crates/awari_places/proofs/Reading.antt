-- What is known of an entry that was read at its place, and of the file's frame.
use Rattle.std.proofs.Common.{◌≡◌, ℕ, ◌<◌, List, get_or, slice_get, sum, Option, Some, Result, Ok, Err, inl, sym, ap, subst, ◌∙◌, arith}
use Rattle.std.specs.Prelude.{IfErr, IfOk, IsSomeAnd}
use Rattle.std.proofs.lemmas.List.FromFn.{get_or-map-range_with_len}
use Rattle.std.proofs.lemmas.Option.{slice_get-get_or}
use Rattle.awari_rank.specs.Rank.{rank_of, size_of}
use Rattle.awari_table.specs.Images.{entry_of, no_entry, no_image}
use Rattle.awari_table.specs.declared.images.Entry.{Entry}
use Rattle.awari_table.specs.declared.images.Image.{Image}
use Rattle.awari_folder.specs.declared.faults.FolderFault.{FolderFault}
use Rattle.awari_folder.specs.declared.faults.FolderFault.TheVariants.{Below, File, Open, Verify, Memory, Occupied, Old}
use Rattle.awari_folder.specs.Contents.{IsOfFile, OpenIfRefused, Refusals, Stands}
use Rattle.awari_places.specs.Places.{Says, entry_in, image_in, image_named, images_in}
use Rattle.awari_places.proofs.Saying.{some_of}
pub use Rattle.awari_places.specs.Lasting.{levels_said, still_says}

-- a refusal for what a file says is not 82
pub not_open : {T : Type 0} (r : Result T FolderFault) (old new : Refusals) → IfErr r IsOfFile → new ≡ old → OpenIfRefused r old new
not_open (Ok x) old new h same = same
not_open (Err (Below level)) old new h same = same
not_open (Err (File level fault)) old new h same = same
not_open (Err (Open level)) old new h same = absurd h
not_open (Err (Verify level fault)) old new h same = same
not_open (Err Memory) old new h same = inl same
not_open (Err (Occupied level)) old new h same = same
not_open (Err (Old level)) old new h same = same

abbrev some_image : Image → Option Image
some_image i = Some i

image_there : (names : ℕ → Option (List ℕ)) (levels level : ℕ) → level < levels → get_or (images_in names levels) level no_image ≡ image_in level (names level)
unfolding images_in
image_there names levels level lt = get_or-map-range_with_len (image_named names) 0 levels level level no_image lt (omega arith)

pub entry_there : (level rank : ℕ) (bytes : List ℕ) → rank < size_of level → get_or (image_in level (Some bytes)).entries rank no_entry ≡ entry_in bytes rank
unfolding image_in
entry_there level rank bytes lt = get_or-map-range_with_len (entry_in bytes) 0 (size_of level) rank rank no_entry lt (omega arith)

-- what lies at a board's place is what the files say of the board
pub entry_said : (stands : Stands) (levels : ℕ) (images : List Image) (p : List ℕ) (e : Entry) (says : Says stands levels images) → sum p < levels → rank_of p < size_of (sum p)
    → IsSomeAnd (says.names (sum p)) (λ bytes. e ≡ entry_in bytes (rank_of p)) → e ≡ entry_of images p
unfolding entry_of
entry_said stands levels images p e says low below there =
    let (bytes, named, is) = some_of (says.names (sum p)) (λ bytes. e ≡ entry_in bytes (rank_of p)) there in
    is
    ∙ sym (entry_there (sum p) (rank_of p) bytes below)
    ∙ ap (λ (o : Option (List ℕ)). get_or (image_in (sum p) o).entries (rank_of p) no_entry) (sym named)
    ∙ ap (λ (i : Image). get_or i.entries (rank_of p) no_entry) (sym (image_there says.names levels (sum p) low))
    ∙ ap (λ (l : List Image). get_or (get_or l (sum p) no_image).entries (rank_of p) no_entry) (sym says.said)

-- the same, by the level and the rank that were read
pub entry_said_at : (stands : Stands) (levels : ℕ) (images : List Image) (p : List ℕ) (level rank : ℕ) (r : Result Entry FolderFault) (says : Says stands levels images)
    → level ≡ sum p → rank ≡ rank_of p → sum p < levels → rank < size_of (sum p) → IfOk r (λ e. IsSomeAnd (says.names level) (λ bytes. e ≡ entry_in bytes rank)) → IfOk r (λ e. e ≡ entry_of images p)
entry_said_at stands levels images p level rank (Err fault) says stones ranked low below there = tt
entry_said_at stands levels images p level rank (Ok e) says stones ranked low below there =
    let at : IsSomeAnd (says.names (sum p)) (λ bytes. e ≡ entry_in bytes rank) = subst (λ (n : ℕ). IsSomeAnd (says.names n) (λ bytes. e ≡ entry_in bytes rank)) stones there in
    let here : IsSomeAnd (says.names (sum p)) (λ bytes. e ≡ entry_in bytes (rank_of p)) = subst (λ (k : ℕ). IsSomeAnd (says.names (sum p)) (λ bytes. e ≡ entry_in bytes k)) ranked at in
    entry_said stands levels images p e says low (subst (λ (k : ℕ). k < size_of (sum p)) ranked below) here

pub image_got : (stands : Stands) (levels level : ℕ) (images : List Image) (says : Says stands levels images) → level < levels
    → slice_get images level ≡ Some (image_in level (says.names level))
image_got stands levels level images says low =
    slice_get-get_or images level no_image (omega (arith, low, levels_said stands levels images says))
    ∙ ap (λ (l : List Image). some_image (get_or l level no_image)) says.said
    ∙ ap some_image (image_there says.names levels level low)
