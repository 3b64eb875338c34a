-- What a level's header and its length say, read from the first bytes of its file.
use Rattle.std.proofs.Common.{◌≡◌, ℕ, ◌+◌, ◌<◌, ◌≤◌, ◌⊎◌, ◌==◌, if◌then◌else◌, cond, Bool, true, false, nat_lt, List, [], ◌∷◌, length, slice_get, take, drop, max, Option, Some, None, Result, Ok, Err, refl, sym, ap, subst, ◌∙◌, arith, inl, inr, map}
use Rattle.std.specs.List.{range_with_len}
use Rattle.std.specs.Prelude.{IsOk, IsSomeAnd}
use Rattle.std.proofs.lemmas.Bool.{cases_lt, lt-ltb}
use Rattle.std.proofs.lemmas.List.{length-take-le, take-append-drop}
use Rattle.std.proofs.lemmas.List.FromFn.{map-range_with_len_more}
use Rattle.std.proofs.lemmas.List.Sums.{fold-append}
use Rattle.awari_table.specs.Images.{greatest_limit}
use Rattle.awari_table.specs.declared.images.Image.{Image}
use Rattle.awari_file.specs.declared.contents.Header.{Header}
use Rattle.awari_file.specs.declared.faults.FileFault.{FileFault}
use Rattle.awari_file.specs.declared.faults.FileFault.TheVariants as faults
use Rattle.awari_file.specs.FileText.{file_len}
use Rattle.awari_file.specs.Reading.{header_at}
use Rattle.awari_file.proofs.FieldLaws.{followed_by}
use Rattle.awari_file.proofs.FileLaws.{header-is}
use Rattle.awari_folder.specs.declared.faults.FolderFault.{FolderFault}
use Rattle.awari_folder.specs.declared.faults.FolderFault.TheVariants.{Below, File, Open, Verify, Memory, Occupied, Old}
use Rattle.awari_folder.specs.Contents.{IsOfFile, Reads, Stands}
use Rattle.awari_rank.specs.Rank.{size_of}
use Rattle.awari_verify.specs.declared.rules.Rule.TheVariants.{V7}
use Rattle.awari_verify.specs.declared.verdicts.VerifyFault.TheVariants.{Refused, WrongLevel}
use Rattle.awari_places.specs.declared.opening.Opened.{Opened}
use Rattle.awari_places.specs.Opening.{AreFramed, IsFrame, IsFrameFault, IsFramed, IsOpenFault, framed_by, framed_of, framed_in}
use Rattle.awari_places.specs.Places.{Says, image_in, image_named, images_in, limit_in, limit_or_none}
use Rattle.awari_places.proofs.Reading.{image_got}
use Rattle.awari_places.proofs.Saying.{some_of}

-- what follows the header is of no matter
by_front : (level size : ℕ) (more : List ℕ) (r : Result (Header × List ℕ) FileFault) → framed_by level size (followed_by more r) ≡ framed_by level size r
by_front level size more (Ok found) = refl
by_front level size more (Err fault) = refl

long_enough : (level size : ℕ) (bytes : List ℕ) → size ≡ length bytes → 52 ≤ length bytes → framed_of level size (take 52 bytes) ≡ framed_in level bytes
long_enough level size bytes same long =
    let whole : header_at faults.Truncated bytes ≡ followed_by (drop 52 bytes) (header_at faults.Truncated (take 52 bytes)) =
    ap (header_at faults.Truncated) (sym (take-append-drop 52 bytes)) ∙ header-is.whole faults.Truncated faults.Truncated (take 52 bytes) (drop 52 bytes) (let len = length-take-le 52 bytes long in omega (arith, len)) in
    ap (λ (n : ℕ). framed_of level n (take 52 bytes)) same
    ∙ ap (λ (r : Result ℕ FolderFault). if nat_lt (length bytes) 52 then Err (File level faults.Truncated) else r)
    (sym (by_front level (length bytes) (drop 52 bytes) (header_at faults.Truncated (take 52 bytes))) ∙ ap (framed_by level (length bytes)) (sym whole))

too_short : (level : ℕ) (front bytes : List ℕ) → length bytes < 52 → framed_of level (length bytes) front ≡ framed_in level bytes
too_short level front bytes short = let few : nat_lt (length bytes) 52 ≡ true = lt-ltb _ _ short in rw few refl

-- what is judged by the first bytes is what all of them say
same_frame : (level size : ℕ) (front bytes : List ℕ) → length front ≡ 52 → Reads (Some (Some bytes)) 0 front (Some size) → framed_of level size front ≡ framed_in level bytes
same_frame level size front bytes len (read, there) =
    let same : size ≡ length bytes = cc in
    elim (cases_lt (length bytes) 52) [
      | inl short ↦ ap (λ (n : ℕ). framed_of level n front) same ∙ too_short level front bytes short
      | inr long ↦
          let is : front ≡ take 52 bytes = there (omega (arith, long, len)) ∙ ap (λ (n : ℕ). take n bytes) len in
          ap (framed_of level size) is ∙ long_enough level size bytes same long
    ]

pub frame_read : (level size limit : ℕ) (front : List ℕ) (name : Option (List ℕ)) → length front ≡ 52 → Reads (Some name) 0 front (Some size) → Ok limit ≡ framed_of level size front → IsFrame level name (Some limit)
frame_read level size limit front None len reads is = absurd cc
frame_read level size limit front (Some bytes) len reads is = sym (is ∙ same_frame level size front bytes len reads)

pub frame_refused : (level size : ℕ) (front : List ℕ) (name : Option (List ℕ)) (fault : FolderFault) → length front ≡ 52 → Reads (Some name) 0 front (Some size) → IsOfFile fault → Err fault ≡ framed_of level size front
    → IsFrameFault level name fault
frame_refused level size front None fault len reads of_file is = absurd cc
frame_refused level size front (Some bytes) fault len reads of_file is = by_fault fault of_file (sym (is ∙ same_frame level size front bytes len reads))
  where
    by_fault : (fault : FolderFault) → IsOfFile fault → framed_in level bytes ≡ Err fault → IsFrameFault level (Some bytes) fault
    by_fault (Open n) of h = absurd of
    by_fault Memory of h = tt
    by_fault (Below n) of h = h
    by_fault (File n f) of h = h
    by_fault (Verify n f) of h = h
    by_fault (Occupied n) of h = h
    by_fault (Old n) of h = h

-- ---- the limits

after_guard : (b : Bool) (e : FolderFault) (r : Result ℕ FolderFault) (n : ℕ) → cond b (Err e) r ≡ Ok n → r ≡ Ok n
after_guard true e r n h = absurd cc
after_guard false e r n h = h

before_guard : (b : Bool) (e : FolderFault) (r : Result ℕ FolderFault) (n : ℕ) → cond b r (Err e) ≡ Ok n → r ≡ Ok n
before_guard true e r n h = h
before_guard false e r n h = absurd cc

limit_framed : (level size limit : ℕ) (r : Result (Header × List ℕ) FileFault) → framed_by level size r ≡ Ok limit → limit_or_none r ≡ limit
limit_framed level size limit (Err fault) h = absurd cc
limit_framed level size limit (Ok found) h =
    let a = after_guard (found.0.version == 1) (Old level) _ limit h in
    let b = after_guard (nat_lt size (file_len found.0.level)) (File level faults.Truncated) _ limit a in
    let d = after_guard (nat_lt (file_len found.0.level) size) (File level faults.Trailing) _ limit b in
    let e = before_guard (found.0.level == level) (Verify level WrongLevel) _ limit d in
    let f = after_guard (nat_lt (size_of level) found.0.limit) (Verify level (Refused 0 V7)) _ limit e in
    cc

pub image_limit : (names : ℕ → Option (List ℕ)) (level limit : ℕ) → IsFrame level (names level) (Some limit) → (image_named names level).limit ≡ limit
unfolding image_in limit_in
image_limit names level limit frame =
    let (bytes, there, is) = some_of (names level) (λ bytes. framed_in level bytes ≡ Ok limit) frame in
    ap (λ (o : Option (List ℕ)). (image_in level o).limit) there ∙ limit_framed level (length bytes) limit (header_at faults.Truncated bytes) (after_guard (nat_lt (length bytes) 52) (File level faults.Truncated) _ limit is)

-- what the files say of the limit
pub limit_said : (stands : Stands) (levels level limit : ℕ) (images : List Image) (says : Says stands levels images) → level < levels → IsFrame level (says.names level) (Some limit)
    → IsSomeAnd (slice_get images level) (λ image. limit ≡ image.limit)
limit_said stands levels level limit images says low frame =
    subst (λ (o : Option Image). IsSomeAnd o (λ image. limit ≡ image.limit)) (sym (image_got stands levels level images says low)) (sym (image_limit says.names level limit frame))

framed_now : (names : ℕ → Option (List ℕ)) (level limit : ℕ) → IsFrame level (names level) (Some limit) → IsFramed names level
framed_now names level limit frame =
    let (bytes, there, is) = some_of (names level) (λ bytes. framed_in level bytes ≡ Ok limit) frame in
    subst (λ (o : Option (List ℕ)). IsSomeAnd o (λ bytes. IsOk (framed_in level bytes))) (sym there) (is_ok (framed_in level bytes) limit is)
  where
    is_ok : (r : Result ℕ FolderFault) (n : ℕ) → r ≡ Ok n → IsOk r
    is_ok (Ok m) n h = refl
    is_ok (Err e) n h = absurd cc

-- this many levels are there, and this is their greatest limit
pub record AreThere (names : ℕ → Option (List ℕ)) (levels limit : ℕ) : Type 0 where
  pub each : (level : ℕ) → level < levels → IsFramed names level
  pub greatest : limit ≡ greatest_limit (images_in names levels)

pub none_there : (names : ℕ → Option (List ℕ)) → AreThere names 0 0
unfolding images_in
none_there names = record { each = λ level lt. absurd (omega (arith, lt)); greatest = refl }

pub one_more_there : (names : ℕ → Option (List ℕ)) (level before limit after : ℕ) → AreThere names level before → IsFrame level (names level) (Some limit) → after ≡ max before limit → AreThere names (level + 1) after
unfolding images_in
one_more_there names level before limit after so_far frame is = record {
  each = λ n lt. elim (cases_lt n level) [
    | inl less ↦ so_far.each n less
    | inr ge ↦ (let same : level ≡ n = omega (arith, ge, lt) in subst (IsFramed names) same (framed_now names level limit frame))
  ];
  greatest =
      is
      ∙ ap (λ (n : ℕ). max n limit) so_far.greatest
      ∙ ap (λ (n : ℕ). max (greatest_limit (images_in names level)) n) (sym (image_limit names level limit frame))
      ∙ sym (fold-append (λ (most : ℕ) (image : Image). max most image.limit) 0 (map (image_named names) (range_with_len 0 level)) (image_named names level ∷ []))
      ∙ ap greatest_limit (sym (map-range_with_len_more (image_named names) 0 level level (omega arith)));
}

pub are_framed : (most : ℕ) (names : ℕ → Option (List ℕ)) (opened : Opened) (levels : ℕ) → opened.levels ≡ levels → levels ≤ most + 1 → AreThere names levels opened.limit → (names levels ≡ None) ⊎ (most < levels)
    → AreFramed most names opened
are_framed most names opened levels same few there end = record {
  each = λ n lt. there.each n (omega (arith, lt, same));
  few = omega (arith, same, few);
  end = subst (λ (n : ℕ). (names n ≡ None) ⊎ (most < n)) (sym same) end;
  limit = there.greatest ∙ ap (λ (n : ℕ). greatest_limit (images_in names n)) (sym same);
}

pub open_fault : (most : ℕ) (names : ℕ → Option (List ℕ)) (level limit : ℕ) (fault : FolderFault) → level ≤ most → AreThere names level limit → IsFrameFault level (names level) fault → IsOpenFault most names fault
open_fault most names level limit fault low there here = record { level = level; low = low; below = there.each; here = here }
