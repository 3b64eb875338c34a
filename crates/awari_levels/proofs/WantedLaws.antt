-- Which boards are wanted, test by test.
use Rattle.std.proofs.Common.{◌≡◌, ◌&&◌, Bool, true, false, cond, ◌<◌, List, length, get_or, nat_lt, slice_get, Option, Some, None, ℕ, ℤ, refl, sym, ap, ◌∙◌, arith}
use Rattle.std.proofs.lemmas.Bool.Decides.{nat_tests}
use Rattle.std.proofs.lemmas.Option.{get_or_from_slice_get}
use Rattle.std.specs.Borrow.{Bor}
use Rattle.std.specs.Prelude.{IfSome}
use Rattle.core.specs.Option.{is_some, option_copied}
use Rattle.awari_facts.specs.Facts.{gains_in, legal_moves, other_value}
use Rattle.awari_table.specs.Images.{entry_of}
use Rattle.awari_table.specs.declared.images.Entry.{Entry}
use Rattle.awari_table.specs.declared.images.Image.{Image}
use Rattle.awari_levels.specs.Listing.{fits, is_weighed, is_within, key_if, sort_key, suits, turns, weighs}
use Rattle.awari_levels.specs.declared.wanted.Wanted.{Wanted}

both-first : (a b : Bool) → a ≡ false → false ≡ (a && b)
both-first a b none = sym (ap (λ a. a && b) none)

both-last : (a b c : Bool) → a ≡ true → c ≡ b → c ≡ (a && b)
both-last a b c some is = is ∙ sym (ap (λ a. a && b) some)

-- ---- is_weighed

pub weighed-none : (wanted : Wanted) (images : List Image) (board : List ℕ) (value : ℤ) → value ≡ (entry_of images board).value → weighs wanted.spans (gains_in images board) value ≡ false
    → false ≡ is_weighed wanted images board
unfolding is_weighed
weighed-none wanted images board value worth none =
    both-first _ (turns wanted (legal_moves board) (entry_of images board).value (other_value images board)) (ap (weighs wanted.spans (gains_in images board)) (sym worth) ∙ none)

pub weighed-last : (wanted : Wanted) (images : List Image) (board : List ℕ) (value : ℤ) (last : Bool) → value ≡ (entry_of images board).value → weighs wanted.spans (gains_in images board) value ≡ true
    → last ≡ turns wanted (legal_moves board) (entry_of images board).value (other_value images board) → last ≡ is_weighed wanted images board
unfolding is_weighed
weighed-last wanted images board value last worth some is =
    both-last _ (turns wanted (legal_moves board) (entry_of images board).value (other_value images board)) last (ap (weighs wanted.spans (gains_in images board)) (sym worth) ∙ some) is

-- ---- is_within

pub within-not_fit : (wanted : Wanted) (images : List Image) (board : List ℕ) (e : Entry) → e ≡ entry_of images board → fits wanted.spans e ≡ false → false ≡ is_within wanted images board
unfolding is_within
within-not_fit wanted images board e at none = both-first _ _ (ap (fits wanted.spans) (sym at) ∙ none)

pub within-not_suit : (wanted : Wanted) (images : List Image) (board : List ℕ) (e : Entry) → e ≡ entry_of images board → fits wanted.spans e ≡ true → suits wanted board e ≡ false
    → false ≡ is_within wanted images board
unfolding is_within
within-not_suit wanted images board e at some none =
    both-last _ _ false (ap (fits wanted.spans) (sym at) ∙ some) (both-first _ (is_weighed wanted images board) (ap (suits wanted board) (sym at) ∙ none))

pub within-weighed : (wanted : Wanted) (images : List Image) (board : List ℕ) (e : Entry) → e ≡ entry_of images board → fits wanted.spans e ≡ true → suits wanted board e ≡ true
    → is_weighed wanted images board ≡ is_within wanted images board
unfolding is_within
within-weighed wanted images board e at some suited =
    both-last _ _ _ (ap (fits wanted.spans) (sym at) ∙ some) (both-last _ (is_weighed wanted images board) _ (ap (suits wanted board) (sym at) ∙ suited) refl)

-- ---- key_if

pub key-none : (wanted : Wanted) (images : List Image) (board : List ℕ) → is_within wanted images board ≡ false → None ≡ key_if wanted images board
unfolding key_if
key-none wanted images board none = sym (ap (λ b. cond b (Some (sort_key wanted.order images board)) None) none)

pub key-some : (wanted : Wanted) (images : List Image) (board : List ℕ) (key : ℤ) → is_within wanted images board ≡ true → key ≡ sort_key wanted.order images board → Some key ≡ key_if wanted images board
unfolding key_if
key-some wanted images board key some is = ap (λ k. Some k) is ∙ sym (ap (λ b. cond b (Some (sort_key wanted.order images board)) None) some)

pub within-key : (wanted : Wanted) (images : List Image) (board : List ℕ) (key : Option ℤ) → key ≡ key_if wanted images board → is_some key ≡ is_within wanted images board
unfolding key_if
within-key wanted images board key is = ap is_some is ∙ go (is_within wanted images board)
  where
    go : (b : Bool) → is_some (cond b (Some (sort_key wanted.order images board)) None) ≡ b
    go true = refl
    go false = refl

-- what is found among keys
pub copied-key : (found : Option (Bor (Option ℤ))) (keys : List (Option ℤ)) (place : ℕ) (key : Option ℤ) → is_some found ≡ nat_lt place (length keys) → IfSome found (λ x. x.now ≡ get_or keys place x.now)
    → (place < length keys → slice_get keys place ≡ Some key) → IfSome (option_copied found) (λ k. k ≡ key)
copied-key None keys place key inside is there = tt
copied-key (Some x) keys place key inside is there =
    let low : place < length keys = grind (arith, nat_tests) in
    is ∙ get_or_from_slice_get keys place key x.now (there low)
