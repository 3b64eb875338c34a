-- What members brought home is the level, and heard of all spread boards.
use Rattle.std.proofs.Common.{◌≡◌, ◌≢◌, inl, inr, ℕ, zero, suc, ◌+◌, ◌<◌, List, [], ◌∷◌, ◌++◌, length, map, get_or, ℤ, refl, sym, ap, subst, ◌∙◌, arith, append-nil}
use Rattle.std.proofs.lemmas.List.{length-map}
use Rattle.std.proofs.lemmas.List.Sorted.{All-permutation, IsPermutation-sym}
use Rattle.std.specs.List.{flat_map}
use Rattle.std.specs.List.Sorted.{IsPermutation}
use Rattle.awari_rank.specs.Rank.{size_of}
use Rattle.awari_block.specs.Each.{EachTo}
use Rattle.awari_block.specs.Notes.{Has}
use Rattle.awari_block.specs.Part.{Part, InBlock}
use Rattle.awari_block.proofs.NoteLists.{Has-append_cases, Has-append_left, Has-append_right, all_has, has_all}
use Rattle.awari_heard.specs.Level.{AreBlocks, AreHeard, AreWhole, no_part, part_at}
use Rattle.awari_heard.proofs.Levels.{of_level, one_holder}
use Rattle.awari_heard.proofs.SpreadBoards.{IsInjective}
use Rattle.awari_lines.specs.Rings.{AreExact, IsGrid, NoneWait, SameHistory, received_from, sent_to}
use Rattle.awari_lines.specs.declared.ends.Ends.{Ends}
use Rattle.awari_crew.specs.Gathered.{AreAligned}
use Rattle.awari_crew.specs.Homes.{AreHome, brought, ends_of}
use Rattle.awari_crew.specs.declared.homes.Home.{Home}
use Rattle.awari_crew.specs.declared.letters.Letter.{Letter}
use Rattle.awari_crew.proofs.Gathered.{IsBrought, all_heard, get_has, has_get}

-- ---- blocks one after the other

pub blocks_more : (level low high : ℕ) (parts : List Part) (part : Part) → AreBlocks level low high parts → part.level ≡ level → part.start ≡ high → AreBlocks level low (high + length part.cells) (parts ++ part ∷ [])
blocks_more level low high [] part blocks of_level at = ((of_level, at ∙ sym blocks), ap (λ n. n + length part.cells) blocks)
blocks_more level low high (p ∷ parts) part blocks of_level at = (blocks.0, blocks_more level (low + length p.cells) high parts part blocks.1 of_level at)

-- ---- what is among the parts of all members

brought_from : (homes : List Home) (x : Home) (part : Part) → Has (flat_map brought homes) part → (i : ℕ) × (i < length homes) × Has (brought (get_or homes i x)) part
brought_from [] x part has = elim has [ ]
brought_from (h ∷ homes) x part has = elim (Has-append_cases (brought h) (flat_map brought homes) part has) [
  | inl here ↦ (0, omega arith, here)
  | inr later ↦ let r = brought_from homes x part later in (suc r.0, (let low = r.1 in omega (arith, low)), r.2)
]

brought_to : (homes : List Home) (x : Home) (part : Part) (i : ℕ) → i < length homes → Has (brought (get_or homes i x)) part → Has (flat_map brought homes) part
brought_to [] x part i low has = absurd (omega (arith, low))
brought_to (h ∷ homes) x part zero low has = Has-append_left (brought h) (flat_map brought homes) part has
brought_to (h ∷ homes) x part (suc i) low has = Has-append_right (brought h) (flat_map brought homes) part (brought_to homes x part i (omega (arith, low)) has)

has_permuted : (xs ys : List Part) (part : Part) → IsPermutation xs ys → Has ys part → Has xs part
has_permuted xs ys part same has = has_all (Has xs) ys (All-permutation (Has xs) xs ys same (all_has (Has xs) xs (λ y h. h))) part has

-- ---- nothing waits

module _ (homes : List Home) (ends : List (Ends Letter)) (grid : IsGrid (map ends_of homes)) (same : EachTo SameHistory (map ends_of homes) ends) (exact : AreExact ends) (none : NoneWait ends) where
  pub all_received : (i j : ℕ) (d : Ends Letter) → i < length homes → j < length homes → i ≢ j → received_from (get_or (map ends_of homes) i d) j ≡ sent_to (get_or (map ends_of homes) j d) i
  all_received i j d low few ne =
      let long = length-map homes ends_of in
      let many = same.many in
      let low' : i < length (map ends_of homes) = omega (arith, low, long) in
      let few' : j < length (map ends_of homes) = omega (arith, few, long) in
      let low'' : i < length ends = omega (arith, low', many) in
      let few'' : j < length ends = omega (arith, few', many) in
      let e = exact i j d low'' few'' ne in
      let w = none i j d low'' few'' ne in
      sym ((same.each i d low').received j (λ e. ne (sym (e ∙ grid.owner i d low'))))
      ∙ sym (append-nil (received_from (get_or ends i d) j)) ∙ ap (λ l. received_from (get_or ends i d) j ++ l) (sym w) ∙ e
      ∙ (same.each j d few').sent i (λ e. ne (e ∙ grid.owner j d few'))

  module _ (value : List ℕ → ℤ) (level span : ℕ) (injective : IsInjective) (are : AreHome value level span homes) (sorted : List Part) (moved : IsPermutation (flat_map brought homes) sorted) (whole : AreWhole level sorted) (aligned : AreAligned span sorted) where
    in_sorted : (x : Home) (part : Part) → IsBrought value level span homes x injective are all_received part → Has sorted part
    in_sorted x part (i, low, has) = has_permuted sorted (flat_map brought homes) part (IsPermutation-sym (flat_map brought homes) sorted moved) (brought_to homes x part i low has)

    apart : (a b : Part) → Has sorted a → Has sorted b → (rank : ℕ) → InBlock a rank → InBlock b rank → a ≡ b
    apart a b in_a in_b rank held held' =
        let i = get_has sorted a no_part in_a in
        let j = get_has sorted b no_part in_b in
        let same = one_holder level 0 (size_of level) sorted whole i.0 j.0 i.1 j.1 rank (subst (λ (p : Part). InBlock p rank) i.2 held) (subst (λ (p : Part). InBlock p rank) j.2 held') in
        i.2 ∙ ap (part_at sorted) same ∙ sym j.2

    levels : (part : Part) → Has sorted part → part.level ≡ level
    levels part has = let i = get_has sorted part no_part has in ap (λ (p : Part). p.level) i.2 ∙ of_level level sorted whole i.0 i.1

    by : (x : Home) → AreHeard value sorted
    by x =
        all_heard value level span homes x injective are all_received (λ part here. levels part (in_sorted x part here)) (λ part here. aligned part (in_sorted x part here)) (λ a b here there. apart a b (in_sorted x a here) (in_sorted x b there))
        sorted (λ part has. brought_from homes x part (has_permuted (flat_map brought homes) sorted part moved has))

    pub sorted_heard : AreHeard value sorted
    sorted_heard k d low = some homes refl k d low
      where
        some : (hs : List Home) → homes ≡ hs → AreHeard value sorted
        some [] is = λ k d low. elim (subst (λ l. Has (flat_map brought l) (get_or sorted k d)) is (has_permuted (flat_map brought homes) sorted (get_or sorted k d) moved (has_get sorted k d low))) [ ]
        some (x ∷ hs) is = by x
