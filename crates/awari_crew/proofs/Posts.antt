-- What the ends of a member's rings hold as letters come and go.
use Rattle.std.proofs.Common.{◌≡◌, ◌≢◌, ℕ, ◌+◌, ◌<◌, ◌≤◌, inl, inr, [], ◌∷◌, ◌++◌, map, refl, sym, ap, subst, ◌∙◌, arith}
use Rattle.std.proofs.lemmas.Bool.{cases_eq}
use Rattle.std.proofs.lemmas.List.{map-append}
use Rattle.awari_lines.specs.Rings.{IsOther, SameHistory, SamePairs, SendsOnly, TakesOnly, owners_of, received_from, received_on, sent_on, sent_to}
use Rattle.awari_lines.specs.declared.ends.Ends.{Ends}
use Rattle.awari_lines.proofs.Grids.{rings_then, same_pairs}
use Rattle.awari_crew.specs.Members.{Receives, SendsAll, told_by, told_to}
use Rattle.awari_crew.specs.Posting.{SendsTo}
use Rattle.awari_segments.specs.Tellings.{Telling}
use Rattle.awari_crew.specs.declared.letters.Letter.{Letter}

pub pairs_then : (a b c : Ends Letter) → SamePairs a b → SamePairs b c → SamePairs a c
pairs_then a b c p q = record { owner = q.owner ∙ p.owner; owners = q.owners ∙ p.owners; rings = λ k. rings_then _ _ _ (p.rings k) (q.rings k) }

pub other_still : (a b : Ends Letter) (j : ℕ) → SamePairs a b → IsOther a j → IsOther b j
other_still a b j pairs is = (λ e. is.0 (e ∙ pairs.owner), let low = is.1 in let owners = pairs.owners in omega (arith, low, owners))

pub other_before : (a b : Ends Letter) (j : ℕ) → SamePairs a b → IsOther b j → IsOther a j
other_before a b j pairs is = (λ e. is.0 (e ∙ sym pairs.owner), let low = is.1 in let owners = pairs.owners in omega (arith, low, owners))

-- ---- letters that come

module _ (a b c : Ends Letter) (j : ℕ) (before : SameHistory a b) (takes : TakesOnly b c j) where
  apart : (k : ℕ) → k ≢ a.owner → k ≢ b.owner
  apart k ne e = ne (e ∙ before.pairs.owner)

  sent_same : (k : ℕ) → k ≢ a.owner → sent_to c k ≡ sent_to a k
  sent_same k ne = elim (cases_eq k j) [
    | inl same ↦ subst (λ n. sent_to c n ≡ sent_to a n) (sym same) (takes.sent ∙ before.sent j (λ e. ne (same ∙ e)))
    | inr other ↦ ap sent_on (takes.others k other (apart k ne)) ∙ before.sent k ne
  ]

  received_same : (k : ℕ) → k ≢ a.owner → k ≢ j → received_from c k ≡ received_from a k
  received_same k ne other = ap received_on (takes.others k other (apart k ne)) ∙ before.received k ne

  pub none_came : received_from c j ≡ received_from b j → SameHistory a c
  none_came same = record {
    pairs = pairs_then a b c before.pairs takes.pairs;
    sent = sent_same;
    received = λ k ne. elim (cases_eq k j) [
      | inl here ↦ subst (λ n. received_from c n ≡ received_from a n) (sym here) (same ∙ before.received j (λ e. ne (here ∙ e)))
      | inr other ↦ received_same k ne other
    ];
  }

  pub one_came : (letter : Letter) → j ≢ a.owner → received_from c j ≡ received_from b j ++ letter ∷ [] → Receives j letter a c
  one_came letter ne came = record {
    pairs = pairs_then a b c before.pairs takes.pairs;
    sent = sent_same;
    came = came ∙ ap (λ l. l ++ letter ∷ []) (before.received j ne);
    others = received_same;
  }

-- ---- letters that go

pub sends_to : (a b : Ends Letter) (j : ℕ) (t : Telling) (letter : Letter) → told_by letter ≡ t → SendsOnly a b j → sent_to b j ≡ sent_to a j ++ letter ∷ [] → SendsTo j t a b
sends_to a b j t letter tells sends went = record {
  pairs = sends.pairs;
  told = λ is. ap (map told_by) went ∙ map-append told_by (sent_to a j) (letter ∷ []) ∙ ap (λ s. told_to a j ++ s ∷ []) tells;
  others = λ k ne other. ap (λ p. map told_by (sent_on p)) (sends.others k other ne);
  received = λ k ne. elim (cases_eq k j) [
    | inl here ↦ subst (λ n. received_from b n ≡ received_from a n) (sym here) sends.received
    | inr other ↦ ap received_on (sends.others k other ne)
  ];
}

pub sends_none : (a : Ends Letter) (j : ℕ) (t : Telling) → j ≡ a.owner → SendsTo j t a a
sends_none a j t own = record { pairs = same_pairs a; told = λ is. absurd (is.0 own); others = λ k ne other. refl; received = λ k ne. refl }

-- those of the first numbers were told
pub record SendsBelow (n : ℕ) (t : Telling) (a b : Ends Letter) : Type 0 where
  pub pairs : SamePairs a b
  pub below : (j : ℕ) → IsOther a j → j < n → told_to b j ≡ told_to a j ++ t ∷ []
  pub above : (j : ℕ) → IsOther a j → n ≤ j → told_to b j ≡ told_to a j
  pub received : (j : ℕ) → IsOther a j → received_from b j ≡ received_from a j

pub below_none : (t : Telling) (a : Ends Letter) → SendsBelow 0 t a a
below_none t a = record { pairs = same_pairs a; below = λ j is less. absurd (omega (arith, less)); above = λ j is low. refl; received = λ j is. refl }

pub below_more : (n : ℕ) (t : Telling) (a b c : Ends Letter) → SendsBelow n t a b → SendsTo n t b c → SendsBelow (n + 1) t a c
below_more n t a b c before sends = record {
  pairs = pairs_then a b c before.pairs sends.pairs;
  below = λ j is less. elim (cases_eq j n) [
    | inl here ↦
        let at = subst (IsOther a) here is in
        subst (λ k. told_to c k ≡ told_to a k ++ t ∷ []) (sym here) (sends.told (other_still a b n before.pairs at) ∙ ap (λ l. l ++ t ∷ []) (before.above n at (omega arith)))
    | inr other ↦ sends.others j (other_still a b j before.pairs is).0 other ∙ before.below j is (let low = less in omega (arith, low, other))
  ];
  above = λ j is low. sends.others j (other_still a b j before.pairs is).0 (λ e. absurd (omega (arith, e, low))) ∙ before.above j is (omega (arith, low));
  received = λ j is. sends.received j (other_still a b j before.pairs is).0 ∙ before.received j is;
}

pub below_end : (n : ℕ) (t : Telling) (a b : Ends Letter) → owners_of a ≤ n → SendsBelow n t a b → SendsAll t a b
below_end n t a b all before = record { pairs = before.pairs; sent = λ j is. before.below j is (let low = is.1 in omega (arith, low, all)); received = before.received }
