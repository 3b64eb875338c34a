-- A member that scanned its segments is sound, if nothing went over its rings.
use Rattle.std.proofs.Common.{◌≡◌, ◌==◌, Bool, true, false, ℕ, ◌^◌, List, [], ◌∷◌, ◌++◌, map, ℤ, Option, None, Some, All, cond, refl, sym, ap, subst, ◌∙◌}
use Rattle.std.proofs.lemmas.List.Elements.{All-append, All-cons, All-from_recursion}
use Rattle.awari_scan.specs.Scan.{IsScannedPart}
use Rattle.awari_block.specs.Part.{Part}
use Rattle.awari_block.specs.declared.notes.Note.{Note}
use Rattle.awari_heard.specs.Level.{no_part}
use Rattle.awari_lines.specs.Rings.{IsUnused, UnusedOn, pair_of, received_on, sent_on}
use Rattle.awari_lines.specs.declared.ends.Ends.{Ends}
use Rattle.awari_lines.specs.declared.ends.RingPair.{RingPair}
use Rattle.awari_table.specs.Images.{table_of}
use Rattle.awari_crew.specs.Begun.{IsBegun}
use Rattle.awari_crew.specs.Homes.{ComesHome, brought}
use Rattle.awari_crew.specs.Members.{IsSound, Kept, ears, heard_of, parts_of, told_by}
use Rattle.awari_segments.specs.Tellings.{Tell, Telling}
use Rattle.awari_crew.specs.declared.homes.Home.{Home}
use Rattle.awari_crew.specs.declared.letters.Letter.{Letter}
use Rattle.awari_crew.specs.declared.members.Member.{Member}
use Rattle.awari_lines.specs.Rings.{SamePairs}

unused_sent : (o : Option (RingPair Letter)) → UnusedOn o → sent_on o ≡ []
unused_sent None none = refl
unused_sent (Some l) unused = unused.0

unused_received : (o : Option (RingPair Letter)) → UnusedOn o → received_on o ≡ []
unused_received None none = refl
unused_received (Some l) unused = unused.1

module _ (value : List ℕ → ℤ) (level span : ℕ) (e : Ends Letter) (parts : List Part) (unused : IsUnused e) (begun : All (IsBegun value level) parts) where
  nothing_heard : (j : ℕ) → heard_of e j ≡ []
  nothing_heard j = ap (map told_by) (unused_received (pair_of e j) (unused _))

  no_ears : (j : ℕ) → ears e [] j ≡ []
  no_ears j = by (j == e.owner)
    where
      by : (b : Bool) → cond b [] (heard_of e j) ≡ []
      by true = refl
      by false = nothing_heard j

  never : (j k : ℕ) (m : Note) (A : Type 0) → Tell (ears e [] j) k m → A
  never j k m A tell = elim (subst (λ (l : List Telling). Tell l k m) (no_ears j) tell) [ ]

  settled_none : (a : ℤ × ℕ) (A : Type 0) → Some a ≡ None → A
  settled_none a A e = absurd cc

  pub sound_begun : IsSound value level span e parts
  sound_begun = record {
    tellings = [];
    sent = λ j is. ap (map told_by) (unused_sent (pair_of e j) (unused _));
    spread = record {
      true_notes = λ k m tell. elim tell [ ];
      all_notes = λ i p q x v d low is stones inside quiet spread. settled_none (v, d) _ (sym spread.0 ∙ (begun i no_part low).2.unsettled _ inside);
    };
    hears = λ i low. record {
      heard = [];
      tallied = (begun i no_part low).2.tallied;
      told = λ m has. elim has [ ];
      all = λ j m few tell. never j _ m _ tell;
    };
  }

pub comes_home : (m first last : Member) (home : Home) → first.ends ≡ m.ends → first.shelf ≡ m.shelf → first.level ≡ m.level → first.log ≡ m.log → All (IsBegun (table_of m.shelf).value m.level) (parts_of first) → Kept first last
    → home.ends ≡ last.ends → brought home ≡ parts_of last → ComesHome m home
comes_home m first last home at_ends shelf level log begun kept ends parts = record {
  pairs = subst (SamePairs m.ends) (sym ends) (subst (λ e. SamePairs e last.ends) at_ends kept.pairs);
  sound = λ unused. moved (kept.sound value (as_first (sound_begun value m.level (2 ^ m.log) m.ends (parts_of first) unused begun)));
}
  where
    value : List ℕ → ℤ
    value = (table_of m.shelf).value

    as_first : IsSound value m.level (2 ^ m.log) m.ends (parts_of first) → IsSound value first.level (2 ^ first.log) first.ends (parts_of first)
    as_first sound =
        subst (λ l. IsSound value first.level (2 ^ l) first.ends (parts_of first)) (sym log)
        (subst (λ l. IsSound value l (2 ^ m.log) first.ends (parts_of first)) (sym level) (subst (λ e. IsSound value m.level (2 ^ m.log) e (parts_of first)) (sym at_ends) sound))

    moved : IsSound value last.level (2 ^ last.log) last.ends (parts_of last) → IsSound value m.level (2 ^ m.log) home.ends (brought home)
    moved sound =
        subst (λ l. IsSound value m.level (2 ^ l) home.ends (brought home)) (kept.log ∙ log)
        (subst (λ l. IsSound value l (2 ^ last.log) home.ends (brought home)) (kept.level ∙ level)
        (subst (λ e. IsSound value last.level (2 ^ last.log) e (brought home)) (sym ends) (subst (IsSound value last.level (2 ^ last.log) last.ends) (sym parts) sound)))

-- one more segment that was scanned
pub begun_more : (value : List ℕ → ℤ) (n level first last : ℕ) (segments after : List Part) (part : Part) → n ≡ level → All (IsBegun value level) segments → IsScannedPart value n first last part → after ≡ segments ++ part ∷ []
    → All (IsBegun value level) after
begun_more value n level first last segments after part at begun scanned is =
    subst (All (IsBegun value level)) (sym is)
    (All-append (IsBegun value level) segments (part ∷ []) begun (All-cons (IsBegun value level) part [] (first, last, subst (λ k. IsScannedPart value k first last part) at scanned) (All-from_recursion (IsBegun value level) [] tt)))
