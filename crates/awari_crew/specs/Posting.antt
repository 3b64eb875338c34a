-- A letter goes to one member. Private functions alone go by this.
use Rattle.std.specs.Prelude.{◌≡◌, ◌≢◌, ℕ, [], ◌∷◌, ◌++◌}
use Rattle.awari_lines.specs.Rings.{IsOther, SamePairs, received_from}
use Rattle.awari_lines.specs.declared.ends.Ends.{Ends}
use Rattle.awari_crew.specs.Members.{told_to}
use Rattle.awari_segments.specs.Tellings.{Telling}
use Rattle.awari_crew.specs.declared.letters.Letter.{Letter}

-- this was told to the member of this number, if it is another, and nothing else changed
pub record SendsTo (place : ℕ) (t : Telling) (a b : Ends Letter) : Type 0 where
  pub pairs : SamePairs a b
  pub told : IsOther a place → told_to b place ≡ told_to a place ++ t ∷ []
  pub others : (j : ℕ) → j ≢ a.owner → j ≢ place → told_to b j ≡ told_to a j
  pub received : (j : ℕ) → j ≢ a.owner → received_from b j ≡ received_from a j
