-- What a member of a crew keeps between two turns, and what a turn does to its rings.
use Rattle.std.specs.Prelude.{◌≡◌, ◌≢◌, ◌==◌, if◌then◌else◌, ℕ, ◌^◌, ◌<◌, List, [], ◌∷◌, ◌++◌, length, map, ℤ}
use Rattle.std.specs.Arc.{arc_value}
use Rattle.awari_block.specs.Part.{Part}
use Rattle.awari_heard.specs.Level.{part_at}
use Rattle.awari_lines.specs.Rings.{IsOther, SamePairs, owners_of, received_from, sent_to}
use Rattle.awari_lines.specs.declared.ends.Ends.{Ends}
use Rattle.awari_segments.specs.Tellings.{HearsAll, TellSpread, Telling, telling_of}
use Rattle.awari_crew.specs.declared.letters.Letter.{Letter}
use Rattle.awari_crew.specs.declared.members.Member.{Member}

-- what a letter tells
abbrev pub told_by : Letter → Telling
told_by letter = telling_of letter.stake (arc_value letter.row)

-- what was told to member j, and what was heard of it
abbrev pub told_to : Ends Letter → ℕ → List Telling
told_to e j = map told_by (sent_to e j)

abbrev pub heard_of : Ends Letter → ℕ → List Telling
heard_of e j = map told_by (received_from e j)

-- what was heard of each member, the member itself among them
abbrev pub ears : Ends Letter → List Telling → ℕ → List Telling
ears e own j = if j == e.owner then own else heard_of e j

-- The member told all others the same, which is what its spread boards say; and its cells are a tally of what it heard of each
-- member, itself among them.
pub record IsSound (value : List ℕ → ℤ) (level span : ℕ) (e : Ends Letter) (parts : List Part) : Type 0 where
  pub tellings : List Telling
  pub sent : (j : ℕ) → IsOther e j → told_to e j ≡ tellings
  pub spread : TellSpread level span parts tellings
  pub hears : (i : ℕ) → i < length parts → HearsAll value span (owners_of e) (ears e tellings) (part_at parts i)

-- ---- steps

-- the same was told to each other member, and nothing else changed
pub record SendsAll (t : Telling) (a b : Ends Letter) : Type 0 where
  pub pairs : SamePairs a b
  pub sent : (j : ℕ) → IsOther a j → told_to b j ≡ told_to a j ++ t ∷ []
  pub received : (j : ℕ) → IsOther a j → received_from b j ≡ received_from a j

-- one letter of member j came, and nothing else changed
pub record Receives (j : ℕ) (letter : Letter) (a b : Ends Letter) : Type 0 where
  pub pairs : SamePairs a b
  pub sent : (k : ℕ) → k ≢ a.owner → sent_to b k ≡ sent_to a k
  pub came : received_from b j ≡ received_from a j ++ letter ∷ []
  pub others : (k : ℕ) → k ≢ a.owner → k ≢ j → received_from b k ≡ received_from a k

abbrev pub parts_of : Member → List Part
parts_of m = m.segments.items

-- all but the segments is the same
pub record SameTask (a b : Member) : Type 0 where
  pub shelf : b.shelf ≡ a.shelf
  pub ends : b.ends ≡ a.ends
  pub level : b.level ≡ a.level
  pub log : b.log ≡ a.log
  pub stake : b.stake ≡ a.stake

-- the member on the same rings, in the same level, is sound where it was
pub record Kept (a b : Member) : Type 0 where
  pub shelf : b.shelf ≡ a.shelf
  pub level : b.level ≡ a.level
  pub log : b.log ≡ a.log
  pub pairs : SamePairs a.ends b.ends
  pub sound : (value : List ℕ → ℤ) → IsSound value a.level (2 ^ a.log) a.ends (parts_of a) → IsSound value b.level (2 ^ b.log) b.ends (parts_of b)
