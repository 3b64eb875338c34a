-- What the program keeps of a number's meaning. Private functions alone go by this: no public contract does.
use Rattle.std.specs.Prelude.{◌≡◌, ◌≤◌, [], ◌∷◌, ◌++◌, length}
use Rattle.awari_faults.specs.Meanings.{Meant}
use Rattle.awari_faults.specs.declared.meanings.Meaning.{Meaning}

-- the name, of at most 15 bytes, and the sentence with a zero byte behind it
pub record Means (m : Meaning) (meant : Meant) : Type 0 where
  pub name : m.name.now ≡ meant.name
  pub short : length meant.name ≤ 15
  pub sentence : m.sentence.now ≡ meant.sentence ++ 0 ∷ []
