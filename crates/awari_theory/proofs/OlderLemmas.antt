-- The rules in force and the older ones.
use Rattle.std.proofs.Common.{◌≡◌, ◌⊎◌, ℕ, List, length, inl, inr, ℤ, pos, ◌<ℤ◌, arith}
use Rattle.std.proofs.lemmas.Int.{ints}
use Rattle.awari_table.specs.declared.images.Image.{Image}
use Rattle.awari_table.specs.Certificate.{Table, DistancesAreLeast, IsRight, IsRightBy}
use Rattle.awari_table.specs.Images.{table_of, greatest_limit}
use Rattle.awari_table.specs.Shelves.{IsShelf}
use Rattle.awari_table.proofs.CertificateLemmas.{plies_some, right_from_shelf, limited_from_shelf}
use Rattle.awari_theory.specs.Older.{DistancesFall, IsCertificate}
use Rattle.awari_theory.proofs.Sides.{value_cases}

-- distances that are the least fall
pub DistancesFall-least : (t : Table) (p : List ℕ) → DistancesAreLeast t p → DistancesFall t p
DistancesFall-least t p h = record {
  even = h.even;
  uneven = λ going other. elim (value_cases (t.value p)) [
    | inl up ↦ let (x, c, q, move, gain, takes) = (h.won going up).0 in omega (arith, plies_some c (t.dist q), takes)
    | inr (inl down) ↦ let (x, c, q, move, takes) = (h.lost going down).0 in omega (arith, plies_some c (t.dist q), takes)
    | inr (inr even) ↦ absurd (other even)
  ];
  winning = h.winning;
  losing = λ down x q move. let later = (h.lost (λ stuck. stuck x move.legal) down).1 x 0 q move in omega (arith, later);
}

-- what is right by the rules in force is so by the older ones
IsRight-older : (t : Table) (p : List ℕ) → IsRight t p → IsRightBy DistancesFall t p
IsRight-older t p r = record {
  in_range = r.in_range;
  ends = r.ends;
  has_plan = r.has_plan;
  no_more = r.no_more;
  plan_gains = r.plan_gains;
  distances = DistancesFall-least t p r.distances;
}

-- the table of a shelf is a certificate
pub IsCertificate-shelf : (levels : List Image) → IsShelf levels → IsCertificate (table_of levels) (length levels) (greatest_limit levels)
IsCertificate-shelf levels shelf = record {
  right = λ p board low. IsRight-older (table_of levels) p (right_from_shelf levels shelf p board low);
  limited = λ p board low. limited_from_shelf levels shelf p low;
}
