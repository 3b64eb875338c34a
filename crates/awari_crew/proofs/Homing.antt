-- Members of a crew that all come home.
use Rattle.std.proofs.Common.{◌≡◌, ℕ, zero, suc, ◌^◌, ◌<◌, inl, inr, List, [], ◌∷◌, ◌++◌, length, map, get_or, Vec, Option, None, Some, Result, Ok, Err, IfOk, IfSome, refl, sym, ap, subst, subst₂, ◌∙◌, arith}
use Rattle.std.proofs.lemmas.List.{get_or-map, length-map}
use Rattle.awari_block.specs.Notes.{Has}
use Rattle.awari_lines.specs.Rings.{AllUnused, IsGrid, IsUnused, SamePairs}
use Rattle.awari_lines.specs.declared.ends.Ends.{Ends}
use Rattle.awari_lines.proofs.Grids.{grid_kept}
use Rattle.awari_table.specs.Images.{table_of}
use Rattle.awari_table.specs.declared.images.Image.{Image}
use Rattle.awari_crew.specs.Homes.{AllComeHome, AreCrew, AreHome, ComesHome, IsTasked, brought, ends_from, ends_of}
use Rattle.awari_crew.specs.Members.{IsSound}
use Rattle.std.specs.declared.alloc.Global.{Global}
use Rattle.awari_segments.specs.declared.halts.Halt.{Halt}
use Rattle.awari_crew.proofs.Gathered.{get_has}
use Rattle.awari_crew.specs.declared.homes.Home.{Home}
use Rattle.awari_crew.specs.declared.letters.Letter.{Letter}
use Rattle.awari_crew.specs.declared.members.Member.{Member}

pub home_more : (members : List Member) (homes : List Home) (m : Member) (h : Home) → AllComeHome members homes → ComesHome m h → AllComeHome (members ++ m ∷ []) (homes ++ h ∷ [])
home_more [] [] m h all last = (last, tt)
home_more [] (k ∷ homes) m h all last = elim all [ ]
home_more (n ∷ members) [] m h all last = elim all [ ]
home_more (n ∷ members) (k ∷ homes) m h all last = (all.0, home_more members homes m h all.1 last)

home_many : (members : List Member) (homes : List Home) → AllComeHome members homes → length homes ≡ length members
home_many [] [] all = refl
home_many [] (k ∷ homes) all = elim all [ ]
home_many (n ∷ members) [] all = elim all [ ]
home_many (n ∷ members) (k ∷ homes) all = ap suc (home_many members homes all.1)

home_pairs : (members : List Member) (homes : List Home) → AllComeHome members homes → (i : ℕ) (d : Ends Letter) → i < length (map ends_from members) → SamePairs (get_or (map ends_from members) i d) (get_or (map ends_of homes) i d)
home_pairs [] [] all i d low = absurd (omega (arith, low))
home_pairs [] (k ∷ homes) all i d low = elim all [ ]
home_pairs (n ∷ members) [] all i d low = elim all [ ]
home_pairs (n ∷ members) (k ∷ homes) all zero d low = all.0.pairs
home_pairs (n ∷ members) (k ∷ homes) all (suc i) d low = home_pairs members homes all.1 i d (omega (arith, low))

home_sound : (shelf : List Image) (log : ℕ) (members : List Member) (homes : List Home) → ((m : Member) → Has members m → IsTasked shelf log m) → AllComeHome members homes → (h : Home) → Has homes h
    → IsSound (table_of shelf).value (length shelf) (2 ^ log) h.ends (brought h)
home_sound shelf log [] [] each all h has = elim has [ ]
home_sound shelf log [] (k ∷ homes) each all h has = elim all [ ]
home_sound shelf log (n ∷ members) [] each all h has = elim all [ ]
home_sound shelf log (n ∷ members) (k ∷ homes) each all h (inl same) =
    let task = each n (inl refl) in
    subst (λ (g : Home). IsSound (table_of shelf).value (length shelf) (2 ^ log) g.ends (brought g)) (sym same)
    (subst (λ l. IsSound (table_of shelf).value (length shelf) (2 ^ l) k.ends (brought k)) task.log_is
    (subst (λ l. IsSound (table_of shelf).value l (2 ^ n.log) k.ends (brought k)) task.level
    (subst (λ s. IsSound (table_of s).value n.level (2 ^ n.log) k.ends (brought k)) task.shelf_is (all.0.sound task.unused))))
home_sound shelf log (n ∷ members) (k ∷ homes) each all h (inr later) = home_sound shelf log members homes (λ m has. each m (inr has)) all.1 h later

pub all_home : (shelf : List Image) (log : ℕ) (members : List Member) (homes : List Home) → AreCrew shelf log members → AllComeHome members homes → AreHome (table_of shelf).value (length shelf) (2 ^ log) homes
all_home shelf log members homes crew all = record {
  grid = grid_kept (map ends_from members) (map ends_of homes) (length-map homes ends_of ∙ home_many members homes all ∙ sym (length-map members ends_from)) (home_pairs members homes all) crew.grid;
  sound = home_sound shelf log members homes crew.each all;
}

-- one more comes home after the others
pub stays_more : (members whole : List Member) (m : Member) (others : Result (Option (Vec Home Global)) Halt) (last : Result (Option Home) Halt) (r : Result (Option (Vec Home Global)) Halt) → whole ≡ members ++ m ∷ []
    → IfOk others (λ homes. IfSome homes (λ (homes : Vec Home Global). AllComeHome members homes.items)) → IfOk last (λ home. IfSome home (ComesHome m))
    → IfOk r (λ all. IfSome all (λ (all : Vec Home Global). (before : Vec Home Global) × (home : Home) × (others ≡ Ok (Some before)) × (last ≡ Ok (Some home)) × (all.items ≡ before.items ++ home ∷ [])))
    → IfOk r (λ all. IfSome all (λ (all : Vec Home Global). AllComeHome whole all.items))
stays_more members whole m others last (Err halt) is come comes made = tt
stays_more members whole m others last (Ok None) is come comes made = tt
stays_more members whole m others last (Ok (Some all)) is come comes (before, home, is_others, is_last, items) =
    subst₂ AllComeHome (sym is) (sym items)
    (home_more members before.items m home (subst (λ o. IfOk o (λ homes. IfSome homes (λ (homes : Vec Home Global). AllComeHome members homes.items))) is_others come)
    (subst (λ o. IfOk o (λ home. IfSome home (ComesHome m))) is_last comes))

pub with_before : (others : Result (Option (Vec Home Global)) Halt) (before : Vec Home Global) (last : Result (Option Home) Halt) (r : Result (Option (Vec Home Global)) Halt) → others ≡ Ok (Some before)
    → IfOk r (λ all. IfSome all (λ (all : Vec Home Global). (home : Home) × (last ≡ Ok (Some home)) × (all.items ≡ before.items ++ home ∷ [])))
    → IfOk r (λ all. IfSome all (λ (all : Vec Home Global). (before : Vec Home Global) × (home : Home) × (others ≡ Ok (Some before)) × (last ≡ Ok (Some home)) × (all.items ≡ before.items ++ home ∷ [])))
with_before others before last (Err halt) is made = tt
with_before others before last (Ok None) is made = tt
with_before others before last (Ok (Some all)) is (home, is_last, items) = (before, home, is, is_last, items)

-- a member of the level above this shelf
pub record IsMemberOf (shelf : List Image) (log : ℕ) (m : Member) : Type 0 where
  pub shelf_is : m.shelf ≡ shelf
  pub level : m.level ≡ length shelf
  pub log_is : m.log ≡ log

-- members on an unused grid are a crew
pub crew_of : (shelf : List Image) (log : ℕ) (members : List Member) (ends : List (Ends Letter)) → map ends_from members ≡ ends → IsGrid ends → AllUnused ends → ((m : Member) → Has members m → IsMemberOf shelf log m) → AreCrew shelf log members
crew_of shelf log members ends is grid unused each = record {
  grid = subst IsGrid (sym is) grid;
  each = λ m has.
      let task = each m has in
      let place = get_has members m m has in
      record {
        shelf_is = task.shelf_is;
        level = task.level;
        log_is = task.log_is;
        unused = subst IsUnused (get_or-map ends_from members place.0 m m.ends place.1 ∙ ap ends_from (sym place.2))
            (subst AllUnused (sym is) unused place.0 m.ends (let low = place.1 in let long = length-map members ends_from in omega (arith, low, long)));
      };
}
