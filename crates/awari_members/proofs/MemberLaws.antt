-- Lines of members, by the parts that are written.
use Rattle.std.proofs.Common.{◌≡◌, ◌⊎◌, inl, inr, ℕ, ◌+◌, ◌<◌, suc, add-one, drop, get_or, length, sym, List, [], ◌∷◌, ◌++◌, codes, map, ap, append-nil, append_assoc, ◌∙◌, refl}
use Rattle.std.proofs.Math.Seq.{drop-cons}
use Rattle.std.specs.Fmt.{decimal}
use Rattle.awari_members.specs.declared.lines.Member.{Member}
use Rattle.std.specs.List.{flat_map}
use Rattle.awari_members.specs.Json.{array, commas}
use Rattle.awari_members.specs.declared.forms.Form.{Form}
use Rattle.awari_members.specs.declared.forms.Form.TheVariants.{Text, Csv, Json}
use Rattle.awari_members.specs.Members.{Named, later_pits, line_text, mark_of, marked, marked_by, member_text, named, names_text, pits_text, row_text, said, spaced, valued}

later_pits-are : (pits : List ℕ) → later_pits pits ≡ flat_map (λ t. 44 ∷ t) (map decimal pits)
later_pits-are [] = refl
later_pits-are (pit ∷ pits) = ap (λ (t : List ℕ). (44 ∷ decimal pit) ++ t) (later_pits-are pits)

pits-are : (pits : List ℕ) → pits_text pits ≡ commas (map decimal pits)
pits-are [] = refl
pits-are (pit ∷ pits) = ap (λ (t : List ℕ). decimal pit ++ t) (later_pits-are pits)

pub pits-array : (pits : List ℕ) → codes "[" ++ (pits_text pits ++ codes "]") ≡ array (map decimal pits)
pits-array pits = ap (λ (t : List ℕ). 91 ∷ (t ++ 93 ∷ [])) (pits-are pits)

-- what is shown behind a mark that stands between all
later-are : (shown : Named → List ℕ) (mark : ℕ) (members : List Named) → marked_by shown (mark ∷ []) (mark ∷ []) members ≡ flat_map (λ t. mark ∷ t) (map shown members)
later-are shown mark [] = refl
later-are shown mark (m ∷ members) = ap (λ (t : List ℕ). (mark ∷ shown m) ++ t) (later-are shown mark members)

commas-are : (shown : Named → List ℕ) (members : List Named) → marked_by shown (44 ∷ []) [] members ≡ commas (map shown members)
commas-are shown [] = refl
commas-are shown (m ∷ members) = ap (λ (t : List ℕ). shown m ++ t) (later-are shown 44 members)

spaces-are : (shown : Named → List ℕ) (members : List Named) → marked_by shown (32 ∷ []) [] members ≡ spaced (map shown members)
spaces-are shown [] = refl
spaces-are shown (m ∷ members) = ap (λ (t : List ℕ). shown m ++ t) (later-are shown 32 members)

pub text-line : (members : List Named) → marked Text [] members ≡ line_text Text members
unfolding line_text
text-line members = spaces-are (member_text Text) members

pub csv-line : (members : List Named) → marked Csv [] members ≡ line_text Csv members
unfolding line_text
csv-line members = commas-are (member_text Csv) members

pub json-line : (members : List Named) → codes "{" ++ (marked Json [] members ++ codes "}") ≡ line_text Json members
unfolding line_text
json-line members = ap (λ (t : List ℕ). 123 ∷ (t ++ 125 ∷ [])) (commas-are (member_text Json) members)

-- values alone, with spaces or commas, and an object
pub value-row : (form : Form) (members : List Named) → (form ≡ Text) ⊎ (form ≡ Csv) → valued form [] members ≡ row_text form members
unfolding row_text
value-row Text members is = spaces-are (λ m. m.value Text) members
value-row Csv members is = csv-line members
value-row Json members (inl is) = cc
value-row Json members (inr is) = cc

pub json-row : (form : Form) (members : List Named) → form ≡ Json → codes "{" ++ (marked form [] members ++ codes "}") ≡ row_text form members
unfolding row_text
json-row Text members is = cc
json-row Csv members is = cc
json-row Json members is = json-line members

pub names-row : (members : List Named) → named [] members ≡ names_text members
names-row members = commas-are (λ m. m.name) members

-- members behind members
pub marked-append : (form : Form) (mark : List ℕ) (m : Named) (members others : List Named) → marked form mark (m ∷ members ++ others) ≡ marked form mark (m ∷ members) ++ marked form (mark_of form) others
marked-append form mark m [] others =
    ap (λ (t : List ℕ). mark ++ t) (ap (λ (t : List ℕ). t ++ marked form (mark_of form) others) (sym (append-nil (member_text form m)))) ∙ sym (append_assoc mark (member_text form m ++ []) (marked form (mark_of form) others))
marked-append form mark m (n ∷ members) others =
    ap (λ (t : List ℕ). mark ++ (member_text form m ++ t)) (marked-append form (mark_of form) n members others)
    ∙ ap (λ (t : List ℕ). mark ++ t) (sym (append_assoc (member_text form m) (marked form (mark_of form) (n ∷ members)) (marked form (mark_of form) others)))
    ∙ sym (append_assoc mark (member_text form m ++ marked form (mark_of form) (n ∷ members)) (marked form (mark_of form) others))

-- one member more behind a text
pub marked-on : (form : Form) (mark next : List ℕ) (members : List Member) (i : ℕ) (m : Member) (done all : List ℕ) → i < length members → get_or members i m ≡ m → next ≡ mark_of form
    → done ++ marked form mark (map said (drop i members)) ≡ all → (done ++ (mark ++ member_text form (said m))) ++ marked form next (map said (drop (i + 1) members)) ≡ all
marked-on form mark next members i m done all inside own is so_far =
    append_assoc done (mark ++ member_text form (said m)) _ ∙ ap (λ (t : List ℕ). done ++ t) (append_assoc mark (member_text form (said m)) _)
    ∙ ap (λ (s : List ℕ). done ++ (mark ++ (member_text form (said m) ++ marked form s (map said (drop (i + 1) members))))) is
    ∙ ap (λ (ms : List Member). done ++ marked form mark (map said ms)) (sym front) ∙ so_far
  where
    front : drop i members ≡ m ∷ drop (i + 1) members
    front = rw (add-one, drop-cons members i m inside) (ap (λ (x : Member). x ∷ drop (suc i) members) own)
