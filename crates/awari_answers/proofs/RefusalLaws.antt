-- The text of a refusal, by the parts that are written.
use Rattle.std.proofs.Common.{◌≡◌, ◌∙◌, ℕ, suc, ◌<◌, ◌/◌, ◌%◌, Bool, true, false, List, [], ◌∷◌, ◌++◌, codes, get_or, map, refl, ap, sym, subst, append_assoc, append-nil, arith}
use Rattle.std.specs.List.{flat_map}
use Rattle.std.specs.Str.{IsAscii, IsUtf8}
use Rattle.std.proofs.lemmas.Bool.Decides.{nat_tests}
use Rattle.std.proofs.lemmas.Str.{IsAscii-append, IsUtf8-from_ascii}
use Rattle.std.proofs.lemmas.Str.Ascii.{IsAscii-cons, IsAscii-nil}
use Rattle.awari_faults.specs.Meanings.{name_of}
use Rattle.awari_faults.specs.Refusals.{Words}
use Rattle.awari_members.proofs.MemberLaws.{json-line, marked-append}
use Rattle.awari_members.specs.Json.{hex_digit, is_plain, json_string, string_byte}
use Rattle.awari_members.specs.Members.{line_text, marked, number, text}
use Rattle.awari_members.specs.declared.forms.Form.{Form}
use Rattle.awari_members.specs.declared.forms.Form.TheVariants.{Text, Csv, Json}
use Rattle.awari_shown.specs.Json.{request_member}
use Rattle.awari_answers.specs.Parts.{inside_object, object_of, shown_text}
use Rattle.awari_answers.specs.Refusals.{inside_members, members_of, named, refusal_line}

-- a string of JSON is ASCII
digit_low : (n : ℕ) → n < 16 → hex_digit n < 128
digit_low n h = grind (arith, nat_tests)

plain_low : (b : ℕ) → is_plain b ≡ true → b < 128
plain_low b h = grind (arith, nat_tests)

escaped : (h l : ℕ) → h < 128 → l < 128 → IsAscii (92 ∷ 117 ∷ 48 ∷ 48 ∷ h ∷ l ∷ [])
escaped h l high low =
    IsAscii-cons 92 (117 ∷ 48 ∷ 48 ∷ h ∷ l ∷ []) (omega arith) (IsAscii-cons 117 (48 ∷ 48 ∷ h ∷ l ∷ []) (omega arith) (IsAscii-cons 48 (48 ∷ h ∷ l ∷ []) (omega arith)
    (IsAscii-cons 48 (h ∷ l ∷ []) (omega arith) (IsAscii-cons h (l ∷ []) high (IsAscii-cons l [] low IsAscii-nil)))))

byte_by : (b : ℕ) (plain : Bool) → is_plain b ≡ plain → b < 256 → IsAscii (string_byte b)
byte_by b true is low = rw is (IsAscii-cons b [] (plain_low b is) IsAscii-nil)
byte_by b false is low = rw is (escaped (hex_digit (b / 16)) (hex_digit (b % 16)) (digit_low (b / 16) (omega (arith, low))) (digit_low (b % 16) (omega (arith, low))))

bytes_low : (bytes : List ℕ) → ((k : ℕ) → get_or bytes k 0 < 256) → IsAscii (flat_map string_byte bytes)
bytes_low [] low = IsAscii-nil
bytes_low (b ∷ bytes) low = IsAscii-append (string_byte b) (flat_map string_byte bytes) (byte_by b (is_plain b) refl (low 0)) (bytes_low bytes (λ k. low (suc k)))

pub string_is_text : (bytes : List ℕ) → ((k : ℕ) → get_or bytes k 0 < 256) → IsUtf8 (json_string bytes)
string_is_text bytes low =
    IsUtf8-from_ascii (json_string bytes)
    (IsAscii-cons 34 _ (omega arith) (IsAscii-append (flat_map string_byte bytes) (34 ∷ []) (bytes_low bytes low) (IsAscii-cons 34 [] (omega arith) IsAscii-nil)))

-- members, and behind them the faults inside
joined : (w : Words) (inside : List Words) → marked Json (codes ",") (inside_members inside) ≡ inside_object inside
    → marked Json [] (members_of w ++ inside_members inside) ≡ marked Json [] (members_of w) ++ inside_object inside
joined w inside is =
    marked-append Json [] (number (codes "refused") w.number) (text (codes "name") (name_of w.number) ∷ map named w.fields) (inside_members inside)
    ∙ ap (λ (t : List ℕ). marked Json [] (members_of w) ++ t) is

inside_is : (inside : List Words) → marked Json (codes ",") (inside_members inside) ≡ inside_object inside
inside_is [] = refl
inside_is (w ∷ inside) =
    let members = members_of w ++ inside_members inside in
    ap (λ (t : List ℕ). codes ",\"inside\":" ++ t) (append-nil (line_text Json members) ∙ sym (json-line members)
    ∙ ap (λ (t : List ℕ). codes "{" ++ (t ++ codes "}")) (joined w inside (inside_is inside))
    ∙ ap (λ (t : List ℕ). codes "{" ++ t) (append_assoc (marked Json [] (members_of w)) (inside_object inside) (codes "}")))

-- the parts that are written are the line
object_is : (request : List ℕ) (w : Words) (inside : List Words)
    → codes "{\"request\":" ++ (json_string request ++ (codes "," ++ (object_of (w ∷ inside) ++ codes "}"))) ≡ line_text Json (request_member request ∷ (members_of w ++ inside_members inside))
object_is request w inside =
    ap (λ (t : List ℕ). codes "{\"request\":" ++ t)
    (ap (λ (t : List ℕ). json_string request ++ (codes "," ++ (t ++ codes "}"))) (sym (joined w inside (inside_is inside)))
    ∙ sym (append_assoc (json_string request) (marked Json (codes ",") (members_of w ++ inside_members inside)) (codes "}")))
    ∙ json-line (request_member request ∷ (members_of w ++ inside_members inside))

pub shown_is : (form : Form) (request : List ℕ) (w : Words) (inside : List Words) → shown_text form (json_string request) (w ∷ inside) ≡ refusal_line form request (w ∷ inside)
shown_is Text request w inside = refl
shown_is Csv request w inside = refl
shown_is Json request w inside = object_is request w inside

-- an object by its parts
pub parts_are : (form : Form) (request : List ℕ) (r : List Words) → form ≡ Json
    → codes "{\"request\":" ++ (request ++ (codes "," ++ (object_of r ++ codes "}"))) ≡ shown_text form request r
parts_are form request r is =
    subst (λ (f : Form). codes "{\"request\":" ++ (request ++ (codes "," ++ (object_of r ++ codes "}"))) ≡ shown_text f request r) (sym is) refl
