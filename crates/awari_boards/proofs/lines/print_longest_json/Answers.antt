use Rattle.std.proofs.Common.{◌≡◌, List, ◌++◌, ◌∷◌, [], codes, false, true, map, refl, rules, subst}
use Rattle.std.specs.Io.KnownBytes.{Appends}
use Rattle.awari_members.specs.Members.{Named, line_text, number, pits, said, signed, text}
use Rattle.awari_members.specs.Forms.{form_of}
use Rattle.awari_boards.proofs.lines.print_longest_json.Goals as goal

pub returns : goal.returns
unfolding Rattle.awari_boards.specs.Lines.longest_json
returns g c = λ done.
    let m0 : said c.text.result ≡ text (codes "board") c.args.board.now = search rules in
    let m1 : said c.signed.result ≡ signed (codes "value") c.args.found.now.entry.value = search rules in
    let m2 : said c.number.result ≡ number (codes "distance") c.args.found.now.entry.dist = search rules in
    let m3 : said c.pits.result ≡ pits (codes "moves") c.args.found.now.moves.items = search rules in
    let all : map said (c.text.result ∷ c.signed.result ∷ c.number.result ∷ c.pits.result ∷ []) ≡ text (codes "board") c.args.board.now ∷ signed (codes "value") c.args.found.now.entry.value ∷ number (codes "distance") c.args.found.now.entry.dist ∷ pits (codes "moves") c.args.found.now.moves.items ∷ [] = rw (m0, m1, m2, m3) refl in
    subst (λ (members : List Named). Appends (g.W.Write.contents c.args.writer.now) (g.W.Write.contents c.print_members.new.writer) (line_text (form_of true false) members ++ 10 ∷ [])) all (c.print_members.ensures done)
