use Rattle.std.proofs.Common.{◌≡◌, List, ◌++◌, ◌∷◌, [], codes, false, map, refl, rules, subst}
use Rattle.std.specs.Io.KnownBytes.{Appends}
use Rattle.awari_members.specs.Members.{Named, board, line_text, number, said, signed}
use Rattle.awari_members.specs.Forms.{form_of}
use Rattle.awari_boards.proofs.plies.print_ply.Goals as goal

pub returns : goal.returns
unfolding Rattle.awari_boards.specs.Plies.shown_ply
returns g c = λ done.
    let m0 : said c.number.result ≡ number (codes "ply") c.args.ply.now.number = search rules in
    let m1 : said c.number-2.result ≡ number (codes "pit") c.args.ply.now.pit = search rules in
    let m2 : said c.number-3.result ≡ number (codes "captures") c.args.ply.now.captured = search rules in
    let m3 : said c.signed.result ≡ signed (codes "running") c.args.ply.now.running = search rules in
    let m4 : said c.board.result ≡ board (codes "board") c.args.ply.now.board = search rules in
    let m5 : said c.signed-2.result ≡ signed (codes "value") c.args.ply.now.entry.value = search rules in
    let m6 : said c.number-4.result ≡ number (codes "distance") c.args.ply.now.entry.dist = search rules in
    let all : map said (c.number.result ∷ c.number-2.result ∷ c.number-3.result ∷ c.signed.result ∷ c.board.result ∷ c.signed-2.result ∷ c.number-4.result ∷ []) ≡ number (codes "ply") c.args.ply.now.number ∷ number (codes "pit") c.args.ply.now.pit ∷ number (codes "captures") c.args.ply.now.captured ∷ signed (codes "running") c.args.ply.now.running ∷ board (codes "board") c.args.ply.now.board ∷ signed (codes "value") c.args.ply.now.entry.value ∷ number (codes "distance") c.args.ply.now.entry.dist ∷ [] = rw (m0, m1, m2, m3, m4, m5, m6) refl in
    subst (λ (members : List Named). Appends (g.W.Write.contents c.args.writer.now) (g.W.Write.contents c.print_members.new.writer) (line_text (form_of c.args.json false) members ++ 10 ∷ [])) all (c.print_members.ensures done)
