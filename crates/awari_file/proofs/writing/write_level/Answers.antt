use Rattle.std.proofs.Common.{arith, w8, ◌≡◌, ◌∙◌, ◌++◌, List, ℕ, [], ap, subst}
use Rattle.std.specs.Io.KnownBytes.{Appends}
use Rattle.std.proofs.KnownBytes.{Appends-trans}
use Rattle.sha2.specs.Sha256.{sha256}
use Rattle.awari_streams.specs.Counted.{inner_of}
use Rattle.awari_file.specs.FileText.{header_text, body_text}
use borrow.Author.Rules.{elem_Fits}
use Rattle.awari_file.proofs.FitLaws.{has_file}
use Rattle.awari_file.proofs.WriteLaws.{Puts-then, Puts-same}
use Rattle.awari_file.proofs.writing.write_level.Goals as goal

pub returns-in-Ok-clause-written : goal.returns-in-Ok-clause-written
returns-in-Ok-clause-written g c =
    let image = c.args.level.now in
    let below = c.args.below in
    let header : c.header_of-header.result ≡ header_text 2 image.level image.limit below =
    c.header_of-header.ensures ∙ ap (λ (n : ℕ). header_text 2 n c.limit.result below) c.number.ensures.number ∙ ap (λ (n : ℕ). header_text 2 image.level n below) c.limit.ensures in
    let all = Puts-then _ _ _ _ _ _ _ _ (Puts-same _ _ _ _ _ _ header c.in_ok-put.ensures.ok) c.in_ok-put_entries.ensures.ok in
    let digest : c.finalize-digest.result ≡ sha256 (body_text 2 image below) = c.finalize-digest.ensures (body_text 2 image below) (all.holds [] c.new-hasher.ensures) in
    let first = g.W.Write.contents (inner_of c.args.writer.now) in
    let last = g.W.Write.contents (inner_of c.write_all.new.self) in
    subst (λ (d : List ℕ). Appends first last (body_text 2 image below ++ d)) digest (Appends-trans first (g.W.Write.contents (inner_of c.put_entries.new.writer)) last _ _ all.appends c.in-Ok.ensures.bytes)

pub returns-in-Ok-clause-digest : goal.returns-in-Ok-clause-digest
returns-in-Ok-clause-digest g c =
    let image = c.args.level.now in
    let below = c.args.below in
    let header : c.header_of-header.result ≡ header_text 2 image.level image.limit below =
    c.header_of-header.ensures ∙ ap (λ (n : ℕ). header_text 2 n c.limit.result below) c.number.ensures.number ∙ ap (λ (n : ℕ). header_text 2 image.level n below) c.limit.ensures in
    let all = Puts-then _ _ _ _ _ _ _ _ (Puts-same _ _ _ _ _ _ header c.in_ok-put.ensures.ok) c.in_ok-put_entries.ensures.ok in
    c.finalize-digest.ensures (body_text 2 image below) (all.holds [] c.new-hasher.ensures)

pub returns-in-Ok-clause-has : goal.returns-in-Ok-clause-has
returns-in-Ok-clause-has g c = has_file c.args.level.now c.args.below c.number.ensures.level c.in_ok-put_entries.ensures.fit (omega arith) (omega arith) (λ i. (elem_Fits w8 w8 c.args.below c.well_formed.1.0.0 i c.well_formed.1.0.1.1 tt).fits)
