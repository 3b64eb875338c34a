use Rattle.std.proofs.Common.{◌≡◌, ◌∙◌, ◌++◌, ℕ, Bool, List, Ok, true, false, [], arith, w8, ap, refl, subst}
use Rattle.std.specs.List.{flat_map}
use Rattle.sha2.specs.Sha256.{sha256}
use Rattle.sha2.specs.Hashers.{Holds256}
use Rattle.awari_file.specs.FileText.{header_text, entry_text, body_text}
use borrow.Author.Rules.{elem_Fits}
use Rattle.awari_file.proofs.FitLaws.{has_file}
use Rattle.awari_file.proofs.WholeLaws.{known_intro}
use Rattle.awari_file.proofs.Meeting.{not_both, met_as, met_more, none_if, some_if, not_first, not_second, not_third, not_fourth, all_met}
use Rattle.awari_file.proofs.comparing.compare_level.Goals as goal

pub returns-then-not-branch-clause-same : goal.returns-then-not-branch-clause-same
returns-then-not-branch-clause-same g c =
    let image = c.args.level.now in
    let below = c.args.below in
    let body = body_text 2 image below in
    let header_bytes = header_text 2 image.level image.limit below in
    let entry_bytes = flat_map entry_text image.entries in
    let header : c.header_of-header.result ≡ header_text 2 image.level image.limit below =
    c.header_of-header.ensures ∙ ap (λ (n : ℕ). header_text 2 n c.limit.result below) c.number.ensures.number ∙ ap (λ (n : ℕ). header_text 2 image.level n below) c.limit.ensures in
    known_intro _ _ (λ xs known. none_if _ (not_first xs header_bytes entry_bytes (sha256 body) (met_as _ false xs _ _ _ c.if-not-branch.true header (c.in_ok-has_next.ensures.met xs known))))

pub returns-then-not-branch-2-clause-same : goal.returns-then-not-branch-2-clause-same
returns-then-not-branch-2-clause-same g c =
    let image = c.args.level.now in
    let below = c.args.below in
    let body = body_text 2 image below in
    let header_bytes = header_text 2 image.level image.limit below in
    let entry_bytes = flat_map entry_text image.entries in
    let header : c.header_of-header.result ≡ header_text 2 image.level image.limit below =
    c.header_of-header.ensures ∙ ap (λ (n : ℕ). header_text 2 n c.limit.result below) c.number.ensures.number ∙ ap (λ (n : ℕ). header_text 2 image.level n below) c.limit.ensures in
    let entries : entry_bytes ≡ entry_bytes = refl in
    known_intro _ _ (λ xs known. none_if _ (not_second xs header_bytes entry_bytes (sha256 body) _ (met_as _ true xs _ _ _ c.if-not-branch.false header (c.in_ok-has_next.ensures.met xs known))
    (λ rest at. met_as _ false rest _ _ _ c.if-not-branch-2.true entries (c.in_ok-has_entries.ensures.met rest at))))

pub returns-then-not-branch-3-clause-same : goal.returns-then-not-branch-3-clause-same
returns-then-not-branch-3-clause-same g c =
    let image = c.args.level.now in
    let below = c.args.below in
    let body = body_text 2 image below in
    let header_bytes = header_text 2 image.level image.limit below in
    let entry_bytes = flat_map entry_text image.entries in
    let header : c.header_of-header.result ≡ header_text 2 image.level image.limit below =
    c.header_of-header.ensures ∙ ap (λ (n : ℕ). header_text 2 n c.limit.result below) c.number.ensures.number ∙ ap (λ (n : ℕ). header_text 2 image.level n below) c.limit.ensures in
    let entries : entry_bytes ≡ entry_bytes = refl in
    let hashed = c.in_ok-has_entries.ensures.holds (ap (λ (b : Bool). Ok b) c.if-not-branch-2.false) c.header_of-header.result (c.update.ensures [] c.new-hasher.ensures) in
    let digest : c.finalize-digest.result ≡ sha256 body = c.finalize-digest.ensures body (subst (Holds256 c.has_entries.new.hasher) (ap (λ (l : List ℕ). l ++ entry_bytes) header ∙ ap (λ (l : List ℕ). header_bytes ++ l) entries) hashed) in
    known_intro _ _ (λ xs known. none_if _ (not_third xs header_bytes entry_bytes (sha256 body) _ (met_more xs header_bytes entry_bytes _ _ (met_as _ true xs _ _ _ c.if-not-branch.false header (c.in_ok-has_next.ensures.met xs known)) (λ rest at. met_as _ true rest _ _ _ c.if-not-branch-2.false entries (c.in_ok-has_entries.ensures.met rest at)))
    (λ rest at. met_as _ false rest _ _ _ c.if-not-branch-3.true digest (c.in_ok-has_next-2.ensures.met rest at))))

pub returns-then-not-branch-4-clause-same : goal.returns-then-not-branch-4-clause-same
returns-then-not-branch-4-clause-same g c =
    let image = c.args.level.now in
    let below = c.args.below in
    let body = body_text 2 image below in
    let header_bytes = header_text 2 image.level image.limit below in
    let entry_bytes = flat_map entry_text image.entries in
    let header : c.header_of-header.result ≡ header_text 2 image.level image.limit below =
    c.header_of-header.ensures ∙ ap (λ (n : ℕ). header_text 2 n c.limit.result below) c.number.ensures.number ∙ ap (λ (n : ℕ). header_text 2 image.level n below) c.limit.ensures in
    let entries : entry_bytes ≡ entry_bytes = refl in
    let hashed = c.in_ok-has_entries.ensures.holds (ap (λ (b : Bool). Ok b) c.if-not-branch-2.false) c.header_of-header.result (c.update.ensures [] c.new-hasher.ensures) in
    let digest : c.finalize-digest.result ≡ sha256 body = c.finalize-digest.ensures body (subst (Holds256 c.has_entries.new.hasher) (ap (λ (l : List ℕ). l ++ entry_bytes) header ∙ ap (λ (l : List ℕ). header_bytes ++ l) entries) hashed) in
    known_intro _ _ (λ xs known. none_if _ (not_fourth xs body (sha256 body) _ (met_more xs body (sha256 body) _ _ (met_more xs header_bytes entry_bytes _ _ (met_as _ true xs _ _ _ c.if-not-branch.false header (c.in_ok-has_next.ensures.met xs known)) (λ rest at. met_as _ true rest _ _ _ c.if-not-branch-2.false entries (c.in_ok-has_entries.ensures.met rest at))) (λ rest at. met_as _ true rest _ _ _ c.if-not-branch-3.false digest (c.in_ok-has_next-2.ensures.met rest at)))
    (λ rest at none. let ended = (c.in_ok-is_at_end.ensures.end rest at).1 none in not_both _ ended c.if-not-branch-4.true)))

pub returns-clause-same : goal.returns-clause-same
returns-clause-same g c =
    let image = c.args.level.now in
    let below = c.args.below in
    let body = body_text 2 image below in
    let header_bytes = header_text 2 image.level image.limit below in
    let entry_bytes = flat_map entry_text image.entries in
    let header : c.header_of-header.result ≡ header_text 2 image.level image.limit below =
    c.header_of-header.ensures ∙ ap (λ (n : ℕ). header_text 2 n c.limit.result below) c.number.ensures.number ∙ ap (λ (n : ℕ). header_text 2 image.level n below) c.limit.ensures in
    let entries : entry_bytes ≡ entry_bytes = refl in
    let hashed = c.in_ok-has_entries.ensures.holds (ap (λ (b : Bool). Ok b) c.if-not-branch-2.false) c.header_of-header.result (c.update.ensures [] c.new-hasher.ensures) in
    let digest : c.finalize-digest.result ≡ sha256 body = c.finalize-digest.ensures body (subst (Holds256 c.has_entries.new.hasher) (ap (λ (l : List ℕ). l ++ entry_bytes) header ∙ ap (λ (l : List ℕ). header_bytes ++ l) entries) hashed) in
    known_intro _ _ (λ xs known. some_if c.finalize-digest.result _ (all_met xs body (sha256 body) _ (met_more xs body (sha256 body) _ _ (met_more xs header_bytes entry_bytes _ _ (met_as _ true xs _ _ _ c.if-not-branch.false header (c.in_ok-has_next.ensures.met xs known)) (λ rest at. met_as _ true rest _ _ _ c.if-not-branch-2.false entries (c.in_ok-has_entries.ensures.met rest at))) (λ rest at. met_as _ true rest _ _ _ c.if-not-branch-3.false digest (c.in_ok-has_next-2.ensures.met rest at)))
    (λ rest at. (c.in_ok-is_at_end.ensures.end rest at).0 c.if-not-branch-4.false)))

pub returns-clause-digest : goal.returns-clause-digest
returns-clause-digest g c =
    let image = c.args.level.now in
    let below = c.args.below in
    let body = body_text 2 image below in
    let header_bytes = header_text 2 image.level image.limit below in
    let entry_bytes = flat_map entry_text image.entries in
    let header : c.header_of-header.result ≡ header_text 2 image.level image.limit below =
    c.header_of-header.ensures ∙ ap (λ (n : ℕ). header_text 2 n c.limit.result below) c.number.ensures.number ∙ ap (λ (n : ℕ). header_text 2 image.level n below) c.limit.ensures in
    let entries : entry_bytes ≡ entry_bytes = refl in
    let hashed = c.in_ok-has_entries.ensures.holds (ap (λ (b : Bool). Ok b) c.if-not-branch-2.false) c.header_of-header.result (c.update.ensures [] c.new-hasher.ensures) in
    let digest : c.finalize-digest.result ≡ sha256 body = c.finalize-digest.ensures body (subst (Holds256 c.has_entries.new.hasher) (ap (λ (l : List ℕ). l ++ entry_bytes) header ∙ ap (λ (l : List ℕ). header_bytes ++ l) entries) hashed) in
    digest

pub returns-clause-has : goal.returns-clause-has
returns-clause-has g c =
    has_file c.args.level.now c.args.below c.number.ensures.level (c.in_ok-has_entries.ensures.fit (ap (λ (b : Bool). Ok b) c.if-not-branch-2.false)) (omega arith) (omega arith)
    (λ i. (elem_Fits w8 w8 c.args.below c.well_formed.1.0.0 i c.well_formed.1.0.1.1 tt).fits)
