use Rattle.std.proofs.Common.{◌≡◌, ◌+◌, ◌++◌, ℕ, Bool, List, Ok, All, true, false, arith, refl, sym, ap, subst, take, drop, append_assoc}
use Rattle.std.proofs.Math.Seq.{take-add}
use Rattle.std.specs.List.{flat_map}
use Rattle.std.proofs.lemmas.List.Elements.{All-append}
use Rattle.sha2.specs.Hashers.{Holds256}
use Rattle.awari_table.specs.Spelling.{FitsNumbers}
use Rattle.awari_file.specs.FileText.{entry_text}
use Rattle.awari_file.specs.Source.{Meets}
use Rattle.awari_file.proofs.Meeting.{met_as, met_more, met_no_more}
use Rattle.awari_file.proofs.WriteLaws.{run_more, run_within}
use Rattle.awari_file.proofs.comparing.has_entries.Goals as goal

pub returns-then-not-branch-clause-met : goal.returns-then-not-branch-clause-met
returns-then-not-branch-clause-met g c = λ left known.
    let entries = c.args.level.now.entries in
    let from = c.loop-from.from in
    let count = c.min-count.result in
    subst (λ (l : List ℕ). (rest : List ℕ) → left ≡ l ++ rest → ⊥) (sym (run_within entries from count))
    (met_no_more left (flat_map entry_text (take from entries)) (flat_map entry_text (take count (drop from entries))) (flat_map entry_text (drop (from + count) entries)) _ (c.loop-from.invariant.met left known)
    (λ rest at. met_as _ false rest _ _ _ c.if-not-branch.true refl (c.in_ok-has_run.ensures.met rest at)))

pub loop-from-preserved : goal.loop-from-preserved
loop-from-preserved g c =
    let entries = c.args.level.now.entries in
    let from = c.loop-from.from in
    let count = c.min-count.result in
    let was = c.loop-from.invariant in
    let done = flat_map entry_text (take from entries) in
    let run = flat_map entry_text (take count (drop from entries)) in
    record {
      sized = was.sized;
      within = omega (arith, c.min-count.ensures, was.within);
      met = λ left known. subst (Meets true left _) (sym (run_more entries from count))
          (met_more left done run _ _ (was.met left known) (λ rest at. met_as _ true rest _ _ _ c.if-not-branch.false refl (c.in_ok-has_run.ensures.met rest at)));
      holds = λ m held. subst (λ (l : List ℕ). Holds256 c.has_run.new.hasher (m ++ l)) (sym (run_more entries from count))
          (subst (Holds256 c.has_run.new.hasher) (append_assoc m done run) (c.in_ok-has_run.ensures.holds (ap (λ (b : Bool). Ok b) c.if-not-branch.false) (m ++ done) (was.holds m held)));
      faults = omega (arith, was.faults, c.in_ok-has_run.ensures.refused);
      fit = subst (All FitsNumbers) (sym (take-add from count entries)) (All-append FitsNumbers (take from entries) _ was.fit c.has_run.ensures.fit);
    }
