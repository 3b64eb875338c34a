use Rattle.std.proofs.Common.{◌∙◌, ◌++◌, ℕ, List, arith, take, drop, sym, ap, subst, append_assoc}
use Rattle.std.specs.List.{flat_map}
use Rattle.sha2.specs.Hashers.{Holds256}
use Rattle.awari_file.specs.FileText.{entry_text}
use Rattle.awari_file.proofs.WriteLaws.{run_more}
use Rattle.awari_file.proofs.sealing.hash_entries.Goals as goal

pub loop-from-preserved : goal.loop-from-preserved
loop-from-preserved c =
    let entries = c.args.entries.now in
    let from = c.loop-from.from in
    let count = c.min-some.result in
    record {
      sized = c.loop-from.invariant.sized;
      within = omega (arith, c.min-some.ensures, c.loop-from.invariant.within);
      holds = λ m held.
          let first = flat_map entry_text (take from entries) in
          let more = flat_map entry_text (take count (drop from entries)) in
          subst (Holds256 c.hash_run.new.hasher) (append_assoc m first more ∙ ap (λ (l : List ℕ). m ++ l) (sym (run_more entries from count))) (c.hash_run.ensures (m ++ first) (c.loop-from.invariant.holds m held));
    }
