use Rattle.std.proofs.Common.{◌≡◌, ◌≤◌, ◌*◌, ◌∙◌, ◌++◌, [], List, ℕ, refl, sym, ap, arith, min, append_assoc, subst}
use Rattle.std.proofs.lemmas.List.{append-nil}
use Rattle.std.proofs.lemmas.Result.{err_from_is_err_and}
use Rattle.awari_streams.specs.Counted.{inner_of, faults_of}
use Rattle.awari_table.specs.declared.images.Entry.{Entry}
use Rattle.awari_file.specs.declared.faults.FileFault.{FileFault}
use Rattle.awari_file.specs.declared.faults.FileFault.TheVariants.{Truncated}
use Rattle.awari_file.specs.declared.sizes.TheConstants.{BUFFERED}
use Rattle.awari_file.specs.Reading.{entries_at}
use Rattle.awari_file.specs.Sealing.{Tells}
use Rattle.awari_file.specs.Source.{HasFault, StopsIn}
use Rattle.awari_file.proofs.FieldLaws.{took}
use Rattle.awari_file.proofs.FileLaws.{entries-is, fails_along}
use Rattle.awari_file.proofs.Steps.{stops_along}
use Rattle.awari_file.proofs.Loop.{with_front-nil, nothing_yet, more_come, some_right, some_go_on, some_end, all_done}
use Rattle.awari_file.proofs.reading.read_entries.Goals as goal

pub loop-left-init : goal.loop-left-init
loop-left-init g c = record {
  within = omega arith;
  faults = refl;
  read = λ whole left here. ([], left, [], sym (append-nil c.args.entries.now), here, refl, λ more. with_front-nil (entries_at c.args.count Truncated more), nothing_yet c.args.count Truncated left);
}

pub returns-in_err-read_some-clause-parsed : goal.returns-in_err-read_some-clause-parsed
returns-in_err-read_some-clause-parsed g c = λ whole left here.
    let p = err_from_is_err_and c.from_residual.result c.from_residual.ensures.1 in
    let (new, rest, taken, items, at, parts, so_far, come) = c.loop-left.invariant.read whole left here in
    let a = c.min-some.result in
    let le : a ≤ c.loop-left.left = omega (arith, c.min-some.ensures) in
    rw (p.1, p.2) (fails_along c.in_err-read_some.field-0.0 (entries_at a Truncated rest) (entries_at c.args.count Truncated left)
    (λ h. ap (entries_at c.args.count Truncated) parts ∙ some_end c.in_err-read_some.field-0.0 new c.loop-left.left a Truncated rest (entries_at c.args.count Truncated (taken ++ rest)) le (so_far rest) h)
    (c.in_err-read_some.ensures.parsed whole rest at))

pub returns-in_err-read_some-clause-stops : goal.returns-in_err-read_some-clause-stops
returns-in_err-read_some-clause-stops g c = λ whole left here.
    let p = err_from_is_err_and c.from_residual.result c.from_residual.ensures.1 in
    let (new, rest, taken, items, at, parts, so_far, come) = c.loop-left.invariant.read whole left here in
    let a = c.min-some.result in
    let le : a ≤ c.loop-left.left = omega (arith, c.min-some.ensures) in
    let known = g.R.Read.remaining (inner_of c.read_some.new.reader) in
    let along : (d : FileFault) → StopsIn (HasFault d (entries_at a)) rest known → StopsIn (HasFault d (entries_at c.args.count)) left known = λ d stop. record {
      came = taken ++ stop.came;
      rest = stop.rest;
      known_is = stop.known_is;
      parts = parts ∙ ap (λ (l : List ℕ). taken ++ l) stop.parts ∙ sym (append_assoc taken stop.came stop.rest);
      kind = some_end d new c.loop-left.left a Truncated stop.came (entries_at c.args.count Truncated (taken ++ stop.came)) le (so_far stop.came) stop.kind;
    } in
    rw (p.1, p.2) (stops_along _ _ (λ d. HasFault d (entries_at a)) (λ d. HasFault d (entries_at c.args.count)) _ _ rest left known c.in_err-read_some.field-0.0 (along Truncated) along
    (some_right new c.loop-left.left a (min c.args.count BUFFERED) Truncated rest c.args.count left (omega (arith, c.min-some.ensures, c.loop-left.invariant.within)) c.loop-left.invariant.within le come)
    (c.in_err-read_some.ensures.stops whole rest at))

pub returns-in_err-read_some-clause-counted : goal.returns-in_err-read_some-clause-counted
returns-in_err-read_some-clause-counted g c =
    let p = err_from_is_err_and c.from_residual.result c.from_residual.ensures.1 in
    rw (p.1, p.2) (subst (λ (n : ℕ). Tells c.in_err-read_some.field-0.0 n (faults_of c.read_some.new.reader)) c.loop-left.invariant.faults c.in_err-read_some.ensures.counted)

pub loop-left-preserved : goal.loop-left-preserved
loop-left-preserved g c =
    let a = c.min-some.result in
    let le : a ≤ c.loop-left.left = omega (arith, c.min-some.ensures) in
    record {
      within = omega (arith, c.loop-left.invariant.within);
      faults = c.in_ok-read_some.ensures.counted ∙ c.loop-left.invariant.faults;
      read = λ whole left here.
          let (new, rest, taken, items, at, parts, so_far, come) = c.loop-left.invariant.read whole left here in
          let (more, after, items2, at2, gives) = c.in_ok-read_some.ensures.parsed whole rest at in
          let t = took (List Entry) (6 * a) (entries_at a) (entries-is a) Truncated Truncated rest (more, after) gives in (
            new ++ more,
            after,
            taken ++ t.front,
            items2 ∙ ap (λ (l : List Entry). l ++ more) items ∙ append_assoc c.args.entries.now new more,
            at2,
            parts ∙ ap (λ (l : List ℕ). taken ++ l) t.parts ∙ sym (append_assoc taken t.front after),
            λ behind. some_go_on new more c.loop-left.left a Truncated (t.front ++ behind) behind (entries_at c.args.count Truncated (taken ++ (t.front ++ behind))) le (t.again behind) (so_far (t.front ++ behind))
                ∙ ap (entries_at c.args.count Truncated) (sym (append_assoc taken t.front behind)),
            more_come new more c.loop-left.left a c.args.count Truncated rest after left c.loop-left.invariant.within le come gives,
          );
    }

pub returns-clause-parsed : goal.returns-clause-parsed
returns-clause-parsed g c = λ whole left here.
    let (new, rest, taken, items, at, parts, so_far, come) = c.loop-left.invariant.read whole left here in
    let none : c.loop-left.left ≡ 0 = omega arith in
    (new, rest, items, at, ap (entries_at c.args.count Truncated) parts ∙ all_done new c.loop-left.left Truncated rest (entries_at c.args.count Truncated (taken ++ rest)) none (so_far rest))
