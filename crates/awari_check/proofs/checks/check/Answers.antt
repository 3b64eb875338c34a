use Rattle.std.proofs.Common.{◌≡◌, ◌∙◌, sym}
use Rattle.std.proofs.lemmas.Result.{err_from_is_err_and}
use Rattle.awari_table.proofs.TextLaws.{images_are}
use Rattle.awari_theory.proofs.Truths.{TellsTruth-shelf}
use Rattle.awari_check.proofs.CheckLaws.{checked_more, checked_all, checked_text, checked_stop, no_check_fault, refused_only, refused_exact}
use Rattle.awari_check.proofs.checks.check.Goals as goal

pub returns-in_err-image-clause-only : goal.returns-in_err-image-clause-only
returns-in_err-image-clause-only c =
    let p = err_from_is_err_and c.from_residual.result c.from_residual.ensures.1 in
    let f = checked_text c.args.bytes.now c.loop-shelf.shelf c.loop-shelf.text c.next.new.self c.in_err-image.field-0.0 c.loop-shelf.invariant c.in_err-image.ensures.reads in
    refused_only c.args.bytes.now c.from_residual.result p.0 (λ images shelf. shelf ≡ images) p.1 (rw p.2 f)

pub returns-in_err-image-clause-exact : goal.returns-in_err-image-clause-exact
returns-in_err-image-clause-exact c =
    let p = err_from_is_err_and c.from_residual.result c.from_residual.ensures.1 in
    let f = checked_text c.args.bytes.now c.loop-shelf.shelf c.loop-shelf.text c.next.new.self c.in_err-image.field-0.0 c.loop-shelf.invariant c.in_err-image.ensures.reads in
    refused_exact c.args.bytes.now c.from_residual.result p.0 p.1 (rw p.2 f)

pub loop-shelf-preserved : goal.loop-shelf-preserved
loop-shelf-preserved c =
    checked_more _ _ _ c.loop-shelf.text c.in-Some.image c.next.new.self c.loop-shelf.invariant (rw c.in-Some.is at c.in_ok-image.ensures.reads) c.in_ok-put_on.ensures.ok c.in_ok-put_on.ensures.shelf

pub returns-in_err-put_on-clause-only : goal.returns-in_err-put_on-clause-only
returns-in_err-put_on-clause-only c =
    let p = err_from_is_err_and c.from_residual-in_err-put_on.result c.from_residual-in_err-put_on.ensures.1 in
    let f = checked_stop c.args.bytes.now c.loop-shelf.shelf c.loop-shelf.text c.in-Some.image c.next.new.self c.in_err-put_on.field-0.0 c.loop-shelf.invariant (rw c.in-Some.is at c.in_ok-image.ensures.reads) c.in_err-put_on.ensures.fault in
    refused_only c.args.bytes.now c.from_residual-in_err-put_on.result p.0 (λ images shelf. shelf ≡ images) p.1 (rw p.2 f)

pub returns-in_err-put_on-clause-fault : goal.returns-in_err-put_on-clause-fault
returns-in_err-put_on-clause-fault c =
    let p = err_from_is_err_and c.from_residual-in_err-put_on.result c.from_residual-in_err-put_on.ensures.1 in
    let f = checked_stop c.args.bytes.now c.loop-shelf.shelf c.loop-shelf.text c.in-Some.image c.next.new.self c.in_err-put_on.field-0.0 c.loop-shelf.invariant (rw c.in-Some.is at c.in_ok-image.ensures.reads) c.in_err-put_on.ensures.fault in
    rw (p.1, p.2) f

pub returns-in_err-put_on-clause-exact : goal.returns-in_err-put_on-clause-exact
returns-in_err-put_on-clause-exact c =
    let p = err_from_is_err_and c.from_residual-in_err-put_on.result c.from_residual-in_err-put_on.ensures.1 in
    let f = checked_stop c.args.bytes.now c.loop-shelf.shelf c.loop-shelf.text c.in-Some.image c.next.new.self c.in_err-put_on.field-0.0 c.loop-shelf.invariant (rw c.in-Some.is at c.in_ok-image.ensures.reads) c.in_err-put_on.ensures.fault in
    refused_exact c.args.bytes.now c.from_residual-in_err-put_on.result p.0 p.1 (rw p.2 f)

pub returns-clause-only : goal.returns-clause-only
returns-clause-only c =
    let a = checked_all c.args.bytes.now c.loop-shelf.shelf c.loop-shelf.text c.next.new.self c.loop-shelf.invariant (rw c.in_default.is at c.in_ok-image.ensures.reads) in
    λ images s. (images_are c.loop-shelf.shelf images a.fits s.fits (sym a.parts ∙ s.parts), tt)

pub returns-clause-exact : goal.returns-clause-exact
returns-clause-exact c =
    let a = checked_all c.args.bytes.now c.loop-shelf.shelf c.loop-shelf.text c.next.new.self c.loop-shelf.invariant (rw c.in_default.is at c.in_ok-image.ensures.reads) in
    λ fault other due. absurd (no_check_fault c.args.bytes.now c.loop-shelf.shelf fault other a due)

pub returns-clause-meaning : goal.returns-clause-meaning
returns-clause-meaning c =
    let a = checked_all c.args.bytes.now c.loop-shelf.shelf c.loop-shelf.text c.next.new.self c.loop-shelf.invariant (rw c.in_default.is at c.in_ok-image.ensures.reads) in
    TellsTruth-shelf c.loop-shelf.shelf a.shelf
