use Rattle.std.proofs.Common.{Result, Ok, Err, OnOk, IsOk, ap, subst}
use Rattle.std.proofs.lemmas.Bool.{false≢true}
use Rattle.awari_desk.specs.Desks.{book_of}
use Rattle.awari_builds.specs.Serving.{IsServed}
use Rattle.awari_builds.proofs.serving.serve_beside.Goals as goal

-- what is promised of a result that is ok
promised : {T E : Type 0} (K : Type 0) (r : Result T E) → IsOk r → OnOk r K → K
promised K (Ok x) ok kept = kept
promised K (Err e) ok kept = absurd (false≢true ok)

pub returns-clause-served : goal.returns-clause-served
returns-clause-served g c = (
  c.in_ok-stored.stored.shelf,
  c.in_ok-stored.stored.digest,
  c.in_ok-publisher.ensures.shelf,
  c.in_ok-stored.ensures.exact,
  subst (λ known. IsServed known (g.R.Read.remaining c.args.streams.now.input) (g.W.Write.contents c.args.streams.now.output) (g.W.Write.contents c.serve_lines-served.new.writer))
      c.in_ok-publisher.ensures.known c.in_ok-served.ensures,
)

pub returns-clause-grown : goal.returns-clause-grown
returns-clause-grown g c = λ top.
    let kept = rw (c.in-Ok.ensures.ok) at c.join-publisher.ensures in
    let (shelf, high) = promised _ c.join-publisher.result.1 (c.in_ok-end.ensures.to_top.0 (ap Ok top)) kept in
    (book_of c.join-publisher.result.0.pages, shelf, high)
