use Rattle.std.proofs.Common.{◌≡◌, ◌<◌, ◌+◌, ◌-◌, List, Option, ℤ, Some, arith, length, slice_get, sym, subst}
use Rattle.std.specs.Prelude.{IfSome}
use Rattle.awari_rank.specs.Tuples.{tuples}
use Rattle.awari_levels.proofs.WantedLaws.{copied-key}
use Rattle.awari_levels.specs.Listing.{key_if}
use Rattle.awari_levels.proofs.segments.known_key.Goals as goal

pub returns : goal.returns
returns c = λ wanted images level board keys listed.
    let at : c.args.rank ≡ c.in_ok-first.first + (c.args.rank - c.in_ok-first.first) = omega (arith, c.if-rank-first.false) in
    subst (λ found. IfSome found (λ key. key ≡ key_if wanted images board)) (sym c.copied.ensures)
    (copied-key c.get.result c.deref.result.now (c.args.rank - c.in_ok-first.first) (key_if wanted images board) c.get.ensures.lookup.0 c.get.ensures.lookup.1
    (λ inside. subst (λ (items : List (Option ℤ)). slice_get items (c.args.rank - c.in_ok-first.first) ≡ Some (key_if wanted images board)) (sym c.deref.ensures.value)
    (keys.keys c.in_ok-first.first (c.args.rank - c.in_ok-first.first) board c.in_ok-first.was
    (subst (λ (items : List (Option ℤ)). c.args.rank - c.in_ok-first.first < length items) c.deref.ensures.value inside)
    (subst (λ r. slice_get (tuples 12 level) r ≡ Some board) at listed))))
