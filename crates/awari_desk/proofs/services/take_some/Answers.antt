use Rattle.std.proofs.Common.{◌≡◌, ◌<◌, rules, arith, List, [], ℕ, length, take, inl, refl}
use Rattle.std.proofs.lemmas.Result.{err_from_is_err_and}
use Rattle.awari_streams.specs.Counted.{inner_of}
use Rattle.awari_desk.specs.Service.{HasServed, HasBegun}
use Rattle.awari_desk.proofs.Serves.{begun, begun_here, breaks_at_once, nothing_in, few_taken, quits_whole, breaks_whole, quits_in, breaks_in}
use Rattle.awari_desk.proofs.services.take_some.Goals as goal

pub returns-in-Err-clause-moves : goal.returns-in-Err-clause-moves
returns-in-Err-clause-moves g c first before taken s =
    breaks_at_once first before _ (g.R.Read.remaining (inner_of c.args.input.now)) _ taken c.args.left (begun first before taken _ _ _ s [])

pub returns-in_err-finish-clause-moves : goal.returns-in_err-finish-clause-moves
returns-in_err-finish-clause-moves g c first before taken s =
    let zero : c.in-Ok.count ≡ 0 = grind (arith, c.if-count-eq0.true) in
    let room : 0 < length c.read.new.buf = search rules in
    let (came, end) = c.in-Ok.ensures.bytes in
    let p = err_from_is_err_and c.from_residual.result c.from_residual.ensures.1 in
    let (is, b) = nothing_in (λ (l : List ℕ). HasBegun g.O.Oracle.answering first before l (g.W.Write.contents (inner_of c.finish.new.output)) c.finish.new.oracle) _ _ taken c.read.new.buf c.in-Ok.count zero came (end zero room) (c.in_err-finish.ensures.ends first before taken s) in
    rw p.1 ([], [], is, omega arith, b)

pub returns-then-count-eq0-clause-moves : goal.returns-then-count-eq0-clause-moves
returns-then-count-eq0-clause-moves g c first before taken s =
    let zero : c.in-Ok.count ≡ 0 = grind (arith, c.if-count-eq0.true) in
    let room : 0 < length c.read.new.buf = search rules in
    let (came, end) = c.in-Ok.ensures.bytes in
    let (is, served) = nothing_in (λ (l : List ℕ). HasServed g.O.Oracle.answering first before l (g.W.Write.contents (inner_of c.finish.new.output)) c.finish.new.oracle) _ _ taken c.read.new.buf c.in-Ok.count zero came (end zero room) (c.in_ok-finish.ensures.ends first before taken s) in
    ([], [], is, omega arith, inl (refl, served))

pub returns-in_err-feed-clause-moves : goal.returns-in_err-feed-clause-moves
returns-in_err-feed-clause-moves g c first before taken s =
    let p = err_from_is_err_and c.from_residual-in_err-feed.result c.from_residual-in_err-feed.ensures.1 in
    rw p.1 (breaks_whole first before _ _ _ _ taken (take c.in-Ok.count c.read.new.buf) c.args.left c.in-Ok.ensures.bytes.0 (few_taken c.read.new.buf c.in-Ok.count c.args.left (omega (arith, c.if-count-left.true))) (c.in_err-feed.ensures.feeds first before taken s))

pub returns-then-branch-clause-moves : goal.returns-then-branch-clause-moves
returns-then-branch-clause-moves g c first before taken s =
    let f = c.in_ok-feed.ensures.feeds first before taken s in
    quits_whole first before _ _ _ _ taken (take c.in-Ok.count c.read.new.buf) c.args.left c.in-Ok.ensures.bytes.0 (few_taken c.read.new.buf c.in-Ok.count c.args.left (omega (arith, c.if-count-left.true))) (f.0 c.if-branch.true)

pub returns-in_err-feed-2-clause-moves : goal.returns-in_err-feed-2-clause-moves
returns-in_err-feed-2-clause-moves g c first before taken s =
    let p = err_from_is_err_and c.from_residual-in_err-feed-2.result c.from_residual-in_err-feed-2.ensures.1 in
    rw p.1 (breaks_in first before _ _ _ _ taken (take c.in-Ok.count c.read.new.buf) c.args.left c.in-Ok.ensures.bytes.0 (c.in_err-feed-2.ensures.feeds first before taken s))

pub returns-then-branch-2-clause-moves : goal.returns-then-branch-2-clause-moves
returns-then-branch-2-clause-moves g c first before taken s =
    let f = c.in_ok-feed-2.ensures.feeds first before taken s in
    quits_in first before _ _ _ _ taken (take c.in-Ok.count c.read.new.buf) c.args.left c.in-Ok.ensures.bytes.0 (f.0 c.if-branch-2.true)

pub returns-clause-moves : goal.returns-clause-moves
returns-clause-moves g c first before taken s =
    let f = c.in_ok-feed-2.ensures.feeds first before taken s in
    breaks_in first before _ _ _ _ taken (take c.in-Ok.count c.read.new.buf) c.args.left c.in-Ok.ensures.bytes.0 (begun_here first before _ _ _ _ (f.1 c.if-branch-2.false))
