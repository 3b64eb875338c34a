use Rattle.std.proofs.Common.{arith}
use Rattle.awari_unmove.proofs.OwnSide.{IsNextEnd-from_search, IsOwnSearch-next, own_unmoves-gives, own_unmoves-none}
use Rattle.awari_unmove.proofs.own.next_own.Goals as goal

pub returns-then-steps-eq0-clause-given : goal.returns-then-steps-eq0-clause-given
returns-then-steps-eq0-clause-given c =
    let none = own_unmoves-none _ _ _ c.requires c.if-steps-eq0.true in
    (none, none)

pub taken_back-requires-clause-from : goal.taken_back-requires-clause-from
taken_back-requires-clause-from c =
    let next = IsNextEnd-from_search _ _ _ c.requires (omega (arith, c.if-steps-eq0.false)) in
    let before = next.here.before in
    omega (arith, before)

pub taken_back-requires-clause-own : goal.taken_back-requires-clause-own
taken_back-requires-clause-own c = (IsNextEnd-from_search _ _ _ c.requires (omega (arith, c.if-steps-eq0.false))).own

pub taken_back-requires-clause-held : goal.taken_back-requires-clause-held
taken_back-requires-clause-held c = (IsNextEnd-from_search _ _ _ c.requires (omega (arith, c.if-steps-eq0.false))).here.held

pub returns-clause-search : goal.returns-clause-search
returns-clause-search c = IsOwnSearch-next _ _ _ _ _ _ c.requires (IsNextEnd-from_search _ _ _ c.requires (omega (arith, c.if-steps-eq0.false)))

pub returns-clause-given : goal.returns-clause-given
returns-clause-given c = own_unmoves-gives _ _ _ _ _ _ _ c.requires (IsNextEnd-from_search _ _ _ c.requires (omega (arith, c.if-steps-eq0.false))) c.taken_back.ensures
