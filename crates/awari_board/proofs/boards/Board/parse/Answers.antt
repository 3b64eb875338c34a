use Rattle.std.proofs.Common.{◌≡◌, ◌≤◌, ◌<◌, sum, ap, subst, arith, rules, tests, Ok}
use Rattle.awari_board.specs.Text.{IsReadAs, text_of}
use Rattle.awari_board.specs.Rules.{IsBoard}
use Rattle.awari_board.specs.declared.text.BoardFault.TheVariants.{Shape, Number, TooMany}
use Rattle.awari_board.proofs.Parsing.{fine, only-read}
use Rattle.awari_board.proofs.boards.Board.parse.Goals as goal

pub returns-then-not-is_shaped-clause-read : goal.returns-then-not-is_shaped-clause-read
returns-then-not-is_shaped-clause-read c = λ b. (
  λ never. cc,
  λ (whole, is). absurd (fine c.args.text.now b Shape (λ shape. let yes = c.is_shaped.ensures.1 shape in search (rules, tests)) whole is),
)

pub returns-in_default-clause-read : goal.returns-in_default-clause-read
returns-in_default-clause-read c = λ b. (λ never. cc, λ (whole, is). absurd (fine c.args.text.now b Number c.in_default.ensures.none whole is))

pub returns-then-total-gt48-clause-read : goal.returns-then-total-gt48-clause-read
returns-then-total-gt48-clause-read c =
    let read : IsReadAs c.args.text.now c.in-Some.pits = c.in-Some.ensures.read in
    let many : 48 < sum c.in-Some.pits = omega arith in
    λ b. (λ never. cc, λ (whole, is). absurd (fine c.args.text.now b TooMany (c.in-Some.pits, read, many) whole is))

pub returns-clause-read : goal.returns-clause-read
returns-clause-read c =
    let read : IsReadAs c.args.text.now c.in-Some.pits = c.in-Some.ensures.read in
    let few : sum c.in-Some.pits ≤ 48 = omega arith in
    λ b. (λ same. let e : c.in-Some.pits ≡ b = cc in (subst IsBoard e (record { pits = read.size; stones = few }), subst (λ b. c.args.text.now ≡ text_of b) e read.read), λ (whole, is). ap Ok (only-read c.args.text.now c.in-Some.pits read b whole is))
