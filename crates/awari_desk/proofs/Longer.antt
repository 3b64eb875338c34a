-- What is known grows with each answer.
use Rattle.std.proofs.Common.{◌≡◌, ℕ, Bool, false, List, Result, Ok, Err, inl, inr, subst, sym}
use Rattle.awari_play.specs.declared.weighing.Weighed.{Weighed}
use Rattle.awari_table.specs.declared.images.Entry.{Entry}
use Rattle.awari_table.specs.declared.images.Image.{Image}
use Rattle.awari_desk.specs.Books.{BeginsWith}
use Rattle.awari_desk.specs.Desks.{IsAnswer, IsWeighing, by_reader}
use Rattle.awari_desk.specs.Service.{Answered, none, more, Served, ended, unended, quits, IsAnswerTo}
use Rattle.awari_desk.specs.declared.answers.Answer.{Answer}
use Rattle.awari_desk.specs.declared.answers.Answer.TheVariants.{Found, Moves, Probed, Unprobed, Unanswered, Refused, Seen, Bye, What}
use Rattle.awari_desk.specs.declared.faults.AskFault.{AskFault}
use Rattle.awari_desk.specs.declared.faults.AskFault.TheVariants.{NotYet, Gone}
use Rattle.awari_desk.specs.declared.faults.ProbeFault.TheVariants.{Board, Ask}
use Rattle.awari_desk.proofs.Grows.{begins_all, begins_more}

same : (known book : List Image) → book ≡ known → BeginsWith book known
same known book e = subst (λ (b : List Image). BeginsWith b known) (sym e) (begins_all known)

moves_grow : (known : List Image) (replies : Bool) (book : List Image) (board : List ℕ) (said : Result Weighed AskFault) → IsWeighing replies known book board said → BeginsWith book known
moves_grow known replies book board (Ok weighed) is = is.0.begins
moves_grow known replies book board (Err (NotYet levels)) is = is.0.begins
moves_grow known replies book board (Err Gone) is = same known book is

entry_grows : (known book : List Image) (board : List ℕ) (said : Result Entry AskFault) → IsAnswer known book board said → BeginsWith book known
entry_grows known book board (Ok entry) is = is.0.begins
entry_grows known book board (Err (NotYet levels)) is = is.0.begins
entry_grows known book board (Err Gone) is = same known book is

answer_grows : (known : List Image) (line : List ℕ) (answer : Answer AskFault) (book : List Image) → IsAnswerTo by_reader known line answer book → BeginsWith book known
answer_grows known line (Found e) book is = let (board, b, l, said) = is in entry_grows known book board (Ok e) said
answer_grows known line (Moves w) book is = let (board, replies, b, l, said) = is in moves_grow known replies book board (Ok w) said
answer_grows known line (Probed board w) book is = let (b, l, said) = is in moves_grow known false book board (Ok w) said
answer_grows known line (Unprobed request (Board f)) book is = let (text, l, short, fault, e) = is.1 in same known book e
answer_grows known line (Unprobed request (Ask f)) book is = let (board, b, l, said) = is.1 in moves_grow known false book board (Err f) said
answer_grows known line (Unanswered f) book (board, b, inl (l, said)) = entry_grows known book board (Err f) said
answer_grows known line (Unanswered f) book (board, b, inr (replies, l, said)) = moves_grow known replies book board (Err f) said
answer_grows known line (Refused f) book is = let (text, l, short, fault, e) = is in same known book e
answer_grows known line (Seen n) book is = let (l, n, e) = is in same known book e
answer_grows known line Bye book is = let (l, e) = is in same known book e
answer_grows known line What book is = let (l, e) = is in same known book e

pub answered_grow : (first last : List Image) (input output : List ℕ) → Answered by_reader first input output last → BeginsWith last first
answered_grow first last input output (none book) = begins_all _
answered_grow first last input output (more f known book before wrote line answer a one is other) =
    begins_more f known book (answered_grow f known before wrote a) (answer_grows known line answer book is)

pub served_grow : (first last : List Image) (input output : List ℕ) → Served by_reader first input output last → BeginsWith last first
served_grow first last input output (ended f l i o a) = answered_grow f l i o a
served_grow first last input output (unended f known l i o line answer a one some is) =
    begins_more f known l (answered_grow f known i o a) (answer_grows known line answer l is)
served_grow first last input output (quits f known l i o line rest a one is) =
    begins_more f known l (answered_grow f known i o a) (answer_grows known line Bye l is)
