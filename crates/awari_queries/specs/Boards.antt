-- Which spans are asked for of boards.
use Rattle.std.specs.Prelude.{ℕ, List, Option}
use Rattle.std.specs.Borrow.{Bor}
use Rattle.awari_queries.specs.Spans.{AsksFor, AsksForNone}
use Rattle.awari_queries.specs.declared.boards.BoardSpans.{BoardSpans}
use Rattle.awari_queries.specs.declared.boards.Spans.{Spans}
use Rattle.awari_queries.specs.declared.spans.NoSpan.{NoSpan}
use Rattle.awari_queries.specs.declared.spans.NoSpan.TheVariants.{Value, Distance, Plan, Captures, Greedy, Side, Moves, Keep, Trap, Other}
use Rattle.awari_queries.specs.declared.spans.Span.{Span}

-- these are the spans that the words name
pub record AreAskedFor (words : BoardSpans) (spans : Spans) : Type 0 where
  pub value : AsksFor words.value spans.value
  pub distance : AsksFor words.distance spans.distance
  pub plan : AsksFor words.plan spans.plan
  pub captures : AsksFor words.captures spans.captures
  pub greedy : AsksFor words.greedy spans.greedy
  pub side : AsksFor words.side spans.side
  pub moves : AsksFor words.moves spans.moves
  pub keep : AsksFor words.keep spans.keep
  pub trap : AsksFor words.trap spans.trap
  pub other : AsksFor words.other spans.other

-- the word asks for a span, or there is none
abbrev pub AsksForSome : Option (Bor (List ℕ)) → Type 0
AsksForSome word = (span : Option Span) × AsksFor word span

-- the word of this option is no span, and no word before it is none
abbrev pub HasNoSpan : BoardSpans → NoSpan → Type 0
HasNoSpan words Value = AsksForNone words.value
HasNoSpan words Distance = AsksForSome words.value × AsksForNone words.distance
HasNoSpan words Plan = AsksForSome words.value × AsksForSome words.distance × AsksForNone words.plan
HasNoSpan words Captures = AsksForSome words.value × AsksForSome words.distance × AsksForSome words.plan × AsksForNone words.captures
HasNoSpan words Greedy =
    AsksForSome words.value × AsksForSome words.distance × AsksForSome words.plan × AsksForSome words.captures × AsksForNone words.greedy
HasNoSpan words Side =
    AsksForSome words.value × AsksForSome words.distance × AsksForSome words.plan × AsksForSome words.captures
    × AsksForSome words.greedy × AsksForNone words.side
HasNoSpan words Moves =
    AsksForSome words.value × AsksForSome words.distance × AsksForSome words.plan × AsksForSome words.captures
    × AsksForSome words.greedy × AsksForSome words.side × AsksForNone words.moves
HasNoSpan words Keep =
    AsksForSome words.value × AsksForSome words.distance × AsksForSome words.plan × AsksForSome words.captures
    × AsksForSome words.greedy × AsksForSome words.side × AsksForSome words.moves × AsksForNone words.keep
HasNoSpan words Trap =
    AsksForSome words.value × AsksForSome words.distance × AsksForSome words.plan × AsksForSome words.captures
    × AsksForSome words.greedy × AsksForSome words.side × AsksForSome words.moves × AsksForSome words.keep × AsksForNone words.trap
HasNoSpan words Other =
    AsksForSome words.value × AsksForSome words.distance × AsksForSome words.plan × AsksForSome words.captures
    × AsksForSome words.greedy × AsksForSome words.side × AsksForSome words.moves × AsksForSome words.keep × AsksForSome words.trap
    × AsksForNone words.other
