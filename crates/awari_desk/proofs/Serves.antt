-- Each step of the service.
use Rattle.std.proofs.Common.{◌≡◌, ◌≢◌, ◌<◌, ◌≤◌, arith, inl, inr, length-append, length-take, ℕ, List, [], ◌∷◌, ◌++◌, length, sym, ap, ◌∙◌, refl, subst, append_assoc, append-nil, Option, Some, None, ◌+◌, take, drop, get_or, take-append-drop, Bool, true, false, ◌↔◌}
use Rattle.std.proofs.lemmas.List.{take_more}
use Rattle.std.proofs.lemmas.Bool.{iff_false, false≢true}
use Rattle.std.proofs.lemmas.List.Elements.{All-nil, All-append, All-cons}
use Rattle.std.specs.Io.KnownBytes.{Appends, Consumes, IsAtEnd}
use Rattle.std.proofs.KnownBytes.{Appends-trans, Appends-nil}
use Rattle.awari_desk.specs.Answering.{Answering}
use Rattle.awari_desk.specs.declared.answers.Answer.{Answer}
use Rattle.awari_desk.specs.declared.answers.Answer.TheVariants.{Found, Moves, Probed, Unprobed, Unanswered, Refused, Seen, Bye, What}
use Rattle.awari_desk.specs.declared.requests.Coming.{Coming}
use Rattle.awari_desk.specs.Service.{Answered, none, more, Served, ended, unended, quits, IsOneLine, IsAnswerTo, answer_text, IsInput, HasServed, HasServedWithin, HasBegun, HasBegunWithin}
use Rattle.awari_desk.specs.Coming.{Holds, Serving, Closes}

-- whether an answer ends the service
abbrev is_bye : {F : Type 0} → Answer F → Bool
is_bye Bye = true
is_bye _ = false

-- some bytes are an input of which this is known
pub some_input : (a : Option (List ℕ)) → (input : List ℕ) × IsInput a input
some_input None = ([], tt)
some_input (Some xs) = (xs, refl)

pub input_at_end : (a : Option (List ℕ)) → IsAtEnd a → IsInput a []
input_at_end None e = tt
input_at_end (Some xs) e = e

pub input_with : (a b : Option (List ℕ)) (bs rest : List ℕ) → Consumes a b bs → IsInput b rest → IsInput a (bs ++ rest)
input_with None b bs rest c i = tt
input_with (Some xs) None bs rest c i = absurd c
input_with (Some xs) (Some ys) bs rest c i = c ∙ ap (λ l. bs ++ l) i

-- bytes of which n were taken
parts_of : (taken came rest : List ℕ) (n : ℕ) → (taken ++ take n came) ++ (drop n came ++ rest) ≡ taken ++ (came ++ rest)
parts_of taken came rest n =
    append_assoc taken (take n came) (drop n came ++ rest) ∙ ap (λ l. taken ++ l) (sym (append_assoc (take n came) (drop n came) rest) ∙ ap (λ l. l ++ rest) (take-append-drop n came))

one_of : (taken bytes : List ℕ) (i : ℕ) → i < length bytes → (taken ++ take i bytes) ++ get_or bytes i 0 ∷ [] ≡ taken ++ take (i + 1) bytes
one_of taken bytes i h = append_assoc taken (take i bytes) (get_or bytes i 0 ∷ []) ∙ ap (λ l. taken ++ l) (sym (take_more bytes i 0 h))

-- bytes that came, of which n count
few_came : (came : List ℕ) (n : ℕ) → length (take n came) ≤ n
few_came came n = let short = length-take n came in omega (arith, short)

-- what came is a front of what the reader had, and so is its own front
came_first : (had has : Option (List ℕ)) (came rest : List ℕ) (n : ℕ) → Consumes had has came → IsInput has rest → IsInput had (take n came ++ (drop n came ++ rest))
came_first had has came rest n c i =
    subst (λ (l : List ℕ). IsInput had l) (ap (λ l. l ++ rest) (sym (take-append-drop n came)) ∙ append_assoc (take n came) (drop n came) rest) (input_with had has came rest c i)

-- nothing more comes
pub nothing_comes : (had has : Option (List ℕ)) → Consumes had has [] → IsAtEnd has → IsInput had []
nothing_comes had has c e = input_with had has [] [] c (input_at_end has e)

pub nothing_in : (Q : List ℕ → Type 0) (had has : Option (List ℕ)) (taken buf : List ℕ) (count : ℕ) → count ≡ 0 → Consumes had has (take count buf) → IsAtEnd has → Q taken
    → IsInput had [] × Q (taken ++ [])
nothing_in Q had has taken buf count zero c e q =
    (nothing_comes had has (subst (λ (n : ℕ). Consumes had has (take n buf)) zero c) e, subst Q (sym (append-nil taken)) q)

-- this many came at most
pub few_taken : (buf : List ℕ) (count left : ℕ) → count ≤ left → length (take count buf) ≤ left
few_taken buf count left low = let short = few_came buf count in omega (arith, short, low)

-- what stands within this many bytes of what is left stands within this many more of the whole input
within : (old had : Option (List ℕ)) (taken : List ℕ) (left most : ℕ) → Consumes old had taken → length taken + left ≡ most → (front behind : List ℕ) → IsInput had (front ++ behind) → length front ≤ left
    → IsInput old ((taken ++ front) ++ behind) × (length (taken ++ front) ≤ most)
within old had taken left most consumed sum front behind is few = (
  subst (λ (l : List ℕ). IsInput old l) (sym (append_assoc taken front behind)) (input_with old had taken (front ++ behind) consumed is),
  let long = length-append taken front in omega (arith, long, sum, few),
)

module _ {S F : Type 0} {asked : Answering S F} where
  -- nothing was taken
  pub starts : (first : S) (before : Option (List ℕ)) (coming : Coming) → Holds coming [] → Serving asked first before [] before first coming
  starts first before coming holds = record {
    done = [];
    request = [];
    output = [];
    parts = refl;
    answered = none first;
    one = All-nil (λ b. b ≢ 10);
    holds = holds;
    wrote = Appends-nil before;
  }

  module _ (first : S) (before : Option (List ℕ)) (taken : List ℕ) (now : Option (List ℕ)) (known : S) (coming : Coming) (s : Serving asked first before taken now known coming) where
    -- one more byte of the request
    pub takes : (byte : ℕ) (next : Coming) → byte ≢ 10 → ((request : List ℕ) → Holds coming request → Holds next (request ++ byte ∷ []))
        → Serving asked first before (taken ++ byte ∷ []) now known next
    takes byte next other holds = record {
      done = s.done;
      request = s.request ++ byte ∷ [];
      output = s.output;
      parts = ap (λ l. l ++ byte ∷ []) s.parts ∙ append_assoc s.done s.request (byte ∷ []);
      answered = s.answered;
      one = All-append (λ b. b ≢ 10) s.request (byte ∷ []) s.one (All-cons (λ b. b ≢ 10) byte [] other (All-nil (λ b. b ≢ 10)));
      holds = holds s.request s.holds;
      wrote = s.wrote;
    }

    -- the request ends
    request_ends : (rest : List ℕ) → taken ++ 10 ∷ rest ≡ s.done ++ (s.request ++ 10 ∷ rest)
    request_ends rest = ap (λ l. l ++ 10 ∷ rest) s.parts ∙ append_assoc s.done s.request (10 ∷ rest)

    module _ (answer : Answer F) (book : S) (is : IsAnswerTo asked known s.request answer book) (after : Option (List ℕ)) where
      -- its answer was written
      pub answers : answer ≢ Bye → Appends now after (answer_text asked answer) → (next : Coming) → Holds next [] → Serving asked first before (taken ++ 10 ∷ []) after book next
      answers other wrote next holds = record {
        done = s.done ++ (s.request ++ 10 ∷ []);
        request = [];
        output = s.output ++ answer_text asked answer;
        parts = request_ends [] ∙ sym (append-nil (s.done ++ (s.request ++ 10 ∷ [])));
        answered = more first known book s.done s.output s.request answer s.answered s.one is other;
        one = All-nil (λ b. b ≢ 10);
        holds = holds;
        wrote = Appends-trans before now after s.output (answer_text asked answer) s.wrote wrote;
      }

      -- it ends the service
      pub ends : answer ≡ Bye → Appends now after (answer_text asked answer) → (rest : List ℕ) → HasServed asked first before ((taken ++ 10 ∷ []) ++ rest) after book
      ends bye wrote rest =
          let served : Served asked first (s.done ++ (s.request ++ 10 ∷ rest)) (s.output ++ answer_text asked Bye) book =
          quits first known book s.done s.output s.request rest s.answered s.one (subst (λ (a : Answer F). IsAnswerTo asked known s.request a book) bye is) in (
            s.output ++ answer_text asked answer,
            subst (λ (i : List ℕ). Served asked first i (s.output ++ answer_text asked answer) book) (sym (append_assoc taken (10 ∷ []) rest ∙ request_ends rest)) (subst (λ (a : Answer F). Served asked first (s.done ++ (s.request ++ 10 ∷ rest)) (s.output ++ answer_text asked a) book) (sym bye) served),
            Appends-trans before now after s.output (answer_text asked answer) s.wrote wrote,
          )

      -- the request with its line feed is served
      request_served : (done output : List ℕ) (request : List ℕ) → Answered asked first done output known → IsOneLine request → (a : Answer F) → IsAnswerTo asked known request a book
          → Served asked first (done ++ (request ++ 10 ∷ [])) (output ++ answer_text asked a) book
      request_served done output request ans one Bye at = quits first known book done output request [] ans one at
      request_served done output request ans one (Found e) at = ended first book _ _ (more first known book done output request (Found e) ans one at (λ x. false≢true (ap is_bye x)))
      request_served done output request ans one (Moves w) at = ended first book _ _ (more first known book done output request (Moves w) ans one at (λ x. false≢true (ap is_bye x)))
      request_served done output request ans one (Probed b w) at = ended first book _ _ (more first known book done output request (Probed b w) ans one at (λ x. false≢true (ap is_bye x)))
      request_served done output request ans one (Unprobed r f) at = ended first book _ _ (more first known book done output request (Unprobed r f) ans one at (λ x. false≢true (ap is_bye x)))
      request_served done output request ans one (Unanswered f) at = ended first book _ _ (more first known book done output request (Unanswered f) ans one at (λ x. false≢true (ap is_bye x)))
      request_served done output request ans one (Refused f) at = ended first book _ _ (more first known book done output request (Refused f) ans one at (λ x. false≢true (ap is_bye x)))
      request_served done output request ans one (Seen n) at = ended first book _ _ (more first known book done output request (Seen n) ans one at (λ x. false≢true (ap is_bye x)))
      request_served done output request ans one What at = ended first book _ _ (more first known book done output request What ans one at (λ x. false≢true (ap is_bye x)))

      -- the front of its answer was written
      pub breaks : (front rest : List ℕ) → answer_text asked answer ≡ front ++ rest → Appends now after front → HasBegun asked first before (taken ++ 10 ∷ []) after book
      breaks front rest e wrote = record {
        front = s.done ++ (s.request ++ 10 ∷ []);
        behind = [];
        taken = s.output ++ front;
        due = rest;
        parts = request_ends [] ∙ sym (append-nil (s.done ++ (s.request ++ 10 ∷ [])));
        served = subst (λ (o : List ℕ). Served asked first (s.done ++ (s.request ++ 10 ∷ [])) o book) (ap (λ l. s.output ++ l) e ∙ sym (append_assoc s.output front rest))
            (request_served s.done s.output s.request s.answered s.one answer is);
        wrote = Appends-trans before now after s.output front s.wrote wrote;
      }

      -- it is the last request, with no line feed
      last_served : s.request ≢ [] → Served asked first taken (s.output ++ answer_text asked answer) book
      last_served some = subst (λ (i : List ℕ). Served asked first i (s.output ++ answer_text asked answer) book) (sym s.parts)
          (unended first known book s.done s.output s.request answer s.answered s.one some is)

      pub ends_last : s.request ≢ [] → Appends now after (answer_text asked answer) → HasServed asked first before taken after book
      ends_last some wrote = (s.output ++ answer_text asked answer, last_served some, Appends-trans before now after s.output (answer_text asked answer) s.wrote wrote)

      pub breaks_last : s.request ≢ [] → (front rest : List ℕ) → answer_text asked answer ≡ front ++ rest → Appends now after front → HasBegun asked first before taken after book
      breaks_last some front rest e wrote = record {
        front = taken;
        behind = [];
        taken = s.output ++ front;
        due = rest;
        parts = sym (append-nil taken);
        served = subst (λ (o : List ℕ). Served asked first taken o book) (ap (λ l. s.output ++ l) e ∙ sym (append_assoc s.output front rest)) (last_served some);
        wrote = Appends-trans before now after s.output front s.wrote wrote;
      }

    -- the input ends behind a line feed
    pub ends_here : s.request ≡ [] → HasServed asked first before taken now known
    ends_here nothing =
        let whole : taken ≡ s.done = s.parts ∙ ap (λ l. s.done ++ l) nothing ∙ append-nil s.done in
        (s.output, subst (λ (i : List ℕ). Served asked first i s.output known) (sym whole) (ended first known s.done s.output s.answered), s.wrote)

    -- nothing more is written
    pub begun : (behind : List ℕ) → HasBegun asked first before (taken ++ behind) now known
    begun behind = record {
      front = s.done;
      behind = s.request ++ behind;
      taken = s.output;
      due = [];
      parts = ap (λ l. l ++ behind) s.parts ∙ append_assoc s.done s.request behind;
      served = subst (λ (o : List ℕ). Served asked first s.done o known) (sym (append-nil s.output)) (ended first known s.done s.output s.answered);
      wrote = s.wrote;
    }

  -- what has begun for an input has begun for a longer one
  pub begun_more : (first : S) (before : Option (List ℕ)) (input : List ℕ) (after : Option (List ℕ)) (last : S) (behind : List ℕ)
      → HasBegun asked first before input after last → HasBegun asked first before (input ++ behind) after last
  begun_more first before input after last behind b = record {
    front = b.front;
    behind = b.behind ++ behind;
    taken = b.taken;
    due = b.due;
    parts = ap (λ l. l ++ behind) b.parts ∙ append_assoc b.front b.behind behind;
    served = b.served;
    wrote = b.wrote;
  }

  -- a line feed came
  pub line_feed : (first : S) (before : Option (List ℕ)) (taken : List ℕ) (now : Option (List ℕ)) (known : S) (coming : Coming) (s : Serving asked first before taken now known coming)
      (byte : ℕ) → byte ≡ 10 → (answer : Answer F) (book : S) → IsAnswerTo asked known s.request answer book → (after : Option (List ℕ)) (quit : Bool) (next : Coming)
      → ((quit ≡ true) ↔ (answer ≡ Bye)) → Appends now after (answer_text asked answer) → Holds next []
      → (quit ≡ true → (rest : List ℕ) → HasServed asked first before ((taken ++ byte ∷ []) ++ rest) after book) × (quit ≡ false → Serving asked first before (taken ++ byte ∷ []) after book next)
  line_feed first before taken now known coming s byte ten answer book is after quit next bye wrote holds = (
    λ q rest. subst (λ (b : ℕ). HasServed asked first before ((taken ++ b ∷ []) ++ rest) after book) (sym ten) (ends first before taken now known coming s answer book is after (bye.0 q) wrote rest),
    λ q. subst (λ (b : ℕ). Serving asked first before (taken ++ b ∷ []) after book next) (sym ten) (answers first before taken now known coming s answer book is after (iff_false bye q) wrote next holds),
  )

  pub line_breaks : (first : S) (before : Option (List ℕ)) (taken : List ℕ) (now : Option (List ℕ)) (known : S) (coming : Coming) (s : Serving asked first before taken now known coming)
      (byte : ℕ) → byte ≡ 10 → (answer : Answer F) (book : S) → IsAnswerTo asked known s.request answer book → (after : Option (List ℕ)) (front rest : List ℕ)
      → answer_text asked answer ≡ front ++ rest → Appends now after front → HasBegun asked first before (taken ++ byte ∷ []) after book
  line_breaks first before taken now known coming s byte ten answer book is after front rest e wrote =
      subst (λ (b : ℕ). HasBegun asked first before (taken ++ b ∷ []) after book) (sym ten) (breaks first before taken now known coming s answer book is after front rest e wrote)

  pub feeds_quit : (first : S) (before after : Option (List ℕ)) (last : S) (taken bytes : List ℕ) (i : ℕ) → i < length bytes
      → ((rest : List ℕ) → HasServed asked first before (((taken ++ take i bytes) ++ get_or bytes i 0 ∷ []) ++ rest) after last)
      → (rest : List ℕ) → HasServed asked first before ((taken ++ bytes) ++ rest) after last
  feeds_quit first before after last taken bytes i h f rest =
      subst (λ (l : List ℕ). HasServed asked first before l after last)
      (ap (λ l. l ++ (drop (i + 1) bytes ++ rest)) (one_of taken bytes i h) ∙ parts_of taken bytes rest (i + 1) ∙ sym (append_assoc taken bytes rest))
      (f (drop (i + 1) bytes ++ rest))

  pub feeds_breaks : (first : S) (before after : Option (List ℕ)) (last : S) (taken bytes : List ℕ) (i : ℕ) → i < length bytes
      → HasBegun asked first before ((taken ++ take i bytes) ++ get_or bytes i 0 ∷ []) after last → HasBegun asked first before (taken ++ bytes) after last
  feeds_breaks first before after last taken bytes i h b =
      subst (λ (l : List ℕ). HasBegun asked first before l after last)
      (ap (λ l. l ++ drop (i + 1) bytes) (one_of taken bytes i h) ∙ append_assoc taken (take (i + 1) bytes) (drop (i + 1) bytes) ∙ ap (λ l. taken ++ l) (take-append-drop (i + 1) bytes))
      (begun_more first before _ after last (drop (i + 1) bytes) b)

  -- the service ends within the bytes that came
  pub quits_in : (first : S) (before after had has : Option (List ℕ)) (last : S) (taken came : List ℕ) (n : ℕ) → Consumes had has came
      → ((rest : List ℕ) → HasServed asked first before ((taken ++ take n came) ++ rest) after last)
      → (front behind : List ℕ) × IsInput had (front ++ behind) × (length front ≤ n) × Closes asked first before taken front behind after last
  quits_in first before after had has last taken came n c f =
      let i = some_input has in (
        take n came,
        drop n came ++ i.0,
        came_first had has came i.0 n c i.1,
        few_came came n,
        inr (λ rest. subst (λ (l : List ℕ). HasServed asked first before l after last) (append_assoc taken (take n came) rest) (f rest)),
      )

  pub breaks_in : (first : S) (before after had has : Option (List ℕ)) (last : S) (taken came : List ℕ) (n : ℕ) → Consumes had has came
      → HasBegun asked first before (taken ++ take n came) after last
      → (front behind : List ℕ) × IsInput had (front ++ behind) × (length front ≤ n) × HasBegun asked first before (taken ++ front) after last
  breaks_in first before after had has last taken came n c b =
      let i = some_input has in (take n came, drop n came ++ i.0, came_first had has came i.0 n c i.1, few_came came n, b)

  -- nothing of what the reader has counts
  pub breaks_at_once : (first : S) (before after had : Option (List ℕ)) (last : S) (taken : List ℕ) (left : ℕ) → HasBegun asked first before (taken ++ []) after last
      → (front behind : List ℕ) × IsInput had (front ++ behind) × (length front ≤ left) × HasBegun asked first before (taken ++ front) after last
  breaks_at_once first before after had last taken left b = let i = some_input had in ([], i.0, i.1, omega arith, b)

  -- all that came was taken
  pub quits_whole : (first : S) (before after had has : Option (List ℕ)) (last : S) (taken came : List ℕ) (left : ℕ) → Consumes had has came → length came ≤ left
      → ((rest : List ℕ) → HasServed asked first before ((taken ++ came) ++ rest) after last)
      → (front behind : List ℕ) × IsInput had (front ++ behind) × (length front ≤ left) × Closes asked first before taken front behind after last
  quits_whole first before after had has last taken came left c few f =
      let i = some_input has in
      (came, i.0, input_with had has came i.0 c i.1, few, inr (λ rest. subst (λ (l : List ℕ). HasServed asked first before l after last) (append_assoc taken came rest) (f rest)))

  pub breaks_whole : (first : S) (before after had has : Option (List ℕ)) (last : S) (taken came : List ℕ) (left : ℕ) → Consumes had has came → length came ≤ left
      → HasBegun asked first before (taken ++ came) after last
      → (front behind : List ℕ) × IsInput had (front ++ behind) × (length front ≤ left) × HasBegun asked first before (taken ++ front) after last
  breaks_whole first before after had has last taken came left c few b =
      let i = some_input has in (came, i.0, input_with had has came i.0 c i.1, few, b)

  pub begun_here : (first : S) (before : Option (List ℕ)) (taken : List ℕ) (now : Option (List ℕ)) (known : S) (coming : Coming) → Serving asked first before taken now known coming → HasBegun asked first before taken now known
  begun_here first before taken now known coming s = subst (λ (l : List ℕ). HasBegun asked first before l now known) (append-nil taken) (begun first before taken now known coming s [])

  module _ (first : S) (before old had after : Option (List ℕ)) (last : S) (taken : List ℕ) (left most : ℕ) (consumed : Consumes old had taken) (sum : length taken + left ≡ most) where
    pub served_within : (front behind : List ℕ) × IsInput had (front ++ behind) × (length front ≤ left) × Closes asked first before taken front behind after last → HasServedWithin asked most first before old after last
    served_within (front, behind, is, few, inl whole) = let w = within old had taken left most consumed sum front behind is few in (taken ++ front, behind, w.0, w.1, inl whole)
    served_within (front, behind, is, few, inr any) =
        let w = within old had taken left most consumed sum front behind is few in
        (taken ++ front, behind, w.0, w.1, inr (λ rest. subst (λ (l : List ℕ). HasServed asked first before l after last) (sym (append_assoc taken front rest)) (any rest)))

    pub begun_within : (front behind : List ℕ) × IsInput had (front ++ behind) × (length front ≤ left) × HasBegun asked first before (taken ++ front) after last → HasBegunWithin asked most first before old after last
    begun_within (front, behind, is, few, b) = let w = within old had taken left most consumed sum front behind is few in (taken ++ front, behind, w.0, w.1, b)

  pub served_all : (most : ℕ) (first : S) (before input after : Option (List ℕ)) (last : S) → HasServedWithin asked most first before input after last
      → (bytes : List ℕ) × IsInput input bytes × HasServed asked first before bytes after last
  served_all most first before input after last (front, behind, is, few, inl whole) =
      (front, subst (λ (l : List ℕ). IsInput input l) (ap (λ l. front ++ l) whole.0 ∙ append-nil front) is, whole.1)
  served_all most first before input after last (front, behind, is, few, inr any) = (front ++ behind, is, any behind)

  pub begun_all : (most : ℕ) (first : S) (before input after : Option (List ℕ)) (last : S) → HasBegunWithin asked most first before input after last
      → (bytes : List ℕ) × IsInput input bytes × HasBegun asked first before bytes after last
  begun_all most first before input after last (front, behind, is, few, b) = (front ++ behind, is, begun_more first before front after last behind b)
