-- A service by files that are lent is one by what they say at its beginning.
use Rattle.std.proofs.Common.{◌≡◌, ℕ, Bool, false, List, [], ◌∷◌, ◌++◌, Option, Result, Ok, Err, OnOk, OnErr, inl, inr, refl, sym, ap, subst}
use Rattle.awari_desk.specs.Service.{Answered, none, more, Served, ended, unended, quits, IsAnswerTo, IsInput, answer_text, HasServed, HasBegun}
use Rattle.awari_desk.specs.declared.answers.Answer.{Answer}
use Rattle.awari_desk.specs.declared.answers.Answer.TheVariants.{Found, Moves, Probed, Unprobed, Unanswered, Refused, Seen, Bye, What}
use Rattle.awari_desk.specs.declared.faults.ProbeFault.TheVariants.{Board, Ask}
use Rattle.awari_folder.specs.Contents.{Same, Stands}
use Rattle.awari_folder.specs.State.{State}
use Rattle.awari_places.proofs.Reading.{still_says}
use Rattle.awari_places.proofs.Refusing.{look_before, refused_before}
use Rattle.awari_play.specs.declared.weighing.Weighed.{Weighed}
use Rattle.awari_table.specs.declared.images.Entry.{Entry}
use Rattle.awari_places.specs.Asked.{Keeps, by_files as files_by, stands_in}
use Rattle.awari_places.specs.Lasting.{files_last}
use Rattle.awari_play.specs.Saying.{IsLasting}
use Rattle.awari_boards.specs.Held.{by_lent}
use Rattle.awari_boards.specs.Said.{AreMovesSaid, IsEntrySaid, IsServedSaid, by_files}
use Rattle.awari_boards.specs.declared.files.Asked.{Asked}
use Rattle.awari_boards.specs.declared.unsaid.Unsaid.{Unsaid}
use Rattle.awari_boards.specs.declared.unsaid.Unsaid.TheVariants.{NotYet, Folder}

-- what is said of names that have what they had
entry_before : (old new : Stands) → Same old new → (levels then : ℕ) (board : List ℕ) (said : Result Entry Unsaid) → IsEntrySaid new levels then board said → IsEntrySaid old levels then board said
entry_before old new same levels then board (Ok e) (stay, low, is) = (stay, low, λ images says. is images (still_says old new levels images same says))
entry_before old new same levels then board (Err (NotYet below)) is = is
entry_before old new same levels then board (Err (Folder fault)) (stay, low, is) = (stay, low, refused_before old new board fault same is)

moves_before : (replies : Bool) (old new : Stands) → Same old new → (levels then : ℕ) (board : List ℕ) (said : Result Weighed Unsaid) → AreMovesSaid replies new levels then board said
    → AreMovesSaid replies old levels then board said
moves_before replies old new same levels then board (Ok w) (stay, low, is) = (stay, low, λ images says. is images (still_says old new levels images same says))
moves_before replies old new same levels then board (Err (NotYet below)) is = is
moves_before replies old new same levels then board (Err (Folder fault)) (stay, low, is) = (stay, low, look_before old new levels fault same is)

module _ {F : Type 0} (state : F → State) where
  laws : IsLasting (files_by state)
  laws = files_last state

  keeps_here : (known then : Asked F) → then ≡ known → Keeps state known.files then.files
  keeps_here known then e = subst (λ (asked : Asked F). Keeps state known.files asked.files) (sym e) (laws.itself known.files)

  -- one answer
  answer_said : (first known : Asked F) → Keeps state first.files known.files → (request : List ℕ) (then : Asked F) (answer : Answer Unsaid) → IsAnswerTo (by_lent state) known request answer then
      → Keeps state known.files then.files × IsAnswerTo (by_files (stands_in state first.files)) known.files.levels request answer then.files.levels
  answer_said first known kept request then (Found e) (board, b, l, (keeps, is)) =
      (keeps, (board, b, l, entry_before (stands_in state first.files) (stands_in state known.files) kept.same.stands known.files.levels then.files.levels board (Ok e) is))
  answer_said first known kept request then (Moves w) (board, replies, b, l, (keeps, is)) =
      (keeps, (board, replies, b, l, moves_before replies (stands_in state first.files) (stands_in state known.files) kept.same.stands known.files.levels then.files.levels board (Ok w) is))
  answer_said first known kept request then (Probed board w) (b, l, (keeps, is)) =
      (keeps, (b, l, moves_before false (stands_in state first.files) (stands_in state known.files) kept.same.stands known.files.levels then.files.levels board (Ok w) is))
  answer_said first known kept request then (Unprobed bytes (Board fault)) (r, (text, l, short, faulty, e)) = (keeps_here known then e, (r, (text, l, short, faulty, ap (λ (asked : Asked F). asked.files.levels) e)))
  answer_said first known kept request then (Unprobed bytes (Ask fault)) (r, (board, b, l, (keeps, is))) =
      (keeps, (r, (board, b, l, moves_before false (stands_in state first.files) (stands_in state known.files) kept.same.stands known.files.levels then.files.levels board (Err fault) is)))
  answer_said first known kept request then (Unanswered fault) (board, b, inl (l, (keeps, is))) =
      (keeps, (board, b, inl (l, entry_before (stands_in state first.files) (stands_in state known.files) kept.same.stands known.files.levels then.files.levels board (Err fault) is)))
  answer_said first known kept request then (Unanswered fault) (board, b, inr (replies, l, (keeps, is))) =
      (keeps, (board, b, inr (replies, l, moves_before replies (stands_in state first.files) (stands_in state known.files) kept.same.stands known.files.levels then.files.levels board (Err fault) is)))
  answer_said first known kept request then (Refused fault) (text, l, short, faulty, e) = (keeps_here known then e, (text, l, short, faulty, ap (λ (asked : Asked F). asked.files.levels) e))
  answer_said first known kept request then (Seen n) (l, is, e) = (keeps_here known then e, (l, is, ap (λ (asked : Asked F). asked.files.levels) e))
  answer_said first known kept request then Bye (l, e) = (keeps_here known then e, (l, ap (λ (asked : Asked F). asked.files.levels) e))
  answer_said first known kept request then What (l, e) = (keeps_here known then e, (l, ap (λ (asked : Asked F). asked.files.levels) e))

  -- it is told as it was
  told : (stands : Stands) (answer : Answer Unsaid) → answer_text (by_files stands) answer ≡ answer_text (by_lent state) answer
  told stands (Found e) = refl
  told stands (Moves w) = refl
  told stands (Probed board w) = refl
  told stands (Unprobed bytes (Board fault)) = refl
  told stands (Unprobed bytes (Ask fault)) = refl
  told stands (Unanswered fault) = refl
  told stands (Refused fault) = refl
  told stands (Seen n) = refl
  told stands Bye = refl
  told stands What = refl

  answered_said : (first last : Asked F) (input output : List ℕ) → Answered (by_lent state) first input output last
      → Keeps state first.files last.files × Answered (by_files (stands_in state first.files)) first.files.levels input output last.files.levels
  answered_said first last input output (none known) = (laws.itself known.files, none known.files.levels)
  answered_said first last input output (more f known l i o request answer a one is other) =
      let b = answered_said f known i o a in
      let c = answer_said f known b.0 request l answer is in (
        laws.on f.files known.files l.files b.0 c.0,
        subst (λ (text : List ℕ). Answered (by_files (stands_in state f.files)) f.files.levels (i ++ (request ++ 10 ∷ [])) (o ++ text) l.files.levels) (told (stands_in state f.files) answer)
            (more f.files.levels known.files.levels l.files.levels i o request answer b.1 one c.1 other),
      )

  served_said : (first last : Asked F) (input output : List ℕ) → Served (by_lent state) first input output last
      → Keeps state first.files last.files × Served (by_files (stands_in state first.files)) first.files.levels input output last.files.levels
  served_said first last input output (ended f l i o a) = let b = answered_said f l i o a in (b.0, ended f.files.levels l.files.levels i o b.1)
  served_said first last input output (unended f known l i o request answer a one some is) =
      let b = answered_said f known i o a in
      let c = answer_said f known b.0 request l answer is in (
        laws.on f.files known.files l.files b.0 c.0,
        subst (λ (text : List ℕ). Served (by_files (stands_in state f.files)) f.files.levels (i ++ request) (o ++ text) l.files.levels) (told (stands_in state f.files) answer)
            (unended f.files.levels known.files.levels l.files.levels i o request answer b.1 one some c.1),
      )
  served_said first last input output (quits f known l i o request rest a one is) =
      let b = answered_said f known i o a in
      let c = answer_said f known b.0 request l Bye is in
      (laws.on f.files known.files l.files b.0 c.0, quits f.files.levels known.files.levels l.files.levels i o request rest b.1 one c.1)

  -- whether it was served or has only begun, the folder is lent still
  pub kept_either : {T E : Type 0} (result : Result T E) (first last : Asked F) (before input after : Option (List ℕ))
      → OnOk result ((bytes : List ℕ) × IsInput input bytes × HasServed (by_lent state) first before bytes after last)
      → OnErr result ((bytes : List ℕ) × IsInput input bytes × HasBegun (by_lent state) first before bytes after last) → Keeps state first.files last.files
  kept_either (Ok x) first last before input after (bytes, is, (output, served, wrote)) begun = (served_said first last bytes output served).0
  kept_either (Err e) first last before input after done (bytes, is, begun) = (served_said first last begun.front (begun.taken ++ begun.due) begun.served).0

  pub served_files : {T E : Type 0} (result : Result T E) (first last : Asked F) (before input after : Option (List ℕ))
      → OnOk result ((bytes : List ℕ) × IsInput input bytes × HasServed (by_lent state) first before bytes after last)
      → OnOk result (IsServedSaid (stands_in state first.files) first.files.levels input before after)
  served_files (Ok x) first last before input after (bytes, is, (output, served, wrote)) =
      let s = served_said first last bytes output served in
      (bytes, is, (output, subst (λ (n : ℕ). Served (by_files (stands_in state first.files)) first.files.levels bytes output n) s.0.levels s.1, wrote))
  served_files (Err e) first last before input after done = tt

-- a service by names that have what they had
module _ (old new : Stands) (same : Same old new) where
  answer_before : (known : ℕ) (request : List ℕ) (then : ℕ) (answer : Answer Unsaid) → IsAnswerTo (by_files new) known request answer then → IsAnswerTo (by_files old) known request answer then
  answer_before known request then (Found e) (board, b, l, is) = (board, b, l, entry_before old new same known then board (Ok e) is)
  answer_before known request then (Moves w) (board, replies, b, l, is) = (board, replies, b, l, moves_before replies old new same known then board (Ok w) is)
  answer_before known request then (Probed board w) (b, l, is) = (b, l, moves_before false old new same known then board (Ok w) is)
  answer_before known request then (Unprobed bytes (Board fault)) is = is
  answer_before known request then (Unprobed bytes (Ask fault)) (r, (board, b, l, is)) = (r, (board, b, l, moves_before false old new same known then board (Err fault) is))
  answer_before known request then (Unanswered fault) (board, b, inl (l, is)) = (board, b, inl (l, entry_before old new same known then board (Err fault) is))
  answer_before known request then (Unanswered fault) (board, b, inr (replies, l, is)) = (board, b, inr (replies, l, moves_before replies old new same known then board (Err fault) is))
  answer_before known request then (Refused fault) is = is
  answer_before known request then (Seen n) is = is
  answer_before known request then Bye is = is
  answer_before known request then What is = is

  told_before : (answer : Answer Unsaid) → answer_text (by_files new) answer ≡ answer_text (by_files old) answer
  told_before (Found e) = refl
  told_before (Moves w) = refl
  told_before (Probed board w) = refl
  told_before (Unprobed bytes (Board fault)) = refl
  told_before (Unprobed bytes (Ask fault)) = refl
  told_before (Unanswered fault) = refl
  told_before (Refused fault) = refl
  told_before (Seen n) = refl
  told_before Bye = refl
  told_before What = refl

  answered_before : (first last : ℕ) (input output : List ℕ) → Answered (by_files new) first input output last → Answered (by_files old) first input output last
  answered_before first last input output (none known) = none known
  answered_before first last input output (more f known l i o request answer a one is other) =
      subst (λ (text : List ℕ). Answered (by_files old) f (i ++ (request ++ 10 ∷ [])) (o ++ text) l) (sym (told_before answer))
      (more f known l i o request answer (answered_before f known i o a) one (answer_before known request l answer is) other)

  served_before : (first last : ℕ) (input output : List ℕ) → Served (by_files new) first input output last → Served (by_files old) first input output last
  served_before first last input output (ended f l i o a) = ended f l i o (answered_before f l i o a)
  served_before first last input output (unended f known l i o request answer a one some is) =
      subst (λ (text : List ℕ). Served (by_files old) f (i ++ request) (o ++ text) l) (sym (told_before answer))
      (unended f known l i o request answer (answered_before f known i o a) one some (answer_before known request l answer is))
  served_before first last input output (quits f known l i o request rest a one is) =
      quits f known l i o request rest (answered_before f known i o a) one (answer_before known request l Bye is)

  pub said_before : (levels : ℕ) (input before after : Option (List ℕ)) → IsServedSaid new levels input before after → IsServedSaid old levels input before after
  said_before levels input before after (bytes, is, (output, served, wrote)) = (bytes, is, (output, served_before levels levels bytes output served, wrote))
