use Rattle.std.proofs.Common.{◌≡◌, ◌<◌, ◌+◌, ◌++◌, ◌∷◌, [], ℕ, List, length, get_or, ap, sym, subst, ◌∙◌, arith}
use Rattle.std.proofs.lemmas.List.{length_push}
use Rattle.awari_core.specs.Core.{IsLinked, IsSilent, Sender, no_sender}
use Rattle.awari_core.proofs.Making.{new_linked, new_silent}
use Rattle.awari_core.proofs.Rounds.{all_below, more_push}
use Rattle.awari_core.proofs.senders.silent_senders.Goals as goal

pub loop-owner-preserved : goal.loop-owner-preserved
loop-owner-preserved c =
    let items : List Sender = c.loop-owner.senders.items in
    let sender = c.in_ok-new.field-0 in
    let pushed : items ++ sender ∷ [] ≡ c.push.new.self.items = sym c.in_ok-push.ensures.items in
    let before = c.loop-owner.invariant in
    record {
      count = ap (λ (l : List Sender). length l) (sym pushed) ∙ (let one = length_push items sender in let n = before.count in omega (arith, one, n));
      silent = subst (λ (l : List Sender). (k : ℕ) → k < c.loop-owner.owner + 1 → IsSilent (get_or l k no_sender)) pushed
          (more_push (λ k (s : Sender). IsSilent s) items no_sender sender c.loop-owner.owner before.count before.silent (new_silent c.args.owners c.loop-owner.owner c.args.room sender c.in_ok-new.ensures));
      linked = subst (λ (l : List Sender). (k : ℕ) → k < c.loop-owner.owner + 1 → IsLinked c.args.owners c.args.room k (get_or l k no_sender)) pushed
          (more_push (λ k (s : Sender). IsLinked c.args.owners c.args.room k s) items no_sender sender c.loop-owner.owner before.count before.linked (new_linked c.args.owners c.loop-owner.owner c.args.room sender c.in_ok-new.ensures));
    }

pub returns-clause-silent : goal.returns-clause-silent
returns-clause-silent c =
    let count = c.loop-owner.invariant.count in
    all_below IsSilent c.loop-owner.senders.items no_sender (λ k low. c.loop-owner.invariant.silent k (omega (arith, low, count)))
