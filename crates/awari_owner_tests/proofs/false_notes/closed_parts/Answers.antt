use Rattle.std.proofs.Common.{rules, ◌≡◌, ◌<◌, ◌+◌, ◌++◌, ◌∷◌, [], ℕ, List, length, ap, sym, subst, ◌∙◌, arith}
use Rattle.std.proofs.lemmas.List.{length_push}
use Rattle.awari_block.specs.Part.{Part}
use Rattle.awari_owner.specs.Owners.{IsShare}
use Rattle.awari_heard.specs.Level.{no_part, part_at}
use Rattle.awari_owner.proofs.Levels.{shared_whole}
use Rattle.awari_core.proofs.Rounds.{more_push}
use Rattle.awari_owner_tests.proofs.false_notes.closed_parts.Goals as goal

pub loop-owner-preserved : goal.loop-owner-preserved
loop-owner-preserved g c =
    let items : List Part = c.loop-owner.parts.items in
    let part = c.close.new.part in
    let pushed : items ++ part ∷ [] ≡ c.push.new.self.items = sym c.in_ok-push.ensures.items in
    let before = c.loop-owner.invariant in
    let share : IsShare (length c.args.shelf.now) c.args.owners c.loop-owner.owner part = c.close.ensures.share _ _ _ (search rules) in
    record {
      count = let one = length_push items part in let n = before.count in let l = ap (λ (ps : List Part). length ps) pushed in omega (arith, one, n, l);
      shares = subst (λ (ps : List Part). (k : ℕ) → k < c.loop-owner.owner + 1 → IsShare (length c.args.shelf.now) c.args.owners k (part_at ps k)) pushed
          (more_push (λ k (p : Part). IsShare (length c.args.shelf.now) c.args.owners k p) items no_part part c.loop-owner.owner before.count before.shares share);
    }

pub returns : goal.returns
returns g c =
    let all : c.loop-owner.owner ≡ c.args.owners = search rules in
    shared_whole _ c.args.owners _ c.requires.owners.0 (c.loop-owner.invariant.count ∙ all)
    (subst (λ n. (k : ℕ) → k < n → IsShare (length c.args.shelf.now) c.args.owners k (part_at c.loop-owner.parts.items k)) (sym c.loop-owner.invariant.count) c.loop-owner.invariant.shares)
