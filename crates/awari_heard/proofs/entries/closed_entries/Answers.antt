use Rattle.std.proofs.Common.{◌≡◌, ◌∷◌, ◌++◌, [], List, length, append_assoc, append-nil, refl, sym, ap, subst, ◌∙◌, arith}
use Rattle.std.proofs.lemmas.List.{nil_from_length}
use Rattle.awari_block.specs.Part.{Part}
use Rattle.awari_block.specs.declared.cells.Cell.{Cell}
use Rattle.awari_heard.specs.Filling.{PushesBlock, PutsBlocks}
use Rattle.awari_heard.proofs.Blocks.{puts_then}
use Rattle.awari_heard.proofs.entries.closed_entries.Goals as goal

pub loop-closed-preserved : goal.loop-closed-preserved
loop-closed-preserved c = record {
  whole = append_assoc c.loop-closed.yielded (c.in-Some.closed ∷ []) c.next.new.self.rest.items ∙ ap (λ l. c.loop-closed.yielded ++ l) (sym c.in-Some.ensures.steps.0) ∙ c.loop-closed.invariant.whole;
  puts = puts_then c.loop-closed.yielded (c.in-Some.closed ∷ []) [] _ _ c.loop-closed.invariant.puts (_, subst (λ (cells : List Cell). PushesBlock cells c.loop-closed.entries c.push_block.new.entries (length cells)) c.cells.ensures c.in_ok-push_block.ensures, refl);
}

pub returns : goal.returns
returns c =
    let none : c.loop-closed.closed-iterator.rest.items ≡ [] = nil_from_length c.loop-closed.closed-iterator.rest.items (let left = c.loop-closed.closed-iterator.rest.ok.0 in let none = c.in-None.ensures.steps.0 in omega (arith, left, none)) in
    let yielded = sym (append-nil c.loop-closed.yielded) ∙ ap (λ l. c.loop-closed.yielded ++ l) (sym none) ∙ c.loop-closed.invariant.whole in
    subst (λ (ps : List Part). PutsBlocks ps [] c.loop-closed.entries) yielded c.loop-closed.invariant.puts
