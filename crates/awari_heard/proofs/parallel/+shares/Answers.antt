use Rattle.std.proofs.Common.{◌-◌, ◌/◌, [], List, Result, subst}
use Rattle.std.specs.Prelude.{IfOk}
use Rattle.std.specs.declared.alloc.AllocError.{AllocError}
use Rattle.awari_block.specs.Part.{Part}
use Rattle.awari_heard.specs.Filling.{PutsBlocks}
use Rattle.awari_heard.proofs.Blocks.{puts_joined}
use Rattle.awari_table.specs.declared.images.Entry.{Entry}
use Rattle.awari_heard.proofs.parallel.+shares.Goals as goal

pub returns : goal.returns
returns g t c =
    let first : List Part = c.split_off.new.self.items in
    let last : List Part = c.in_ok-last.last.items in
    let made_first = subst (λ (r : Result (List Entry) AllocError). IfOk r (PutsBlocks first [])) c.in_ok-entries.was c.join-first_done.ensures.first in
    let made_last = subst (λ (r : Result (List Entry) AllocError). IfOk r (PutsBlocks last [])) c.in_ok-last_done.was c.join-first_done.ensures.second in
    puts_joined c.args.parts.items first last (c.len-2.result - c.len.result / c.args.threads) c.in_ok-entries.entries c.in_ok-last_done.field-0 c.join.new.self c.in_ok-last.ensures.items c.in_ok-last.ensures.tail made_first made_last c.in_ok-join.ensures.ok
