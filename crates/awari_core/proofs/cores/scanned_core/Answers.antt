use Rattle.std.proofs.Common.{rules, ◌≡◌, ◌+◌, ◌<◌, ℕ, List, length, get_or, ap, sym, subst, ◌∙◌, arith}
use Rattle.awari_table.specs.declared.images.Image.{Image}
use Rattle.awari_table.specs.Images.{table_of}
use Rattle.awari_heard.specs.Level as level
use Rattle.awari_owner.specs.Sound.{IsScannedOwner}
use Rattle.awari_core.specs.Core as core
use Rattle.awari_core.specs.Core.{Sound}
use Rattle.awari_core.proofs.Making.{sound_new}
use Rattle.awari_core.proofs.cores.scanned_core.Goals as goal

pub invariant_of-result : goal.invariant_of-result
invariant_of-result c =
    let same : c.args.shelf.now ≡ c.in_ok-shared.shared = sym c.in_ok-shared.ensures in
    let count : c.args.owners ≡ length c.in_ok-parts.parts.items = search rules in
    let sent : length c.in_ok-senders.senders.items ≡ c.args.owners = search rules in
    subst (λ (s : List Image). Sound (record { shelf = s; room = c.args.room; gain = c.levels.result + 1; parts = c.in_ok-parts.parts.items; senders = c.in_ok-senders.senders.items })) same
    (sound_new (record { shelf = c.args.shelf.now; room = c.args.room; gain = c.levels.result + 1; parts = c.in_ok-parts.parts.items; senders = c.in_ok-senders.senders.items })
    c.levels.ensures.shelf c.requires.low (let s = c.requires.owners.0 in omega (arith, s, count)) (let f = c.requires.owners.1 in omega (arith, f, count)) (sent ∙ count)
    (subst (λ n. (i : ℕ) → i < n → core.IsLinked n c.args.room i (get_or c.in_ok-senders.senders.items i core.no_sender)) count c.in_ok-senders.ensures.linked)
    (ap (λ n. n + 1) c.levels.ensures.levels) c.in_ok-senders.ensures.silent
    (subst (λ n. (i : ℕ) → i < n → IsScannedOwner (table_of c.args.shelf.now).value (length c.args.shelf.now) n i (get_or c.in_ok-parts.parts.items i level.no_part)) count c.in_ok-parts.ensures.scanned))

pub returns-clause-sound : goal.returns-clause-sound
returns-clause-sound c = invariant_of-result c
