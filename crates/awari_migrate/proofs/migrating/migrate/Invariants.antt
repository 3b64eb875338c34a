use Rattle.std.proofs.Common.{◌≡◌, ◌≤◌, ℕ, List, Option, Some, length, vec_len}
use Rattle.std.specs.Vec.{vec_capacity}
use Rattle.awari_folder.specs.Contents.{AreNames, KeepsFiles}
use Rattle.awari_folder.specs.State.{Unchanged}
use Rattle.awari_migrate.specs.Migration.{CrashesWhole}
use Rattle.awari_migrate.proofs.Migrations.{HasCome}
use Rattle.awari_migrate.proofs.migrating.migrate.Given as goal

abbrev pub invariant-loop : goal.invariant-loop
invariant-loop g l =
    let from = g.F.Folder in
    let to = g.G.Folder in
    record {
      levels : length l.shelf ≡ l.counter;
      len : vec_len l.limits ≡ l.counter;
      room : 25 ≤ vec_capacity l.limits;
      come : (names others : ℕ → Option (List ℕ)) → AreNames ((from.state l.fn.from).stands) names → AreNames ((to.state l.fn.to).stands) others
          → HasCome names others ((to.state l.to).stands) l.counter l.shelf l.below l.limits.items l.digest;
      to_rest : (others : ℕ → Option (List ℕ)) → AreNames ((to.state l.fn.to).stands) others → (n : ℕ) → l.counter ≤ n → (to.state l.to).stands n ≡ Some (others n);
      whole : CrashesWhole (to.state l.fn.to) (to.state l.to);
      kept : KeepsFiles ((to.state l.fn.to).stands) ((to.state l.to).stands);
      from_refused : (from.state l.from).refusals ≡ (from.state l.fn.from).refusals;
      to_refused : (to.state l.to).refusals ≡ (to.state l.fn.to).refusals;
      unchanged : Unchanged (from.state l.fn.from) (from.state l.from);
    }
