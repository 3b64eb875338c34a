use Rattle.std.proofs.Common.{◌≡◌, ◌<◌, ℕ}
use Rattle.std.specs.Prelude.{IfSome, None}
use Rattle.awari_folder.specs.Contents.{Same}
use Rattle.awari_levels.proofs.wishes.file_above.Given as goal

abbrev pub invariant-loop-level : goal.invariant-loop-level
invariant-loop-level g l =
    let folder = g.F.Folder in
    record {
      none : (n : ℕ) → l.top < n → n < l.level → IfSome ((folder.state l.fn.folder).stands n) (λ name. name ≡ None);
      same : Same (folder.state l.fn.folder).stands (folder.state l.folder).stands;
    }
