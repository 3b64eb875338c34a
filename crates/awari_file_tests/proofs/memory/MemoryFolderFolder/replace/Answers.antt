use Rattle.std.proofs.Common.{rules, ap, sym, subst, Some, ◌∙◌, ◌++◌, ◌∷◌, []}
use Rattle.awari_file_tests.specs.declared.memory.Put.{Put}
use Rattle.awari_folder.specs.Contents.{IsLeftOf, LeavesToo, LeavesStill}
use Rattle.awari_file_tests.specs.Log.{named, MayLeave, kept_of}
use Rattle.awari_file_tests.proofs.Log.{named-new, named-other, leaves-new, leaves-still}
use Rattle.awari_file_tests.proofs.memory.MemoryFolderFolder.replace.Goals as goal

pub returns-clause-ok : goal.returns-clause-ok
returns-clause-ok c =
    let put : Put = record { level = c.args.level; bytes = c.args.new.bytes; synced = c.args.new.synced } in
    let e = c.in-Ok.ensures.ok ∙ ap (λ v. v.items ++ put ∷ []) c.is_refused.ensures.puts in
    (ap Some (ap (λ ps. named ps c.args.level) e ∙ named-new c.args.self.now.puts.items put), search rules)

pub returns-clause-leaves : goal.returns-clause-leaves
returns-clause-leaves c =
    let put : Put = record { level = c.args.level; bytes = c.args.new.bytes; synced = c.args.new.synced } in
    let e = c.in-Ok.ensures.ok ∙ ap (λ v. v.items ++ put ∷ []) c.is_refused.ensures.puts in (
      record {
        others = λ n other. ap Some (ap (λ ps. named ps n) e ∙ named-other c.args.self.now.puts.items put n other);
        crash = subst (λ ps. LeavesToo c.args.level (IsLeftOf (kept_of c.args.new.synced c.args.new.bytes.items)) (MayLeave c.args.self.now.puts.items) (MayLeave ps)) (sym e) (leaves-new c.args.self.now.puts.items put);
        still = subst (λ ps. LeavesStill (MayLeave c.args.self.now.puts.items) (MayLeave ps)) (sym e) (leaves-still c.args.self.now.puts.items put);
        clear = search rules;
      },
      search rules,
    )
