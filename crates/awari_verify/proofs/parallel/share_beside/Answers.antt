use Rattle.std.proofs.Common.{rules, ◌++◌, ◌∷◌, [], sym, subst}
use Rattle.std.specs.List.{All}
use Rattle.awari_table.specs.Images.{table_of}
use Rattle.awari_verify.specs.Pieces.{IsShare}
use Rattle.awari_verify.proofs.parallel.share_beside.Goals as goal

pub returns-in-Ok-clause-share : goal.returns-in-Ok-clause-share
returns-in-Ok-clause-share g c =
    let T = table_of (c.args.shelf.now ++ c.args.image.now ∷ []) in
    let level = c.args.image.now.level in
    let own : IsShare T level c.join-done.result.0.1 = search rules in
    let all : All (IsShare T level) c.in-Ok.shares.items = search rules in
    c.joined.ensures T level own (subst (All (IsShare T level)) (sym c.deref.ensures.value) all)
