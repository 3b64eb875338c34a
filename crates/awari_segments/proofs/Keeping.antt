-- The same boards, of which those that were settled keep value and distance.
use Rattle.std.proofs.Common.{◌≡◌, ℕ, List, refl, sym, subst, ◌∙◌, arith, get_or}
use Rattle.awari_block.specs.Blocks.{cell_in}
use Rattle.awari_block.specs.Boards.{Settles}
use Rattle.awari_block.specs.Cells.{Keeps}
use Rattle.awari_block.specs.Part.{Part}
use Rattle.awari_block.proofs.BlockLemmas.{keeps_both, keeps_same}
use Rattle.awari_heard.specs.Heard.{SameBlock}
use Rattle.awari_segments.specs.Each.{GoOn, KeepsBoards, OpensGain, OpensWave}
use Rattle.awari_block.specs.Each.{EachTo}

pub keeps_none : (part : Part) → KeepsBoards part part
keeps_none part = record {
  block = record { level = refl; start = refl; size = refl };
  stays = λ r low. keeps_same (cell_in part.start part.cells r) (cell_in part.start part.cells r) refl;
}

pub keeps_then : (a b c : Part) → KeepsBoards a b → KeepsBoards b c → KeepsBoards a c
keeps_then a b c one two =
    let start = one.block.start in
    record {
      block = record { level = two.block.level ∙ one.block.level; start = two.block.start ∙ start; size = two.block.size ∙ one.block.size };
      stays = λ r low. keeps_both (cell_in a.start a.cells r) (cell_in a.start b.cells r) (cell_in a.start c.cells r) (one.stays r low)
          (subst (λ s. Keeps (cell_in s b.cells r) (cell_in s c.cells r)) start (two.stays r (omega (arith, start, low))));
    }

-- only the fresh boards change
pub keeps_but : (a b : Part) → b ≡ record a { fresh = b.fresh } → KeepsBoards a b
keeps_but a b same = subst (KeepsBoards a) (sym same) (record {
  block = record { level = refl; start = refl; size = refl };
  stays = λ r low. keeps_same (cell_in a.start a.cells r) (cell_in a.start a.cells r) refl;
})

pub keeps_settled : (a b : Part) → Settles a b → KeepsBoards a b
keeps_settled a b settles = record { block = record { level = settles.same.level; start = settles.same.start; size = settles.size }; stays = settles.stays }

-- ---- of each block of a level

pub same_each : (old new : List Part) → EachTo KeepsBoards old new → EachTo SameBlock old new
same_each old new all = record { many = all.many; each = λ i d few. (all.each i d few).block }

pub keeps_each : (a b c : List Part) → EachTo KeepsBoards a b → EachTo KeepsBoards b c → EachTo KeepsBoards a c
keeps_each a b c one two = record {
  many = two.many ∙ one.many;
  each = λ i d few. keeps_then (get_or a i d) (get_or b i d) (get_or c i d) (one.each i d few) (two.each i d (let many = one.many in omega (arith, few, many)));
}

pub go_none : (parts : List Part) → GoOn parts parts
go_none parts = record { stays = record { many = refl; each = λ i d few. keeps_none (get_or parts i d) }; heard = λ value heard. heard }

pub go_both : (a b c : List Part) → GoOn a b → GoOn b c → GoOn a c
go_both a b c one two = record { stays = keeps_each a b c one.stays two.stays; heard = λ value heard. two.heard value (one.heard value heard) }

pub keeps_waved : (dist : ℕ) (old new : List Part) → EachTo (OpensWave dist) old new → EachTo KeepsBoards old new
keeps_waved dist old new all = record {
  many = all.many;
  each = λ i d few. subst (KeepsBoards (get_or old i d)) (sym (all.each i d few).opens) (record {
    block = record { level = refl; start = refl; size = refl };
    stays = λ r low. keeps_same (cell_in (get_or old i d).start (get_or old i d).cells r) (cell_in (get_or old i d).start (get_or old i d).cells r) refl;
  });
}

pub keeps_opened : (gain : ℕ) (old new : List Part) → EachTo (OpensGain gain) old new → EachTo KeepsBoards old new
keeps_opened gain old new all = record {
  many = all.many;
  each = λ i d few. let settles = (all.each i d few).opens.settles in record {
    block = record { level = settles.same.level; start = settles.same.start; size = settles.size };
    stays = settles.stays;
  };
}
