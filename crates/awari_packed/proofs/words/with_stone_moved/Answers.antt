use Rattle.std.proofs.Common.{arith}
use Rattle.awari_packed.proofs.Moving.{stone_moves}
use Rattle.awari_packed.proofs.words.with_stone_moved.Goals as goal

pub overflow_sub-result-2 : goal.overflow_sub-result-2
overflow_sub-result-2 c = let moved = stone_moves c.args.bits c.args.from c.args.to c.requires.packing c.requires.from c.requires.to c.requires.two c.requires.held in moved.taken

pub overflow_add-result : goal.overflow_add-result
overflow_add-result c = let moved = stone_moves c.args.bits c.args.from c.args.to c.requires.packing c.requires.from c.requires.to c.requires.two c.requires.held in omega (arith, moved.fits)

pub returns : goal.returns
returns c = let moved = stone_moves c.args.bits c.args.from c.args.to c.requires.packing c.requires.from c.requires.to c.requires.two c.requires.held in moved.is
