use Rattle.awari_rank.proofs.Examples as example
use Rattle.awari_rank.proofs.laws.worked_examples.Goals as goal

pub returns : goal.returns
returns c = record {
  listed = example.listed;
  sizes = example.sizes;
  first = example.first;
  last = example.last;
  highest_last = example.highest_last;
  one_stone = example.one_stone;
  two_beside = example.two_beside;
  two_apart = example.two_apart;
}
