use Rattle.awari_words.proofs.WordRows.{build_row, high_row, judge_row}
use Rattle.awari_words.proofs.laws.worked_words.Goals as goal

pub returns : goal.returns
returns c = record { judge = judge_row; build = build_row; high = high_row }
