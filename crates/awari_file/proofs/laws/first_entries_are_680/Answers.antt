use Rattle.awari_file.proofs.laws.first_entries_are_680.Goals as goal

pub returns : goal.returns
returns c = λ bytes begins. begins
