use Rattle.awari_builds.proofs.OneFolder.{file_same, folder_same}
use Rattle.awari_builds.proofs.laws.one_file_for_every_schedule.Goals as goal

pub returns-clause-file : goal.returns-clause-file
returns-clause-file c = file_same

pub returns-clause-folder : goal.returns-clause-folder
returns-clause-folder c = folder_same
