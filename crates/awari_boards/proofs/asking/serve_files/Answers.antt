use Rattle.awari_boards.proofs.SaidLaws.{kept_either, served_files}
use Rattle.awari_boards.proofs.asking.serve_files.Goals as goal

pub returns-clause-keeps : goal.returns-clause-keeps
returns-clause-keeps g c = kept_either g.F.Folder.state c.serve.result _ _ _ _ _ c.serve.ensures.served c.serve.ensures.begun

pub returns-clause-served : goal.returns-clause-served
returns-clause-served g c = served_files g.F.Folder.state c.serve.result _ _ _ _ _ c.serve.ensures.served
