use Rattle.awari_verify.specs.Pieces.{piece_of}
use Rattle.awari_verify.proofs.LookLemmas.{Looks-then}
use Rattle.awari_verify.proofs.ShareLemmas.{one_seen}
use Rattle.awari_verify.proofs.shares.Share.look.Goals as goal

pub returns-clause-share : goal.returns-clause-share
returns-clause-share c = λ shaped.
    Looks-then _ _ _ _ _ _ _ _ (c.requires.share shaped) (c.look_if_shaped-self.ensures shaped) (λ p board stones seen. one_seen c.args.self.now.seen c.args.piece (piece_of p) seen)
