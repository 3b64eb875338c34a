use mir.Syntax.{of_param}
use Rattle.std.proofs.Common.{refl}
use Rattle.std.proofs.KnownBytes.{Keeps-refl}
use Rattle.awari_cli.proofs.runs.run.Goals as goal

pub returns-in-Err-clause-nothing : goal.returns-in-Err-clause-nothing
returns-in-Err-clause-nothing g c = λ _. (Keeps-refl (g.W.Write.contents c.args.streams.now.output), λ _ _ _. refl)

pub run_understood-requires : goal.run_understood-requires
run_understood-requires g c = λ k. (c.type_bounds.static-T, (record { owned = c.type_bounds.send-T.owned; leaving = c.type_bounds.send-T.leaving }, (record { owned = c.type_bounds.send-E.owned; leaving = λ kept. c.type_bounds.send-E.leaving (λ _. kept (of_param 4)) }, (record { shared = c.type_bounds.sync-T.shared }, (refl, record {})))))
