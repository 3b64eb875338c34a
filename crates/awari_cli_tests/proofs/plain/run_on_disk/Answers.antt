use mir.Syntax.{of_param}
use Rattle.std.proofs.Common.{refl}
use Rattle.awari_cli_tests.proofs.plain.run_on_disk.Goals as goal

pub run-requires : goal.run-requires
run-requires g c = λ k. (c.type_bounds.static-typeof-rt, (record { owned = c.type_bounds.send-typeof-rt.owned; leaving = c.type_bounds.send-typeof-rt.leaving }, (record { owned = c.type_bounds.send-typeof-streams-3.owned; leaving = λ kept. c.type_bounds.send-typeof-streams-3.leaving (λ _. kept (of_param 5)) }, (record { shared = c.type_bounds.sync-typeof-rt.shared }, (refl, record {})))))
