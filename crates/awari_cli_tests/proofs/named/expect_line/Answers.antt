use Rattle.std.proofs.Common.{rules, refl}
use Rattle.awari_cli_tests.proofs.named.expect_line.Goals as goal

pub run-status-requires : goal.run-status-requires
run-status-requires g c = λ k. (c.type_bounds.static-typeof-rt, (record { owned = c.type_bounds.send-typeof-rt.owned; leaving = c.type_bounds.send-typeof-rt.leaving }, (search rules, (record { shared = c.type_bounds.sync-typeof-rt.shared }, (refl, record {})))))
