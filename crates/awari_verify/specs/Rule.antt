-- The name that a rule is printed by.
use Rattle.std.specs.Prelude.{ℕ, List, codes}
use Rattle.awari_verify.specs.declared.rules.Rule.{Rule}
use Rattle.awari_verify.specs.declared.rules.Rule.TheVariants.{V1, V2, V3, V4, V5, V6, V7}

abbrev pub rule_name : Rule → List ℕ
rule_name V1 = codes "V1"
rule_name V2 = codes "V2"
rule_name V3 = codes "V3"
rule_name V4 = codes "V4"
rule_name V5 = codes "V5"
rule_name V6 = codes "V6"
rule_name V7 = codes "V7"
