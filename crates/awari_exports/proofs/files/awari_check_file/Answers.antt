use Rattle.std.proofs.Common.{inl, refl, rules, sym, ◌∙◌}
use Rattle.awari_exports.proofs.Numbers.{number_is_some}
use Rattle.awari_exports.proofs.files.awari_check_file.Goals as goal

pub returns-in-Err : goal.returns-in-Err
returns-in-Err c = record {
  ok = λ none. absurd (number_is_some c.in-Err.fault (sym c.number-in-Err.ensures ∙ none));
  refused = λ some. inl (c.in-Err.fault, (let known = c.in-Err.ensures.exact in search rules), c.number-in-Err.ensures);
  untouched = λ some. refl;
}
