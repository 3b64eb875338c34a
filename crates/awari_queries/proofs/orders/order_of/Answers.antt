use Rattle.std.proofs.Common.{◌<◌, ◌≡◌, Bool, true, false, ℕ, List, ◌∷◌, cond, arith, refl, sym}
use Rattle.std.proofs.lemmas.Str.Pattern.{strip_prefix_char}
use Rattle.awari_queries.specs.Columns.{name_of}
use Rattle.awari_queries.specs.declared.columns.Column.{Column}
use Rattle.awari_queries.proofs.orders.order_of.Goals as goal

-- a text that does not begin with `-` and names no column names no order
none : (text : List ℕ) (column : Column) (descending : Bool) → text ≡ cond descending (45 ∷ name_of column) (name_of column)
    → ((rest : List ℕ) → text ≡ 45 ∷ rest → ⊥) → ((other : Column) → name_of other ≡ text → ⊥) → ⊥
none text column true is prefix named = prefix (name_of column) is
none text column false is prefix named = named column (sym is)

pub returns-in_err-column_of-in-None-clause-none : goal.returns-in_err-column_of-in-None-clause-none
returns-in_err-column_of-in-None-clause-none c = λ _ order is.
    let ascii : 45 < 128 = omega arith in
    let stripped = strip_prefix_char 45 c.args.word.now c.strip_prefix.result c.strip_prefix.ensures.cases ascii in
    none c.args.word.now order.by order.descending is (rw c.in-None.is at stripped) (c.in_err-column_of-in-None.ensures.none refl)
