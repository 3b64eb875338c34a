-- Numbers that are known of each board: how they are named, one or two of them.
use Rattle.std.specs.Prelude.{◌≡◌, ◌≢◌, ℕ, List, ◌++◌, ◌∷◌, codes}
use Rattle.awari_queries.specs.declared.columns.Column.{Column}
use Rattle.awari_queries.specs.declared.columns.Column.TheVariants.{Rank, Value, Distance, Plan, Captures, Greedy, Moves, Keep, Trap, Other, Waits}
use Rattle.awari_queries.specs.declared.columns.NoColumn.{NoColumn}
use Rattle.awari_queries.specs.declared.columns.NoColumn.TheVariants.{Sort, By, Twice, Level}
use Rattle.awari_queries.specs.declared.columns.Pair.{Pair}

-- the word that names a column
abbrev pub name_of : Column → List ℕ
name_of Rank = codes "rank"
name_of Value = codes "value"
name_of Distance = codes "distance"
name_of Plan = codes "plan"
name_of Captures = codes "captures"
name_of Greedy = codes "greedy"
name_of Moves = codes "moves"
name_of Keep = codes "keep"
name_of Trap = codes "trap"
name_of Other = codes "other"
name_of Waits = codes "waits"

-- the text names the column, which is not the rank
pub record IsCountedName (text : List ℕ) (column : Column) : Type 0 where
  pub name : name_of column ≡ text
  pub counted : column ≢ Rank

-- the word has the names of two columns with a comma (44) between them, neither of which is the rank
pub record IsPairOf (word : List ℕ) (pair : Pair) : Type 0 where
  pub names : word ≡ name_of pair.first ++ 44 ∷ name_of pair.second
  pub first : pair.first ≢ Rank
  pub second : pair.second ≢ Rank

-- the same of columns that differ
pub record AsksForPair (word : List ℕ) (pair : Pair) : Type 0 where
  pub named : IsPairOf word pair
  pub differ : pair.first ≢ pair.second

-- there are no two such columns, or one twice
abbrev pub HasNoPair : List ℕ → NoColumn → Type 0
HasNoPair word By = (pair : Pair) → IsPairOf word pair → ⊥
HasNoPair word Twice = (pair : Pair) × IsPairOf word pair × (pair.first ≡ pair.second)
HasNoPair word other = ⊥

-- the option that asks for columns, as it is written, and what is wrong with its word
abbrev pub option_of : NoColumn → List ℕ
option_of Sort = codes "--sort"
option_of By = codes "--by"
option_of Twice = codes "--by"
option_of Level = codes "--by"

abbrev pub sentence_of : NoColumn → List ℕ
sentence_of Sort = codes "A column is rank, value, distance, plan, captures, greedy, moves, keep, trap, other or waits"
sentence_of By = codes "Columns are two of value, distance, plan, captures, greedy, moves, keep, trap, other and waits, with a comma between"
sentence_of Twice = codes "Both columns are the same"
sentence_of Level = codes "LEVEL is missing"
