-- By which number boards are sorted.
use Rattle.std.specs.Prelude.{◌≡◌, ⊤, ℕ, if◌then◌else◌, List, ◌∷◌, ℤ, neg_ℤ, Option, Some, None}
use Rattle.std.specs.Borrow.{Bor}
use Rattle.awari_queries.specs.Columns.{name_of}
use Rattle.awari_queries.specs.declared.columns.NoColumn.{NoColumn}
use Rattle.awari_queries.specs.declared.columns.NoColumn.TheVariants.{Sort}
use Rattle.awari_queries.specs.declared.orders.Order.{Order}

-- the word for an order: a column's name, with `-` (45) before it if the greatest comes first
abbrev pub word_of : Order → List ℕ
word_of order = if order.descending then 45 ∷ name_of order.by else name_of order.by

-- the word names the order
abbrev pub IsOrder : List ℕ → Order → Type 0
IsOrder word order = word ≡ word_of order

-- the order that a word asks for, if there is one
abbrev pub AsksForOrder : Option (Bor (List ℕ)) → Option Order → Type 0
AsksForOrder None None = ⊤
AsksForOrder None (Some order) = ⊥
AsksForOrder (Some word) None = ⊥
AsksForOrder (Some word) (Some order) = IsOrder word.now order

-- a word asks for none
abbrev pub HasNoOrder : Option (Bor (List ℕ)) → NoColumn → Type 0
HasNoOrder None fault = ⊥
HasNoOrder (Some word) Sort = (order : Order) → IsOrder word.now order → ⊥
HasNoOrder (Some word) other = ⊥

-- the number by which the first ones come, the least first
abbrev pub key_of : Order → ℤ → ℤ
key_of order number = if order.descending then neg_ℤ number else number
