-- How many calls of a reader or a writer answered a fault.
use Rattle.std.specs.Prelude.{◌≡◌, ℕ, ◌+◌, ◌-◌, ◌^◌, ◌≤◌, ◌<◌, List, ◌++◌, min, Option, Result, Ok, IfOk, OnOk, OnErr}
use Rattle.std.specs.Io.KnownBytes.{Appends}
use Rattle.awari_streams.specs.declared.counted.Counted.{Counted}

module _ {T : Type 0} where
  -- the reader or writer whose calls are counted
  abbrev pub inner_of : Counted T → T
  inner_of c = c.inner

  -- how many faults were counted
  abbrev pub faults_of : Counted T → ℕ
  faults_of c = c.count

-- one more, staying at the greatest u64
abbrev pub one_more : ℕ → ℕ
one_more n = min (n + 1) (2 ^ 64 - 1)

-- the count grew; one that stood at the greatest u64 is taken as grown
abbrev pub Grew : ℕ → ℕ → Type 0
Grew old new = one_more old ≤ new

-- What a write of this many bytes counts: one fault if it is refused or takes none of them, and else none.
pub record CountsWrite {E : Type 0} (wanted : ℕ) (result : Result ℕ E) (old new : ℕ) : Type 0 where
  pub took : IfOk result (λ n. 0 < n → new ≡ old)
  pub empty : OnOk result (wanted ≡ 0 → new ≡ old)
  pub none : result ≡ Ok 0 → 0 < wanted → new ≡ one_more old
  pub err : OnErr result (new ≡ one_more old)
  pub never_less : old ≤ new

-- a front of these bytes was written
abbrev pub AppendsFront : Option (List ℕ) → Option (List ℕ) → List ℕ → Type 0
AppendsFront old new bytes = (front rest : List ℕ) × (bytes ≡ front ++ rest) × Appends old new front
