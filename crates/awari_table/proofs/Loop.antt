-- Reading entries one after the other, as a loop does.
use Rattle.std.proofs.Common.{◌≡◌, ℕ, suc, ◌-◌, ◌+◌, ◌≤◌, ◌<◌, List, [], ◌∷◌, ◌++◌, length, Some, None, Result, Ok, Err, refl, sym, ap, ◌∙◌, append_assoc, arith}
use Rattle.std.proofs.lemmas.List.{append-nil, length-append}
use Rattle.awari_table.specs.declared.images.Entry.{Entry}
use Rattle.awari_table.specs.declared.faults.TableFault.{TableFault}
use Rattle.awari_table.specs.declared.faults.TableFault.TheVariants.{Line, Order, High, Short, Memory}
use Rattle.awari_table.specs.Reading.{entry_at}
use Rattle.awari_table.specs.Blocks.{◌>>=◌, Fails, line_fault, entries_at}

-- what was read before, and what is still read
abbrev pub with_front : List Entry → Result (List Entry × List ℕ) TableFault → Result (List Entry × List ℕ) TableFault
with_front front read = read >>= λ x. Ok (front ++ x.0, x.1)

-- how far the loop has come
pub record Reached (front : List Entry) (len room count done line : ℕ) (rest : List ℕ) (total : Result (List Entry × List ℕ) TableFault) : Type 0 where
  pub so_far : with_front front (entries_at (count - done) (line + done) rest) ≡ total
  pub sized : length front ≡ done
  pub len_is : len ≡ done
  pub enough : count ≤ room

regroup : (front : List Entry) (e : Entry) (read : Result (List Entry × List ℕ) TableFault) → with_front front (read >>= λ x. Ok (e ∷ x.0, x.1)) ≡ with_front (front ++ e ∷ []) read
regroup front e (Ok x) = ap (λ (es : List Entry). Ok (es, x.1)) (simp append_assoc)
regroup front e (Err f) = refl

pub goes_on : (front : List Entry) (count i line : ℕ) (bytes : List ℕ) (e : Entry) (after : List ℕ) (total : Result (List Entry × List ℕ) TableFault) → i < count → entry_at bytes ≡ Some (e, after)
    → with_front front (entries_at (count - i) (line + i) bytes) ≡ total → with_front (front ++ e ∷ []) (entries_at (count - (i + 1)) (line + (i + 1)) after) ≡ total
unfolding entries_at
goes_on front count i line bytes e after total lt h so_far =
    let k : count - i ≡ suc (count - (i + 1)) = omega arith in
    let m : line + i + 1 ≡ line + (i + 1) = omega arith in
    let one : with_front front (entries_at (count - i) (line + i) bytes) ≡ with_front (front ++ e ∷ []) (entries_at (count - (i + 1)) (line + (i + 1)) after) = rw (k, h, m) (regroup front e (entries_at (count - (i + 1)) (line + (i + 1)) after)) in
    sym one ∙ so_far

fails : (f : TableFault) (total : Result (List Entry × List ℕ) TableFault) → total ≡ Err f → Fails f total
fails (Line l) total e = e
fails (Order l) total e = e
fails (High l) total e = e
fails Short total e = e
fails Memory total e = tt

pub ends : (front : List Entry) (count i line : ℕ) (bytes : List ℕ) (total : Result (List Entry × List ℕ) TableFault) → i < count → entry_at bytes ≡ None
    → with_front front (entries_at (count - i) (line + i) bytes) ≡ total → Fails (line_fault (line + i) bytes) total
unfolding entries_at
ends front count i line bytes total lt h so_far =
    let k : count - i ≡ suc (count - (i + 1)) = omega arith in
    let one : with_front front (entries_at (count - i) (line + i) bytes) ≡ Err (line_fault (line + i) bytes) = rw (k, h) refl in
    fails _ total (sym so_far ∙ one)

pub is_done : (front : List Entry) (count i line : ℕ) (bytes : List ℕ) (total : Result (List Entry × List ℕ) TableFault) → count ≤ i → with_front front (entries_at (count - i) (line + i) bytes) ≡ total → total ≡ Ok (front, bytes)
unfolding entries_at
is_done front count i line bytes total le so_far =
    let k : count - i ≡ 0 = omega arith in
    let one : with_front front (entries_at (count - i) (line + i) bytes) ≡ Ok (front, bytes) = rw k (ap (λ (es : List Entry). Ok (es, bytes)) (append-nil front)) in
    sym so_far ∙ one

pub steps_on : (front next : List Entry) (len len' room room' count done line : ℕ) (rest : List ℕ) (e : Entry) (after : List ℕ) (total : Result (List Entry × List ℕ) TableFault)
    → Reached front len room count done line rest total → done < count → entry_at rest ≡ Some (e, after) → next ≡ front ++ e ∷ [] → len' ≡ len + 1 → room ≤ room'
    → Reached next len' room' count (done + 1) line after total
steps_on front next len len' room room' count done line rest e after total r lt h items len-is room-is = record {
  so_far = rw items (goes_on front count done line rest e after total lt h r.so_far);
  sized = rw items (omega (arith, length-append front (e ∷ []), r.sized));
  len_is = omega (arith, r.len_is);
  enough = omega (arith, r.enough);
}
