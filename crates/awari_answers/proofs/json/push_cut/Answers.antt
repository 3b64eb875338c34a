use Rattle.std.proofs.Common.{◌≡◌, ◌≤◌, ◌++◌, ◌∙◌, ◌+◌, ℕ, ap, arith, length, length-take, min, take, Result, Ok, Err, OnOk, IsOk}
use Rattle.std.proofs.lemmas.Bool.{false≢true}
use Rattle.awari_answers.proofs.Requests.{cut_behind}
use Rattle.awari_answers.proofs.json.push_cut.Goals as goal

-- what is promised of a result that is ok
promised : {T E : Type 0} (K : Type 0) (r : Result T E) → IsOk r → OnOk r K → K
promised K (Ok x) ok kept = kept
promised K (Err e) ok kept = absurd (false≢true ok)

pub returns : goal.returns
returns c =
    let count : c.min-count.result ≡ min (length c.args.bytes.now) c.remaining_capacity.result = c.min-count.ensures in
    let room : length c.args.text.now.items + c.remaining_capacity.result ≡ 200 = omega (arith, c.remaining_capacity.ensures) in
    let fits : length c.args.text.now.items + length (take c.min-count.result c.args.bytes.now) ≤ 200 =
    omega (arith, room, count, length-take c.min-count.result c.args.bytes.now) in
    promised _ c.try_extend_from_slice.result (c.try_extend_from_slice.ensures.variant.1 fits) c.try_extend_from_slice.ensures.ok
    ∙ ap (λ (n : ℕ). c.args.text.now.items ++ take n c.args.bytes.now) count
    ∙ cut_behind 200 c.remaining_capacity.result c.args.text.now.items c.args.bytes.now room
