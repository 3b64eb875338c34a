-- A board at which all notes were heard keeps the rules of an image, at gain 1.
use Rattle.std.proofs.Common.{◌≡◌, ℕ, ◌<◌, ◌≤◌, ◌⊎◌, inl, inr, is_some, List, ℤ, pos, neg_ℤ, ◌≤ℤ◌, ◌<ℤ◌, Option, Some, None, refl, sym, ap, subst, ◌∙◌, arith}
use Rattle.std.proofs.lemmas.Bool.{false≢true}
use Rattle.awari_table.specs.Certificate.{plies}
use Rattle.awari_block.specs.Plain as plain
use Rattle.awari_block.specs.Plain.{left_of, IsPlain}
use Rattle.awari_block.specs.Tally.{Status, Ended, Open, Settled, Cell, IsStatus}
use Rattle.awari_block.specs.Part.{settled_by}
use Rattle.awari_block.specs.declared.notes.Note.{Note}
use Rattle.awari_heard.proofs.PlainFinish as plain_finish
use Rattle.awari_heard.specs.Finish.{value_by, dist_by, gains, IsQuietAt, IsRightAt}
use Rattle.awari_heard.proofs.Finishing as finishing

-- a settled status, with its plans
pub settled_status : (s : Status) (v : ℤ) (d : ℕ) → settled_by s ≡ Some (v, d) → (plans : ℕ) × (s ≡ Settled v d plans)
settled_status (Ended g) v d e = absurd (false≢true (ap is_some e))
settled_status (Open best plans far) v d e = absurd (false≢true (ap is_some e))
settled_status (Settled u k plans) v d e =
    let one : ℤ × ℕ = (u, k) in
    let two : ℤ × ℕ = (v, d) in
    let same : one ≡ two = some_one one two e in
    (plans, ap (λ (x : ℤ × ℕ). Settled x.0 x.1 plans) same)
  where
    some_one : (a b : ℤ × ℕ) → Some a ≡ Some b → a ≡ b
    some_one a b e = cc

-- the status without plans, where so many quiet moves are left and the best capture is this
abbrev plain_status : ℕ → Option ℤ → Status → plain.Status
plain_status count capture (Ended gain) = plain.Ended gain
plain_status count capture (Open best plans far) = plain.Open count capture far
plain_status count capture (Settled value dist plans) = plain.Settled value dist

-- cells of the same values and distances are right alike
module _ (value : List ℕ → ℤ) (a : List ℕ → plain.Status) (b : List ℕ → Cell) (values : (q : List ℕ) → value_by (b q).status ≡ plain_finish.value_by (a q)) (dists : (q : List ℕ) → dist_by (b q).status ≡ plain_finish.dist_by (a q)) (p : List ℕ) where
  gains_to : (c : ℕ) (q : List ℕ) (u v : ℤ) → u ≡ v → plain_finish.gains value a c q u → gains value b c q v
  gains_to c q u v e (inl (some, gain)) = inl (some, sym e ∙ gain)
  gains_to c q u v e (inr (none, gain)) = inr (none, sym e ∙ gain ∙ ap neg_ℤ (sym (values q)))

  gains_from : (c : ℕ) (q : List ℕ) (u v : ℤ) → u ≡ v → gains value b c q u → plain_finish.gains value a c q v
  gains_from c q u v e (inl (some, gain)) = inl (some, sym e ∙ gain)
  gains_from c q u v e (inr (none, gain)) = inr (none, sym e ∙ gain ∙ ap neg_ℤ (values q))

  nearer : (c : ℕ) (q : List ℕ) → (0 < c) ⊎ (plain_finish.dist_by (a q) < plain_finish.dist_by (a p)) → (0 < c) ⊎ (dist_by (b q).status < dist_by (b p).status)
  nearer c q (inl some) = inl some
  nearer c q (inr less) = inr (let d = dists q in let e = dists p in omega (arith, less, d, e))

  takes : (c : ℕ) (q : List ℕ) → plies c (dist_by (b q).status) ≡ plies c (plain_finish.dist_by (a q))
  takes c q = ap (plies c) (dists q)

  pub right_alike : plain_finish.IsRightAt value a p → IsRightAt value b p
  right_alike r = record {
    ends = λ g end. (values p ∙ (r.ends g end).0, dists p ∙ (r.ends g end).1);
    no_more = λ x c q v move gain. subst (λ z. v ≤ℤ z) (sym (values p)) (r.no_more x c q v move (gains_from c q v v refl gain));
    planned = λ going.
        let (x, c, q, move, gain, near) = r.planned going in
        (x, c, q, move, gains_to c q _ _ (sym (values p)) gain, λ won. nearer c q (near (subst (λ z. pos 0 <ℤ z) (values p) won)));
    even = λ e. dists p ∙ r.even (sym (values p) ∙ e);
    uneven = λ going other. subst (λ d. 1 ≤ d) (sym (dists p)) (r.uneven going (λ e. other (values p ∙ e)));
    losing = λ low x q quiet. let less = r.losing (subst (λ z. z <ℤ pos 0) (values p) low) x q quiet in let d = dists q in let e = dists p in omega (arith, less, d, e);
    won = λ going up.
        let (some, all) = r.won going (subst (λ z. pos 0 <ℤ z) (values p) up) in
        let (x, c, q, move, gain, long) = some in (
          (x, c, q, move, gains_to c q _ _ (sym (values p)) gain, takes c q ∙ long ∙ sym (dists p)),
          λ y k s other gained. let least = all y k s other (gains_from k s _ _ (values p) gained) in let d = takes k s in let e = dists p in omega (arith, least, d, e),
        );
    lost = λ going down.
        let (some, all) = r.lost going (subst (λ z. z <ℤ pos 0) (values p) down) in
        let (x, c, q, move, long) = some in (
          (x, c, q, move, takes c q ∙ long ∙ sym (dists p)),
          λ y k s other. let most = all y k s other in let d = takes k s in let e = dists p in omega (arith, most, d, e),
        );
  }

-- ---- a cell with its plan is right

module _ (count : ℕ) (capture : Option ℤ) where
  plain_settled : (s : Status) (v : ℤ) (d : ℕ) → settled_by s ≡ Some (v, d) → plain_status count capture s ≡ plain.Settled v d
  plain_settled s v d e = let found = settled_status s v d e in ap (plain_status count capture) found.1

  settled_plain : (s : Status) (v : ℤ) (d : ℕ) → plain_status count capture s ≡ plain.Settled v d → settled_by s ≡ Some (v, d)
  settled_plain s v d e = same s ∙ ap plain_by e
    where
      plain_by : plain.Status → Option (ℤ × ℕ)
      plain_by (plain.Ended gain) = None
      plain_by (plain.Open left best far) = None
      plain_by (plain.Settled value dist) = Some (value, dist)

      same : (s : Status) → settled_by s ≡ plain_by (plain_status count capture s)
      same (Ended gain) = refl
      same (Open best plans far) = refl
      same (Settled u k plans) = refl

  same_value : (s : Status) → value_by s ≡ plain_finish.value_by (plain_status count capture s)
  same_value (Ended gain) = refl
  same_value (Open best plans far) = refl
  same_value (Settled v d plans) = refl

  same_dist : (s : Status) → dist_by s ≡ plain_finish.dist_by (plain_status count capture s)
  same_dist (Ended gain) = refl
  same_dist (Open best plans far) = refl
  same_dist (Settled v d plans) = refl

module _ (value : List ℕ → ℤ) (cell : List ℕ → Cell) (p : List ℕ) (notes : List Note) (heard : IsQuietAt value cell p notes) where
  right_by : (count : ℕ) (capture : Option ℤ) → IsPlain value p notes 1 (plain_status count capture (cell p).status) → IsRightAt value cell p
  right_by count capture status =
      right_alike value (λ q. plain_status count capture (cell q).status) cell (λ q. same_value count capture (cell q).status) (λ q. same_dist count capture (cell q).status) p
      (finishing.quiet_right value (λ q. plain_status count capture (cell q).status) p notes (record {
        opened = heard.tallied.1.opened;
        status = status;
        true_notes = λ m has.
            let (q, v, d, quiet, settled, gain, dist) = heard.true_notes m has in
            (q, v, d, quiet, plain_settled count capture (cell q).status v d settled, gain, dist);
        all_notes = λ x q v d quiet settled. heard.all_notes x q v d quiet (settled_plain count capture (cell q).status v d settled);
      }))

  -- where all notes were heard at gain 1 a board is right
  pub quiet_right : IsRightAt value cell p
  quiet_right = at (cell p).status refl heard.tallied.1.status
    where
      at : (s : Status) → (cell p).status ≡ s → IsStatus value p notes 1 s → IsRightAt value cell p
      at (Ended gain) is h = right_by 0 None (subst (λ s. IsPlain value p notes 1 (plain_status 0 None s)) (sym is) h)
      at (Open best plans far) is h =
          right_by (left_of p notes) h.plain.0 (subst (λ s. IsPlain value p notes 1 (plain_status (left_of p notes) h.plain.0 s)) (sym is) h.plain.1)
      at (Settled v d plans) is h = right_by 0 None (subst (λ s. IsPlain value p notes 1 (plain_status 0 None s)) (sym is) h.settled)
