-- The parts of all owners together, and what they heard over lines.
use Rattle.std.proofs.Math.Nat.{lt-div-mul-add, mul_comm}
use Rattle.awari_owner.specs.Sound.{IsScan, IsInBlockOf}
use Rattle.awari_block.specs.Shares.{first_rank}
use Rattle.std.proofs.Common.{length, ◌≡◌, ℕ, suc, ◌+◌, ◌-◌, ◌<◌, ◌≤◌, inl, inr, List, [], ◌∷◌, sum, ℤ, All, refl, sym, ap, subst, subst₂, ◌∙◌, arith, ◌++◌, append-nil, ◌/◌}
use Rattle.std.proofs.lemmas.Bool.{cases_eq}
use Rattle.std.proofs.lemmas.List.Elements.{All-from_get_or}
use Rattle.awari_board.specs.Rules.{IsBoard, next_board}
use Rattle.awari_rank.specs.Rank.{rank_of, size_of}
use Rattle.awari_rank.proofs.Ranking.{rank_fixes}
use Rattle.awari_block.specs.Notes.{IsQuietMove, Has, IsNoteOf}
use Rattle.awari_block.specs.Part.{Part, InBlock, IsTallied, Leaves}
use Rattle.awari_heard.proofs.Levels.{one_holder}
use Rattle.awari_heard.specs.Heard.{Hears, HearsTruth, IsSpread}
use Rattle.awari_heard.specs.Level.{AreBlocks, AreWhole, AreHeard, AreTold, no_part, part_at}
use Rattle.awari_owner.specs.Owners.{AreSound, IsShare}
use Rattle.awari_block.specs.declared.notes.Note.{Note}
use Rattle.awari_owner.proofs.Expecting.{of_share}
use Rattle.awari_block.proofs.NoteLists.{has_for, Has-notes_for, Has-append_left}

-- the blocks of all owners, each from its first rank to that of the next
blocks_from : (level owners k : ℕ) (parts : List Part) → ((i : ℕ) → i < length parts → IsShare level owners (k + i) (part_at parts i))
    → AreBlocks level (first_rank (size_of level) owners k) (first_rank (size_of level) owners (k + length parts)) parts
blocks_from level owners k [] each = let none : k ≡ k + 0 = omega arith in ap (first_rank (size_of level) owners) none
blocks_from level owners k (part ∷ parts) each =
    let zeroth : k + 0 ≡ k = omega arith in
    let first : IsShare level owners k part = subst (λ n. IsShare level owners n part) zeroth (each 0 (omega arith)) in
    let last : (k + 1) + length parts ≡ k + suc (length parts) = omega arith in
    let rest = blocks_from level owners (k + 1) parts (λ i inside. subst (λ n. IsShare level owners n (part_at parts i)) (next i) (each (suc i) (omega (arith, inside)))) in
    let end : first_rank (size_of level) owners k + length part.cells ≡ first_rank (size_of level) owners (k + 1) = ap (λ n. n + length part.cells) (sym first.start) ∙ first.end in (
      (first.level, first.start),
      subst₂ (λ (a b : ℕ). AreBlocks level a b parts) (sym end) (ap (first_rank (size_of level) owners) last) rest,
    )
  where
    next : (i : ℕ) → k + suc i ≡ (k + 1) + i
    next i = omega arith

pub shared_whole : (level owners : ℕ) (parts : List Part) → 1 ≤ owners → length parts ≡ owners → ((i : ℕ) → i < length parts → IsShare level owners i (part_at parts i)) → AreWhole level parts
shared_whole level owners parts some many each =
    let low : first_rank (size_of level) owners 0 ≡ 0 = omega arith in
    let boards = size_of level in
    let more = lt-div-mul-add {a = boards + (owners - 1)} {b = owners} some in
    let turned = mul_comm owners ((boards + (owners - 1)) / owners) in
    let high : first_rank (size_of level) owners owners ≡ size_of level = omega (arith, more, turned, some) in
    let all = blocks_from level owners 0 parts (λ i inside. subst (λ n. IsShare level owners n (part_at parts i)) (none i) (each i inside)) in
    let last : 0 + length parts ≡ owners = omega (arith, many) in
    subst₂ (λ (a b : ℕ). AreBlocks level a b parts) low (ap (first_rank (size_of level) owners) last ∙ high) all
  where
    none : (i : ℕ) → i ≡ 0 + i
    none i = omega arith

pub scanned_whole : (level owners : ℕ) (parts : List Part) → 1 ≤ owners → length parts ≡ owners → ((i : ℕ) → i < length parts → IsScan level owners i (part_at parts i)) → AreWhole level parts
scanned_whole level owners parts some many each =
    shared_whole level owners parts some many (λ i inside. let scan = each i inside in record { level = scan.level; start = scan.start; end = scan.end })

module _ (value : List ℕ → ℤ) (level : ℕ) (parts : List Part) (coming taken : ℕ → ℕ → List Note) (some : 1 ≤ length parts)
    (sound : AreSound value level (length parts) (part_at parts) coming taken) where
  whole : AreWhole level parts
  whole = shared_whole level (length parts) parts some refl sound.shares

  abbrev noted : (j : ℕ) → j < length parts → List Note
  noted j in_j = (sound.sound j in_j).heard

  -- a move to a board of another block leaves its own
  leaving : (i j : ℕ) → i < length parts → j < length parts → (i ≡ j → ⊥) → (p : List ℕ) (x : ℕ) (q : List ℕ) → IsBoard p → sum p ≡ (part_at parts j).level
      → InBlock (part_at parts i) (rank_of q) → IsQuietMove p x q → (target pit : ℕ) → target ≡ rank_of p → pit ≡ x → Leaves (part_at parts j) target pit
  leaving i j in_i in_j apart p x q is stones held quiet target pit to from b is_b stones_b ranked =
      let same : p ≡ b = rank_fixes p b is.pits is_b.pits (stones ∙ sym stones_b) (sym to ∙ sym ranked) in
      let move : IsQuietMove b x q = subst (λ (c : List ℕ). IsQuietMove c x q) same quiet in
      (q, subst (λ y. IsQuietMove b y q) (sym from) move, λ own. apart (one_holder level 0 (size_of level) parts whole i j in_i in_j (rank_of q) held own))

  true_lines : (i j : ℕ) → i < length parts → (in_j : j < length parts) → HearsTruth (part_at parts i) (part_at parts j) (noted j in_j)
  true_lines i j in_i in_j p x q is stones held_p held_q quiet m has pit = elim (cases_eq i j) [
    | inl same ↦ subst (λ k. (v : ℤ) × (d : ℕ) × IsSpread (part_at parts k) (rank_of q) v d × IsNoteOf q v d p x m) (sym same)
        ((sound.sound j in_j).hears_own.true_notes p x q is stones held_p (subst (λ k. InBlock (part_at parts k) (rank_of q)) same held_q) quiet m has pit)
    | inr apart ↦
        let (heard, target) = Has-notes_for (rank_of p) (noted j in_j) m has in
        let leaves = leaving i j in_i in_j apart p x q is stones held_q quiet m.target m.pit target pit in
        let (k, other, took) = (sound.sound j in_j).heard_taken m heard leaves in
        let in_k = other.1 in
        let (b, r, y, v, d, is_b, stones_b, held_r, block, spread, note) = ((sound.sound k in_k).given_notes j ((λ e. other.0 (sym e)), in_j)).true_notes m (Has-append_left (taken k j) (coming k j) m took) in
        let board : b ≡ p = rank_fixes b p is_b.pits is.pits (stones_b ∙ (sound.shares k in_k).level ∙ sym (sound.shares j in_j).level ∙ sym stones) (sym note.target ∙ target) in
        let from : y ≡ x = sym note.pit ∙ pit in
        let next : r ≡ q = note.quiet.leaves ∙ ap (λ c. next_board c y) board ∙ ap (next_board p) from ∙ sym quiet.leaves in
        let owner : k ≡ i = one_holder level 0 (size_of level) parts whole k i in_k in_i (rank_of q) (subst (λ (c : List ℕ). InBlock (part_at parts k) (rank_of c)) next held_r) held_q in
        let there : IsSpread (part_at parts k) (rank_of q) v d = subst (λ (c : List ℕ). IsSpread (part_at parts k) (rank_of c) v d) next spread in
        let at_q : IsNoteOf q v d b y m = subst (λ (c : List ℕ). IsNoteOf c v d b y m) next note in
        let at_p : IsNoteOf q v d p x m = subst₂ (λ (c : List ℕ) (z : ℕ). IsNoteOf q v d c z m) board from at_q in
        (v, d, subst (λ l. IsSpread (part_at parts l) (rank_of q) v d) owner there, at_p)
  ]

  -- at any time what was heard is true
  pub sound_told : AreTold value parts
  sound_told = All-from_get_or (λ (part : Part). (ns : List Note) × IsTallied value part ns × All (λ source. HearsTruth source part ns) parts) parts no_part
      (λ j in_j. (noted j in_j, (sound.sound j in_j).tallied, All-from_get_or (λ (source : Part). HearsTruth source (part_at parts j) (noted j in_j)) parts no_part (λ i in_i. true_lines i j in_i in_j)))

  module _ (arrived : (i j : ℕ) → i < length parts → j < length parts → (i ≡ j → ⊥) → coming i j ≡ []) where
    all_lines : (i j : ℕ) → i < length parts → (in_j : j < length parts) → Hears (part_at parts i) (part_at parts j) (noted j in_j)
    all_lines i j in_i in_j = record {
      true_notes = true_lines i j in_i in_j;
      all_notes = λ p x q v d is stones held_p held_q quiet spread. elim (cases_eq i j) [
        | inl same ↦ (sound.sound j in_j).hears_own.all_notes p x q v d is stones held_p (subst (λ k. InBlock (part_at parts k) (rank_of q)) same held_q) quiet
            (subst (λ k. IsSpread (part_at parts k) (rank_of q) v d) same spread)
        | inr apart ↦
            let level = (sound.shares i in_i).level in
            let block = subst (λ l. IsInBlockOf l (length parts) j (rank_of p)) (sym level) (of_share _ (length parts) j (rank_of p) (part_at parts j) (sound.shares j in_j) held_p) in
            let (m, due, note) = ((sound.sound i in_i).given_notes j ((λ e. apart (sym e)), in_j)).all_notes p q x v d is (stones ∙ (sound.shares j in_j).level ∙ sym level) held_q block quiet spread in
            let took : Has (taken i j) m = subst (λ (l : List Note). Has l m) (ap (λ l. taken i j ++ l) (arrived i j in_i in_j apart) ∙ append-nil (taken i j)) due in
            let heard = (sound.sound j in_j).taken_heard i (apart, in_i) m took in
            (m, has_for (rank_of p) (noted j in_j) m heard note.target, note)
      ];
    }

    -- and where nothing is on its way all was heard
    pub sound_heard : AreHeard value parts
    sound_heard = All-from_get_or (λ (part : Part). (ns : List Note) × IsTallied value part ns × All (λ source. Hears source part ns) parts) parts no_part
        (λ j in_j. (noted j in_j, (sound.sound j in_j).tallied, All-from_get_or (λ (source : Part). Hears source (part_at parts j) (noted j in_j)) parts no_part (λ i in_i. all_lines i j in_i in_j)))
