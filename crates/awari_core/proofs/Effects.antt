-- From what the parts and senders of a core do to what the core does.
use Rattle.std.proofs.Common.{◌≡◌, ℕ, ◌+◌, ◌-◌, ◌^◌, ◌<◌, Bool, false, IsTrue, inl, inr, List, [], ◌∷◌, ◌++◌, All, Some, length, get_or, set, refl, sym, ap, subst, subst₂, ◌∙◌, arith, get_or-set_same}
use Rattle.std.proofs.lemmas.List.{get_or_default, set-get_or}
use Rattle.awari_heard.specs.Level.{DistancesFit, no_part}
use Rattle.awari_block.specs.Part.{Part, IsLeastDue, HasFarthest}
use Rattle.awari_owner.specs.Sound.{SameStake, SpreadsFirst, TakesNotes}
use Rattle.awari_block.specs.declared.notes.Note.{Note}
use Rattle.awari_core.specs.Core.{Core, Sender, Sound, DoesSpread, DoesSend, DoesTake, Does, IsEnabled, IsEventFault, MovesBatch, PopsBatch, Runs, no_sender, owner_part, sender_at}
use Rattle.awari_core.specs.declared.cores.Core.TheInside.{Inside}
use Rattle.awari_core.specs.declared.events.Event.{Event}
use Rattle.awari_core.specs.declared.faults.CoreFault.{CoreFault}

-- what a core's fields say
abbrev pub core_of : Inside → Core
core_of inside = record { shelf = inside.shelf; room = inside.room; gain = inside.gain; parts = inside.parts.items; senders = inside.senders.items }

-- ---- what is read

pub not_true : (b : Bool) → b ≡ false → IsTrue b → ⊥
not_true b e t = grind arith

pub sender_was : (senders : List Sender) (i : ℕ) (s : Sender) → i < length senders → s ≡ get_or senders i s → get_or senders i no_sender ≡ s
sender_was senders i s high at = get_or_default senders i no_sender s high ∙ sym at

pub part_was : (parts : List Part) (i : ℕ) (p : Part) → i < length parts → p ≡ get_or parts i p → get_or parts i no_part ≡ p
part_was parts i p high at = get_or_default parts i no_part p high ∙ sym at

-- a sender that stays as it was
pub same_sender : (senders : List Sender) (i : ℕ) (s t : Sender) → i < length senders → s ≡ get_or senders i s → t ≡ s → set senders i t ≡ senders
same_sender senders i s t high at same = ap (set senders i) (same ∙ sym (sender_was senders i s high at)) ∙ set-get_or senders i no_sender

pub as_many : (core : Core) (i : ℕ) → Sound core → i < length core.parts → i < length core.senders
as_many core i sound high = let s = sound.senders in omega (arith, s, high)

-- ---- a spread

abbrev pub with_both : Core → ℕ → Part → Sender → Core
with_both core i p s = record core { parts = set core.parts i p; senders = set core.senders i s }

-- where neither changes, nothing does
pub both_same : (core : Core) (i : ℕ) (p q : Part) (s t : Sender) → i < length core.parts → i < length core.senders → p ≡ get_or core.parts i p → s ≡ get_or core.senders i s → q ≡ p → t ≡ s
    → with_both core i q t ≡ core
both_same core i p q s t high high' at at' same same' =
    ap (λ (l : List Part). record core { parts = l; senders = set core.senders i t }) (ap (set core.parts i) (same ∙ sym (part_was core.parts i p high at)) ∙ set-get_or core.parts i no_part)
    ∙ ap (λ (l : List Sender). record core { senders = l }) (same_sender core.senders i s t high' at' same')

pub spread_does : (old : Core) (i : ℕ) (p q : Part) (s t : Sender) → i < length old.parts → i < length old.senders → p ≡ get_or old.parts i p → s ≡ get_or old.senders i s
    → t.rings ≡ s.rings → SameStake p q → SpreadsFirst p q s.outboxes t.outboxes → DoesSpread old (with_both old i q t) i
spread_does old i p q s t high high' at at' rings place spreads =
    let part = sym (get_or-set_same old.parts i q no_part high) in
    let sender = sym (get_or-set_same old.senders i t no_sender high') in
    let was = sym (part_was old.parts i p high at) in
    let had = sym (sender_was old.senders i s high' at') in
    record {
      changes = record { shelf = refl; room = refl; gain = refl; parts = ap (set old.parts i) part; senders = ap (set old.senders i) sender };
      rings = subst₂ (λ (a b : Sender). b.rings ≡ a.rings) had sender rings;
      stake = subst₂ SameStake was part place;
      spreads = subst₂ (λ (a b : Part). SpreadsFirst a b (sender_at old i).outboxes (sender_at (with_both old i q t) i).outboxes) was part
          (subst₂ (λ (a b : Sender). SpreadsFirst p q a.outboxes b.outboxes) had sender spreads);
    }

pub due_here : (parts : List Part) (i : ℕ) (p : Part) → i < length parts → p ≡ get_or parts i p → IsLeastDue p (Some p.wave) → IsLeastDue (get_or parts i no_part) (Some (get_or parts i no_part).wave)
due_here parts i p high at due = subst (λ (o : Part). IsLeastDue o (Some o.wave)) (sym (part_was parts i p high at)) due

-- no distance is the greatest
pub never_far : (parts : List Part) (i : ℕ) (p : Part) → i < length parts → p ≡ get_or parts i p → All DistancesFit parts → HasFarthest p → ⊥
never_far parts i p high at fit far =
    let (rank, v, inside, settled) = far in
    let low = subst DistancesFit (sym at) (fit i p high) rank v (2 ^ 32 - 1) inside settled in
    omega (arith, low)

-- ---- a send, and a take

pub send_does : (old : Core) (i j : ℕ) (t : Sender) → i < length old.senders → MovesBatch (sender_at old i) t j → DoesSend old (record old { senders = set old.senders i t }) i j
send_does old i j t high moves =
    let sender = sym (get_or-set_same old.senders i t no_sender high) in
    (record { rest = refl; senders = ap (set old.senders i) sender }, subst (λ (u : Sender). MovesBatch (sender_at old i) u j) sender moves)

pub take_does : (old : Core) (i j : ℕ) (batch : List Note) (q : Part) (t : Sender) → i < length old.senders → j < length old.parts → PopsBatch batch (sender_at old i) t j → TakesNotes batch (owner_part old j) q
    → DoesTake old (record old { parts = set old.parts j q; senders = set old.senders i t }) i j
take_does old i j batch q t high high' pops hears =
    let part = sym (get_or-set_same old.parts j q no_part high') in
    let sender = sym (get_or-set_same old.senders i t no_sender high) in
    record {
      batch = batch;
      rest = ap (λ (a : Part). record old { parts = set old.parts j a; senders = set old.senders i t }) part
          ∙ ap (λ (u : Sender). record old { parts = set old.parts j (get_or (set old.parts j q) j no_part); senders = set old.senders i u }) sender;
      pops = subst (λ (u : Sender). PopsBatch batch (sender_at old i) u j) sender pops;
      hears = subst (TakesNotes batch (owner_part old j)) part hears;
    }

-- ---- one event more

pub runs_taken : (old mid new : Core) (events : List Event) (taken refused : ℕ) (event : Event) → Runs old events mid taken refused → IsEnabled mid event → Does mid new event → Sound new
    → Runs old (events ++ event ∷ []) new (taken + 1) refused
runs_taken old mid new [] taken refused event (same, none, none') enabled does last =
    inl (new, 0, subst (λ (c : Core). IsEnabled c event) same enabled, subst (λ (c : Core). Does c new event) same does, last, (refl, refl, none'), ap (λ n. n + 1) none)
runs_taken old mid new (first ∷ events) taken refused event (inl (next, more, ready, effect, sound, runs, one)) enabled does last =
    inl (next, more + 1, ready, effect, sound, runs_taken next mid new events more refused event runs enabled does last, ap (λ n. n + 1) one)
runs_taken old mid new (first ∷ events) taken refused event (inr (fault, more, is, runs, one)) enabled does last =
    inr (fault, more, is, runs_taken old mid new events taken more event runs enabled does last, one)

pub runs_refused : (old mid : Core) (events : List Event) (taken refused : ℕ) (event : Event) (why : CoreFault) → Runs old events mid taken refused → IsEventFault mid event why
    → Runs old (events ++ event ∷ []) mid taken (refused + 1)
runs_refused old mid [] taken refused event why (same, none, none') is =
    inr (why, 0, subst (λ (c : Core). IsEventFault c event why) same is, (same, none, refl), ap (λ n. n + 1) none')
runs_refused old mid (first ∷ events) taken refused event why (inl (next, more, ready, effect, sound, runs, one)) is =
    inl (next, more, ready, effect, sound, runs_refused next mid events more refused event why runs is, one)
runs_refused old mid (first ∷ events) taken refused event why (inr (fault, more, was, runs, one)) is =
    inr (fault, more + 1, was, runs_refused old mid events taken more event why runs is, ap (λ n. n + 1) one)
