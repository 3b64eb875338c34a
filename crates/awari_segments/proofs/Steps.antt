-- What a step makes of one part: the same boards are spread, and some notes more were heard.
use Rattle.std.proofs.Common.{◌≡◌, ℕ, ◌/◌, ◌<◌, ◌⊎◌, inl, inr, List, [], ◌∷◌, get_or, ℤ, sym, subst, subst₂, ◌∙◌}
use Rattle.awari_block.specs.Boards.{Settles, stake_of}
use Rattle.awari_block.specs.Each.{EachTo}
use Rattle.awari_block.specs.Notes.{Has}
use Rattle.awari_block.specs.Part.{Part}
use Rattle.awari_block.specs.declared.notes.Kind.TheVariants.{Lost, Won}
use Rattle.awari_block.specs.declared.notes.Note.{Note}
use Rattle.awari_block.specs.declared.stakes.Stake.{Stake}
use Rattle.awari_block.proofs.Settling.{settles_both}
use Rattle.awari_heard.specs.Heard.{IsSeenAs, with_heard}
use Rattle.awari_heard.proofs.Coming.{had_either, had_still}
use Rattle.awari_heard.proofs.SpreadBoards.{spread_before, spread_stays}
use Rattle.awari_segments.specs.Each.{OpensGain, OpensWave}
use Rattle.awari_segments.specs.Lists.{list_at}
use Rattle.awari_segments.specs.Segments.{both_by, notes_by}
use Rattle.awari_segments.specs.declared.rows.Row.{Row}
use Rattle.awari_segments.proofs.Telling.{stake_still}
use Rattle.awari_segments.proofs.Opened.{StaysSpread, gain_spread, gain_told, wave_spread, wave_told}
use Rattle.awari_segments.specs.Tellings.{HearsAll, HearsMore, HearsSurely, Tell, Telling, notes_to, telling_of}
use Rattle.awari_segments.proofs.Surely.{surely_then}

seen_as : (old new : Part) → StaysSpread old new → IsSeenAs old new
seen_as old new same = record {
  level = same.block.level;
  start = same.block.start;
  len = same.block.size;
  stays = λ r v d inside spread. spread_stays old new same.block.start same.stays same.joins r v d inside.0 spread;
  before = λ r v d inside spread. spread_before old new same.block.start same.stays same.joins r v d inside.0 spread;
}

-- notes are heard
pub hears_more : (more : List Note) (old new : Part) → Settles old new → HearsSurely more old new → HearsMore more old new
hears_more more old new settles tells = record {
  seen = seen_as old new (record { block = record { level = settles.same.level; start = settles.same.start; size = settles.size }; stays = settles.stays; joins = settles.joins });
  tells = tells;
}

-- a gain is opened
opens_more : (gain : ℕ) (old new : Part) → OpensGain gain old new → HearsMore [] old new
opens_more gain old new opens = record {
  seen = seen_as old new (gain_spread gain old new opens.opens);
  tells = λ value notes tallied. gain_told value gain old new opens.positive opens.next opens.opens notes tallied;
}

pub all_opened : (gain : ℕ) (old new : List Part) → EachTo (OpensGain gain) old new → EachTo (HearsMore []) old new
all_opened gain old new all = record { many = all.many; each = λ i d few. opens_more gain (get_or old i d) (get_or new i d) (all.each i d few) }

-- a distance is opened
waves_more : (dist : ℕ) (old new : Part) → OpensWave dist old new → HearsMore [] old new
waves_more dist old new opens =
    subst (HearsMore [] old) (sym opens.opens)
    (record { seen = seen_as old (record old { wave = dist }) (wave_spread dist old); tells = λ value notes tallied. wave_told value dist old opens.farther notes tallied })

pub all_waved : (dist : ℕ) (old new : List Part) → EachTo (OpensWave dist) old new → EachTo (HearsMore []) old new
all_waved dist old new all = record { many = all.many; each = λ i d few. waves_more dist (get_or old i d) (get_or new i d) (all.each i d few) }

pub had_new : (more notes : List Note) (m : Note) → Has more m → Has (with_heard more notes) m
had_new (k ∷ more) notes m (inl same) = had_still more (k ∷ notes) m (inl same)
had_new (k ∷ more) notes m (inr later) = had_new more (k ∷ notes) m later
had_new [] notes m has = elim has [ ]

-- what was heard of all members, once some of it more was heard
pub all_more : (value : List ℕ → ℤ) (span members : ℕ) (ears ears' : ℕ → List Telling) (more : List Note) (old new : Part) → HearsMore more old new
    → ((j : ℕ) (m : Note) → j < members → Tell (ears j) (old.start / span) m → Tell (ears' j) (old.start / span) m) → ((m : Note) → Has more m → (j : ℕ) × (j < members) × Tell (ears' j) (old.start / span) m)
    → ((j : ℕ) (m : Note) → j < members → Tell (ears' j) (old.start / span) m → Tell (ears j) (old.start / span) m ⊎ Has more m)
    → HearsAll value span members ears old → HearsAll value span members ears' new
all_more value span members ears ears' more old new hears still some either all =
    subst (λ start. (told : ((m : Note) → Has (with_heard more all.heard) m → (j : ℕ) × (j < members) × Tell (ears' j) (start / span) m)) → ((j : ℕ) (m : Note) → j < members → Tell (ears' j) (start / span) m → Has (with_heard more all.heard) m) → HearsAll value span members ears' new) hears.seen.start
    (λ told rest. record { heard = with_heard more all.heard; tallied = hears.tells value all.heard all.tallied; told = told; all = rest })
    (λ m has. elim (had_either more all.heard m has) [
      | inl was ↦ let at = all.told m was in (at.0, at.1, still at.0 m at.1 at.2)
      | inr is ↦ some m is
    ])
    (λ j m low tell. elim (either j m low tell) [
      | inl was ↦ had_still more all.heard m (all.all j m low was)
      | inr is ↦ had_new more all.heard m is
    ])

-- a row is heard: the notes of lost boards, and then those of won ones
pub hears_row : (stake : Stake) (row : Row) (k number : ℕ) (old mid new : Part) (lost won : List ℕ) → stake_of old ≡ stake → k ≡ number → lost ≡ list_at row.lost number → won ≡ list_at row.won number
    → Settles old mid → HearsSurely (notes_by (stake_of old) Lost lost) old mid → Settles mid new → HearsSurely (notes_by (stake_of mid) Won won) mid new → HearsMore (notes_to k (telling_of stake row)) old new
hears_row stake row k number old mid new lost won at is is_lost is_won first one second two =
    subst (λ n. HearsMore (notes_to n (telling_of stake row)) old new) (sym is)
    (subst₂ (λ (a b : List ℕ). HearsMore (both_by stake a b) old new) is_lost is_won
    (hears_more (both_by stake lost won) old new (settles_both old mid new first second)
    (surely_then (notes_by stake Lost lost) (notes_by stake Won won) old mid new (subst (λ s. HearsSurely (notes_by s Lost lost) old mid) at one)
    (subst (λ s. HearsSurely (notes_by s Won won) mid new) (stake_still old mid first.same ∙ at) two))))
