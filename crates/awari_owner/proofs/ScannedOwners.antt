-- What an owner is once its boards are scanned.
use Rattle.std.proofs.Common.{◌≡◌, ℕ, ◌+◌, ◌<◌, is_some, List, [], ℤ, None, sym, ap, ◌∙◌, arith}
use Rattle.std.proofs.lemmas.Bool.{false≢true}
use Rattle.awari_block.specs.Shares.{first_rank}
use Rattle.awari_owner.specs.Sound.{IsScannedOwner}
use Rattle.awari_scan.specs.Scan.{IsScannedPart}
use Rattle.awari_heard.specs.Level.{IsWhole}
use Rattle.awari_rank.specs.Rank.{rank_of, size_of}
use Rattle.awari_block.specs.Part.{Part, AreFresh, InBlock, settled_at}
use Rattle.awari_heard.specs.Heard.{HearsOwn}
use Rattle.awari_owner.proofs.Sharing.{end_of_one, first_of_one}

-- of no notes there is nothing to hear where no board is settled
pub hears_none : (part : Part) → ((r : ℕ) → InBlock part r → settled_at part r ≡ None) → HearsOwn part []
hears_none part none = record {
  true_notes = λ p x q is stones in_p in_q quiet m has pit. absurd has;
  all_notes = λ p x q v d is stones in_p in_q quiet spread. absurd (false≢true (sym (ap is_some (sym spread.0 ∙ none (rank_of q) in_q))));
}

-- the part of one owner of this many
pub scanned_owner : (value : List ℕ → ℤ) (n owners i first last : ℕ) (part : Part) → first ≡ first_rank (size_of n) owners i → last ≡ first_rank (size_of n) owners (i + 1) → IsScannedPart value n first last part → AreFresh part
    → IsScannedOwner value n owners i part
scanned_owner value n owners i first last part start end is fresh = record {
  scan = record { level = is.level; gain = is.gain; wave = is.wave; start = is.start ∙ start; end = is.end ∙ end; unsettled = is.unsettled; fresh = is.fresh };
  tallied = is.tallied;
  own = hears_none part is.unsettled;
  fresh = fresh;
}

-- and that of the only one
pub scanned_whole : (value : List ℕ → ℤ) (n owners i first last : ℕ) (part : Part) → owners ≡ 1 → i < owners → first ≡ first_rank (size_of n) owners i → last ≡ first_rank (size_of n) owners (i + 1) → IsScannedPart value n first last part → IsWhole part
scanned_whole value n owners i first last part one low start end is = record {
  start = is.start ∙ low_end;
  all = let start = is.start ∙ low_end in let size = ap size_of is.level in omega (arith, is.end, high_end, start, size);
}
  where
    only : i ≡ 0
    only = omega (arith, one, low)

    low_end : first ≡ 0
    low_end = start ∙ ap (first_rank (size_of n) owners) only ∙ ap (λ k. first_rank (size_of n) k 0) one ∙ first_of_one (size_of n)

    high_end : last ≡ size_of n
    high_end = end ∙ ap (λ k. first_rank (size_of n) owners (k + 1)) only ∙ ap (λ k. first_rank (size_of n) k (0 + 1)) one ∙ end_of_one (size_of n)
