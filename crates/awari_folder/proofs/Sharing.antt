-- What was looked at of a candidate, by two that have it.
use Rattle.std.proofs.Common.{◌≡◌, ◌⊎◌, ◌≤◌, ℕ, List, Ok, inl, inr, sym, subst, true}
use Rattle.std.specs.Prelude.{⊤}
use Rattle.awari_table.specs.declared.TheConstants.{HIGHEST_LEVEL}
use Rattle.awari_table.specs.Certificate.{Table}
use Rattle.awari_table.specs.declared.images.Image.{Image}
use Rattle.awari_file.specs.declared.sealing.Unsealed.{Unsealed}
use Rattle.awari_file.specs.Sealing.{Seals}
use Rattle.awari_verify.specs.Pieces.{IsShare}
use Rattle.awari_verify.specs.Shares.{IsShareOf}
use Rattle.awari_folder.specs.Candidates.{CandidateView, IsCandidate}

pub joined : (shelf : List Image) (old other new : CandidateView) → IsCandidate shelf old → IsCandidate shelf other → other.file ≡ old.file → new.file ≡ old.file
    → (new.sealed ≡ true → (old.sealed ≡ true) ⊎ (other.sealed ≡ true)) → ((t : Table) (level : ℕ) → IsShare t level old.share → IsShare t level other.share → IsShare t level new.share)
    → IsCandidate shelf new
joined shelf old other new a b same is which both = record {
  low = subst (λ (f : Unsealed). f.loaded.image.level ≤ HIGHEST_LEVEL) (sym is) a.low;
  sealed = λ yes.
      subst (λ (f : Unsealed). Seals {X = ⊤} f (Ok tt)) (sym is) (elim (which yes) [
        | inl own ↦ a.sealed own
        | inr theirs ↦ subst (λ (f : Unsealed). Seals {X = ⊤} f (Ok tt)) same (b.sealed theirs)
      ]);
  looked = subst (λ (f : Unsealed). IsShareOf shelf f.loaded.image new.share) (sym is)
      (λ shaped. both _ _ (a.looked shaped) (subst (λ (f : Unsealed). IsShareOf shelf f.loaded.image other.share) same b.looked shaped));
}
