use Rattle.std.proofs.Common.{◌≡◌, Some, None, Option, List, ℕ, codes, true, false, subst}
use Rattle.clap.proofs.WalkLemmas.{one_text-rows}
use Rattle.clap.specs.Matches.{found_of}
use Rattle.awari_words.proofs.requests.flag.Goals as goal

pub returns : goal.returns
returns c =
    let same = one_text-rows (found_of c.args.given.now) c.args.name.now in
    record {
      lacks = subst (λ (o : Option (List ℕ)). o ≡ None → c.get_flag.result ≡ false) same c.get_flag.ensures.none;
      set = subst (λ (o : Option (List ℕ)). o ≡ Some (codes "true") → c.get_flag.result ≡ true) same c.get_flag.ensures.value;
      unset = subst (λ (o : Option (List ℕ)). o ≡ Some (codes "false") → c.get_flag.result ≡ false) same c.get_flag.ensures.other;
    }
