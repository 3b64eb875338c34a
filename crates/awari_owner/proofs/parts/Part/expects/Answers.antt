use Rattle.std.proofs.Common.{◌≡◌, IsTrue, ap, subst, ◌∙◌, rules, arith}
use Rattle.awari_block.specs.Boards.{stake_of}
use Rattle.awari_block.specs.Part.{Part, InBlock}
use Rattle.awari_block.specs.declared.stakes.Stake.{Stake}
use Rattle.awari_owner.proofs.parts.Part.expects.Goals as goal

pub returns : goal.returns
returns c =
    let at : c.stake-stake.result ≡ stake_of c.args.self.now = c.stake-stake.ensures.stake ∙ ap stake_of c.self.view_is in
    let level : c.stake-stake.result.level ≡ c.args.self.now.level = ap (λ (p : Stake). p.level) at in
    let gain : c.stake-stake.result.gain ≡ c.args.self.now.gain = ap (λ (p : Stake). p.gain) at in
    let wave : c.stake-stake.result.wave ≡ c.args.self.now.wave = ap (λ (p : Stake). p.wave) at in
    let holds : IsTrue c.holds.result = search rules in (
      λ t. record {
        level = omega (arith, level);
        gain = omega (arith, gain);
        opened = omega (arith, level, gain);
        dist = omega (arith, wave);
        held = subst (λ (o : Part). InBlock o c.args.note.now.target) c.self.view_is (c.holds.ensures.0 holds);
        own = omega arith;
        leaves = c.leaves.ensures.0 t;
      },
      λ expected. c.leaves.ensures.1 expected.leaves,
    )
