use Rattle.std.proofs.Common.{◌≡◌, ◌+◌, ◌-◌, get_or, set, ap, sym, ◌∙◌, arith}
use Rattle.awari_block.specs.Blocks.{no_cell}
use Rattle.awari_block.specs.Part.{Part}
use Rattle.awari_block.specs.declared.stakes.Stake.{Stake}
use Rattle.awari_block.proofs.Opening.{opens_both, put_one}
use Rattle.awari_block.proofs.Settling.{settles_both}
use Rattle.awari_block.proofs.boards.Boards.open_cells.Goals as goal

pub loop-index-preserved : goal.loop-index-preserved
loop-index-preserved g c =
    let before = c.loop-index.invariant in
    let same = before.settles.same in
    let size = before.settles.size in
    let found = c.in-Some.ensures.some in
    let later = found.0 in
    let inside = found.1 in
    let start = ap (λ (p : Part). p.start) c.self.view_is in
    let same_start = same.start in
    let at : c.self.inside.start + c.in-Some.index - c.loop-index.self.start ≡ c.in-Some.index = omega (arith, start, same_start) in
    let put = c.in_ok-put.ensures.cells ∙ ap (λ n. set c.loop-index.self.cells n c.with_gain.result) at in
    let read = ap (λ n. get_or c.loop-index.self.cells n no_cell) (sym at) ∙ sym c.cell-cell.ensures.stored in
    let level = same.level ∙ sym (ap (λ (p : Stake). p.level) c.stake-stake.ensures.stake) in
    let gain = same.gain ∙ sym (ap (λ (p : Stake). p.gain) c.stake-stake.ensures.stake) in
    record {
      within = omega (arith, inside, size);
      settles = settles_both c.args.self.now c.loop-index.self c.put.new.self before.settles c.in_ok-put.ensures.settles;
      opens = opens_both c.args.self.now c.loop-index.self c.put.new.self 0 c.in-Some.index _ (omega arith) (omega arith) same size
          (opens_both c.args.self.now c.loop-index.self c.loop-index.self 0 c.loop-index.from _ (omega arith) later same size before.opens found.2)
          (put_one c.loop-index.self c.in-Some.index _ _ c.cell-cell.result read level gain c.put.new.self c.with_gain.result put inside c.with_gain.ensures.cell);
    }
