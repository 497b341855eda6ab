use Rattle.std.proofs.Common.{arith, ◌++◌}
use Rattle.std.proofs.lemmas.Grind.{common_steps}
use Rattle.vectors.proofs.fed.Goals as goal

pub loop-piece-preserved : goal.loop-piece-preserved
loop-piece-preserved c =
    let (x, so_far, fed) = c.loop-piece.invariant in
    let e = c.in-Some.ensures.steps.1.0 in
    (x ++ c.in-Some.piece.now, grind (arith, common_steps, so_far, e), c.fed-hasher.ensures c.args.id x fed)
