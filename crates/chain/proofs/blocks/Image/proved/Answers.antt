use Rattle.std.proofs.Common.{◌≡◌, ℕ, subst, arith}
use Rattle.chain.specs.Blocks as blocks
use Rattle.chain.specs.Images.{approved_header, block_in}
use Rattle.chain.proofs.ProvingLaws.{count-is, none-proved, all-proved, next-bad, next-proved}
use Rattle.chain.proofs.blocks.Image.proved.Goals as goal

pub loop-k-init : goal.loop-k-init
loop-k-init c = none-proved (approved_header c.args.self) (block_in c.args.self)

pub returns-in-Err : goal.returns-in-Err
returns-in-Err c =
    let i = c.args.self in
    next-bad (approved_header i) (block_in i) c.loop-k.k c.loop-k.invariant (omega (arith, count-is i, c.loop-k-test.true)) c.in-Err.why
    c.in-Err.ensures c.refused.ensures

pub loop-k-preserved : goal.loop-k-preserved
loop-k-preserved c =
    let i = c.args.self in
    next-proved (approved_header i) (block_in i) c.loop-k.k c.loop-k.invariant c.in_default.ensures

pub returns : goal.returns
returns c =
    let i = c.args.self in
    let e : c.loop-k.k ≡ i.stream.count = omega arith in
    all-proved (approved_header i) (block_in i) i.stream.count
    (subst (λ (n : ℕ). blocks.proved (approved_header i) (block_in i) n ≡ n) e c.loop-k.invariant) (count-is i) c.done.ensures
