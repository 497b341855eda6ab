use Rattle.std.proofs.Common.{sym, ◌∙◌, arith}
use Rattle.machine.proofs.CodeLaws.{zero-met, zero-ahead, zero-missing}
use Rattle.machine.proofs.commands.has_zero.Goals as goal

pub loop-i-preserved : goal.loop-i-preserved
loop-i-preserved c =
    (omega arith, c.loop-i.invariant.1 ∙ zero-ahead c.args.text.now c.loop-i.i (omega arith) c.if-text-i-eq0.false)

pub returns-then-text-i : goal.returns-then-text-i
returns-then-text-i c =
    sym (c.loop-i.invariant.1 ∙ zero-missing c.args.text.now c.loop-i.i (omega arith))

pub returns-then-text-i-eq0 : goal.returns-then-text-i-eq0
returns-then-text-i-eq0 c =
    sym (c.loop-i.invariant.1 ∙ zero-met c.args.text.now c.loop-i.i (omega arith) c.if-text-i-eq0.true)
