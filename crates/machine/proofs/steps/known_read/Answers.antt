use Rattle.std.proofs.Common.{rules}
use Rattle.machine.specs.Code.{state_of}
use Rattle.machine.specs.Machine as spec
use Rattle.machine.proofs.CodeLaws.{judged-stops, judged-goes}
use Rattle.machine.proofs.steps.known_read.Goals as goal

pub returns-in_err-judge_length : goal.returns-in_err-judge_length
unfolding spec.header_says
returns-in_err-judge_length c h =
    judged-stops c.args.c h _ c.from_residual.result c.in_err-judge_length.field-0.0 c.in_err-judge_length.ensures (search rules)

pub returns : goal.returns
unfolding spec.header_says
returns c h = judged-goes (state_of c.args.c h) _ c.in_ok-judge_length.ensures
