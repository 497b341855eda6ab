use Rattle.std.proofs.Common.{sym, ap, ◌∙◌, rules}
use Rattle.answers.proofs.ChoiceLaws.{cond-eq, cond-ne}
use Rattle.machine.specs.Code.{state_of}
use Rattle.machine.specs.Machine as spec
use Rattle.machine.proofs.CodeLaws.{judged-stops, judged-goes}
use Rattle.machine.proofs.steps.skipped_read.Goals as goal

pub returns-in_err-judge_data : goal.returns-in_err-judge_data
unfolding spec.header_says
returns-in_err-judge_data c h =
    judged-stops c.args.c h _ c.from_residual.result c.in_err-judge_data.field-0.0 c.in_err-judge_data.ensures (search rules)

pub returns-then-n-eq0 : goal.returns-then-n-eq0
unfolding spec.header_says
returns-then-n-eq0 c h =
    judged-goes (state_of c.args.c h) _ c.in_ok-judge_data.ensures
    ∙ ap spec.no_stores (cond-eq c.args.n 0 _ _ c.if-n-eq0.true ∙ sym (c.finished.ensures h))

pub returns : goal.returns
unfolding spec.header_says
returns c h =
    judged-goes (state_of c.args.c h) _ c.in_ok-judge_data.ensures
    ∙ ap spec.no_stores (cond-ne c.args.n 0 _ _ c.if-n-eq0.false)
