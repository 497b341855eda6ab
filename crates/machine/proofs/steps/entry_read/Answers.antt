use Rattle.std.proofs.Common.{sym, ap, ◌∙◌, arith, rules}
use Rattle.machine.specs.Code.{state_of}
use Rattle.machine.specs.Machine as spec
use Rattle.machine.specs.declared.Tally.{Tally}
use Rattle.machine.proofs.CodeLaws.{field, entry-by, judged-stops, judged-goes}
use Rattle.machine.proofs.steps.entry_read.Goals as goal

pub returns-in_err-judge_entry : goal.returns-in_err-judge_entry
returns-in_err-judge_entry c =
    let a = c.args in
    let h = a.gathered.now in
    let at = field h a.c.kept 16 8 (omega (arith, c.requires.0)) c.little-address.ensures in
    entry-by a.job (state_of a.c h) at
    ∙ judged-stops a.c h _ c.from_residual.result c.in_err-judge_entry.field-0.0 c.in_err-judge_entry.ensures (search rules)

pub returns : goal.returns
returns c =
    let a = c.args in
    let h = a.gathered.now in
    let s = state_of a.c h in
    let at = field h a.c.kept 16 8 (omega (arith, c.requires.0)) c.little-address.ensures in
    entry-by a.job s at ∙ judged-goes s _ c.in_ok-judge_entry.ensures
    ∙ ap spec.no_stores (sym (c.finished.ensures _
    ∙ ap (λ (t : Tally). spec.finished a.job.length (spec.tallied t s)) c.with_entry-tally.ensures))
