use Rattle.std.proofs.Common.{ℕ, ◌-◌, sym, ap, ◌∙◌, arith, rules}
use Rattle.answers.proofs.ChoiceLaws.{cond-eq, cond-ne}
use Rattle.board.specs.Map.{regions}
use Rattle.machine.specs.Code.{state_of}
use Rattle.machine.specs.Machine as spec
use Rattle.machine.proofs.CodeLaws.{field, write-by, judged-stops, judged-goes}
use Rattle.machine.proofs.steps.write_read.Goals as goal

pub returns-in_err-judge_range : goal.returns-in_err-judge_range
returns-in_err-judge_range c =
    let a = c.args in
    let h = a.gathered.now in
    let s = state_of a.c h in
    let long = field h a.c.kept 8 8 (omega (arith, c.requires.0)) c.little-left.ensures in
    let at = field h a.c.kept 16 8 (omega (arith, c.requires.0)) c.little-address.ensures in
    write-by a.on.job (regions a.on.map.bytes.now) s at (ap (λ (n : ℕ). n - 8) long)
    ∙ judged-stops a.c h _ c.from_residual.result c.in_err-judge_range.field-0.0 c.in_err-judge_range.ensures (search rules)

pub returns-then-left-eq0 : goal.returns-then-left-eq0
returns-then-left-eq0 c =
    let a = c.args in
    let h = a.gathered.now in
    let s = state_of a.c h in
    let long = field h a.c.kept 8 8 (omega (arith, c.requires.0)) c.little-left.ensures in
    let at = field h a.c.kept 16 8 (omega (arith, c.requires.0)) c.little-address.ensures in
    write-by a.on.job (regions a.on.map.bytes.now) s at (ap (λ (n : ℕ). n - 8) long)
    ∙ judged-goes s _ c.in_ok-judge_range.ensures
    ∙ ap spec.no_stores (cond-eq _ 0 _ _ c.if-left-eq0.true ∙ sym (c.finished.ensures _))

pub returns : goal.returns
returns c =
    let a = c.args in
    let h = a.gathered.now in
    let s = state_of a.c h in
    let long = field h a.c.kept 8 8 (omega (arith, c.requires.0)) c.little-left.ensures in
    let at = field h a.c.kept 16 8 (omega (arith, c.requires.0)) c.little-address.ensures in
    write-by a.on.job (regions a.on.map.bytes.now) s at (ap (λ (n : ℕ). n - 8) long)
    ∙ judged-goes s _ c.in_ok-judge_range.ensures ∙ ap spec.no_stores (cond-ne _ 0 _ _ c.if-left-eq0.false)
