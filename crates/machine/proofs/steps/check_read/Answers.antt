use Rattle.std.proofs.Common.{List, ℕ, sym, ap, ◌∙◌, arith, rules}
use lib.Seq.{take_all}
use Rattle.answers.specs.Rules.{first_broken}
use Rattle.board.specs.Cpuid.{leaves}
use Rattle.machine.specs.Code.{state_of}
use Rattle.machine.specs.Commands.{check_rules}
use Rattle.machine.specs.Machine as spec
use Rattle.machine.proofs.CodeLaws.{judged-stops, judged-goes}
use Rattle.machine.proofs.steps.check_read.Goals as goal

pub returns-in_err-judge_check : goal.returns-in_err-judge_check
unfolding spec.check_read
returns-in_err-judge_check c =
    let a = c.args in
    let all = take_all a.c.kept a.gathered.now (omega (arith, c.requires.0)) in
    judged-stops a.c a.gathered.now _ c.from_residual.result c.in_err-judge_check.field-0.0
    (c.in_err-judge_check.ensures ∙ ap (λ (h : List ℕ). first_broken (check_rules (leaves a.on.table.now) h)) (sym all))
    (search rules)

pub returns : goal.returns
unfolding spec.check_read
returns c =
    let a = c.args in
    let all = take_all a.c.kept a.gathered.now (omega (arith, c.requires.0)) in
    judged-goes (state_of a.c a.gathered.now) _
    (c.in_ok-judge_check.ensures ∙ ap (λ (h : List ℕ). first_broken (check_rules (leaves a.on.table.now) h)) (sym all))
    ∙ ap spec.no_stores (sym (c.finished.ensures _))
