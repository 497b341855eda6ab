use Rattle.std.proofs.Common.{sym, ap, ◌∙◌, length, rules}
use Rattle.answers.specs.Answers as answers
use Rattle.answers.specs.declared.Stop.{Stop}
use Rattle.machine.specs.Bare.{bare_setting}
use Rattle.machine.specs.ContractWords.{bare_given}
use Rattle.machine.specs.Machine.{State}
use Rattle.machine.specs.Machine as spec
use Rattle.machine.specs.Memory.{applied}
use Rattle.machine.proofs.BareCode.{bare-ready, gives-refusal, gives-run, stop_or-unwrap_or}
use Rattle.machine.proofs.bare.ran.Goals as goal

pub returns-in_err-judge : goal.returns-in_err-judge
returns-in_err-judge c =
    let a = c.args in
    gives-refusal (bare_given a.given) a.memory.now c.from_residual.result c.in_err-judge.field-0.0
    c.in_err-judge.ensures (search rules)

pub take_piece-end-requires : goal.take_piece-end-requires
take_piece-end-requires c =
    let a = c.args in
    bare-ready (bare_given a.given) (length a.memory.now) (sym c.in_ok-judge.ensures) c.begin-begun.ensures

pub returns : goal.returns
returns c =
    let a = c.args in
    let b = bare_given a.given in
    let end = c.take_piece-end.result in
    let otherwise = answers.stop_at 27 (length b.file) in
    gives-run b a.memory.now c.answer_of.result c.in_ok-judge.ensures
    (c.answer_of.ensures
    ∙ ap (λ (x : Stop). spec.answer_of x end.control.tally)
    (c.unwrap_or-stop.ensures ∙ stop_or-unwrap_or c.refused-unstopped.result c.halted.result
    ∙ (λ j. spec.stop_or (c.refused-unstopped.ensures j) (c.halted.ensures j)))
    ∙ ap (λ (z : State). spec.answer_of (spec.stop_or otherwise (spec.halted z.phase)) z.tally)
    (c.take_piece-end.ensures.0
    ∙ ap (λ (s : State). spec.run (bare_setting b) s b.file) c.begin-begun.ensures))
    (c.take_piece-end.ensures.1
    ∙ ap (λ (s : State). applied (bare_setting b).map a.memory.now (spec.trace (bare_setting b) s b.file)) c.begin-begun.ensures)
