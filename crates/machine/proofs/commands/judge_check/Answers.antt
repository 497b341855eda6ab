use Rattle.std.proofs.Common.{sym, ◌∙◌, arith}
use borrow.Author.Tests.{not-true}
use Rattle.octets.proofs.NumberLaws.{one_byte}
use Rattle.answers.specs.Rules.{first_broken}
use Rattle.board.specs.Cpuid.{leaves}
use Rattle.machine.specs.Commands.{found_rules}
use Rattle.machine.proofs.CodeLaws.{no_register, by-record}
use Rattle.machine.proofs.commands.judge_check.Goals as goal

pub returns-then-c-gt3 : goal.returns-then-c-gt3
returns-then-c-gt3 c =
    let a = c.args in
    let register = one_byte a.c.now 32 (omega arith) in
    no_register (leaves a.table.now) a.c.now (sym c.has_zero.ensures ∙ c.if-not-has_zero.false)
    (not-true _ (sym c.is_available.ensures ∙ c.if-not-is_available.false)) (omega (arith, register, c.if-c-gt3.true))

pub returns : goal.returns
returns c =
    let a = c.args in
    let register = one_byte a.c.now 32 (omega arith) in
    c.judge_found.ensures
    ∙ (λ j. first_broken (found_rules (c.looked_up-found.ensures j) (c.little.ensures j) (c.little-2.ensures j)))
    ∙ by-record (leaves a.table.now) a.c.now (sym c.has_zero.ensures ∙ c.if-not-has_zero.false)
    (not-true _ (sym c.is_available.ensures ∙ c.if-not-is_available.false)) (omega (arith, register, c.if-c-gt3.false))
