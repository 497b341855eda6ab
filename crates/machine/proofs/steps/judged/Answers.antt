use Rattle.std.proofs.Common.{ap, ◌∙◌}
use Rattle.machine.specs.Code.{state_of}
use Rattle.machine.specs.ContractWords.{says, held}
use Rattle.machine.specs.declared.Awaited.{Awaited}
use Rattle.machine.proofs.CodeLaws.{done-no_stores}
use Rattle.machine.proofs.steps.judged.Goals as goal

pub returns-in-Magic : goal.returns-in-Magic
returns-in-Magic c =
    done-no_stores _ _ _
    (ap (λ (w : Awaited). says w (held c.args.on) (state_of c.args.c c.args.gathered.now)) c.in-Magic.is ∙ c.magic_read.ensures)

pub returns-in-Header : goal.returns-in-Header
returns-in-Header c =
    done-no_stores _ _ _
    (ap (λ (w : Awaited). says w (held c.args.on) (state_of c.args.c c.args.gathered.now)) c.in-Header.is ∙ c.header_read.ensures)
