use Rattle.std.proofs.Common.{ap, ◌∙◌}
use Rattle.machine.specs.Code.{state_of}
use Rattle.machine.specs.ContractWords.{held}
use Rattle.machine.specs.Machine as spec
use Rattle.machine.specs.declared.Command.{Command}
use Rattle.machine.proofs.CodeLaws.{done-no_stores, done-same}
use Rattle.machine.proofs.steps.parameters_read.Goals as goal

pub returns-in-Write : goal.returns-in-Write
unfolding spec.parameters_read
returns-in-Write c =
    done-no_stores _ _ _
    (ap (λ (k : Command). spec.parameters_read k (held c.args.on) (state_of c.args.c c.args.gathered.now)) c.in-Write.is ∙ c.write_read.ensures)

pub returns-in-Fill : goal.returns-in-Fill
unfolding spec.parameters_read
returns-in-Fill c =
    done-same (ap (λ (k : Command). spec.parameters_read k (held c.args.on) (state_of c.args.c c.args.gathered.now)) c.in-Fill.is) c.fill_read.ensures

pub returns-in-Entry : goal.returns-in-Entry
unfolding spec.parameters_read
returns-in-Entry c =
    done-no_stores _ _ _
    (ap (λ (k : Command). spec.parameters_read k (held c.args.on) (state_of c.args.c c.args.gathered.now)) c.in-Entry.is ∙ c.entry_read.ensures)

pub returns-in-Check : goal.returns-in-Check
unfolding spec.parameters_read
returns-in-Check c =
    done-no_stores _ _ _
    (ap (λ (k : Command). spec.parameters_read k (held c.args.on) (state_of c.args.c c.args.gathered.now)) c.in-Check.is ∙ c.check_read.ensures)
