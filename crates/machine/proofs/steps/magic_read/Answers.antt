use Rattle.std.proofs.Common.{sym, ap, ◌∙◌}
use Rattle.machine.specs.Machine as spec
use Rattle.answers.specs.declared.Stop.{Stop}
use Rattle.machine.specs.declared.Phase.TheVariants.{Stopped}
use Rattle.machine.specs.Code.{state_of}
use Rattle.machine.proofs.CodeLaws.{magic-gathered, magic-passes, magic-differs}
use Rattle.machine.proofs.steps.magic_read.Goals as goal

pub returns-then-little-eq-MAGIC : goal.returns-then-little-eq-MAGIC
returns-then-little-eq-MAGIC c =
    let a = c.args in
    magic-passes a.length (state_of a.c a.gathered.now)
    (magic-gathered a.c a.gathered.now c.requires.0 c.little.ensures ∙ c.if-little-eq-MAGIC.true)
    ∙ ap spec.no_stores (sym (c.command_begins.ensures _))

pub returns : goal.returns
returns c =
    let a = c.args in
    magic-differs a.length (state_of a.c a.gathered.now)
    (λ e. c.if-little-eq-MAGIC.false (sym (magic-gathered a.c a.gathered.now c.requires.0 c.little.ensures) ∙ e))
    ∙ ap spec.no_stores
    (ap (λ (stop : Stop). spec.in_phase (Stopped stop) (state_of a.c a.gathered.now)) (sym c.refused.ensures) ∙ sym (c.stopped.ensures _))
