use Rattle.std.proofs.Common.{ap, ◌∙◌, arith, rules}
use Rattle.octets.proofs.NumberLaws.{one_byte}
use Rattle.board.specs.Map.{regions}
use Rattle.board.specs.Reach.{limit}
use Rattle.machine.specs.Code.{state_of}
use Rattle.machine.specs.Machine as spec
use Rattle.machine.specs.declared.Tally.{Tally}
use Rattle.machine.proofs.CodeLaws.{field, fill-by, judged-stops, judged-goes, done-no_stores, done-same, range-ram, range-fits}
use Rattle.machine.proofs.steps.fill_read.Goals as goal

pub with_stored-tally-requires : goal.with_stored-tally-requires
with_stored-tally-requires c =
    let a = c.args in
    let inside =
    range-ram (regions a.on.map.bytes.now) (limit a.on.job.mode) c.little-address.result c.little-n.result
    c.in_ok-judge_range.ensures in
    omega (
      arith,
      c.requires.1.stored,
      c.requires.2.small,
      range-fits a.on.map.bytes.now a.memory.now a.on.map.in_order c.requires.2 c.little-address.result c.little-n.result inside,
    )

pub returns-in_err-judge_range : goal.returns-in_err-judge_range
returns-in_err-judge_range c =
    let a = c.args in
    let h = a.gathered.now in
    let s = state_of a.c h in
    let at = field h a.c.kept 16 8 (omega (arith, c.requires.0)) c.little-address.ensures in
    let long = field h a.c.kept 24 8 (omega (arith, c.requires.0)) c.little-n.ensures in
    let byte =
    field h a.c.kept 32 1 (omega (arith, c.requires.0)) (one_byte h 32 (omega arith)) in
    done-no_stores _ _ _
    (fill-by a.on.job (regions a.on.map.bytes.now) s at long byte
    ∙ judged-stops a.c h _ c.from_residual.result c.in_err-judge_range.field-0.0 c.in_err-judge_range.ensures (search rules))

pub returns : goal.returns
returns c =
    let a = c.args in
    let h = a.gathered.now in
    let s = state_of a.c h in
    let at = field h a.c.kept 16 8 (omega (arith, c.requires.0)) c.little-address.ensures in
    let long = field h a.c.kept 24 8 (omega (arith, c.requires.0)) c.little-n.ensures in
    let byte =
    field h a.c.kept 32 1 (omega (arith, c.requires.0)) (one_byte h 32 (omega arith)) in
    done-same
    (fill-by a.on.job (regions a.on.map.bytes.now) s at long byte ∙ judged-goes s _ c.in_ok-judge_range.ensures)
    (record {
      state =
          c.finished.ensures _
          ∙ ap (λ (t : Tally). spec.finished a.on.job.length (spec.tallied t s)) c.with_stored-tally.ensures;
      memory = c.fill.ensures;
    })
