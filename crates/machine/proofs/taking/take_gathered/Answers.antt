use Rattle.std.proofs.Common.{arith}
use Rattle.machine.specs.ContractWords.{says, held}
use Rattle.machine.proofs.CodeLaws.{done-no_stores, done-same}
use Rattle.machine.proofs.TakingLaws.{awaits, passed-still, ready-lent, gathers-as, all_there, all_said, none_said, used-gathered}
use Rattle.machine.proofs.taking.take_gathered.Goals as goal

pub gather-t-requires : goal.gather-t-requires
gather-t-requires c =
    let a = awaits c.args.c c.args.gathered.now c.requires.2 (omega arith) c.args.what c.requires.1 in
    let long = c.awaited-all.ensures in
    (omega (arith, a.missing), omega (arith, a.bound), omega (arith, a.ahead, a.short))

pub read-control-requires : goal.read-control-requires
read-control-requires c =
    let a = awaits c.args.c c.args.gathered.now c.requires.2 (omega arith) c.args.what c.requires.1 in
    let g = gathers-as c.awaited-all.ensures c.gather-t.ensures in
    let there = all_there a g (omega arith) in
    (there.0, passed-still c.args.c c.args.gathered.now c.requires.2 c.args.what c.requires.1 _ g.state, there.1, ready-lent c.requires.2)

pub returns-then-t-all : goal.returns-then-t-all
returns-then-t-all c =
    let a = awaits c.args.c c.args.gathered.now c.requires.2 (omega arith) c.args.what c.requires.1 in
    let g = gathers-as c.awaited-all.ensures c.gather-t.ensures in
    used-gathered (held c.args.on) c.args.what c.args.rest.now a c.requires.1 c.requires.0 g.many
    (done-no_stores _ _ _ (none_said a g (says c.args.what (held c.args.on)) (omega arith)))

pub returns : goal.returns
returns c =
    let a = awaits c.args.c c.args.gathered.now c.requires.2 (omega arith) c.args.what c.requires.1 in
    let g = gathers-as c.awaited-all.ensures c.gather-t.ensures in
    used-gathered (held c.args.on) c.args.what c.args.rest.now a c.requires.1 c.requires.0 g.many
    (done-same (all_said a g (says c.args.what (held c.args.on)) (omega arith)) c.read-control.ensures)
