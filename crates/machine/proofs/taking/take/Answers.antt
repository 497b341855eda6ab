use Rattle.machine.specs.Code.{state_of}
use Rattle.machine.specs.ContractWords.{held}
use Rattle.machine.proofs.TakingLaws.{stores-ahead, skips-ahead, ready-lent, any-stored, any-skipped, used-stored, used-skipped, used-stopped}
use Rattle.machine.proofs.taking.take.Goals as goal

pub take_stored-requires : goal.take_stored-requires
take_stored-requires c =
    let a = stores-ahead c.args.c c.args.gathered.now c.requires.1 _ _ c.in-Storing.is in
    (a.0, ready-lent c.requires.1, a.1)

pub take_skipped-requires : goal.take_skipped-requires
take_skipped-requires c = skips-ahead c.args.c c.args.gathered.now c.requires.1 _ c.in-Skipping.is

pub returns-in-Storing : goal.returns-in-Storing
returns-in-Storing c =
    let e = c.in-Storing.is in
    let k = c.take_stored.ensures in
    used-stored (held c.args.on) c.args.c c.args.gathered.now c.args.rest.now
    (any-stored c.args.c c.args.gathered.now c.requires.1 _ _ e) c.requires.0 k.1 c.take_stored.result.control e
    k.2 k.0

pub returns-in-Skipping : goal.returns-in-Skipping
returns-in-Skipping c =
    let e = c.in-Skipping.is in
    let k = c.take_skipped.ensures in
    used-skipped (held c.args.on) c.args.c c.args.gathered.now c.args.rest.now
    (any-skipped c.args.c c.args.gathered.now c.requires.1 _ e) c.requires.0 k.0 c.take_skipped.result.control _ _ e
    k.1

pub returns-in-Stopped : goal.returns-in-Stopped
returns-in-Stopped c =
    used-stopped (held c.args.on) (state_of c.args.c c.args.gathered.now) c.args.rest.now _ _ c.in-Stopped.is c.requires.0
