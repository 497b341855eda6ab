use Rattle.std.proofs.Common.{ap, arith, length}
use Rattle.std.proofs.lemmas.List.{length-drop}
use Rattle.machine.proofs.TakingLaws.{going_start, going_on, going-none, going-stopped, rest_of}
use Rattle.machine.proofs.taking.take_all.Goals as goal

pub piece-init : goal.piece-init
piece-init c = going_start c.requires

pub loop-at-init : goal.loop-at-init
loop-at-init c = record { rises = omega arith; going = c.piece.invariant }

pub take-t-requires : goal.take-t-requires
take-t-requires c =
    let piece = c.args.piece.now in
    let g = c.loop-at.invariant.going in
    (omega (arith, ap length (rest_of piece c.loop-at.at), length-drop c.loop-at.at piece), g.ready)

pub piece-smaller : goal.piece-smaller
piece-smaller c =
    let on = going_on c.loop-at.invariant.going (rest_of c.args.piece.now c.loop-at.at) c.take-t.ensures c.take-t.auto.memory in
    omega (arith, on.within, c.take-t.ensures.progress, c.loop-at.invariant.rises)

pub piece-preserved : goal.piece-preserved
piece-preserved c =
    going_on c.loop-at.invariant.going (rest_of c.args.piece.now c.loop-at.at) c.take-t.ensures c.take-t.auto.memory

pub loop-at-preserved : goal.loop-at-preserved
loop-at-preserved c =
    record {
      rises = omega arith;
      going =
          going_on c.loop-at.invariant.going (rest_of c.args.piece.now c.loop-at.at) c.take-t.ensures c.take-t.auto.memory;
    }

pub returns-in-Stopped : goal.returns-in-Stopped
returns-in-Stopped c = going-stopped c.piece.invariant c.in-Stopped.is

pub returns-then-piece-at : goal.returns-then-piece-at
returns-then-piece-at c = going-none c.loop-at.invariant.going c.if-piece-at.true
