use Rattle.std.proofs.Common.{sym, arith}
use Rattle.answers.proofs.RefusalLaws.{judged_in_order}
use Rattle.machine.proofs.TakingLaws.{ready-begun}
use Rattle.pieces.proofs.cuts.run.Goals as goal

pub taken-end-requires : goal.taken-end-requires
taken-end-requires c =
    ready-begun (grind (arith, judged_in_order, c.in_ok-judge_size.ensures)) (sym c.in_ok-judge_map.ensures) c.begin.ensures
