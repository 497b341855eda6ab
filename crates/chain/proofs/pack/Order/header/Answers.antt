use Rattle.std.proofs.Common.{arith}
use Rattle.chain.proofs.HashsumLaws.{sum_length-at-most}
use Rattle.chain.proofs.pack.Order.header.Goals as goal

pub overflow_cast-stream-3 : goal.overflow_cast-stream-3
overflow_cast-stream-3 c = omega (arith, c.sum_length-sum.ensures, sum_length-at-most c.args.self.ids)

pub overflow_cast-result-2 : goal.overflow_cast-result-2
overflow_cast-result-2 c = omega (arith, c.sum_length-sum.ensures, sum_length-at-most c.args.self.ids)
