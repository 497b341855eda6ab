use Rattle.std.proofs.Common.{refl, arith, rules}
use Rattle.hashes.specs.Tables.{narrow, wide, initial256, initial384, initial512}
use Rattle.hashes.proofs.Algorithms.{has-none, length-by}
use Rattle.hashes.proofs.Feeding.{begun-from}
use Rattle.hashes.proofs.Hasher.begin.Goals as goal

pub returns-in-2 : goal.returns-in-2
unfolding initial256
returns-in-2 c = (c.in-2.is, begun-from narrow (search rules) c.begin.ensures)

pub returns-in-3 : goal.returns-in-3
unfolding initial384
returns-in-3 c = (c.in-3.is, begun-from wide (search rules) c.begin-in-3.ensures)

pub returns-in-4 : goal.returns-in-4
unfolding initial512
returns-in-4 c = (c.in-4.is, begun-from wide (search rules) c.begin-in-4.ensures)

pub returns-in_default : goal.returns-in_default
returns-in_default c = (refl, length-by c.args.id (has-none (omega arith) (omega arith) (omega arith)))
