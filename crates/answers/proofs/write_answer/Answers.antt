-- The five numbers stand one behind the other and fill the record.
use mathlib.Core.Path.{refl}
use Rattle.answers.proofs.RecordLaws.{record-written}
use Rattle.answers.proofs.write_answer.Goals as goal

pub returns : goal.returns
returns c = (
  record-written c.args.a c.args.answer.now _ _ _ _ _ c.requires c.put_little.ensures c.put_little-2.ensures
      c.put_little-3.ensures c.put_little-4.ensures c.put_little-5.ensures,
  refl,
)
