use Rattle.loader.proofs.CodeLaws.{gives-either}
use Rattle.loader.proofs.load_answer.Goals as goal

pub returns : goal.returns
returns c = gives-either _ _ c.load_judged.result c.load_judged.ensures c.unwrap_or_else.ensures
