use Rattle.std.proofs.Common.{◌∷◌, ◌++◌, length, eqb}
use Rattle.answers.specs.Rules.{signature_rules, size_rules, rule}
use Rattle.chain.specs.Hashsum.{sum_length, id_rules}
use Rattle.chain.specs.Header.{block_size_rules}
use Rattle.chain.proofs.JudgingLaws.{exits}
use Rattle.chain.proofs.pack.Order.judged.Goals as goal

pub returns-in_err-judge_ids : goal.returns-in_err-judge_ids
returns-in_err-judge_ids c =
    let o = c.args.self in
    exits (id_rules o.ids)
    (block_size_rules o.block_size (sum_length o.ids)
    ++ rule 28 (eqb (length o.file.now) 0)
    ∷ signature_rules o.signature
    ++ size_rules (length o.file.now))
    c.from_residual.result c.in_err-judge_ids.field-0.0 c.from_residual.ensures.1 c.in_err-judge_ids.ensures
