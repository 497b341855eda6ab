use Rattle.std.proofs.Common.{◌++◌, length, sym, ◌∙◌}
use Rattle.answers.specs.Rules.{signature_rules, size_rules}
use Rattle.answers.proofs.RefusalLaws.{holds-first}
use Rattle.board.specs.Cpuid.{table_rules}
use Rattle.board.specs.Map.{map_rules}
use Rattle.board.specs.Reach.{mode_rules}
use Rattle.chain.proofs.JudgingLaws.{exits}
use Rattle.loader.proofs.judge_early.Goals as goal

pub returns-in_err-judge_signature : goal.returns-in_err-judge_signature
returns-in_err-judge_signature c =
    let o = c.args.offer in
    let mode = mode_rules o.mode in
    let signature = signature_rules o.signature in
    exits (mode ++ signature) (size_rules (length o.image.now) ++ (map_rules o.map.now c.args.memory ++ table_rules o.table.now)) _
    c.in_err-judge_signature.field-0.0 c.from_residual-in_err-judge_signature.ensures.1
    (c.in_err-judge_signature.ensures ∙ sym (holds-first mode signature tt c.in_ok-judge_mode.ensures))

pub returns-in_err-judge_map : goal.returns-in_err-judge_map
returns-in_err-judge_map c =
    let o = c.args.offer in
    let mode = mode_rules o.mode in
    let signature = signature_rules o.signature in
    let size = size_rules (length o.image.now) in
    let map = map_rules o.map.now c.args.memory in
    exits (mode ++ (signature ++ (size ++ map))) (table_rules o.table.now) _ c.in_err-judge_map.field-0.0
    c.from_residual-in_err-judge_map.ensures.1
    (c.in_err-judge_map.ensures
    ∙ sym (holds-first size map tt c.in_ok-judge_size.ensures)
    ∙ sym (holds-first signature (size ++ map) tt c.in_ok-judge_signature.ensures)
    ∙ sym (holds-first mode (signature ++ (size ++ map)) tt c.in_ok-judge_mode.ensures))
