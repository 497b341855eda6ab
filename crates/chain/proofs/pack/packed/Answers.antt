use Rattle.std.proofs.Common.{refl, sym, ap, ◌∙◌, length}
use Rattle.answers.specs.Rules.{first_broken}
use Rattle.chain.specs.Code.{ordered}
use Rattle.chain.specs.ContractWords.{length_rules}
use Rattle.chain.specs.Header.{Header}
use Rattle.chain.specs.Pack.{image}
use Rattle.chain.proofs.PackingLaws.{order-exits, length-exits, order_is, pack-done, order-passes}
use Rattle.chain.proofs.pack.packed.Goals as goal

pub returns-in_err-judged : goal.returns-in_err-judged
returns-in_err-judged c =
    order-exits (ordered c.args.order) c.args.output.now c.from_residual.result c.in_err-judged.field-0.0 c.from_residual.ensures.1 c.in_err-judged.ensures

pub returns-in_err-judge_length : goal.returns-in_err-judge_length
returns-in_err-judge_length c =
    let p = ordered c.args.order in
    let n = length c.args.output.now in
    length-exits p c.args.output.now c.from_residual-in_err-judge_length.result c.in_err-judge_length.field-0.0 c.from_residual-in_err-judge_length.ensures.1
    (c.in_err-judge_length.ensures ∙ ap (λ (d : Header). first_broken (length_rules d n)) c.header-h.ensures
    ∙ sym (order-passes p (sym c.in_ok-judged.ensures) n))

pub returns : goal.returns
returns c =
    let p = ordered c.args.order in
    let n = length c.args.output.now in
    pack-done p c.args.output.now 0
    (c.in_ok-judge_length.ensures ∙ ap (λ (d : Header). first_broken (length_rules d n)) c.header-h.ensures
    ∙ sym (order-passes p (sym c.in_ok-judged.ensures) n)) _ refl
    (c.pack_image.ensures ∙ ap image (order_is p c.header-h.result c.header-h.ensures))
