use Rattle.std.proofs.Common.{length, sym, ◌∙◌}
use Rattle.answers.proofs.RefusalLaws.{refuses-first, holds-first}
use Rattle.chain.specs.Header.{image_rules}
use Rattle.loader.specs.ContractWords.{early_rules, offered}
use Rattle.loader.proofs.CodeLaws.{loads-refused, loads-blocks, loadable}
use Rattle.loader.proofs.load_judged.Goals as goal

pub returns-in_err-judge_early : goal.returns-in_err-judge_early
returns-in_err-judge_early c =
    let o = offered c.args.offer in
    loads-refused o c.args.memory.now c.in_err-judge_early.field-0.0 c.from_residual.ensures.1
    (refuses-first (early_rules o (length c.args.memory.now)) (image_rules o.image o.approved o.signature) _ c.in_err-judge_early.ensures)

pub returns-in_err-image : goal.returns-in_err-image
returns-in_err-image c =
    let o = offered c.args.offer in
    loads-refused o c.args.memory.now c.in_err-image.field-0.0 c.from_residual-in_err-image.ensures.1
    (c.in_err-image.ensures.code
    ∙ sym (holds-first (early_rules o (length c.args.memory.now)) (image_rules o.image o.approved o.signature) tt c.in_ok-judge_early.ensures))

pub load_blocks-requires : goal.load_blocks-requires
load_blocks-requires c =
    let o = offered c.args.offer in
    loadable o c.args.memory.now
    (holds-first (early_rules o (length c.args.memory.now)) (image_rules o.image o.approved o.signature) tt c.in_ok-judge_early.ensures
    ∙ sym c.in_ok-image.ensures.code)
    c.in_ok-image.image c.in_ok-image.ensures.image.0 c.in_ok-image.ensures.image.1

pub returns : goal.returns
returns c =
    let o = offered c.args.offer in
    loads-blocks o c.args.memory.now
    (holds-first (early_rules o (length c.args.memory.now)) (image_rules o.image o.approved o.signature) tt c.in_ok-judge_early.ensures
    ∙ sym c.in_ok-image.ensures.code)
    c.in_ok-image.image c.in_ok-image.ensures.image.0 c.in_ok-image.ensures.image.1 c.load_blocks.ensures
