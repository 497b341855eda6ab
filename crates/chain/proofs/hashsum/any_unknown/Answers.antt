use Rattle.std.proofs.Common.{◌∙◌, rules, tests}
use Rattle.std.proofs.lemmas.Iterator.{YieldsList-from_slice}
use Rattle.std.proofs.lemmas.Iterator.Search.{any_from_yields_List}
use Rattle.chain.proofs.HashingLaws.{unknown, any-unknown}
use Rattle.chain.proofs.hashsum.any_unknown.Goals as goal

pub returns : goal.returns
returns c =
    any_from_yields_List unknown _ _ _ c.any.ensures.ran (YieldsList-from_slice c.args.ids cc) (λ x b q k. search (rules, tests))
    ∙ any-unknown c.args.ids
