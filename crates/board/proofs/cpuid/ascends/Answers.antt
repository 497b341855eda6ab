-- The library tests each record against the next by `is_before`.
use Rattle.std.proofs.Common.{◌∙◌, ap}
use Rattle.std.proofs.lemmas.List.Sorted.{answers_always}
use Rattle.board.specs.Cpuid.{before, ascending}
use Rattle.board.proofs.WalkLaws.{leaf_of, ascending-tested}
use Rattle.board.proofs.cpuid.ascends.Goals as goal

pub returns : goal.returns
returns c =
    let by_before = answers_always _ _ _ (λ f this b g called. called.met) in
    ascending-tested c.records.result.now c.is_sorted_by.result
    (c.is_sorted_by.ensures.cases (λ x y. before (leaf_of x) (leaf_of y)) by_before)
    ∙ ap ascending c.records.ensures
