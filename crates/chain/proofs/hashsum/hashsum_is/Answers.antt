use Rattle.std.proofs.Common.{ℕ, ◌+◌, sym, ap, ◌∙◌, drop, arith}
use Rattle.octets.specs.Parts.{same}
use Rattle.chain.specs.Hashsum.{hashsum}
use Rattle.chain.proofs.HashingLaws.{digested, digest-within, digest-counted, compared-all, compared-other, compared-more}
use Rattle.chain.proofs.hashsum.hashsum_is.Goals as goal

pub slice_bounds-digest-end : goal.slice_bounds-digest-end
slice_bounds-digest-end c = digest-within (digested c.digest-n.ensures.out_after c.digest-n.ensures.value)

pub slice_bounds-strip_prefix-end : goal.slice_bounds-strip_prefix-end
slice_bounds-strip_prefix-end c =
    sym (digest-counted (digested c.digest-n.ensures.out_after c.digest-n.ensures.value))

pub returns-in-None : goal.returns-in-None
returns-in-None c =
    sym
    (c.loop-id.invariant
    ∙ compared-other c.args.ids c.args.message.now c.loop-id.left.now c.loop-id.id-index (omega arith)
    (digested c.digest-n.ensures.out_after c.digest-n.ensures.value) c.in-None.ensures.cases)

pub loop-id-preserved : goal.loop-id-preserved
loop-id-preserved c =
    let ids = c.args.ids in
    let m = c.args.message.now in
    c.loop-id.invariant
    ∙ compared-more ids m c.loop-id.left.now c.loop-id.id-index (omega arith)
    (digested c.digest-n.ensures.out_after c.digest-n.ensures.value) c.in-Some.ensures.cases.0
    ∙ ap (same (hashsum (drop (c.loop-id.id-index + 1) ids) m)) (sym c.in-Some.ensures.cases.1)

pub returns : goal.returns
returns c =
    let ids = c.args.ids in
    let m = c.args.message.now in
    let s = c.loop-id.left.now in
    c.is_empty.ensures
    ∙ sym (c.loop-id.invariant ∙ ap (λ (k : ℕ). same (hashsum (drop k ids) m) s) (omega arith) ∙ compared-all ids m s)
