use Rattle.std.proofs.Common.{◌<◌, ℕ, List, length, ◌∙◌, subst, arith}
use Rattle.std.specs.Slice.Iter.{chunks_exact_rest}
use Rattle.hashes.specs.Code.{words}
use Rattle.hashes.proofs.Blocks.{Working, work-more, work-all}
use Rattle.hashes.proofs.compress.Constants.blocks.Goals as goal

pub loop-block-preserved : goal.loop-block-preserved
loop-block-preserved g c =
    let P = g.W.Word.width in
    let value = g.W.Number.value in
    let l = c.loop-block in
    let s = c.in-Some.ensures.steps in
    record {
      size = s.0 ∙ l.invariant.size;
      working =
          work-more P (words value c.args.s) c.args.bytes.now c.in-Some.block.now (chunks_exact_rest c.next.new.self)
          (omega (arith, g.met.W.Word.size, g.met.W.Word.some)) (s.1.1 ∙ l.invariant.size) c.block-v.ensures
          (subst (λ (r : List ℕ). Working P (words value c.args.s) c.args.bytes.now (words value l.v) r) s.1.0 l.invariant.working);
    }

pub returns : goal.returns
returns g c =
    let P = g.W.Word.width in
    let l = c.loop-block in
    let rest = chunks_exact_rest l.block-iterator in
    work-all P (words g.W.Number.value c.args.s) c.args.bytes.now rest
    (subst (λ (k : ℕ). length rest < k) l.invariant.size c.in-None.ensures.steps.1.0) l.invariant.working
