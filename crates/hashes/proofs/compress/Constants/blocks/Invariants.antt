use Rattle.std.specs.Prelude.{◌≡◌}
use Rattle.hashes.specs.Code.{words}
use Rattle.hashes.specs.Padding.{block_bytes}
use Rattle.hashes.proofs.Blocks.{Working}
use Rattle.std.specs.Slice.Iter.{chunks_exact_rest, chunks_exact_size}
use Rattle.hashes.proofs.compress.Constants.blocks.Given as goal

abbrev pub invariant-loop-block : goal.invariant-loop-block
invariant-loop-block g l =
    let P = g.W.Word.width in
    let value = g.W.Number.value in
    record {
      size : chunks_exact_size l.block-iterator ≡ block_bytes P;
      working : Working P (words value l.fn.s) l.bytes (words value l.v) (chunks_exact_rest l.block-iterator);
    }
