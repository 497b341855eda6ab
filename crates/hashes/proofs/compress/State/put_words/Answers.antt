use Rattle.std.proofs.Common.{◌∙◌, rules}
use Rattle.hashes.specs.Widths.{in_order}
use Rattle.hashes.specs.Code.{words}
use Rattle.hashes.proofs.Storing.{store-none, store-more}
use Rattle.hashes.proofs.compress.State.put_words.Goals as goal

pub loop-i-init : goal.loop-i-init
loop-i-init g c = store-none g.W.Word.width _ _ c.args.out.now (search rules) c.fill.ensures

pub loop-i-preserved : goal.loop-i-preserved
loop-i-preserved g c =
    let m = g.met.W.Word in
    store-more g.W.Word.width (in_order (words g.W.Number.value c.args.self)) _ _ c.requires m.fits (c.BYTES.ensures ∙ m.size) m.size
    (search rules) c.loop-i.invariant c.word.ensures c.put_big.ensures
