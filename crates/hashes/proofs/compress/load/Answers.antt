use Rattle.std.proofs.Common.{◌≡◌, ◌+◌, length, length-set, ◌∙◌, subst, arith, rules}
use Rattle.std.proofs.lemmas.List.{length-map}
use Rattle.hashes.proofs.Rounds.{values-set}
use Rattle.hashes.proofs.Blocks.{Loading, load-none, load-more, load-all}
use Rattle.hashes.proofs.compress.load.Goals as goal

pub loop-i-init : goal.loop-i-init
loop-i-init g c =
    let value = g.W.Number.value in
    let a = c.args in
    let room : length a.w.now ≡ g.W.Word.width.rounds = search rules in
    record {
      room = room;
      loading = load-none g.W.Word.width a.block.now (length-map a.w.now value ∙ room);
    }

pub loop-i-preserved : goal.loop-i-preserved
loop-i-preserved g c =
    let P = g.W.Word.width in
    let value = g.W.Number.value in
    let a = c.args in
    let l = c.loop-i in
    let m = g.met.W.Word in
    record {
      room = length-set l.w l.i c.big.result ∙ l.invariant.room;
      loading =
          subst (λ s. Loading P a.block.now P.rounds s (l.i + 1)) (values-set value l.w l.i c.big.result)
          (load-more P a.block.now (omega arith) m.sixteen l.invariant.loading (c.BYTES.ensures ∙ m.size) m.size
          c.big.ensures);
    }

pub returns : goal.returns
returns g c = load-all g.W.Word.width c.args.block.now (omega arith) c.loop-i.invariant.loading
