use Rattle.std.proofs.Common.{refl, sym, ap, subst, ◌∙◌, ℕ}
use Rattle.std.specs.Prelude.{IsSome}
use Rattle.answers.proofs.RefusalLaws.{number-positive}
use Rattle.chain.specs.Header.{file_length}
use Rattle.chain.proofs.ProvingLaws.{sized}
use Rattle.machine.specs.Machine.{begun}
use Rattle.loader.specs.ContractWords.{offer_of}
use Rattle.loader.proofs.CodeLaws.{loading-none, stop-gives, stopped-behind, bad-gives, loading-more, passing, there, behind, ready}
use Rattle.loader.proofs.load_blocks.Goals as goal

pub file_length-length-requires : goal.file_length-length-requires
file_length-length-requires c = sized c.args.image

pub loop-k-init : goal.loop-k-init
loop-k-init c =
    let a = c.args in
    let e = c.file_length-length.ensures ∙ ap file_length a.image.numbers in (
      ap (λ (n : ℕ). record { length = n; mode = a.mode }) e,
      loading-none (offer_of a.image a.map.now a.table.now a.mode) a.memory.now (c.begin-m.ensures ∙ ap begun e),
    )

pub returns-in-Some : goal.returns-in-Some
returns-in-Some c = stop-gives c.loop-k.invariant.1 (sym c.halted.ensures ∙ c.in-Some.is) c.answered.ensures

pub returns-in-Err : goal.returns-in-Err
returns-in-Err c =
    bad-gives c.loop-k.invariant.1 (there c.args.image c.loop-k-test.true) c.in-Err.ensures (sym c.halted.ensures ∙ c.in_default.is)
    (number-positive c.in-Err.why) c.refused.ensures c.answered-in-Err.ensures

pub take_piece-m-requires : goal.take_piece-m-requires
take_piece-m-requires c = ready c.args.image c.requires c.loop-k.invariant.1 refl c.loop-k.invariant.0

pub loop-k-preserved : goal.loop-k-preserved
loop-k-preserved c = (
  c.loop-k.invariant.0,
  loading-more c.loop-k.invariant.1 (there c.args.image c.loop-k-test.true) c.in_default-judged_at.ensures refl
      c.loop-k.invariant.0
      c.file_bytes.ensures
      c.take_piece-m.ensures.0
      c.take_piece-m.ensures.1,
)

pub unwrap-requires : goal.unwrap-requires
unwrap-requires c =
    subst IsSome (sym c.halted-2.ensures)
    (stopped-behind c.loop-k.invariant.1 (passing c.args.image) (behind c.args.image c.loop-k-test.false))

pub returns : goal.returns
returns c = stop-gives c.loop-k.invariant.1 (sym c.halted-2.ensures ∙ c.unwrap.ensures) c.answered-2.ensures
