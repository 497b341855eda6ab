use Rattle.std.proofs.Common.{Err, refl, sym, ap, arith}
use Rattle.answers.specs.declared.codes.Refusal.TheVariants.{OutputLength}
use Rattle.chain.specs.Header.{stream_rules}
use Rattle.chain.specs.Images.{approved_header, block_in}
use Rattle.chain.specs.declared.blocks.ProvedBlocks.{ProvedBlocks}
use Rattle.chain.proofs.BlockLaws.{proved-le}
use Rattle.chain.proofs.JudgingLaws.{exits}
use Rattle.chain.proofs.ProvingLaws.{count-is, sized, exactly, opens-refused, length-broken, none-broken, opens-proved}
use Rattle.chain.proofs.open.opened.Goals as goal

pub returns-in_err-image : goal.returns-in_err-image
returns-in_err-image c =
    let a = c.args in
    opens-refused a.image.now a.approved.now a.signature a.output.now c.from_residual.result c.from_residual.ensures.0
    (exits (stream_rules a.image.now a.approved.now a.signature) (exactly a.image.now a.approved.now a.signature a.output.now)
    c.from_residual.result c.in_err-image.field-0.0 c.from_residual.ensures.1 c.in_err-image.ensures.code)

pub file_length-requires : goal.file_length-requires
file_length-requires c = sized c.in_ok-image.image

pub returns-then-output-file_length : goal.returns-then-output-file_length
returns-then-output-file_length c =
    let a = c.args in
    let j = c.in_ok-image in
    opens-refused a.image.now a.approved.now a.signature a.output.now (Err OutputLength) refl
    (sym (length-broken a.image.now a.approved.now a.signature a.output.now j.image j.ensures.image.0 j.ensures.image.1 c.file_length.ensures
    (sym j.ensures.code) c.if-output-file_length.true))

pub copy_file-stored-requires-clause-among : goal.copy_file-stored-requires-clause-among
copy_file-stored-requires-clause-among c =
    let i = c.in_ok-image.image in
    omega (
      arith,
      ap (λ (p : ProvedBlocks). p.count) c.proved-p.ensures,
      proved-le (approved_header i) (block_in i) (approved_header i).stream.count,
      count-is i,
    )

pub returns : goal.returns
returns c =
    let a = c.args in
    let j = c.in_ok-image in
    opens-proved a.image.now a.approved.now a.signature a.output.now j.image j.ensures.image.0 j.ensures.image.1
    (none-broken a.image.now a.approved.now a.signature a.output.now j.image j.ensures.image.0 j.ensures.image.1 c.file_length.ensures
    (sym j.ensures.code) c.if-output-file_length.false)
    c.proved-p.ensures c.copy_file-stored.result _ c.copy_file-stored.ensures.output_after c.copy_file-stored.ensures.value c.told.ensures
