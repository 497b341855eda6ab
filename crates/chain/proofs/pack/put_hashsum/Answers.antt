use Rattle.std.proofs.Common.{◌≤◌, sym, length, arith}
use Rattle.chain.proofs.HashingLaws.{digested, digest-within, digest-counted}
use Rattle.chain.proofs.HashingLaws.{hashed-none, hashed_length, hashed-fits, hashed-more}
use Rattle.chain.proofs.pack.put_hashsum.Goals as goal

pub loop-id-init : goal.loop-id-init
loop-id-init c = let a = c.args in hashed-none a.ids a.output.now a.start _ a.at

pub slice_bounds-digest-end-in-loop-id : goal.slice_bounds-digest-end-in-loop-id
slice_bounds-digest-end-in-loop-id c =
    digest-within (digested c.digest-n.ensures.out_after c.digest-n.ensures.value)

pub slice_bounds-copy-end : goal.slice_bounds-copy-end
slice_bounds-copy-end c =
    sym (digest-counted (digested c.digest-n.ensures.out_after c.digest-n.ensures.value))

pub copy-requires : goal.copy-requires
copy-requires c =
    let e = digested c.digest-n.ensures.out_after c.digest-n.ensures.value in
    omega (arith, digest-counted e, hashed-fits c.loop-id.invariant c.requires.0 (omega (arith, c.requires)) (omega arith) e)

pub overflow_add-place : goal.overflow_add-place
overflow_add-place c =
    let inside : c.args.start ≤ length c.args.output.now = omega (arith, c.requires) in
    let e = digested c.digest-n.ensures.out_after c.digest-n.ensures.value in
    omega (
      arith,
      hashed-fits c.loop-id.invariant c.requires.0 inside (omega arith) e,
      hashed_length c.loop-id.invariant c.requires.0 inside,
      c.well_formed,
    )

pub loop-id-preserved : goal.loop-id-preserved
loop-id-preserved c =
    hashed-more c.loop-id.invariant c.requires.0 (omega (arith, c.requires)) (omega arith)
    (digested c.digest-n.ensures.out_after c.digest-n.ensures.value) c.copy.ensures

pub shape_of-output : goal.shape_of-output
shape_of-output c = hashed_length c.loop-id.invariant c.requires.0 (omega (arith, c.requires))
