use Rattle.std.proofs.Common.{[], refl, ◌∙◌, arith, rules}
use Rattle.hashes.specs.Tables.{initial256, initial384, initial512, SHA2-256, SHA2-384, SHA2-512}
use Rattle.hashes.proofs.Algorithms.{has-2, has-3, has-4, has-none, answer-by}
use Rattle.hashes.proofs.Storing.{sha2-of, zeros-in-sixty-four}
use Rattle.hashes.proofs.digest.Goals as goal

pub returns-in-2 : goal.returns-in-2
unfolding initial256
returns-in-2 c =
    let m = c.args.message.now in
    let h = answer-by c.args.id (has-2 c.in-2.is) m
    (sha2-of SHA2-256 m 8 (omega arith) (omega arith) refl (c.digest.ensures.out_after initial256 [] (search rules) c.begin.ensures)) c.digest.ensures.value in
    record { out_after = h.0; value = h.1 }

pub returns-in-3 : goal.returns-in-3
unfolding initial384
returns-in-3 c =
    let m = c.args.message.now in
    let h = answer-by c.args.id (has-3 c.in-3.is) m
    (sha2-of SHA2-384 m 6 (omega arith) (omega arith) refl (c.digest-in-3.ensures.out_after initial384 [] (search rules) c.begin-in-3.ensures)) c.digest-in-3.ensures.value in
    record { out_after = h.0; value = h.1 }

pub returns-in-4 : goal.returns-in-4
unfolding initial512
returns-in-4 c =
    let m = c.args.message.now in
    let h = answer-by c.args.id (has-4 c.in-4.is) m
    (sha2-of SHA2-512 m 8 (omega arith) (omega arith) refl (c.digest-in-4.ensures.out_after initial512 [] (search rules) c.begin-in-4.ensures)) c.digest-in-4.ensures.value in
    record { out_after = h.0; value = h.1 }

pub returns-in_default : goal.returns-in_default
returns-in_default c =
    let h = answer-by c.args.id (has-none (omega arith) (omega arith) (omega arith)) c.args.message.now
    (c.fill.ensures ∙ zeros-in-sixty-four c.args.out.now (search rules)) refl in
    record { out_after = h.0; value = h.1 }
