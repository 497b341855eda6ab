use Rattle.std.proofs.Common.{◌≡◌, sym, refl, ◌∙◌, subst, arith, rules}
use Rattle.hashes.specs.declared.Hasher.{Hasher}
use Rattle.hashes.specs.declared.Hasher.TheVariants.{Sha256, Sha384, Sha512, Unknown}
use Rattle.hashes.specs.Tables.{initial256, initial384, initial512, SHA2-256, SHA2-384, SHA2-512}
use Rattle.hashes.specs.Digests.{digest_length}
use Rattle.hashes.specs.Progress.{Fed}
use Rattle.hashes.proofs.Algorithms.{has-2, has-3, has-4, answer-by}
use Rattle.hashes.proofs.Storing.{sha2-of, zeros-in-sixty-four}
use Rattle.hashes.proofs.Theorems.{no-digest}
use Rattle.hashes.proofs.Hasher.finish.Goals as goal

pub returns-in-Sha256 : goal.returns-in-Sha256
returns-in-Sha256 c =
    λ i x l f.
    let h : Fed (Sha256 c.in-Sha256.stream) i x = subst (λ (k : Hasher). Fed k i x) c.in-Sha256.is f in
    answer-by i (has-2 h.0) x (sha2-of SHA2-256 x 8 (omega arith) (omega arith) refl (c.finish.ensures.out_after initial256 x l h.1)) c.finish.ensures.value

pub returns-in-Sha384 : goal.returns-in-Sha384
returns-in-Sha384 c =
    λ i x l f.
    let h : Fed (Sha384 c.in-Sha384.stream) i x = subst (λ (k : Hasher). Fed k i x) c.in-Sha384.is f in
    answer-by i (has-3 h.0) x (sha2-of SHA2-384 x 6 (omega arith) (omega arith) refl (c.finish-in-Sha384.ensures.out_after initial384 x l h.1)) c.finish-in-Sha384.ensures.value

pub returns-in-Sha512 : goal.returns-in-Sha512
returns-in-Sha512 c =
    λ i x l f.
    let h : Fed (Sha512 c.in-Sha512.stream) i x = subst (λ (k : Hasher). Fed k i x) c.in-Sha512.is f in
    answer-by i (has-4 h.0) x (sha2-of SHA2-512 x 8 (omega arith) (omega arith) refl (c.finish-in-Sha512.ensures.out_after initial512 x l h.1)) c.finish-in-Sha512.ensures.value

pub returns-in-Unknown : goal.returns-in-Unknown
returns-in-Unknown c =
    λ i x l f.
    let g : Fed (Unknown c.in-Unknown.field-0) i x = subst (λ (k : Hasher). Fed k i x) c.in-Unknown.is f in
    let h : digest_length i ≡ 0 = g.1 in
    (c.fill.ensures ∙ zeros-in-sixty-four c.args.out.now (search rules) ∙ sym (no-digest i x h), sym h)
