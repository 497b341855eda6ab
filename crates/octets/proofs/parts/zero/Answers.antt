use Rattle.std.proofs.Common.{rules, ◌≡◌, ℕ, ap, ◌∙◌, fold, bit_or}
use lib.Dec.{eqb}
use Rattle.octets.proofs.TestLaws.{fold-zero}
use Rattle.octets.proofs.parts.zero.Goals as goal

pub returns : goal.returns
returns c =
    let e : c.fold.result ≡ fold bit_or 0 c.args.s.now = search rules in
    ap (λ (r : ℕ). eqb r 0) e ∙ fold-zero c.args.s.now 0
