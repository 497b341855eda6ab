-- What a reader looks for of the C boundary besides the calls' own theorems, which stand in chain, machine and loader.
use mathlib.Core.Path.{◌≡◌, sym, ap, ◌∙◌}
use mathlib.Core.List.{List}
use Prim.Native.Nat.{ℕ}
use Rattle.octets.specs.Parts.{part}
use Rattle.runnelpin.specs.Field.{field_of}
use Rattle.runnelpin.specs.declared.Field.{Field}

-- Two results that the promise of runnelpin_signature allows are equal: where the field begins and its length, and so its bytes.
pub signature-unique : (image approved : List ℕ) (signature : ℕ) (x y : Field) → x ≡ field_of image approved signature
    → y ≡ field_of image approved signature
    → (x.start ≡ y.start) × (x.length ≡ y.length) × (part image x.start x.length ≡ part image y.start y.length)
signature-unique image approved signature x y e q =
    let same : x ≡ y = e ∙ sym q in (
      ap (λ (f : Field). f.start) same,
      ap (λ (f : Field). f.length) same,
      ap (λ (f : Field). part image f.start f.length) same,
    )
