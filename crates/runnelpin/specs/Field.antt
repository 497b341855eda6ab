-- What stands in, at the C boundary, for a part that is returned: where it begins, and its length.
use Rattle.std.specs.Prelude.{List, ℕ, length}
use Rattle.chain.specs.Open.{signature_field, field_start}
use Rattle.runnelpin.specs.declared.Field.{Field}

-- the signature field
abbrev pub field_of : List ℕ → List ℕ → ℕ → Field
field_of image approved signature =
    record { start = field_start image approved signature; length = length (signature_field image approved signature) }
