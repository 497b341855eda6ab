-- The table of numbered answers, read as rules in an order: the first that is broken gives its number (N0 to N29, O1).
use Rattle.std.specs.Prelude.{Bool, cond, List, [], ◌∷◌, ℕ, ◌^◌, eqb, ltb}

-- a rule: its number, and whether it is broken
pub record Rule : Type 0 where
  pub code : ℕ
  pub broken : Bool

abbrev pub rule : ℕ → Bool → Rule
rule n b = record { code = n; broken = b }

-- the number of the first broken rule, 0 where all hold
abbrev pub first_broken : List Rule → ℕ
first_broken [] = 0
first_broken (r ∷ rs) = cond r.broken r.code (first_broken rs)

-- N1, J13: signature length not in 1..4096
abbrev pub signature_rules : ℕ → List Rule
signature_rules signature = rule 1 (eqb signature 0) ∷ rule 1 (ltb 4096 signature) ∷ []

-- N1, J14: image or command file over 2^30 bytes
abbrev pub size_rules : ℕ → List Rule
size_rules bytes = rule 1 (ltb (2 ^ 30) bytes) ∷ []
