-- The CPUID table: which tables are taken, and what a lookup finds.
use Rattle.std.specs.Prelude.{Bool, true, false, not, cond, Option, Some, None, List, [], ◌∷◌, ℕ, ◌+◌, ◌*◌, ◌/◌, ◌%◌, eqb, ltb, length}
use Rattle.octets.specs.Numbers.{little}
use Rattle.octets.specs.Parts.{part}
use Rattle.answers.specs.Rules.{Rule, rule}
use Rattle.board.specs.Records.{records}

pub record Leaf : Type 0 where
  pub eax_input : ℕ
  pub ecx_input : ℕ
  pub eax : ℕ
  pub ebx : ℕ
  pub ecx : ℕ
  pub edx : ℕ

-- the bytes of a record
abbrev pub leaf_bytes : ℕ
leaf_bytes = 24

-- C1: record i of the table: six 32-bit little-endian words
abbrev pub leaf : List ℕ → ℕ → Leaf
leaf table i =
    record {
      eax_input = little (part table (leaf_bytes * i) 4);
      ecx_input = little (part table (leaf_bytes * i + 4) 4);
      eax = little (part table (leaf_bytes * i + 8) 4);
      ebx = little (part table (leaf_bytes * i + 12) 4);
      ecx = little (part table (leaf_bytes * i + 16) 4);
      edx = little (part table (leaf_bytes * i + 20) 4);
    }

abbrev pub leaves : List ℕ → List Leaf
leaves table = records (leaf table) 0 (length table / leaf_bytes)

-- C3: p comes before q: by EAX input and then ECX input
abbrev pub before : Leaf → Leaf → Bool
before p q =
    cond (eqb p.eax_input q.eax_input) (ltb p.ecx_input q.ecx_input) (ltb p.eax_input q.eax_input)

-- strictly ascending
unfoldable pub ascending : List Leaf → Bool
ascending [] = true
ascending (p ∷ []) = true
ascending (p ∷ (q ∷ rest)) = cond (before p q) (ascending (q ∷ rest)) false

-- N3: the table isn't whole records (C1), has more than 64 (C2), or they do not ascend (C3)
abbrev pub table_rules : List ℕ → List Rule
table_rules table =
    rule 3 (not (eqb (length table % leaf_bytes) 0))
    ∷ rule 3 (ltb 64 (length table / leaf_bytes))
    ∷ rule 3 (not (ascending (leaves table)))
    ∷ []

-- C6: the result register by its number: 0 EAX, 1 EBX, 2 ECX, 3 EDX
abbrev pub register : ℕ → Leaf → ℕ
register n l = cond (eqb n 0) l.eax (cond (eqb n 1) l.ebx (cond (eqb n 2) l.ecx l.edx))

-- C5: a lookup needs both inputs equal; what the wanted register holds there
unfoldable pub lookup : List Leaf → ℕ → ℕ → ℕ → Option ℕ
lookup [] eax ecx n = None
lookup (l ∷ ls) eax ecx n =
    cond (eqb l.eax_input eax) (cond (eqb l.ecx_input ecx) (Some (register n l)) (lookup ls eax ecx n))
    (lookup ls eax ecx n)
