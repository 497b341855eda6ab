-- What a call answers, and what it leaves in the bytes lent to it. The rules that W1, P5 and the like name stand in docs/FORMAT.md.
use Rattle.std.specs.Prelude.{cond, List, [], ◌++◌, ℕ, eqb, length}
use Rattle.octets.specs.Numbers.{little_bytes}
use Rattle.answers.specs.declared.Answer.{Answer}
use Rattle.answers.specs.declared.Stop.{Stop}

-- what a stop says: its code, and its place
abbrev pub stop_at : ℕ → ℕ → Stop
stop_at code place = record { code = code; place = place }

-- the answer of a stop, with the commands done, the bytes stored and the entry
abbrev pub told : Stop → ℕ → ℕ → ℕ → Answer
told s commands stored entry =
    record { code = s.code; place = s.place; commands = commands; stored = stored; entry = entry }

-- a refusal that nothing went before (P5, P6, P8)
abbrev pub refused : ℕ → Answer
refused code = told (stop_at code 0) 0 0 0

-- W2: the lent record: code, place, commands done, bytes stored, entry, each 64 bits, little-endian
unfoldable pub record_bytes : Answer → List ℕ
record_bytes a =
    little_bytes 8 a.code ++ little_bytes 8 a.place ++ little_bytes 8 a.commands ++ little_bytes 8 a.stored
    ++ little_bytes 8 a.entry

-- W1: its length
abbrev pub record_length : ℕ
record_length = 40

-- what a call returns, and what it leaves in the lent record and in the memory or output lent to it
pub record Outcome : Type 0 where
  pub code : ℕ
  pub answer : List ℕ
  pub lent : List ℕ

-- W4, W5: the answer a, with `after` left in what held `before`;
-- W3: if the record, which held `old`, is of another length the call returns 1 and writes nothing anywhere
abbrev pub answered : List ℕ → Answer → List ℕ → List ℕ → Outcome
answered old a before after =
    cond (eqb (length old) record_length) (record { code = a.code; answer = record_bytes a; lent = after })
    (record { code = 1; answer = old; lent = before })

-- How a call concludes that judges its arguments first. Where these break a rule, its number, `early`, is the answer;
abbrev pub answer_after : ℕ → Answer → Answer
answer_after early a = cond (eqb early 0) a (refused early)

-- then nothing is written (P11).
abbrev pub written_after : {A : Type 0} → ℕ → List A → List A
written_after early xs = cond (eqb early 0) xs []
