-- The commands: their IDs, their fields, and the rules that each is judged by. (F4, N17 and the like: docs/FORMAT.md.)
use Rattle.std.specs.Prelude.{Bool, true, false, not, cond, Option, Some, None, List, [], ◌∷◌, ℕ, eqb, leb, ltb, length}
use Rattle.std.specs.Int.Bits.{bit_and}
use Rattle.octets.specs.Numbers.{little}
use Rattle.octets.specs.Parts.{part}
use Rattle.answers.specs.Rules.{Rule, rule}
use Rattle.board.specs.Cpuid.{Leaf, lookup}
use Rattle.board.specs.Map.{Region, ram}
use Rattle.board.specs.Reach.{reachable}
use Rattle.machine.specs.declared.Command.{Command}
use Rattle.machine.specs.declared.Command.TheVariants.{Write, Fill, Entry, Check}
use Rattle.machine.specs.declared.Named.{Named}
use Rattle.machine.specs.declared.Named.TheVariants.{Known, Skipped, Unknown}

-- F4 to F10: what an ID names; the IDs are those of the standard's table 1
abbrev pub named : ℕ → Named
named id =
    cond (eqb id 0) (Known Write)
    (cond (eqb id 1) (Known Fill)
    (cond (eqb id 2) (Known Entry)
    (cond (eqb id 3) (Known Check) (cond (ltb id 60000) Unknown (cond (leb id 65535) Skipped Unknown)))))

-- F3: a command's bytes c, from its first one on. Its 16-byte header: ID 2, reserved 6, data length 8; then its data.
abbrev pub command_id : List ℕ → ℕ
command_id c = little (part c 0 2)

abbrev pub data_length : List ℕ → ℕ
data_length c = little (part c 8 8)

abbrev pub address : List ℕ → ℕ
address c = little (part c 16 8)

-- F6, fill: address 8, count 8, pattern 1, reserved 7
abbrev pub fill_count : List ℕ → ℕ
fill_count c = little (part c 24 8)

abbrev pub pattern : List ℕ → ℕ
pattern c = little (part c 32 1)

-- F8, check: ECX, EAX, value, mask (4 each), result register 1, reserved 7, text 64
abbrev pub ecx : List ℕ → ℕ
ecx c = little (part c 16 4)

abbrev pub eax : List ℕ → ℕ
eax c = little (part c 20 4)

abbrev pub value : List ℕ → ℕ
value c = little (part c 24 4)

abbrev pub mask : List ℕ → ℕ
mask c = little (part c 28 4)

abbrev pub result_register : List ℕ → ℕ
result_register c = little (part c 32 1)

abbrev pub text : List ℕ → List ℕ
text c = part c 40 64

-- T5, T7: how many of its data bytes a command is judged by: of a write the address alone
abbrev pub judged_bytes : Command → ℕ
judged_bytes Write = 8
judged_bytes Fill = 24
judged_bytes Entry = 8
judged_bytes Check = 88

-- F5 to F8: a write has a data length of at least 8, fill 24, entry 8, check 88
abbrev pub wrong_length : Command → ℕ → Bool
wrong_length Write n = ltb n 8
wrong_length Fill n = not (eqb n 24)
wrong_length Entry n = not (eqb n 8)
wrong_length Check n = not (eqb n 88)

-- N17: data of n bytes runs past the file, which has `left` bytes behind the header
abbrev pub data_rules : ℕ → ℕ → List Rule
data_rules n left = rule 17 (ltb left n) ∷ []

-- O6: 19 the data length, then 17
abbrev pub length_rules : Command → ℕ → ℕ → List Rule
length_rules k n left = rule 19 (wrong_length k n) ∷ data_rules n left

-- O7: a range that is to be stored to, under a map and a reach limit: 20 not reachable, 21 not RAM
abbrev pub range_rules : List Region → ℕ → ℕ → ℕ → List Rule
range_rules map top a n = rule 20 (not (reachable top a n)) ∷ rule 21 (not (ram map a n)) ∷ []

-- O8, F13: an entry address is reachable as a range of one byte; it need not be RAM
abbrev pub entry_rules : ℕ → ℕ → List Rule
entry_rules top a = rule 20 (not (reachable top a 1)) ∷ []

-- F16: whether a zero byte is somewhere
unfoldable pub has_zero : List ℕ → Bool
has_zero [] = false
has_zero (b ∷ bs) = cond (eqb b 0) true (has_zero bs)

abbrev pub missing : Option ℕ → Bool
missing (Some w) = false
missing None = true

-- F15: a check passes if (register AND mask) = value
abbrev pub passes : Option ℕ → ℕ → ℕ → Bool
passes (Some w) m v = eqb (bit_and w m) v
passes None m v = false

-- N25, N26: no such record; check failed
abbrev pub found_rules : Option ℕ → ℕ → ℕ → List Rule
found_rules found m v = rule 25 (missing found) ∷ rule 26 (not (passes found m v)) ∷ []

-- O9: 22 text without zero; 23 CPUID not available; 24 result register over 3; then what a lookup finds
abbrev pub check_rules : List Leaf → List ℕ → List Rule
check_rules table c =
    rule 22 (not (has_zero (text c)))
    ∷ rule 23 (eqb (length table) 0)
    ∷ rule 24 (ltb 3 (result_register c))
    ∷ found_rules (lookup table (eax c) (ecx c) (result_register c)) (mask c) (value c)
