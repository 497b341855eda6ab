-- For each code of load an input that gives it.
use mathlib.Core.Bool.{Bool, true, false, cond}
use mathlib.Core.Path.{◌≡◌, refl, sym, ap, ap₂, subst, ◌∙◌}
use mathlib.Core.List.{List, [], ◌∷◌, ◌++◌, map}
use mathlib.Core.Logic.{◌≢◌}
use Prim.Native.Nat.{ℕ, suc, ◌+◌, ◌≤◌, ◌<◌}
use native.Mathlib.Omega.{arith}
use borrow.Author.Tests.{le-ltb}
use lib.Dec.{T, eqb, eqb→eq}
use lib.ListN.{length, get_or, take, drop, replicate, length-replicate}
use Rattle.octets.specs.Numbers.{little, little_bytes}
use Rattle.octets.specs.Parts.{same, all_zero}
use Rattle.answers.specs.Answers.{Outcome, answer_after, record_length, stop_at}
use Rattle.answers.specs.Rules.{first_broken}
use Rattle.answers.specs.declared.Answer.{Answer}
use Rattle.answers.proofs.ChoiceLaws.{cond-parts}
use Rattle.board.specs.Cpuid.{ascending}
use Rattle.board.specs.Map.{ordered, total}
use Rattle.board.specs.Records.{records}
use Rattle.hashes.specs.Compression as compression
use Rattle.hashes.specs.Digests as digests
use Rattle.hashes.specs.Padding as messages
use Rattle.hashes.specs.Tables as tables
use Rattle.chain.specs.Blocks.{block_code, bad_block, file_up_to}
use Rattle.chain.specs.Hashsum.{hashsum, sum_length, any_unknown}
use Rattle.chain.specs.Header.{Header, header_magic, header_size_for, header_bytes, id_bytes, file_length, image_length}
use Rattle.chain.specs.Pack.{Order, pack_rules, packed_header, packed}
use Rattle.chain.proofs.BlockLaws.{proved-le}
use Rattle.chain.proofs.CodeCases.{OpenCase, code_of_open, open_cases, open-cases}
use Rattle.chain.proofs.GivenCodes.{among}
use Rattle.machine.specs.Machine.{run, halted, stop_or, answer_of}
use Rattle.machine.specs.declared.Phase.TheVariants.{Magic, Stopped}
use Rattle.machine.proofs.Cases as bare
use Rattle.loader.proofs.Calls.{load-of-pack, header_codes, ArgumentsTaken, header-agrees}
use Rattle.loader.proofs.Fold.{bad-answers}
use Rattle.loader.proofs.Images.{offer}
use Rattle.loader.proofs.LoadLaws.{load-answered}
use Rattle.loader.specs.Load.{Offer, load_rules, header, block, state_after, load_answer, loaded}

pub record Case : Type 0 where
  pub offer : Offer
  pub memory : ℕ

-- what load returns, where so many bytes of memory and a record of its length are lent
abbrev pub returned : Case → ℕ
returned c = (loaded c.offer (replicate c.memory 0) (replicate record_length 0)).code

-- ---- 0 to 3 and 16 to 27: what a bare run gives, load gives for the packed file

abbrev order_of : bare.Case → Order
order_of c = record { file = c.given.file; ids = 2 ∷ 0 ∷ 0 ∷ 0 ∷ []; block_size = 64; signature = 1 }

abbrev blank : bare.Case → List ℕ
blank c = replicate (image_length (packed_header (order_of c))) 0

abbrev packed_case : bare.Case → Case
packed_case c =
    let image = (packed (order_of c) (blank c)).output in
    let approved = take (header_size_for (sum_length (order_of c).ids)) image in
    record { offer = offer approved c.given.map c.given.table c.given.mode 1 image; memory = c.memory }

-- whether each file is packed
abbrev all_packed : List bare.Case → Bool
all_packed [] = true
all_packed (c ∷ cs) = cond (eqb (first_broken (pack_rules (order_of c) (length (blank c)))) 0) (all_packed cs) false

packed-returns : (c : bare.Case) → first_broken (pack_rules (order_of c) (length (blank c))) ≡ 0 → returned (packed_case c) ≡ bare.returned c
unfolding packed
packed-returns c e =
    ap (λ (x : Outcome). x.code)
    (load-of-pack (order_of c) (blank c) refl e (packed (order_of c) (blank c)).output (record { size = refl; front = refl; rest = refl })
    c.given.map c.given.table c.given.mode (replicate c.memory 0) (replicate record_length 0))

all-packed : (cs : List bare.Case) → T (all_packed cs) → map returned (map packed_case cs) ≡ map bare.returned cs
all-packed [] t = refl
all-packed (c ∷ cs) t =
    let code = first_broken (pack_rules (order_of c) (length (blank c))) in
    let p = cond-parts (eqb code 0) (all_packed cs) t in
    ap₂ (λ (x : ℕ) (xs : List ℕ). x ∷ xs) (packed-returns c (eqb→eq code 0 p.0)) (all-packed cs p.1)

abbrev packed_cases : List Case
packed_cases = map packed_case bare.cases

cases-packed : T (all_packed bare.cases)
unfolding little_bytes sum_length any_unknown digests.digest_length digests.algorithms digests.algorithm_of
cases-packed = tt

packed-given : map returned packed_cases ≡ 0 ∷ 1 ∷ 2 ∷ 3 ∷ 16 ∷ 17 ∷ 18 ∷ 19 ∷ 20 ∷ 21 ∷ 22 ∷ 23 ∷ 24 ∷ 25 ∷ 26 ∷ 27 ∷ []
packed-given = all-packed bare.cases cases-packed ∙ bare.each-code-given

-- ---- 4 to 12: what open gives, load gives

-- an image on a unit of one region of 16 bytes at 0x1000 and no CPUID instruction
abbrev on_unit : List ℕ → List ℕ → ℕ → Case
on_unit image approved signature =
    record { offer = offer approved (little_bytes 8 0x1000 ++ little_bytes 8 16) [] 64 signature image; memory = 16 }

unit-taken : (image approved : List ℕ) (signature : ℕ) → ArgumentsTaken (on_unit image approved signature).offer 16
unfolding little little_bytes ascending ordered total records
unit-taken image approved signature = refl

abbrev header_case : OpenCase → Case
header_case x = on_unit x.image x.approved x.signature

-- whether each record has its length, and each code is one of the header's
abbrev all_whole : List OpenCase → Bool
all_whole [] = true
all_whole (x ∷ xs) = cond (eqb (length x.old) record_length) (all_whole xs) false

abbrev all_header : List ℕ → Bool
all_header [] = true
all_header (c ∷ cs) = cond (among header_codes c) (all_header cs) false

all-header : (xs : List OpenCase) → T (all_whole xs) → T (all_header (map code_of_open xs)) → map returned (map header_case xs) ≡ map code_of_open xs
all-header [] w t = refl
all-header (x ∷ xs) w t =
    let p = cond-parts (eqb (length x.old) record_length) (all_whole xs) w in
    let q = cond-parts (among header_codes (code_of_open x)) (all_header (map code_of_open xs)) t in
    ap₂ (λ (c : ℕ) (cs : List ℕ). c ∷ cs)
    (ap (λ (y : Outcome). y.code)
    (load-answered (header_case x).offer (replicate 16 0) (replicate record_length 0) (length-replicate {A = ℕ} record_length 0))
    ∙ ap (λ (a : Answer). a.code)
    (header-agrees (header_case x).offer x.output x.old (eqb→eq (length x.old) record_length p.0) 16
    (unit-taken x.image x.approved x.signature) q.0))
    (all-header xs p.1 q.1)

-- open's cases from the one of 4 to the one of 12
abbrev headers : List OpenCase
headers = take 9 (drop 2 open_cases)

header-given : map returned (map header_case headers) ≡ 4 ∷ 5 ∷ 6 ∷ 7 ∷ 8 ∷ 9 ∷ 10 ∷ 11 ∷ 12 ∷ []
header-given =
    let e : map code_of_open headers ≡ 4 ∷ 5 ∷ 6 ∷ 7 ∷ 8 ∷ 9 ∷ 10 ∷ 11 ∷ 12 ∷ [] = ap (λ (cs : List ℕ). take 9 (drop 2 cs)) open-cases in
    all-header headers tt (subst (λ (cs : List ℕ). T (all_header cs)) (sym e) tt) ∙ e

-- ---- 13 to 15: a first block that is bad, of a file that is not short

module _ (o : Offer) (memory old : List ℕ) where
  first-bad : length old ≡ record_length → first_broken (load_rules o (length memory)) ≡ 0 → 0 < (header o).stream.count
      → 8 ≤ file_length (header o).stream → (code : ℕ) → block_code (header o) (block o) 0 ≡ code → code ≢ 0
      → (loaded o memory old).code ≡ code
  unfolding run file_up_to
  first-bad fits taken some long code e ne =
      ap (λ (x : Outcome). x.code) (load-answered o memory old fits)
      ∙ ap (λ (early : ℕ). (answer_after early (load_answer o)).code) taken
      ∙ ap (λ (a : Answer). a.code)
      (bad-answers o 0 (omega (arith, proved-le (header o) (block o) 0)) some (λ z. ne (sym e ∙ z))).answer
      ∙ ap
      (λ (b : Bool). (answer_of
      (stop_or (bad_block (header o) (block o) 0) (halted (cond b (Stopped (stop_at 16 0)) Magic))) (state_after o 0).tally).code)
      (le-ltb (file_length (header o).stream) 8 long)
      ∙ e

-- one block of 41 bytes, with neither hash field nor data zero, and its hashsum
abbrev bad : List ℕ
bad = (1 ∷ replicate 31 0) ++ replicate 9 7

abbrev bad_root : List ℕ
bad_root =
    193 ∷ 248 ∷ 21 ∷ 39 ∷ 31 ∷ 161 ∷ 249 ∷ 77 ∷ 157 ∷ 185 ∷ 183 ∷ 173 ∷ 45 ∷ 201 ∷ 42 ∷ 167
    ∷ 175 ∷ 240 ∷ 163 ∷ 170 ∷ 8 ∷ 180 ∷ 192 ∷ 165 ∷ 143 ∷ 114 ∷ 223 ∷ 219 ∷ 204 ∷ 156 ∷ 113 ∷ 180
    ∷ []

abbrev sealed : ℕ → List ℕ → Header
sealed padding root =
    record {
      magic = header_magic;
      stream = record { count = 1; block_size = 41; hashsum_length = 32; ids = 2 ∷ 0 ∷ 0 ∷ 0 ∷ []; padding = padding };
      signature = 1;
      header_size = 68;
      scheme = 1;
      root = root;
    }

abbrev block_case : ℕ → List ℕ → Case
block_case padding root = on_unit (header_bytes (sealed padding root) ++ (0 ∷ []) ++ bad) (header_bytes (sealed padding root)) 1

-- another root; padding that is not zero; a last hash field that is not zero
abbrev block_cases : List Case
block_cases = block_case 0 (replicate 32 0) ∷ block_case 1 bad_root ∷ block_case 0 bad_root ∷ []

-- what decides such a case: the code by the rules, the first block's code, the number of blocks, the file's length
abbrev facts : Case → List ℕ
facts c =
    let o = c.offer in
    first_broken (load_rules o c.memory) ∷ block_code (header o) (block o) 0 ∷ (header o).stream.count ∷ file_length (header o).stream ∷ []

abbrev block_facts : List (List ℕ)
block_facts = (0 ∷ 13 ∷ 1 ∷ 9 ∷ []) ∷ (0 ∷ 14 ∷ 1 ∷ 8 ∷ []) ∷ (0 ∷ 15 ∷ 1 ∷ 9 ∷ []) ∷ []

block-facts : map facts block_cases ≡ block_facts
unfolding header_bytes id_bytes little_bytes little same all_zero ascending ordered total records hashsum sum_length any_unknown
    digests.digest digests.digest_length digests.algorithms digests.algorithm_of
    compression.sha2 compression.joined compression.hashed compression.after_blocks compression.compressed compression.after_rounds
    compression.round compression.summed compression.scheduled compression.with_next
    messages.padded messages.words_at tables.K256 tables.initial256
block-facts = refl

bad-returns : (c : Case) (code long : ℕ) → facts c ≡ 0 ∷ suc code ∷ 1 ∷ (8 + long) ∷ [] → returned c ≡ suc code
bad-returns c code long e =
    let o : Offer = c.offer in
    let fact : (i : ℕ) → get_or (facts c) i 0 ≡ get_or (0 ∷ suc code ∷ 1 ∷ (8 + long) ∷ []) i 0 = λ i. ap (λ (l : List ℕ). get_or l i 0) e in
    let n : (header o).stream.count ≡ 1 = fact 2 in
    let size : file_length (header o).stream ≡ 8 + long = fact 3 in
    first-bad o (replicate c.memory 0) (replicate record_length 0) (length-replicate {A = ℕ} record_length 0)
    (ap (λ (k : ℕ). first_broken (load_rules o k)) (length-replicate {A = ℕ} c.memory 0) ∙ fact 0) (omega arith) (omega arith)
    (suc code) (fact 1) (λ z. omega (arith, z))

block-given : map returned block_cases ≡ 13 ∷ 14 ∷ 15 ∷ []
block-given =
    let fact : (i : ℕ) → get_or (map facts block_cases) i [] ≡ get_or block_facts i [] =
    λ i. ap (λ (l : List (List ℕ)). get_or l i []) block-facts in
    let x : returned (block_case 0 (replicate 32 0)) ≡ 13 = bad-returns (block_case 0 (replicate 32 0)) 12 1 (fact 0) in
    let y : returned (block_case 1 bad_root) ≡ 14 = bad-returns (block_case 1 bad_root) 13 0 (fact 1) in
    let z : returned (block_case 0 bad_root) ≡ 15 = bad-returns (block_case 0 bad_root) 14 1 (fact 2) in
    λ i. x i ∷ y i ∷ z i ∷ []

-- ---- all of them

abbrev pub load_codes : List ℕ
load_codes =
    0 ∷ 1 ∷ 2 ∷ 3 ∷ 4 ∷ 5 ∷ 6 ∷ 7 ∷ 8 ∷ 9 ∷ 10 ∷ 11 ∷ 12 ∷ 13 ∷ 14 ∷ 15 ∷ 16 ∷ 17 ∷ 18 ∷ 19 ∷ 20 ∷ 21 ∷ 22 ∷ 23 ∷ 24 ∷ 25 ∷ 26 ∷ 27 ∷ []

abbrev pub cases : List Case
cases = take 4 packed_cases ++ map header_case headers ++ block_cases ++ drop 4 packed_cases

pub each-code-given : map returned cases ≡ load_codes
each-code-given = λ i. take 4 (packed-given i) ++ header-given i ++ block-given i ++ drop 4 (packed-given i)
