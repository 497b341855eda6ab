-- Which codes open and pack give, and what each leaves in the output.
use mathlib.Core.Path.{◌≡◌, refl, sym, ap, subst}
use mathlib.Core.Bool.{Bool, true, false, not, ◌&&◌, ◌||◌, cond}
use mathlib.Core.List.{List, [], ◌∷◌}
use Prim.Native.Nat.{ℕ, suc, ◌*◌, ◌^◌, ◌≤◌, ◌<◌}
use native.Mathlib.Nat.{le_of_lt, le-mul_of_pos_right, mul-le-mul_left}
use native.Mathlib.Omega.{arith}
use borrow.Author.Tests.{eqb-false, eq-eqb, ne_eqb}
use lib.Dec.{T, T_not, eqb, ltb, ltb→lt}
use lib.ListN.{length}
use Rattle.octets.specs.Parts.{put}
use Rattle.answers.specs.Answers.{Outcome, answer_after, written_after, refused, record_bytes, record_length, stop_at}
use Rattle.answers.specs.declared.Answer.{Answer}
use Rattle.answers.specs.declared.Stop.{Stop}
use Rattle.answers.specs.Rules.{Rule, first_broken}
use Rattle.answers.proofs.ChoiceLaws.{cond_cases}
use Rattle.answers.proofs.OutcomeLaws.{given, answered-given, after-cases}
use Rattle.answers.proofs.RecordLaws.{Fit}
use Rattle.answers.proofs.RuleLaws.{codes_pass, code-passes, not_none}
use Rattle.chain.specs.Blocks.{block_of, block_rules, block_code, expected, proved_blocks}
use Rattle.chain.specs.Header.{Header, header_of}
use Rattle.chain.specs.Open.{open_rules, open_answer, proved_file, opened}
use Rattle.chain.specs.Pack.{Order, pack_rules, image, packed}
use Rattle.chain.proofs.BlockLaws.{proved-le, fails, first-part-fits}
use Rattle.chain.proofs.HeaderLaws.{Allowed, Passed, stream-passed, whole-block, block_data}
use Rattle.chain.proofs.OpenLaws.{Way, unwritten, refusing, proving, way, opened-is, rules-passed}

-- whether a code is one of some
abbrev pub among : List ℕ → ℕ → Bool
among [] c = false
among (x ∷ xs) c = eqb c x || among xs c

is_true : (b : Bool) → T b → b ≡ true
is_true true t = refl
is_true false t = absurd t

is_false : (b : Bool) → T (not b) → b ≡ false
is_false true t = absurd t
is_false false t = refl

module _ (image approved : List ℕ) (signature : ℕ) (output old : List ℕ) where
  abbrev pub d : Header
  d = header_of approved

  abbrev pub block : ℕ → List ℕ
  block = block_of image d

  abbrev pub m : ℕ
  m = proved_blocks d block

  abbrev pub rules : List Rule
  rules = open_rules image approved signature (length output)

  abbrev pub o : Outcome
  o = opened image approved signature output old

  abbrev pub OpenWay : Type 0
  OpenWay = Way (first_broken rules) d block output old o

  pub open-way : OpenWay
  open-way =
      subst (Way (first_broken rules) d block output old) (sym (opened-is image approved signature output old))
      (way (first_broken rules) d block output old)

  -- the code of a block that was looked at passes what 0, 13, 14 and 15 do
  pub block-code : (f : ℕ → Bool) → T (f 0) → T (f 13 && (f 14 && (f 15 && true)))
      → T (f (open_answer d block).code)
  block-code f z t =
      cond_cases (λ (s : Stop). T (f s.code)) (eqb m d.stream.count) (stop_at 0 0) (stop_at (block_code d block m) (suc m)) (λ e. z)
      (λ e. code-passes f (block_rules d.stream m (expected d block m) (block m)) z t)

  pub open_code : (f : ℕ → Bool) → T (f 1) → T (codes_pass f rules) → T (f 0) → T (f 13 && (f 14 && (f 15 && true))) → T (f o.code)
  open_code f one r z t = go open-way
    where
      go : OpenWay → T (f o.code)
      go (unwritten h q) = subst (λ (x : Outcome). T (f x.code)) (sym q) one
      go (refusing h c q) = subst (λ (x : Outcome). T (f x.code)) (sym q) (code-passes f rules z r)
      go (proving h c q) = subst (λ (x : Outcome). T (f x.code)) (sym q) (block-code f z t)

  -- only a block's own codes come from the blocks, and no others
  not-block : (cs : List ℕ) → T (not (among cs 0)) → T (not (among cs 13) && (not (among cs 14) && (not (among cs 15) && true)))
      → T (among cs o.code) → o.lent ≡ output
  not-block cs z t h = go open-way
    where
      go : OpenWay → o.lent ≡ output
      go (unwritten l q) = ap (λ (x : Outcome). x.lent) q
      go (refusing l c q) = ap (λ (x : Outcome). x.lent) q
      go (proving l c q) =
          absurd
          (T_not (among cs (open_answer d block).code) (block-code (λ (x : ℕ). not (among cs x)) z t)
          (subst (λ (x : Outcome). T (among cs x.code)) q h))

  pub unchanged : T (among (1 ∷ 4 ∷ 5 ∷ 6 ∷ 7 ∷ 8 ∷ 9 ∷ 10 ∷ 11 ∷ 12 ∷ 29 ∷ []) o.code) → o.lent ≡ output
  unchanged = not-block (1 ∷ 4 ∷ 5 ∷ 6 ∷ 7 ∷ 8 ∷ 9 ∷ 10 ∷ 11 ∷ 12 ∷ 29 ∷ []) tt tt

  -- 13, 14 and 15 come from the blocks alone
  pub first_part : T (among (13 ∷ 14 ∷ 15 ∷ []) o.code) → o.lent ≡ put output 0 (proved_file d block)
  first_part h = go open-way
    where
      go : OpenWay → o.lent ≡ put output 0 (proved_file d block)
      go (unwritten l q) = absurd (subst (λ (x : Outcome). T (among (13 ∷ 14 ∷ 15 ∷ []) x.code)) q h)
      go (refusing l c q) =
          absurd
          (T_not (among (13 ∷ 14 ∷ 15 ∷ []) (first_broken rules))
          (code-passes (λ (x : ℕ). not (among (13 ∷ 14 ∷ 15 ∷ []) x)) rules tt tt)
          (subst (λ (x : Outcome). T (among (13 ∷ 14 ∷ 15 ∷ []) x.code)) q h))
      go (proving l c q) = ap (λ (x : Outcome). x.lent) q

  -- ---- what a record of its length tells

  -- place: the block number from 1 for 13 to 15, else 0; no commands, no entry; stored: the file bytes copied
  pub record Tells (a : Answer) : Type 0 where
    pub written : o.answer ≡ record_bytes a
    pub code : o.code ≡ a.code
    pub place : a.place ≡ cond (among (13 ∷ 14 ∷ 15 ∷ []) a.code) (suc m) 0
    pub commands : a.commands ≡ 0
    pub stored : a.stored ≡ cond (among (0 ∷ 13 ∷ 14 ∷ 15 ∷ []) a.code) (length (proved_file d block)) 0
    pub entry : a.entry ≡ 0

  -- a refusal before any block has none of the codes that come from blocks
  refused-code : (cs : List ℕ) → T (codes_pass (λ (c : ℕ). eqb c 0 || not (among cs c)) rules)
      → (first_broken rules ≡ 0 → ⊥) → among cs (first_broken rules) ≡ false
  refused-code cs t ne = is_false (among cs (first_broken rules)) (not_none (λ (c : ℕ). not (among cs c)) rules t ne)

  -- the first bad block has one of them
  bad-code : (m ≡ d.stream.count → ⊥) → among (13 ∷ 14 ∷ 15 ∷ []) (block_code d block m) ≡ true
  bad-code ne =
      is_true (among (13 ∷ 14 ∷ 15 ∷ []) (block_code d block m))
      (not_none (among (13 ∷ 14 ∷ 15 ∷ [])) (block_rules d.stream m (expected d block m) (block m)) tt
      (fails d block d.stream.count (omega (arith, proved-le d block d.stream.count))))

  block-place : (open_answer d block).place ≡ cond (among (13 ∷ 14 ∷ 15 ∷ []) (open_answer d block).code) (suc m) 0
  block-place =
      cond_cases (λ (s : Stop). s.place ≡ cond (among (13 ∷ 14 ∷ 15 ∷ []) s.code) (suc m) 0) (eqb m d.stream.count) (stop_at 0 0)
      (stop_at (block_code d block m) (suc m)) (λ e. refl)
      (λ e. sym (ap (λ (x : Bool). cond x (suc m) 0) (bad-code (eqb-false m d.stream.count e))))

  -- open's answer, and that its record is written
  abbrev answer : Answer
  answer = answer_after (first_broken rules) (open_answer d block)

  answer-given : length old ≡ record_length → o ≡ given answer (put output 0 (written_after (first_broken rules) (proved_file d block)))
  unfolding opened
  answer-given = answered-given old answer output (put output 0 (written_after (first_broken rules) (proved_file d block)))

  pub answer-written : length old ≡ record_length → o.answer ≡ record_bytes answer
  answer-written h = ap (λ (x : Outcome). x.answer) (answer-given h)

  pub tells : length old ≡ record_length → Tells answer
  tells h =
      after-cases {A = ℕ} (first_broken rules) (open_answer d block) []
      (λ (a : Answer) (xs : List ℕ). o.answer ≡ record_bytes a → o.code ≡ a.code → Tells a) (λ e. proving-tells) refused-tells
      (answer-written h) (ap (λ (x : Outcome). x.code) (answer-given h))
    where
      refused-tells : (first_broken rules ≡ 0 → ⊥) → o.answer ≡ record_bytes (refused (first_broken rules)) → o.code ≡ first_broken rules
          → Tells (refused (first_broken rules))
      refused-tells n w c =
          record {
            written = w;
            code = c;
            place = sym (ap (λ (x : Bool). cond x (suc m) 0) (refused-code (13 ∷ 14 ∷ 15 ∷ []) tt n));
            commands = refl;
            stored = sym (ap (λ (x : Bool). cond x (length (proved_file d block)) 0) (refused-code (0 ∷ 13 ∷ 14 ∷ 15 ∷ []) tt n));
            entry = refl;
          }

      proving-tells : o.answer ≡ record_bytes (open_answer d block) → o.code ≡ (open_answer d block).code → Tells (open_answer d block)
      proving-tells w c =
          record {
            written = w;
            code = c;
            place = block-place;
            commands = refl;
            stored = sym
                (ap (λ (x : Bool). cond x (length (proved_file d block)) 0)
                (is_true (among (0 ∷ 13 ∷ 14 ∷ 15 ∷ []) (open_answer d block).code)
                (block-code (among (0 ∷ 13 ∷ 14 ∷ 15 ∷ [])) tt tt)));
            entry = refl;
          }

  -- ---- each number of the answer fits its 64 bits

  small : (c : ℕ) → T (ltb c 64) → c < 2 ^ 64
  small c t = let l : c < 64 = ltb→lt c 64 t in omega arith

  refused-fits : Fit (refused (first_broken rules))
  refused-fits =
      record {
        code = small (first_broken rules) (code-passes (λ (c : ℕ). ltb c 64) rules tt tt);
        place = omega arith;
        commands = omega arith;
        stored = omega arith;
        entry = omega arith;
      }

  module _ (none : first_broken rules ≡ 0) where
    passed : Allowed signature (length image) × Passed image approved signature
    passed = stream-passed image approved signature (rules-passed image approved signature (length output) none).0

    -- the blocks lie in the image
    bytes-few : d.stream.count * d.stream.block_size ≤ 2 ^ 30
    bytes-few = omega (arith, passed.1.exact, passed.0.small)

    blocks-few : d.stream.count ≤ 2 ^ 30
    blocks-few =
        let a : d.stream.hashsum_length < d.stream.block_size = passed.1.sound.above in
        omega (arith, bytes-few, le-mul_of_pos_right {m = d.stream.block_size} d.stream.count (omega arith))

    stored-few : length (proved_file d block) ≤ 2 ^ 30
    stored-few =
        let l : block_data d.stream ≤ d.stream.block_size = omega arith in
        omega (
          arith,
          first-part-fits d.stream block m (proved-le d block d.stream.count) (whole-block image approved signature passed.1)
              (le_of_lt passed.1.sound.padded),
          mul-le-mul_left d.stream.count l,
          bytes-few,
        )

    proving-fits : Fit (open_answer d block)
    proving-fits =
        record {
          code = small (open_answer d block).code (block-code (λ (c : ℕ). ltb c 64) tt tt);
          place = cond_cases (λ (s : Stop). s.place < 2 ^ 64) (eqb m d.stream.count) (stop_at 0 0)
              (stop_at (block_code d block m) (suc m)) (λ e. omega arith)
              (λ e. omega (arith, proved-le d block d.stream.count, blocks-few));
          commands = omega arith;
          stored = omega (arith, stored-few);
          entry = omega arith;
        }

  pub answer-fits : Fit answer
  answer-fits =
      after-cases {A = ℕ} (first_broken rules) (open_answer d block) [] (λ (a : Answer) (xs : List ℕ). Fit a) proving-fits
      (λ n. refused-fits)

-- ---- pack

pub packed-image : (p : Order) (output : List ℕ) → (packed p output).code ≡ 0 → (packed p output).output ≡ image p
unfolding packed
packed-image p output e =
    ap (λ (b : Bool). cond b (image p) output) (eq-eqb (first_broken (pack_rules p (length output))) 0 e)

pub packed-passes-rules : (p : Order) (output : List ℕ) → (packed p output).code ≡ 0 → first_broken (pack_rules p (length output)) ≡ 0
unfolding packed
packed-passes-rules p output e = e

pub packed-unchanged : (p : Order) (output : List ℕ) → ((packed p output).code ≡ 0 → ⊥) → (packed p output).output ≡ output
unfolding packed
packed-unchanged p output ne =
    ap (λ (b : Bool). cond b (image p) output) (ne_eqb (first_broken (pack_rules p (length output))) 0 ne)
