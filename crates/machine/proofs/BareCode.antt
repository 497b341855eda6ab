-- Laws of what the code that runs bare returns and leaves.
use mathlib.Core.List.{List, [], ◌++◌}
use mathlib.Core.Logic.{◌≢◌}
use mathlib.Core.Path.{◌≡◌, refl, sym, ap, ◌∙◌}
use Prim.Native.Nat.{ℕ}
use native.Mathlib.Omega.{arith}
use lib.ListN.{length}
use Rattle.std.specs.Prelude.{Option, Some, None, unwrap_or, Result, Ok, Err, MatchResult}
use Rattle.answers.specs.Answers.{refused, record_bytes, record_length, stop_at}
use Rattle.answers.specs.Codes.{number}
use Rattle.answers.specs.Rules.{first_broken, size_rules}
use Rattle.answers.specs.declared.Answer.{Answer}
use Rattle.answers.specs.declared.Stop.{Stop}
use Rattle.answers.specs.declared.codes.Refusal.{Refusal}
use Rattle.answers.proofs.ChoiceLaws.{cond-eq, cond-ne}
use Rattle.answers.proofs.RefusalLaws.{number-positive}
use Rattle.answers.proofs.OutcomeLaws.{answered-unwritten}
use Rattle.answers.proofs.RuleLaws.{both_hold}
use Rattle.board.specs.Cpuid.{table_rules}
use Rattle.board.specs.Map.{map_rules}
use Rattle.board.specs.Reach.{mode_rules}
use Rattle.machine.specs.Bare.{Bare, bare_rules, bare_setting, bare_end, bare_answer_made, bare_stores_made, run_bare}
use Rattle.machine.specs.ContractWords.{Ready, BareGives, answer_or_refused}
use Rattle.machine.specs.Machine.{State, Store, begun, trace, answer_of, halted, stop_or}
use Rattle.machine.specs.Memory.{applied}
use Rattle.machine.proofs.BareLaws.{bare-short, bare-answered}
use Rattle.machine.proofs.TakingLaws.{ready-begun}

pub stop_or-unwrap_or : (otherwise : Stop) (h : Option Stop) → unwrap_or h otherwise ≡ stop_or otherwise h
stop_or-unwrap_or otherwise None = refl
stop_or-unwrap_or otherwise (Some stop) = refl

pub either-given : (r : Result Answer Refusal) {a : Answer} → MatchResult r (λ (x : Answer). a ≡ x) (λ (why : Refusal). a ≡ refused (number why))
    → a ≡ answer_or_refused r
either-given (Ok x) e = e
either-given (Err why) e = e

module _ (b : Bare) where
  -- what is judged before the file is looked at makes a machine ready to take it
  pub bare-ready : (memory : ℕ) {s : State} → first_broken (bare_rules b memory) ≡ 0 → s ≡ begun (length b.file)
      → Ready (bare_setting b).job b.map b.table memory s
  bare-ready memory e p =
      let sizes = size_rules (length b.file) in
      let maps = map_rules b.map memory in
      let tables = table_rules b.table in
      let behind-mode = (both_hold (mode_rules b.mode) (sizes ++ maps ++ tables) tt e).1 in
      let behind-size = (both_hold sizes (maps ++ tables) tt behind-mode).1 in
      ready-begun (bare-short b memory e) (both_hold maps tables tt behind-size).0 p

  -- the answer and the stores of the run over the whole file
  abbrev whole : Answer
  whole = answer_of (stop_or (stop_at 27 (length b.file)) (halted (bare_end b).phase)) (bare_end b).tally

  abbrev made : List Store
  made = trace (bare_setting b) (begun (length b.file)) b.file

  module _ (memory : List ℕ) where
    abbrev early : ℕ
    early = first_broken (bare_rules b (length memory))

    -- what is given where the arguments are refused, and where they pass
    pub gives-refusal : (r : Result Answer Refusal) (why : Refusal) → number why ≡ early → r ≡ Err why → BareGives b memory r memory
    unfolding applied
    gives-refusal r why e q =
        let n : early ≢ 0 = λ z. let p = number-positive why in omega arith in
        record {
          answer =
              ap answer_or_refused q ∙ ap refused e ∙ sym (cond-ne early 0 whole (refused early) n);
          memory = sym (ap (applied (bare_setting b).map memory) (cond-ne early 0 made [] n));
        }

    pub gives-run : (a : Answer) {m : List ℕ} → 0 ≡ early → a ≡ whole → m ≡ applied (bare_setting b).map memory made
        → BareGives b memory (Ok a) m
    gives-run a z e f =
        record {
          answer = e ∙ sym (cond-eq early 0 whole (refused early) (sym z));
          memory = f ∙ sym (ap (applied (bare_setting b).map memory) (cond-eq early 0 made [] (sym z)));
        }

    module _ (old : List ℕ) where
      -- a record of another length
      pub bare-unwritten : {code : ℕ} → length old ≢ record_length → code ≡ 1
          → run_bare b memory old ≡ record { code = code; answer = old; lent = memory }
      unfolding run_bare
      bare-unwritten n one =
          answered-unwritten old (bare_answer_made b (length memory)) memory
          (applied (bare_setting b).map memory (bare_stores_made b (length memory))) n
          ∙ sym (λ i. record { code = one i; answer = old; lent = memory })

      -- one of its length has what is given
      pub bare-written : {r : Result Answer Refusal} {code : ℕ} {bytes m : List ℕ} (a : Answer) → length old ≡ record_length
          → BareGives b memory r m → a ≡ answer_or_refused r → code ≡ a.code → bytes ≡ record_bytes a
          → run_bare b memory old ≡ record { code = code; answer = bytes; lent = m }
      bare-written a fits g e c h =
          let all = e ∙ g.answer in
          bare-answered b memory old fits
          ∙ sym (λ i. record {
            code = (c ∙ ap (λ (x : Answer). x.code) all) i;
            answer = (h ∙ ap record_bytes all) i;
            lent = g.memory i;
          })
