-- Running bare, taken apart: the two ways that a run goes, and what its arguments' rules say.
use mathlib.Core.Path.{◌≡◌, refl, sym, ap, subst, ◌∙◌}
use mathlib.Core.List.{List, [], ◌++◌}
use Prim.Native.Nat.{ℕ, ◌≤◌, ◌^◌}
use native.Mathlib.Omega.{arith}
use borrow.Author.Tests.{ltb-false}
use lib.Dec.{leb, lit≤}
use lib.ListN.{length}
use Rattle.answers.specs.Answers.{refused, record_length, stop_at}
use Rattle.answers.specs.Rules.{first_broken, size_rules}
use Rattle.answers.specs.declared.Answer.{Answer}
use Rattle.answers.specs.declared.Stop.{Stop}
use Rattle.answers.proofs.ChoiceLaws.{cond-eq}
use Rattle.answers.proofs.OutcomeLaws.{given, answered-given, after-cases}
use Rattle.answers.proofs.RuleLaws.{zero-all-hold, both_hold, code-passes}
use Rattle.board.specs.Cpuid.{table_rules}
use Rattle.board.specs.Map.{map_rules}
use Rattle.board.specs.Reach.{mode_rules}
use Rattle.board.proofs.MapLaws.{MapTaken, map-means}
use Rattle.machine.specs.Bare.{Bare, bare_rules, bare_setting, bare_end, bare_answer_made, bare_stores_made, run_bare}
use Rattle.machine.specs.Machine.{Store, begun, trace, answer_of, halted, stop_or}
use Rattle.machine.specs.Memory.{applied}
use Rattle.machine.specs.declared.Phase.{Phase}
use Rattle.machine.specs.declared.Phase.TheVariants.{Stopped}
use Rattle.machine.proofs.ReachedLaws.{reached-ended, whole-stopped}
use Rattle.machine.proofs.Standing.{Ended}

module _ (b : Bare) where
  -- a run over the whole file has ended
  pub bare-ended : (stop : Stop) × ((bare_end b).phase ≡ Stopped stop) × Ended (bare_setting b) (bare_end b) stop
  bare-ended =
      let (stop, e) = whole-stopped (bare_setting b) b.file refl in
      (stop, e, reached-ended (bare_setting b) (bare_end b) (b.file, refl) e)

  -- a bare run is refused before it looks at the file, by 1 to 3, or it is the run over the whole file
  pub bare-cases : (P : Answer → List Store → Type 0) (memory : ℕ) → ((code : ℕ) → 1 ≤ code → code ≤ 3 → P (refused code) [])
      → (first_broken (bare_rules b memory) ≡ 0 → (stop : Stop) → (bare_end b).phase ≡ Stopped stop → Ended (bare_setting b) (bare_end b) stop
      → P (answer_of stop (bare_end b).tally) (trace (bare_setting b) (begun (length b.file)) b.file))
      → P (bare_answer_made b memory) (bare_stores_made b memory)
  bare-cases P memory f g =
      after-cases early whole stores P
      (λ e. let (stop, q, h) = bare-ended in
      subst (λ (p : Phase). P (answer_of (stop_or otherwise (halted p)) (bare_end b).tally) stores) (sym q)
      (g e stop q h))
      (λ n. f early (omega (arith, n)) few)
    where
      early : ℕ
      early = first_broken (bare_rules b memory)

      otherwise : Stop
      otherwise = stop_at 27 (length b.file)

      whole : Answer
      whole = answer_of (stop_or otherwise (halted (bare_end b).phase)) (bare_end b).tally

      stores : List Store
      stores = trace (bare_setting b) (begun (length b.file)) b.file

      few : early ≤ 3
      few = lit≤ (code-passes (λ (c : ℕ). leb c 3) (bare_rules b memory) tt tt)

  -- the answer of one that is not
  pub bare-runs : (memory : ℕ) {stop : Stop} → first_broken (bare_rules b memory) ≡ 0 → (bare_end b).phase ≡ Stopped stop
      → bare_answer_made b memory ≡ answer_of stop (bare_end b).tally
  bare-runs memory {stop} e q =
      let otherwise = stop_at 27 (length b.file) in
      cond-eq (first_broken (bare_rules b memory)) 0 (answer_of (stop_or otherwise (halted (bare_end b).phase)) (bare_end b).tally)
      (refused (first_broken (bare_rules b memory))) e
      ∙ ap (λ (p : Phase). answer_of (stop_or otherwise (halted p)) (bare_end b).tally) q

  -- it has a file that is not too long, and a map that is taken
  module _ (memory : ℕ) (e : first_broken (bare_rules b memory) ≡ 0) where
    bare-passed : (first_broken (size_rules (length b.file)) ≡ 0) × (first_broken (map_rules b.map memory) ≡ 0)
    bare-passed =
        let size-rules = size_rules (length b.file) in
        let map-rules = map_rules b.map memory in
        let behind-mode = (both_hold (mode_rules b.mode) (size-rules ++ map-rules ++ table_rules b.table) tt e).1 in
        let (size, rest) = both_hold size-rules (map-rules ++ table_rules b.table) tt behind-mode in
        (size, (both_hold map-rules (table_rules b.table) tt rest).0)

    pub bare-short : length b.file ≤ 2 ^ 30
    bare-short = ltb-false (2 ^ 30) (length b.file) (zero-all-hold (size_rules (length b.file)) tt bare-passed.0).0

    pub bare-taken : MapTaken b.map memory
    bare-taken = map-means b.map memory bare-passed.1

  -- with a record of its length: the code returned, the record, and memory as the stores make it
  pub bare-answered : (memory old : List ℕ) → length old ≡ record_length
      → run_bare b memory old
      ≡ given (bare_answer_made b (length memory)) (applied (bare_setting b).map memory (bare_stores_made b (length memory)))
  unfolding run_bare
  bare-answered memory old fits =
      answered-given old (bare_answer_made b (length memory)) memory
      (applied (bare_setting b).map memory (bare_stores_made b (length memory))) fits
