-- How load comes to the file's end: done, and 27.
use mathlib.Core.Bool.{true≢false}
use mathlib.Core.Path.{◌≡◌, sym, ap, ◌∙◌}
use mathlib.Core.List.{List}
use Prim.Native.Nat.{ℕ, ◌≤◌}
use native.Mathlib.Omega.{arith}
use Rattle.std.specs.Prelude.{Option, unwrap_or}
use Rattle.answers.specs.Answers.{stop_at}
use Rattle.answers.specs.Rules.{first_broken}
use Rattle.answers.specs.declared.Answer.{Answer}
use Rattle.answers.specs.declared.Stop.{Stop}
use Rattle.chain.specs.Header.{file_length}
use Rattle.machine.specs.Commands.{address}
use Rattle.machine.specs.Machine.{Store, begun}
use Rattle.machine.specs.declared.Phase.TheVariants.{Stopped}
use Rattle.machine.proofs.History.{commands_done, NoEntry, LastEntry, no-entry-entered, last-entry-entered}
use Rattle.machine.proofs.Judging.{Complete}
use Rattle.machine.proofs.Standing.{Ended, at-end, at-magic, at-command, without-entry}
use Rattle.machine.proofs.Theorems.{place-said, done-means, no-entry-means, no-entry-exactly, done-exactly}
use Rattle.loader.proofs.Images.{Loads, loads, all_blocks}
use Rattle.loader.proofs.LoadLaws.{taken-passes, proved_bytes, answer_at, stopped-answer, load-cases}
use Rattle.loader.specs.Load.{Offer, load_rules, header, setting, proved_blocks, ended, answer_made, stores_made}

-- the commands that were done, over the proved bytes
abbrev pub commands_met : Offer → List (List ℕ)
commands_met o = commands_done (setting o) (begun (file_length (header o).stream)) (proved_bytes o)

-- 1 to 12 are not given, all blocks are proved, and the machine has used the whole file, which is the magic and whole commands
pub record WholeFile (o : Offer) (memory : ℕ) : Type 0 where
  pub rules : first_broken (load_rules o memory) ≡ 0
  pub all : proved_blocks o ≡ (header o).stream.count
  pub used : (ended o).next ≡ file_length (header o).stream
  pub complete : Complete (setting o) (proved_bytes o)

-- a last entry command was met, and the entry is its address
pub record Enters (o : Offer) (a : Answer) : Type 0 where
  pub command : List ℕ
  pub last : LastEntry (commands_met o) command
  pub entry : a.entry ≡ address command

module _ (o : Offer) (memory : ℕ) where
  -- ---- 27

  pub without-entry-file : (answer_made o memory).code ≡ 27 → WholeFile o memory × NoEntry (commands_met o)
  without-entry-file =
      load-cases o (λ (a : Answer) (xs : List Store). a.code ≡ 27 → WholeFile o memory × NoEntry (commands_met o)) memory
      (λ code l u n. absurd (omega arith))
      (λ t stop e h n. let (place, used, long, complete, none) = no-entry-means (setting o) (proved_bytes o) e n in (
        record { rules = taken-passes o memory t; all = all_blocks o memory t long; used = used; complete = complete },
        none,
      ))
      (λ t s r l u n. absurd (omega arith))

  pub file-without-entry : WholeFile o memory → NoEntry (commands_met o)
      → answer_made o memory ≡ answer_at o (stop_at 27 (file_length (header o).stream))
  file-without-entry w none =
      stopped-answer o memory w.rules ((no-entry-exactly (setting o) (proved_bytes o)).1 (w.complete, none))

  -- where no other refusal comes, and no entry command is met
  pub without-entry-comes : (1 ≤ (answer_made o memory).code → (answer_made o memory).code ≤ 26 → ⊥) → NoEntry (commands_met o)
      → (answer_made o memory).code ≡ 27
  without-entry-comes =
      load-cases o
      (λ (a : Answer) (xs : List Store). (1 ≤ a.code → a.code ≤ 26 → ⊥) → NoEntry (commands_met o) → a.code ≡ 27) memory
      (λ code l u f none. absurd (f l (omega arith))) (λ t. by_end)
      (λ t s r l u f none. absurd (f (omega arith) (omega arith)))
    where
      by_end : (stop : Stop) → (ended o).phase ≡ Stopped stop → Ended (setting o) (ended o) stop
          → (1 ≤ stop.code → stop.code ≤ 26 → ⊥) → NoEntry (commands_met o) → stop.code ≡ 27
      by_end stop e (at-end z n g) f none =
          let (n, (c, l, a)) = done-means (setting o) (proved_bytes o) (e ∙ ap (λ (k : ℕ). Stopped (stop_at k stop.place)) z) in
          absurd (true≢false (sym (last-entry-entered (commands_met o) c l) ∙ no-entry-entered (commands_met o) none))
      by_end stop e (at-magic z n) f none = absurd (f (omega arith) (omega arith))
      by_end stop e (at-command l u) f none = absurd (f (omega arith) (omega arith))
      by_end stop e (without-entry z n g) f none = z

  -- ---- done

  pub done-file : (answer_made o memory).code ≡ 0 → WholeFile o memory × Enters o (answer_made o memory)
  done-file z =
      let l : Loads o memory (answer_made o memory) (stores_made o memory) = loads o memory z in
      let (used, (c, last, entry)) = done-means (setting o) (proved_bytes o) l.stopped in
      let e : (ended o).phase ≡ Stopped (stop_at 0 0) =
      l.stopped ∙ ap (λ (p : ℕ). Stopped (stop_at 0 p)) (place-said (setting o) (proved_bytes o) l.stopped) in (
        record {
          rules = taken-passes o memory l.taken;
          all = l.all;
          used = used;
          complete = ((done-exactly (setting o) (proved_bytes o)).0 e).0;
        },
        record { command = c; last = last; entry = ap (λ (a : Answer). a.entry) l.answer ∙ ap (λ (e : Option ℕ). unwrap_or e 0) entry },
      )

  pub file-done : WholeFile o memory → (c : List ℕ) → LastEntry (commands_met o) c → answer_made o memory ≡ answer_at o (stop_at 0 0)
  file-done w c l =
      stopped-answer o memory w.rules ((done-exactly (setting o) (proved_bytes o)).1 (w.complete, (c, l)))
