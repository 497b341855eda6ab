-- Laws of the code: how far its loop over the blocks has come, one more block, and what the code gives.
use mathlib.Core.Path.{◌≡◌, refl, sym, ap, subst, ◌∙◌}
use mathlib.Core.List.{List, []}
use mathlib.Core.Logic.{◌≢◌}
use Prim.Native.Nat.{ℕ, ◌+◌, ◌^◌, ◌≤◌, ◌<◌}
use native.Mathlib.Numerals.{add-one}
use native.Mathlib.Omega.{arith}
use lib.ListN.{length}
use Rattle.answers.specs.Answers.{refused, record_bytes, record_length, stop_at}
use Rattle.answers.specs.Rules.{first_broken}
use Rattle.answers.specs.declared.Answer.{Answer}
use Rattle.answers.specs.declared.Stop.{Stop}
use Rattle.board.specs.Map.{regions, map_rules}
use Rattle.chain.specs.Blocks.{block_code, bad_block, proved, file_up_to}
use Rattle.chain.specs.Images.{approved_header}
use Rattle.chain.specs.declared.blocks.Image.{Image}
use Rattle.chain.proofs.BlockLaws.{proved-le, goes_on}
use Rattle.chain.proofs.HeaderLaws.{Passed, passed}
use Rattle.chain.proofs.ProvingLaws.{count-is}
use Rattle.machine.specs.ContractWords.{Ready}
use Rattle.machine.specs.Machine.{State, setting_of, run, trace, halted, stop_or, answer_of}
use Rattle.machine.specs.Memory.{applied}
use Rattle.std.specs.Prelude.{Option, Some, None, IsSome, Result, Ok, Err, MatchResult}
use Rattle.std.specs.Result.{IsErrAnd}
use Rattle.std.proofs.lemmas.Result.{err_from_is_err_and}
use Rattle.answers.specs.Codes.{number}
use Rattle.answers.specs.declared.codes.Refusal.{Refusal}
use Rattle.answers.proofs.ChoiceLaws.{cond-eq, cond-ne}
use Rattle.answers.proofs.RefusalLaws.{number-positive}
use Rattle.machine.specs.declared.Job.{Job}
use Rattle.machine.specs.declared.Phase.{Phase}
use Rattle.machine.specs.declared.Phase.TheVariants.{Magic, Header, Parameters, Storing, Skipping, Stopped}
use Rattle.machine.proofs.MemoryLaws.{applied-append, length-applied}
use Rattle.loader.proofs.Fold.{at_start, bytes_in, state-more, stores-more, stopped-answers, bad-answers}
use Rattle.loader.proofs.LoadLaws.{ImagePassed, taken, file-short, all-stopped, load-answered}
use Rattle.loader.specs.ContractWords.{Loadable, offer_of, BlocksGive, LoadsTo, LoadGives}
use Rattle.loader.specs.Load.{Offer, load_rules, header, block, setting, state_after, stores_after, stores, load_answer, loaded}

-- ---- whether the machine has stopped

halted-at : (p : Phase) (stop : Stop) → halted p ≡ Some stop → p ≡ Stopped stop
halted-at Magic stop e = cc
halted-at Header stop e = cc
halted-at (Parameters k) stop e = cc
halted-at (Storing a left) stop e = cc
halted-at (Skipping left) stop e = cc
halted-at (Stopped s) stop e = cc

-- ---- the loop over the blocks

-- the file's length, and the mode
abbrev pub job_of : Offer → Job
job_of o = (setting o).job

-- the first k blocks are proved and were run: the machine stands at s, and memory, which held `before`, is as their stores left it
pub record Loading (o : Offer) (before memory : List ℕ) (k : ℕ) (s : State) : Type 0 where
  pub among : k ≤ (header o).stream.count
  pub all : proved (header o) (block o) k ≡ k
  pub state : s ≡ state_after o k
  pub stored : memory ≡ applied (regions o.map) before (stores_after o k)

pub loading-none : (o : Offer) (before : List ℕ) {s : State} → s ≡ at_start o → Loading o before before 0 s
unfolding run trace file_up_to applied
loading-none o before e =
    record {
      among = omega arith;
      all = omega (arith, proved-le (header o) (block o) 0);
      state = e;
      stored = refl;
    }

module _ {o : Offer} {before memory : List ℕ} {k : ℕ} {s : State} (l : Loading o before memory k s) where
  pub same-room : length memory ≡ length before
  same-room = ap length l.stored ∙ length-applied (regions o.map) before (stores_after o k)

  phase-after : (state_after o k).phase ≡ s.phase
  phase-after = ap (λ (t : State). t.phase) (sym l.state)

  -- the machine has stopped
  pub stop-gives : {stop : Stop} → halted s.phase ≡ Some stop → {a : Answer} → a ≡ answer_of stop s.tally → BlocksGive o before a memory
  stop-gives {stop} e f =
      let w = stopped-answers o k l.all stop l.among (phase-after ∙ halted-at s.phase stop e) in
      record {
        answer = f ∙ ap (λ (t : State). answer_of stop t.tally) l.state ∙ sym w.answer;
        memory = l.stored ∙ ap (applied (regions o.map) before) (sym w.stored);
      }

  -- one that all blocks of an image that passed were run on has
  pub stopped-behind : ImagePassed o → (header o).stream.count ≤ k → IsSome (halted s.phase)
  stopped-behind q h =
      let (stop, e) = all-stopped o q in
      let f : k ≡ (header o).stream.count = omega (arith, l.among) in
      subst IsSome (sym (ap halted (sym phase-after ∙ ap (λ (i : ℕ). (state_after o i).phase) f ∙ e))) refl

  -- block k
  module _ (there : k < (header o).stream.count) where
    module _ {code : ℕ} (e : code ≡ block_code (header o) (block o) k) where
      -- is bad, and the machine has not stopped
      pub bad-gives : halted s.phase ≡ None → 0 < code → {stop : Stop} → stop ≡ stop_at code (k + 1) → {a : Answer}
          → a ≡ answer_of stop s.tally → BlocksGive o before a memory
      bad-gives on ne p f =
          let w = bad-answers o k l.all there (λ z. omega (arith, ne, e)) in
          record {
            answer = f
                ∙ ap (λ (x : Stop). answer_of x s.tally) p
                ∙ (λ i. answer_of (stop_at (e i) (add-one k i)) (l.state i).tally)
                ∙ ap (λ (x : Option Stop). answer_of (stop_or (bad_block (header o) (block o) k) x) (state_after o k).tally)
                (sym (ap halted phase-after ∙ on))
                ∙ sym w.answer;
            memory = l.stored ∙ ap (applied (regions o.map) before) (sym w.stored);
          }

      -- or is proved, and the machine has taken its bytes
      pub loading-more : code ≡ 0 → {job : Job} → job ≡ job_of o → {bytes : List ℕ} → bytes ≡ bytes_in o k → {after : List ℕ} {t : State}
          → t ≡ run (setting_of job o.map o.table) s bytes
          → after ≡ applied (regions o.map) memory (trace (setting_of job o.map o.table) s bytes) → Loading o before after (k + 1) t
      loading-more z j b f g =
          record {
            among = omega (arith, there);
            all = ap (proved (header o) (block o)) (add-one k) ∙ goes_on (header o) (block o) k l.all (sym e ∙ z) ∙ sym (add-one k);
            state = f
                ∙ (λ i. run (setting_of (j i) o.map o.table) (l.state i) (b i))
                ∙ sym (state-more o k)
                ∙ ap (state_after o) (sym (add-one k));
            stored = g
                ∙ (λ i. applied (regions o.map) (l.stored i) (trace (setting_of (j i) o.map o.table) (l.state i) (b i)))
                ∙ sym (applied-append (regions o.map) before (stores_after o k) (trace (setting o) (state_after o k) (bytes_in o k)))
                ∙ ap (applied (regions o.map) before) (sym (stores-more o k))
                ∙ ap (λ (i : ℕ). applied (regions o.map) before (stores_after o i)) (sym (add-one k));
          }

-- ---- what the code may ask there, of an image that passed

module _ (i : Image) where
  pub passing : Passed i.bytes.now i.approved.now (approved_header i).signature
  passing = passed i.bytes.now i.approved.now (approved_header i).signature i.passes

  -- the blocks that the code counts are the header's
  pub there : {k : ℕ} → k < i.stream.count → k < (approved_header i).stream.count
  there {k} h = subst (λ (n : ℕ). k < n) (count-is i) h

  pub behind : {k : ℕ} → i.stream.count ≤ k → (approved_header i).stream.count ≤ k
  behind {k} h = subst (λ (n : ℕ). n ≤ k) (count-is i) h

  module _ {map table : List ℕ} {mode room : ℕ} {before memory : List ℕ} {k : ℕ} {t : State} (f : Loadable i map room)
      (l : Loading (offer_of i map table mode) before memory k t) where
    pub ready : room ≡ length before → {job : Job} → job ≡ job_of (offer_of i map table mode)
        → Ready job map table (length memory) t
    ready n e =
        let o : Offer = offer_of i map table mode in
        subst (λ (j : Job). Ready j map table (length memory) t) (sym e)
        (record {
          short = file-short o passing f.short;
          taken = subst (λ (n : ℕ). first_broken (map_rules map n) ≡ 0) (n ∙ sym (same-room l)) f.taken;
          reached = (file_up_to (header o).stream (block o) k, l.state);
        })

-- ---- what load gives

module _ (o : Offer) (before : List ℕ) where
  abbrev early : ℕ
  early = first_broken (load_rules o (length before))

  -- refused by 1 to 12
  pub refusal-gives : {code : ℕ} → code ≡ early → code ≢ 0 → (a : Answer) → a ≡ refused code → LoadGives o before a before
  unfolding applied
  refusal-gives e n a f =
      let m : early ≢ 0 = (λ z. n (e ∙ z)) in
      record {
        answer = f ∙ ap refused e ∙ sym (cond-ne early 0 (load_answer o) (refused early) m);
        memory = sym (ap (applied (regions o.map) before) (cond-ne early 0 (stores o) [] m));
      }

  -- or by none of them
  pub blocks-give : early ≡ 0 → (a : Answer) (after : List ℕ) → BlocksGive o before a after → LoadGives o before a after
  blocks-give z a after g =
      record {
        answer = g.answer ∙ sym (cond-eq early 0 (load_answer o) (refused early) z);
        memory = g.memory ∙ ap (applied (regions o.map) before) (sym (cond-eq early 0 (stores o) [] z));
      }

  -- the same of what is given before a refusal becomes an answer
  pub loads-refused : {r : Result Answer Refusal} (why : Refusal) → IsErrAnd r (λ (d : Refusal). d ≡ why) → number why ≡ early
      → LoadsTo o before r before
  unfolding applied
  loads-refused {r} why h e =
      let n : early ≢ 0 = (λ z. let p = number-positive why in omega arith) in
      let p = err_from_is_err_and r h in
      rw (p.1, p.2)
      (record {
        code = e;
        answer = tt;
        memory = sym (ap (applied (regions o.map) before) (cond-ne early 0 (stores o) [] n));
      })

  -- where the blocks are taken up, header and signature field are short
  pub first_fits : early ≡ 0 → length o.approved + o.signature ≤ 2 ^ 30
  first_fits z =
      let t = taken o (length before) z in
      omega (arith, t.allowed.small, t.image.exact, t.image.sound.approved, t.image.sound.signature)

  module _ (z : early ≡ 0) (i : Image) (e : i.bytes.now ≡ o.image) (f : i.approved.now ≡ o.approved) where
    pub loadable : Loadable i o.map (length before)
    loadable =
        let t = taken o (length before) z in record { short = omega (arith, t.allowed.small, ap length e); taken = t.map }

    pub loads-blocks : {a : Answer} {after : List ℕ} → BlocksGive (offer_of i o.map o.table o.mode) before a after
        → LoadsTo o before (Ok a) after
    loads-blocks g =
        record {
          code = sym z;
          answer = g.answer
              ∙ (λ j. load_answer (record { image = e j; approved = f j; map = o.map; table = o.table; mode = o.mode; signature = o.signature }));
          memory = g.memory
              ∙ (λ j. applied (regions o.map) before
              (stores (record { image = e j; approved = f j; map = o.map; table = o.table; mode = o.mode; signature = o.signature })))
              ∙ ap (applied (regions o.map) before) (sym (cond-eq early 0 (stores o) [] z));
        }

  -- the answer of both
  gives-refusal : {why : Refusal} {after : List ℕ} {a : Answer} → LoadsTo o before (Err why) after → a ≡ refused (number why)
      → LoadGives o before a after
  gives-refusal {why} q f =
      let n : early ≢ 0 = (λ z. let p = number-positive why in let e = q.code in omega arith) in
      record {
        answer = f ∙ ap refused q.code ∙ sym (cond-ne early 0 (load_answer o) (refused early) n);
        memory = q.memory;
      }

  gives-blocks : {after : List ℕ} {a : Answer} → LoadsTo o before (Ok a) after → LoadGives o before a after
  gives-blocks q =
      record {
        answer = q.answer ∙ sym (cond-eq early 0 (load_answer o) (refused early) (sym q.code));
        memory = q.memory;
      }

  pub gives-either : (r : Result Answer Refusal) {after : List ℕ} {a : Answer} → LoadsTo o before r after
      → MatchResult r (λ (x : Answer). a ≡ x) (λ (why : Refusal). a ≡ refused (number why)) → LoadGives o before a after
  gives-either (Ok x) {after} q f = subst (λ (y : Answer). LoadGives o before y after) (sym f) (gives-blocks q)
  gives-either (Err why) q f = gives-refusal q f

  -- what it gives is written into a record of its length
  pub load-written : (old : List ℕ) → length old ≡ record_length → {a : Answer} {after : List ℕ} → LoadGives o before a after
      → {answer : List ℕ} → answer ≡ record_bytes a → {code : ℕ} → code ≡ a.code
      → loaded o before old ≡ record { code = code; answer = answer; lent = after }
  load-written old fits g e f =
      load-answered o before old fits
      ∙ sym
      (λ i. record {
        code = (f ∙ ap (λ (x : Answer). x.code) g.answer) i;
        answer = (e ∙ ap record_bytes g.answer) i;
        lent = g.memory i;
      })
