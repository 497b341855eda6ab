-- What the bytes that are taken at once do, from what every state that a run comes to satisfies.
use mathlib.Core.Bool.{Bool, true, cond}
use mathlib.Core.Path.{◌≡◌, refl, sym, ap, subst, ◌∙◌}
use mathlib.Core.List.{List, [], ◌++◌}
use Prim.Native.Nat.{ℕ, ◌+◌, ◌-◌, ◌^◌, ◌≤◌, ◌<◌, min}
use native.Mathlib.Omega.{arith}
use borrow.Author.Tests.{leb-true, le-leb, lt-ltb, le-ltb}
use lib.Dec.{eqb, lit≤}
use lib.ListN.{length, take, drop, length-append, length-take, length-drop, take-append-drop, drop_of_length-le}
use lib.Seq.{take_all, drop-drop}
use Rattle.answers.specs.Rules.{first_broken}
use Rattle.answers.specs.declared.Stop.{Stop}
use Rattle.answers.proofs.ChoiceLaws.{cond_cases}
use Rattle.board.specs.Map.{Region, regions, ordered, uncovered, ram, map_rules}
use Rattle.board.specs.Reach.{limit}
use Rattle.board.proofs.MapLaws.{map-means, ordered-holds}
use Rattle.machine.specs.Code.{state_of}
use Rattle.machine.specs.Commands.{data_length, wrong_length}
use Rattle.machine.specs.ContractWords.{
  effects,
  kept_all,
  gather_all,
  data_used,
  Steps,
  Done,
  Used,
  Gathers,
  Ready,
  Lent,
  Roomy,
  phase_of,
  awaited,
  says,
  Passed,
  Stores,
}
use Rattle.machine.specs.Machine.{Setting, State, Effect, setting_of, begun, no_stores, tallied, with_stored, run, trace, stores_from}
use Rattle.machine.specs.Memory.{applied}
use Rattle.machine.specs.declared.Awaited.{Awaited}
use Rattle.machine.specs.declared.Control.{Control}
use Rattle.machine.specs.declared.Job.{Job}
use Rattle.machine.specs.declared.Phase.{Phase}
use Rattle.machine.specs.declared.Phase.TheVariants.{Storing, Skipping, Stopped}
use Rattle.machine.proofs.CodeLaws.{judged-few, done-no_stores, done-same}
use Rattle.machine.proofs.MemoryLaws.{applied-append}
use Rattle.machine.proofs.Pieces.{effects-magic, effects-header, effects-parameters, effects-storing, effects-skipping}
use Rattle.machine.proofs.ReachedLaws.{reached-stands, reached-stored}
use Rattle.machine.proofs.Runs.{begun-reached, run-append, trace-append, run-stopped, trace-stopped, piece-reached}
use Rattle.machine.proofs.Standing.{Stands, Meant, header-kept, judged-in-data}

-- ---- what the calls that take a piece are given

-- begin gives it, where the map is taken
pub ready-begun : {job : Job} {map table : List ℕ} {memory : ℕ} {s : State} → job.length ≤ 2 ^ 30 → first_broken (map_rules map memory) ≡ 0
    → s ≡ begun job.length → Ready job map table memory s
ready-begun {job} {map} {table} short taken b =
    record { short = short; taken = taken; reached = rw b (begun-reached (setting_of job map table)) }

module _ {job : Job} {map table : List ℕ} {memory : ℕ} {s : State} (r : Ready job map table memory s) where
  pub ready-order : ordered 0 (regions map) ≡ true
  ready-order = ordered-holds 0 (regions map) (map-means map memory r.taken).order

  pub ready-lent : Lent map memory
  ready-lent = let t = map-means map memory r.taken in record { sum = sym t.lent; small = omega (arith, t.lent, t.small) }

  ready-stands : Stands (setting_of job map table) s
  ready-stands = reached-stands (setting_of job map table) s r.reached

  -- the counts have room
  ready-room : (c : Control) → c.next ≤ job.length → c.tally ≡ s.tally → Roomy c job.length
  ready-room c inside e =
      let l = ready-lent in
      let few = reached-stored (setting_of job map table) ready-order (omega (arith, l.sum, l.small)) s r.reached in
      let st = ready-stands in
      record {
        inside = inside;
        commands = rw e (omega (arith, st.counted, st.inside, r.short));
        stored = rw e (omega (arith, few, st.inside, r.short));
      }

  -- each piece keeps it
  pub ready-again : (xs : List ℕ) {t : State} → t ≡ run (setting_of job map table) s xs → Ready job map table memory t
  ready-again xs e =
      record { short = r.short; taken = r.taken; reached = rw e (piece-reached (setting_of job map table) s xs r.reached) }

  ready-meant : {p : Phase} → s.phase ≡ p → Meant (setting_of job map table) p s
  ready-meant e = subst (λ (p : Phase). Meant (setting_of job map table) p s) e ready-stands.meant

limit-few : (mode : ℕ) → limit mode ≤ 2 ^ 52
limit-few mode = cond_cases (λ (n : ℕ). n ≤ 2 ^ 52) (eqb mode 32) (2 ^ 32) (2 ^ 52) (λ e. lit≤ tt) (λ e. lit≤ tt)

-- `all` bytes are awaited, which the file has, and not all of them are there
pub record Awaits (all : ℕ) (c : Control) (gathered : List ℕ) (file_length : ℕ) : Type 0 where
  pub short : file_length ≤ 2 ^ 30
  pub room : length gathered ≡ 104
  pub bound : all ≤ 104
  pub missing : c.kept < all
  pub ahead : c.next + (all - c.kept) ≤ file_length
  pub counts : Roomy c file_length

-- what each phase may ask of a state that a run comes to
module _ {job : Job} {map table : List ℕ} {memory : ℕ} (c : Control) (g : List ℕ)
    (r : Ready job map table memory (state_of c g)) where
  pub awaits : length g ≡ 104 → (w : Awaited) → c.phase ≡ phase_of w → Awaits (awaited w) c g job.length
  awaits room Awaited.Magic e =
      let m = ready-meant r e in
      let n = length-take c.kept g in
      record {
        short = r.short;
        room = room;
        bound = lit≤ tt;
        missing = omega (arith, m.0, m.1, n);
        ahead = omega (arith, m.0, m.1, m.2, n);
        counts = ready-room r c (omega (arith, m.1, m.2)) refl;
      }
  awaits room Awaited.Header e =
      let m = ready-meant r e in
      let n = length-take c.kept g in
      record {
        short = r.short;
        room = room;
        bound = lit≤ tt;
        missing = omega (arith, m.1, n);
        ahead = omega (arith, m.0, m.1, m.2, n);
        counts = ready-room r c (omega (arith, m.0, m.1, m.2)) refl;
      }
  awaits room (Awaited.Parameters k) e =
      let m = ready-meant r e in
      let n = length-take c.kept g in
      let few = judged-few k in
      let in-data = judged-in-data k (data_length (state_of c g).gathered) m.3 in
      record {
        short = r.short;
        room = room;
        bound = omega (arith, few);
        missing = omega (arith, m.2, n, few);
        ahead = omega (arith, m.0, m.2, m.4, n, few, in-data);
        counts = ready-room r c (omega (arith, m.0, m.2, m.4, in-data)) refl;
      }

  -- and the header of a command is still its own behind more bytes
  pub passed-still : (w : Awaited) → c.phase ≡ phase_of w → (xs : List ℕ) {t : State} → t ≡ kept_all xs (state_of c g) → Passed w t
  passed-still Awaited.Magic e xs k = tt
  passed-still Awaited.Header e xs k = tt
  passed-still (Awaited.Parameters j) e xs k =
      let m = ready-meant r e in
      ap (λ (s : State). wrong_length j (data_length s.gathered)) k
      ∙ ap (wrong_length j) (header-kept (state_of c g).gathered xs m.1).1 ∙ m.3

  pub stores-ahead : (a left : ℕ) → c.phase ≡ Storing a left → Stores c a left job.length × (ram (regions map) a left ≡ true)
  stores-ahead a left e =
      let m = ready-meant r e in (
        record {
          short = r.short;
          ahead = m.1;
          below = omega (arith, m.3, limit-few job.mode);
          counts = ready-room r c (omega (arith, m.1)) refl;
        },
        m.2,
      )

  pub any-stored : (a left : ℕ) → c.phase ≡ Storing a left → 0 < left
  any-stored a left e = (ready-meant r e).0

  pub any-skipped : (left : ℕ) → c.phase ≡ Skipping left → 0 < left
  any-skipped left e = (ready-meant r e).0

  pub skips-ahead : (left : ℕ) → c.phase ≡ Skipping left → (c.next + left ≤ job.length) × (c.tally.commands + 1 < 2 ^ 64)
  skips-ahead left e = let m = ready-meant r e in (m.1, (ready-room r c (omega (arith, m.1)) refl).commands)

-- ---- bytes that are gathered

-- by another name of how many are awaited
pub gathers-as : {m n : ℕ} {c : Control} {g rest : List ℕ} {r : Control} {h : List ℕ} {used : ℕ} → m ≡ n
    → Gathers m c g rest r h used → Gathers n c g rest r h used
gathers-as {c = c} {g} {rest} {r} {h} {used} e k = subst (λ (all : ℕ). Gathers all c g rest r h used) e k

-- as many are gathered as the control says
gathered-long : {all : ℕ} {c : Control} {g : List ℕ} {file_length : ℕ} → Awaits all c g file_length → length (state_of c g).gathered ≡ c.kept
gathered-long {c = c} {g} a = omega (arith, length-take c.kept g, a.room, a.bound, a.missing)

module _ {all : ℕ} {c : Control} {g rest : List ℕ} {file_length : ℕ} {r : Control} {h : List ℕ} {n : ℕ}
    (a : Awaits all c g file_length) (k : Gathers all c g rest r h n) where
  together : length ((state_of c g).gathered ++ take n rest) ≡ c.kept + n
  together = rw length-append (omega (arith, gathered-long a, length-take n rest, k.many))

  -- when all are there they can be read
  pub all_there : all ≤ r.kept → (r.kept ≡ all) × Roomy r file_length
  all_there w =
      let next : r.next ≡ c.next + length (take n rest) = ap (λ (s : State). s.next) k.state in
      let tally : r.tally ≡ c.tally = ap (λ (s : State). s.tally) k.state in (
        omega (arith, k.kept, k.many, a.missing, w),
        record {
          inside = omega (arith, next, length-take n rest, k.many, a.missing, a.ahead);
          commands = rw tally a.counts.commands;
          stored = rw tally a.counts.stored;
        },
      )

  module _ (read : State → Effect) where
    -- and they are what is read
    pub all_said : all ≤ r.kept → gather_all all read (state_of c g) (take n rest) ≡ read (state_of r h)
    all_said w =
        let t = kept_all (take n rest) (state_of c g) in
        ap (λ (b : Bool). cond b (no_stores t) (read t)) (le-ltb (length t.gathered) all (omega (arith, together, k.kept, w)))
        ∙ ap read (sym k.state)

    -- else they wait
    pub none_said : r.kept < all → gather_all all read (state_of c g) (take n rest) ≡ no_stores (state_of r h)
    none_said w =
        let t = kept_all (take n rest) (state_of c g) in
        ap (λ (b : Bool). cond b (no_stores t) (read t)) (lt-ltb (length t.gathered) all (omega (arith, together, k.kept, w)))
        ∙ ap no_stores (sym k.state)

-- what bytes do that are gathered
effects-gathered : (on : Setting) (w : Awaited) (s : State) (xs : List ℕ) → 0 < length xs → s.phase ≡ phase_of w
    → length s.gathered + length xs ≤ awaited w → effects on s xs ≡ gather_all (awaited w) (says w on) s xs
effects-gathered on Awaited.Magic s xs = effects-magic on s xs
effects-gathered on Awaited.Header s xs = effects-header on s xs
effects-gathered on (Awaited.Parameters k) s xs = λ some. effects-parameters on s xs some k

-- n of the rest's bytes, as many as are awaited and at hand, are used
module _ {all : ℕ} {c : Control} {g : List ℕ} (rest : List ℕ) {file_length : ℕ} (a : Awaits all c g file_length)
    (some : 0 < length rest) {n : ℕ} (many : n ≡ min (all - c.kept) (length rest)) where
  pub some-gathered : 0 < length (take n rest)
  some-gathered = omega (arith, length-take n rest, a.missing)

  pub gathered-fits : length (state_of c g).gathered + length (take n rest) ≤ all
  gathered-fits = omega (arith, length-take n rest, gathered-long a, a.missing)

  pub used-as : (on : Setting) (read : State → Effect) {t : State} {map : List Region} {before after : List ℕ}
      → effects on (state_of c g) (take n rest) ≡ gather_all all read (state_of c g) (take n rest)
      → Done (gather_all all read (state_of c g) (take n rest)) t map before after → Used on (state_of c g) rest n t map before after
  used-as on read e d =
      record { progress = omega (arith, a.missing); within = omega arith; done = done-same e d }

module _ (on : Setting) (w : Awaited) {c : Control} {g : List ℕ} (rest : List ℕ) {file_length : ℕ}
    (a : Awaits (awaited w) c g file_length) (p : c.phase ≡ phase_of w) (some : 0 < length rest) {n : ℕ}
    (many : n ≡ min (awaited w - c.kept) (length rest)) where
  pub used-gathered : {t : State} {map : List Region} {before after : List ℕ}
      → Done (gather_all (awaited w) (says w on) (state_of c g) (take n rest)) t map before after
      → Used on (state_of c g) rest n t map before after
  used-gathered d =
      used-as rest a some many on (says w on)
      (effects-gathered on w (state_of c g) (take n rest) (some-gathered rest a some many) p (gathered-fits rest a some many)) d

-- ---- bytes of a command's data

pub ram-fewer : (rs : List Region) (a n m : ℕ) → n ≤ m → ram rs a m ≡ true → ram rs a n ≡ true
ram-fewer rs a n m h r = le-leb (a + n) (uncovered rs a) (omega (arith, leb-true (a + m) (uncovered rs a) r))

module _ (on : Setting) (c : Control) (g rest : List ℕ) {n left : ℕ} (any : 0 < left) (some : 0 < length rest)
    (many : n ≡ min left (length rest)) where
  as_many : length (take n rest) ≡ n
  as_many = length-take n rest ∙ omega arith

  pub used-stored : {a : ℕ} (r : Control) {map : List Region} {before after : List ℕ} → c.phase ≡ Storing a left
      → Steps c r (λ s. data_used on.job.length n left (Storing (a + n) (left - n)) (tallied (with_stored n s.tally) s))
      → after ≡ applied map before (stores_from a (take n rest)) → Used on (state_of c g) rest n (state_of r g) map before after
  used-stored {a} r p e m =
      let all = effects-storing on a left (state_of c g) (take n rest) p (omega (arith, as_many)) (omega (arith, as_many)) in
      let behind : ℕ → State =
      λ i. data_used on.job.length i left (Storing (a + i) (left - i)) (tallied (with_stored i c.tally) (state_of c g)) in
      record {
        progress = omega arith;
        within = omega arith;
        done =
            done-same all
            (record {
              state = e g ∙ ap (λ (i : ℕ). behind i) (sym as_many);
              memory = m;
            });
      }

  pub used-skipped : (r : Control) (map : List Region) (before : List ℕ) → c.phase ≡ Skipping left
      → Steps c r (data_used on.job.length n left (Skipping (left - n))) → Used on (state_of c g) rest n (state_of r g) map before before
  used-skipped r map before p e =
      let all = effects-skipping on left (state_of c g) (take n rest) p (omega (arith, as_many)) (omega (arith, as_many)) in
      record {
        progress = omega arith;
        within = omega arith;
        done =
            done-no_stores (state_of r g) map before
            (all
            ∙ ap no_stores
            (ap (λ (i : ℕ). data_used on.job.length i left (Skipping (left - i)) (state_of c g)) as_many ∙ sym (e g)));
      }

pub used-stopped : (on : Setting) (s : State) (rest : List ℕ) {stop : Stop} (map : List Region) (m : List ℕ) → s.phase ≡ Stopped stop
    → 0 < length rest → Used on s rest (length rest) s map m m
used-stopped on s rest map m p h =
    record {
      progress = h;
      within = omega arith;
      done =
          done-no_stores s map m
          (λ i. record {
            state = run-stopped on s (take (length rest) rest) p i;
            stores = trace-stopped on s (take (length rest) rest) p i;
          });
    }

-- ---- some bytes after others

-- what is left to do after `at` bytes of a piece is what the piece does to the state s₀ and the memory m₀
pub record Left (on : Setting) (map : List Region) (piece : List ℕ) (s₀ : State) (m₀ : List ℕ) (s : State) (m : List ℕ) (at : ℕ) : Type 0 where
  pub state : run on s₀ piece ≡ run on s (drop at piece)
  pub memory : applied map m₀ (trace on s₀ piece) ≡ applied map m (trace on s (drop at piece))

module _ (on : Setting) (map : List Region) (piece : List ℕ) {s₀ : State} {m₀ : List ℕ} {s : State} {m : List ℕ} {at : ℕ}
    (l : Left on map piece s₀ m₀ s m at) where
  left-used : {n : ℕ} {t : State} {k : List ℕ} → Used on s (drop at piece) n t map m k → Left on map piece s₀ m₀ t k (at + n)
  left-used {n} {t} {k} u =
      let d = drop at piece in
      let split : take n d ++ drop n d ≡ d = take-append-drop n d in
      let rest : drop n d ≡ drop (at + n) piece = drop-drop n at piece in
      let done = u.done in
      record {
        state =
            l.state ∙ ap (run on s) (sym split) ∙ run-append on s (take n d) (drop n d)
            ∙ ap (λ (v : State). run on v (drop n d)) (sym done.state) ∙ ap (run on t) rest;
        memory =
            l.memory ∙ ap (λ (xs : List ℕ). applied map m (trace on s xs)) (sym split)
            ∙ ap (applied map m) (trace-append on s (take n d) (drop n d))
            ∙ applied-append map m (trace on s (take n d)) (trace on (run on s (take n d)) (drop n d))
            ∙ ap (λ (v : State). applied map (applied map m (trace on s (take n d))) (trace on v (drop n d))) (sym done.state)
            ∙ ap (λ (z : List ℕ). applied map z (trace on t (drop n d))) (sym done.memory)
            ∙ ap (λ (xs : List ℕ). applied map k (trace on t xs)) rest;
      }

  -- nothing is left
  left-none : length piece ≤ at → Done (effects on s₀ piece) s map m₀ m
  unfolding run trace applied
  left-none none =
      let e : drop at piece ≡ [] = drop_of_length-le piece none in
      record {
        state = sym (l.state ∙ ap (run on s) e);
        memory = sym (l.memory ∙ ap (λ (xs : List ℕ). applied map m (trace on s xs)) e);
      }

  -- the run has stopped
  left-stopped : {stop : Stop} → s.phase ≡ Stopped stop → Done (effects on s₀ piece) s map m₀ m
  unfolding applied
  left-stopped e =
      record {
        state = sym (l.state ∙ run-stopped on s (drop at piece) e);
        memory = sym (l.memory ∙ ap (applied map m) (trace-stopped on s (drop at piece) e));
      }

-- ---- the loops over a piece

-- what holds at the head of both loops over a piece, which began in the state of s₀ and gathered₀ with memory₀
pub record Going (job : Job) (map table piece gathered₀ memory₀ : List ℕ) (s₀ : Control) (gathered memory : List ℕ) (s : Control) (at : ℕ) : Type 0 where
  pub same_memory : length memory ≡ length memory₀
  pub within : at ≤ length piece
  pub ready : Ready job map table (length memory) (state_of s gathered)
  pub left : Left (setting_of job map table) (regions map) piece (state_of s₀ gathered₀) memory₀ (state_of s gathered) memory at

pub going_start : {job : Job} {map table piece gathered memory : List ℕ} {s : Control}
    → Ready job map table (length memory) (state_of s gathered) → Going job map table piece gathered memory s gathered memory s 0
going_start r =
    record { same_memory = refl; within = omega arith; ready = r; left = record { state = refl; memory = refl } }

module _ {job : Job} {map table piece gathered₀ memory₀ : List ℕ} {s₀ : Control} {gathered memory : List ℕ} {s : Control} {at : ℕ}
    (g : Going job map table piece gathered₀ memory₀ s₀ gathered memory s at) where
  -- some bytes are taken, of the rest as the code lends it
  pub going_on : {rest gathered₁ memory₁ : List ℕ} {t : Control} {n : ℕ} → rest ≡ drop at piece
      → Used (setting_of job map table) (state_of s gathered) rest n (state_of t gathered₁) (regions map) memory memory₁
      → length memory₁ ≡ length memory → Going job map table piece gathered₀ memory₀ s₀ gathered₁ memory₁ t (at + n)
  going_on {rest} {gathered₁} {memory₁} {t} {n} e u lm =
      let on = setting_of job map table in
      let v : Used on (state_of s gathered) (drop at piece) n (state_of t gathered₁) (regions map) memory memory₁ =
      subst (λ (xs : List ℕ). Used on (state_of s gathered) xs n (state_of t gathered₁) (regions map) memory memory₁) e u in
      record {
        same_memory = lm ∙ g.same_memory;
        within = omega (arith, g.within, v.within, length-drop at piece);
        ready =
            subst (λ (m : ℕ). Ready job map table m (state_of t gathered₁)) (sym lm)
            (ready-again g.ready (take n (drop at piece)) v.done.state);
        left = left-used (setting_of job map table) (regions map) piece g.left v;
      }

  pub going-none : length piece ≤ at
      → Done (effects (setting_of job map table) (state_of s₀ gathered₀) piece) (state_of s gathered) (regions map) memory₀ memory
  going-none = left-none (setting_of job map table) (regions map) piece g.left

  pub going-stopped : {stop : Stop} → s.phase ≡ Stopped stop
      → Done (effects (setting_of job map table) (state_of s₀ gathered₀) piece) (state_of s gathered) (regions map) memory₀ memory
  going-stopped = left-stopped (setting_of job map table) (regions map) piece g.left

-- the rest of a piece, as a part of it up to its end
pub rest_of : (piece : List ℕ) (at : ℕ) → take (length piece - at) (drop at piece) ≡ drop at piece
rest_of piece at = take_all (length piece - at) (drop at piece) (omega (arith, length-drop at piece))
