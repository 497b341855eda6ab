-- Reserved bytes: a run does not depend on them.
use mathlib.Core.Bool.{not, cond}
use mathlib.Core.Path.{◌≡◌, refl, sym, ap, ap₂, subst, subst₂, subst₃, ◌∙◌}
use mathlib.Core.List.{List, [], ◌∷◌, ◌++◌}
use mathlib.Core.Logic.{◌⊎◌, inl, inr}
use Prim.Native.Nat.{ℕ, zero, suc, pred, ◌+◌, ◌-◌, ◌≤◌, ◌<◌}
use native.Mathlib.Nat.{add-zero, zero-add}
use native.Mathlib.Omega.{arith}
use lib.Dec.{eqb, ltb, lit≤}
use lib.ListN.{length, replicate, take, drop}
use Rattle.std.specs.Prelude.{is_some}
use Rattle.octets.specs.Numbers.{little}
use Rattle.octets.specs.Parts.{part}
use Rattle.answers.specs.Rules.{Rule, rule, first_broken}
use Rattle.answers.proofs.ChoiceLaws.{cond_both}
use Rattle.board.specs.Cpuid.{Leaf, lookup}
use Rattle.board.specs.Reach.{limit}
use Rattle.machine.specs.Commands.{
  named,
  command_id,
  data_length,
  address,
  fill_count,
  pattern,
  judged_bytes,
  has_zero,
  data_rules,
  length_rules,
  range_rules,
  entry_rules,
  found_rules,
  check_rules,
}
use Rattle.machine.specs.Machine.{
  Setting,
  State,
  Store,
  Effect,
  react,
  step,
  run,
  trace,
  no_stores,
  kept,
  used,
  in_phase,
  stopped,
  tallied,
  awaiting,
  with_stored,
  with_entry,
  with_command,
  command_begins,
  finished,
  judged,
  gather,
  header_says,
  header_read,
  write_read,
  fill_read,
  entry_read,
  check_read,
  parameters_read,
  stores_from,
  unless_last,
}
use Rattle.machine.specs.declared.Command.{Command}
use Rattle.machine.specs.declared.Command.TheVariants.{Write, Fill, Entry, Check}
use Rattle.machine.specs.declared.Named.{Named}
use Rattle.machine.specs.declared.Named.TheVariants.{Known, Skipped, Unknown}
use Rattle.machine.specs.declared.Phase.{Phase}
use Rattle.machine.specs.declared.Phase.TheVariants.{Magic, Header, Parameters, Storing, Skipping, Stopped}

-- ---- which bytes are reserved

-- the places of a command's bytes that are reserved: 6 of its header; of a fill's and a check's data 7
-- (what a write and an entry are judged by ends before those)
abbrev pub ReservedPlace : ℕ → Type 0
ReservedPlace i = ((2 ≤ i) × (i < 8)) ⊎ ((33 ≤ i) × (i < 40))

-- the next byte is a reserved one, or one behind a stop, which nothing reads
abbrev pub ReservedNext : Phase → ℕ → Type 0
ReservedNext Magic n = ⊥
ReservedNext Header n = ReservedPlace n
ReservedNext (Parameters k) n = ReservedPlace n
ReservedNext (Storing a left) n = ⊥
ReservedNext (Skipping left) n = ⊥
ReservedNext (Stopped stop) n = Unit {0}

-- two files that differ only in reserved bytes, along the run over the first
abbrev pub Alike : Setting → State → List ℕ → List ℕ → Type 0
Alike on s [] [] = Unit {0}
Alike on s [] (y ∷ ys) = ⊥
Alike on s (x ∷ xs) [] = ⊥
Alike on s (x ∷ xs) (y ∷ ys) =
    ((x ≡ y) ⊎ ReservedNext s.phase (length s.gathered)) × Alike on (step on s x).state xs ys

-- ---- bytes of a command that differ at most in reserved places, from place n on

abbrev Matched : ℕ → List ℕ → List ℕ → Type 0
Matched n [] [] = Unit {0}
Matched n [] (y ∷ k) = ⊥
Matched n (x ∷ h) [] = ⊥
Matched n (x ∷ h) (y ∷ k) = ((x ≡ y) ⊎ ReservedPlace n) × Matched (suc n) h k

matched-length : (n : ℕ) (h k : List ℕ) → Matched n h k → length h ≡ length k
matched-length n [] [] m = refl
matched-length n [] (y ∷ k) m = absurd m
matched-length n (x ∷ h) [] m = absurd m
matched-length n (x ∷ h) (y ∷ k) m = ap suc (matched-length (suc n) h k m.1)

matched-more : (n : ℕ) (h k : List ℕ) (x y : ℕ) → Matched n h k → (x ≡ y) ⊎ ReservedPlace (n + length h)
    → Matched n (h ++ (x ∷ [])) (k ++ (y ∷ []))
matched-more n [] [] x y m e = (subst (λ (i : ℕ). (x ≡ y) ⊎ ReservedPlace i) (add-zero n) e, tt)
matched-more n [] (z ∷ k) x y m e = absurd m
matched-more n (z ∷ h) [] x y m e = absurd m
matched-more n (z ∷ h) (w ∷ k) x y m e =
    let next : n + suc (length h) ≡ suc n + length h = omega arith in
    (m.0, matched-more (suc n) h k x y m.1 (subst (λ (i : ℕ). (x ≡ y) ⊎ ReservedPlace i) next e))

matched-drop : (a n : ℕ) (h k : List ℕ) → Matched n h k → Matched (n + a) (drop a h) (drop a k)
matched-drop zero n h k m = subst (λ (i : ℕ). Matched i h k) (sym (add-zero n)) m
matched-drop (suc a) n [] [] m = tt
matched-drop (suc a) n [] (y ∷ k) m = absurd m
matched-drop (suc a) n (x ∷ h) [] m = absurd m
matched-drop (suc a) n (x ∷ h) (y ∷ k) m =
    let next : suc n + a ≡ n + suc a = omega arith in
    subst (λ (i : ℕ). Matched i (drop a h) (drop a k)) next (matched-drop a (suc n) h k m.1)

matched-take : (m n : ℕ) (h k : List ℕ) → Matched n h k → ((i : ℕ) → n ≤ i → i < n + m → ReservedPlace i → ⊥) → take m h ≡ take m k
matched-take zero n h k q free = refl
matched-take (suc m) n [] [] q free = refl
matched-take (suc m) n [] (y ∷ k) q free = absurd q
matched-take (suc m) n (x ∷ h) [] q free = absurd q
matched-take (suc m) n (x ∷ h) (y ∷ k) q free =
    ap₂ (λ (z : ℕ) (r : List ℕ). z ∷ r) (same q.0) (matched-take m (suc n) h k q.1 (λ i l u. free i (omega arith) (omega arith)))
  where
    same : (x ≡ y) ⊎ ReservedPlace n → x ≡ y
    same (inl e) = e
    same (inr r) = absurd (free n (omega arith) (omega arith) r)

-- n bytes from place a on, none of them reserved
abbrev Clear : ℕ → ℕ → Type 0
Clear a n = (a + n ≤ 2) ⊎ ((8 ≤ a) × (a + n ≤ 33)) ⊎ (40 ≤ a)

clear : (a n : ℕ) → Clear a n → (i : ℕ) → a ≤ i → i < a + n → ReservedPlace i → ⊥
clear a n (inl c) i l u (inl r) = omega arith
clear a n (inl c) i l u (inr r) = omega arith
clear a n (inr (inl c)) i l u (inl r) = omega arith
clear a n (inr (inl c)) i l u (inr r) = omega arith
clear a n (inr (inr c)) i l u (inl r) = omega arith
clear a n (inr (inr c)) i l u (inr r) = omega arith

-- a field that holds no reserved place reads the same
module _ (h k : List ℕ) (m : Matched 0 h k) where
  same-part : (a n : ℕ) → Clear a n → part h a n ≡ part k a n
  same-part a n c =
      let shift : 0 + a ≡ a = omega arith in
      matched-take n a (drop a h) (drop a k) (subst (λ (i : ℕ). Matched i (drop a h) (drop a k)) shift (matched-drop a 0 h k m))
      (clear a n c)

  same_number : (a n : ℕ) → Clear a n → little (part h a n) ≡ little (part k a n)
  same_number a n c = ap little (same-part a n c)

  same-command : command_id h ≡ command_id k
  same-command = same_number 0 2 (inl (lit≤ tt))

  -- a field between the header's reserved bytes and those of the parameters
  same-field : (a n : ℕ) → 8 ≤ a → a + n ≤ 33 → little (part h a n) ≡ little (part k a n)
  same-field a n l u = same_number a n (inr (inl (l, u)))

-- ---- states that differ in what is gathered, and effects that lead to such states

abbrev pub with_gathered : List ℕ → State → State
with_gathered k s = record { phase = s.phase; gathered = k; start = s.start; next = s.next; tally = s.tally }

-- what is gathered is read again in the first three phases only
abbrev GatheredAlike : Phase → List ℕ → List ℕ → Type 0
GatheredAlike Magic h k = h ≡ k
GatheredAlike Header h k = Matched 0 h k
GatheredAlike (Parameters c) h k = Matched 0 h k
GatheredAlike (Storing a left) h k = Unit {0}
GatheredAlike (Skipping left) h k = Unit {0}
GatheredAlike (Stopped stop) h k = Unit {0}

abbrev Twin : State → State → Type 0
Twin s t = (k : List ℕ) × (t ≡ with_gathered k s) × GatheredAlike s.phase s.gathered k

abbrev TwinEffect : Effect → Effect → Type 0
TwinEffect t u = Twin t.state u.state × (u.stores ≡ t.stores)

matched-refl : (n : ℕ) (h : List ℕ) → Matched n h h
matched-refl n [] = tt
matched-refl n (x ∷ h) = (inl refl, matched-refl (suc n) h)

gathered-refl : (p : Phase) (h : List ℕ) → GatheredAlike p h h
gathered-refl Magic h = refl
gathered-refl Header h = matched-refl 0 h
gathered-refl (Parameters c) h = matched-refl 0 h
gathered-refl (Storing a left) h = tt
gathered-refl (Skipping left) h = tt
gathered-refl (Stopped stop) h = tt

begins-twin : (file_length : ℕ) (s : State) (k : List ℕ) → Twin (command_begins file_length s) (command_begins file_length (with_gathered k s))
unfolding command_begins
begins-twin file_length s k =
    let t = with_gathered k s in
    cond_both Twin (eqb s.next file_length) _ _ _ _
    (cond_both Twin (is_some s.tally.entry) (stopped 0 0 s) (stopped 27 file_length s) (stopped 0 0 t) (stopped 27 file_length t)
    (k, refl, tt) (k, refl, tt))
    (cond_both Twin (ltb (file_length - s.next) 16) (stopped 17 s.next s) (awaiting s) (stopped 17 s.next t) (awaiting t)
    (k, refl, tt) ([], refl, tt))

finished-twin : (file_length : ℕ) (s : State) (k : List ℕ) → Twin (finished file_length s) (finished file_length (with_gathered k s))
unfolding finished
finished-twin file_length s k = begins-twin file_length (tallied (with_command s.tally) s) k

judged-twin : (code : ℕ) (s : State) (k : List ℕ) (t u : Effect) → TwinEffect t u
    → TwinEffect (judged code s t) (judged code (with_gathered k s) u)
judged-twin code s k t u h =
    cond_both TwinEffect (eqb code 0) t (no_stores (stopped code s.start s)) u (no_stores (stopped code s.start (with_gathered k s))) h
    ((k, refl, tt), refl)

-- ---- what a command's bytes say, by the fields that are read

written : Setting → ℕ → ℕ → State → Effect
written on a n s =
    judged (first_broken (range_rules on.map (limit on.job.mode) a n)) s
    (no_stores (cond (eqb n 0) (finished on.job.length s) (in_phase (Storing a n) s)))

filled : Setting → ℕ → ℕ → ℕ → State → Effect
filled on a n b s =
    judged (first_broken (range_rules on.map (limit on.job.mode) a n)) s
    (record { state = finished on.job.length (tallied (with_stored n s.tally) s); stores = stores_from a (replicate n b) })

entered : Setting → ℕ → State → Effect
entered on a s =
    judged (first_broken (entry_rules (limit on.job.mode) a)) s
    (no_stores (finished on.job.length (tallied (with_entry a s.tally) s)))

checked : List Leaf → ℕ → ℕ → ℕ → ℕ → ℕ → List ℕ → List Rule
checked table x a v m r t =
    rule 22 (not (has_zero t)) ∷ rule 23 (eqb (length table) 0) ∷ rule 24 (ltb 3 r) ∷ found_rules (lookup table a x r) m v

module _ (on : Setting) (s : State) (k : List ℕ) (m : Matched 0 s.gathered k) where
  says-twin : (x : Named) (n : ℕ) → TwinEffect (header_says x on.job.length n s) (header_says x on.job.length n (with_gathered k s))
  unfolding header_says
  says-twin (Known c) n =
      judged-twin (first_broken (length_rules c n (on.job.length - s.next))) s k (no_stores (in_phase (Parameters c) s))
      (no_stores (in_phase (Parameters c) (with_gathered k s))) ((k, refl, m), refl)
  says-twin Skipped n =
      let t = with_gathered k s in
      judged-twin (first_broken (data_rules n (on.job.length - s.next))) s k _ _ (
        cond_both Twin (eqb n 0) (finished on.job.length s) (in_phase (Skipping n) s) (finished on.job.length t)
            (in_phase (Skipping n) t) (finished-twin on.job.length s k) (k, refl, tt),
        refl,
      )
  says-twin Unknown n = ((k, refl, tt), refl)

  header-twin : TwinEffect (header_read on.job.length s) (header_read on.job.length (with_gathered k s))
  unfolding header_read
  header-twin =
      let c = command_id s.gathered in
      let n = data_length s.gathered in
      let says : ℕ → ℕ → State → Effect = λ d l t. header_says (named d) on.job.length l t in
      subst₂ (λ (d l : ℕ). TwinEffect (says c n s) (says d l (with_gathered k s))) (same-command s.gathered k m)
      (same-field s.gathered k m 8 8 (lit≤ tt) (lit≤ tt)) (says-twin (named c) n)

  parameters-twin : (c : Command) → TwinEffect (parameters_read c on s) (parameters_read c on (with_gathered k s))
  unfolding parameters_read write_read fill_read entry_read check_read written filled entered checked
  parameters-twin Write =
      let a = address s.gathered in
      let n = data_length s.gathered - 8 in
      let t = with_gathered k s in
      subst₂ (λ (b : ℕ) (l : ℕ). TwinEffect (written on a n s) (written on b (l - 8) t))
      (same-field s.gathered k m 16 8 (lit≤ tt) (lit≤ tt)) (same-field s.gathered k m 8 8 (lit≤ tt) (lit≤ tt))
      (judged-twin (first_broken (range_rules on.map (limit on.job.mode) a n)) s k _ _ (
        cond_both Twin (eqb n 0) (finished on.job.length s) (in_phase (Storing a n) s) (finished on.job.length t)
            (in_phase (Storing a n) t) (finished-twin on.job.length s k) (k, refl, tt),
        refl,
      ))
  parameters-twin Fill =
      let a = address s.gathered in
      let n = fill_count s.gathered in
      let b = pattern s.gathered in
      let t = with_gathered k s in
      subst₃ (λ (x y z : ℕ). TwinEffect (filled on a n b s) (filled on x y z t))
      (same-field s.gathered k m 16 8 (lit≤ tt) (lit≤ tt)) (same-field s.gathered k m 24 8 (lit≤ tt) (lit≤ tt))
      (same-field s.gathered k m 32 1 (lit≤ tt) (lit≤ tt))
      (judged-twin (first_broken (range_rules on.map (limit on.job.mode) a n)) s k _ _
      (finished-twin on.job.length (tallied (with_stored n s.tally) s) k, refl))
  parameters-twin Entry =
      let a = address s.gathered in
      subst (λ (x : ℕ). TwinEffect (entered on a s) (entered on x (with_gathered k s)))
      (same-field s.gathered k m 16 8 (lit≤ tt) (lit≤ tt))
      (judged-twin (first_broken (entry_rules (limit on.job.mode) a)) s k _ _
      (finished-twin on.job.length (tallied (with_entry a s.tally) s) k, refl))
  parameters-twin Check =
      let rs = check_rules on.table s.gathered in
      let t = with_gathered k s in
      let says : List Rule → State → Effect = λ x u. judged (first_broken x) u (no_stores (finished on.job.length u)) in
      let field = same-field s.gathered k m in
      let e : rs ≡ check_rules on.table k =
      λ i. checked on.table (field 16 4 (lit≤ tt) (lit≤ tt) i) (field 20 4 (lit≤ tt) (lit≤ tt) i)
      (field 24 4 (lit≤ tt) (lit≤ tt) i) (field 28 4 (lit≤ tt) (lit≤ tt) i)
      (field 32 1 (lit≤ tt) (lit≤ tt) i) (same-part s.gathered k m 40 64 (inr (inr (lit≤ tt))) i) in
      subst (λ (x : List Rule). TwinEffect (says rs s) (says x t)) e
      (judged-twin (first_broken rs) s k _ _ (finished-twin on.job.length s k, refl))

-- ---- one byte, and all

twin-refl : (t : Effect) → TwinEffect t t
twin-refl t = ((t.state.gathered, refl, gathered-refl t.state.phase t.state.gathered), refl)

last-twin : (on : Setting) (left : ℕ) (p : Phase) (s : State) (k : List ℕ) → GatheredAlike p s.gathered k
    → Twin (unless_last on.job.length left p s) (unless_last on.job.length left p (with_gathered k s))
last-twin on left p s k h =
    let t = with_gathered k s in
    cond_both Twin (eqb left 1) (finished on.job.length s) (in_phase p s) (finished on.job.length t) (in_phase p t)
    (finished-twin on.job.length s k) (k, refl, h)

module _ (on : Setting) (s : State) (k : List ℕ) (x y : ℕ) where
  gathered-more : Matched 0 s.gathered k → (x ≡ y) ⊎ ReservedPlace (length s.gathered)
      → Matched 0 (s.gathered ++ (x ∷ [])) (k ++ (y ∷ []))
  gathered-more m q =
      matched-more 0 s.gathered k x y m (subst (λ (i : ℕ). (x ≡ y) ⊎ ReservedPlace i) (sym (zero-add (length s.gathered))) q)

  gather-twin : (all : ℕ) (says : State → Effect) → let u = kept x s in let j = k ++ (y ∷ []) in
      Matched 0 u.gathered j → GatheredAlike u.phase u.gathered j → TwinEffect (says u) (says (with_gathered j u))
      → TwinEffect (gather all says s x) (gather all says (with_gathered k s) y)
  gather-twin all says m same h =
      let u = kept x s in
      let v = with_gathered (k ++ (y ∷ [])) u in
      subst (λ (n : ℕ). TwinEffect (gather all says s x) (cond (ltb n all) (no_stores v) (says v)))
      (matched-length 0 u.gathered v.gathered m)
      (cond_both TwinEffect (ltb (length u.gathered) all) (no_stores u) (says u) (no_stores v) (says v)
      ((v.gathered, refl, same), refl) h)

  react-twin : (p : Phase) → s.phase ≡ p → GatheredAlike p s.gathered k → (x ≡ y) ⊎ ReservedNext p (length s.gathered)
      → TwinEffect (react p on s x) (react p on (with_gathered k s) y)
  unfolding react
  react-twin Magic e h (inl q) =
      subst₂ (λ (j : List ℕ) (z : ℕ). TwinEffect (react Magic on s x) (react Magic on (with_gathered j s) z)) h q
      (twin-refl (react Magic on s x))
  react-twin Magic e h (inr r) = absurd r
  react-twin Header e h q =
      let u = kept x s in
      let j = k ++ (y ∷ []) in
      let m = gathered-more h q in
      let same = subst (λ (p : Phase). GatheredAlike p u.gathered j) (sym e) m in
      gather-twin 16 (header_read on.job.length) m same (header-twin on u j m)
  react-twin (Parameters c) e h q =
      let u = kept x s in
      let j = k ++ (y ∷ []) in
      let m = gathered-more h q in
      let same = subst (λ (p : Phase). GatheredAlike p u.gathered j) (sym e) m in
      gather-twin (16 + judged_bytes c) (parameters_read c on) m same (parameters-twin on u j m c)
  react-twin (Storing a left) e h (inl q) = (
    last-twin on left (Storing (suc a) (pred left)) (used (tallied (with_stored 1 s.tally) s)) k tt,
    ap (λ (z : ℕ). record { address = a; byte = z } ∷ []) (sym q),
  )
  react-twin (Storing a left) e h (inr r) = absurd r
  react-twin (Skipping left) e h q = (last-twin on left (Skipping (pred left)) (used s) k tt, refl)
  react-twin (Stopped stop) e h q = ((k, refl, subst (λ (p : Phase). GatheredAlike p s.gathered k) (sym e) tt), refl)

run-twin : (on : Setting) (s : State) (k xs ys : List ℕ) → GatheredAlike s.phase s.gathered k → Alike on s xs ys
    → ((j : List ℕ) × (run on (with_gathered k s) ys ≡ with_gathered j (run on s xs))) × (trace on (with_gathered k s) ys ≡ trace on s xs)
unfolding run trace
run-twin on s k [] [] h q = ((k, refl), refl)
run-twin on s k [] (y ∷ ys) h q = absurd q
run-twin on s k (x ∷ xs) [] h q = absurd q
run-twin on s k (x ∷ xs) (y ∷ ys) h q =
    let t = step on s x in
    let u = react s.phase on (with_gathered k s) y in
    let ((j, e, same), stores) = react-twin on s k x y s.phase refl h q.0 in
    let (end, rest) = run-twin on t.state j xs ys same q.1 in (
      (end.0, ap (λ (v : State). run on v ys) e ∙ end.1),
      ap₂ (λ (v : List Store) (w : State). v ++ trace on w ys) stores e ∙ ap (λ (v : List Store). t.stores ++ v) rest,
    )

-- two files that differ only in reserved bytes lead to the same state, but for what is gathered, by the same stores
pub alike-run : (on : Setting) (s : State) (xs ys : List ℕ) → Alike on s xs ys
    → ((j : List ℕ) × (run on s ys ≡ with_gathered j (run on s xs))) × (trace on s ys ≡ trace on s xs)
alike-run on s xs ys q = run-twin on s s.gathered xs ys (gathered-refl s.phase s.gathered) q

pub alike-length : (on : Setting) (s : State) (xs ys : List ℕ) → Alike on s xs ys → length xs ≡ length ys
alike-length on s [] [] q = refl
alike-length on s [] (y ∷ ys) q = absurd q
alike-length on s (x ∷ xs) [] q = absurd q
alike-length on s (x ∷ xs) (y ∷ ys) q = ap suc (alike-length on (step on s x).state xs ys q.1)
