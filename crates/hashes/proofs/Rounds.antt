-- Laws of the schedule and the rounds of a block, over the width.
use Rattle.std.proofs.Common.{◌≡◌, ℕ, zero, suc, ◌+◌, ◌-◌, ◌%◌, ◌^◌, ◌<◌, ◌≤◌, ◌⊎◌, List, [], ◌∷◌, length, get_or, map, take, set, sym, refl, ap, ◌∙◌, subst, ap₂, ⊎_elim, add-zero, add-suc, add-sub_of_le, eq-or-lt_of_le, add-one, arith, length-append, length-set, get_or-set_other, get_or-take, get_or-set_same}
use native.Mathlib.Nat.{add-mod-mod, mod-add-mod}
use lib.ListN.{get_or-append}
use lib.Seq.{get_or_at}
use Rattle.std.proofs.lemmas.List.{get_or-map, map-set}
use Rattle.hashes.specs.Words.{add, ch, big_sigma}
use Rattle.hashes.specs.Widths.{Width, Eight}
use Rattle.hashes.specs.Compression.{mixed, next_word, with_next, scheduled, schedule, T₁, round, after_rounds, summed, compressed}
use Rattle.hashes.specs.Progress.{Rounds, Leads}

-- ---- the sums

-- T₁, of its sums in an order that has the constant and the word first
pub T₁-of : (P : Width) (K W : ℕ) (v : Eight) {x y z p q r : ℕ} → x ≡ add P.w K W → y ≡ add P.w v.h x
    → p ≡ ch P.w v.e v.f v.g → z ≡ add P.w y p → q ≡ big_sigma P.w P.Σ₁ v.e → r ≡ add P.w z q → r ≡ T₁ P K W v
T₁-of P K W v ex ey ep ez eq er =
    er
    ∙ ap₂ (add P.w) (ez ∙ ap₂ (add P.w) (ey ∙ ap (add P.w v.h) ex) ep) eq
    ∙ regrouped P.w v.h (big_sigma P.w P.Σ₁ v.e) (ch P.w v.e v.f v.g)
  where
    regrouped : (w h s c : ℕ) → add w (add w (add w h (add w K W)) c) s ≡ add w (add w (add w (add w h s) c) K) W
    regrouped w h s c = simp (mod-add-mod, add-mod-mod) (ap (λ (n : ℕ). n % 2 ^ w) (omega arith))

-- the schedule's next word, of words that stand in it
pub next-of : (P : Width) (W : List ℕ) (t : ℕ) {x y z u r : ℕ} → r ≡ mixed P x y z u → x ≡ get_or W (t + 14) 0 → y ≡ get_or W (t + 9) 0
    → z ≡ get_or W (t + 1) 0 → u ≡ get_or W t 0 → r ≡ next_word P W t
next-of P W t er ex ey ez eu = er ∙ rw (ex, ey, ez, eu)

-- ---- words of any type, by their values

module _ {X : Type 0} (value : X → ℕ) (xs : List X) (i : ℕ) (x : X) where
  pub value-at : i < length xs → value (get_or xs i x) ≡ get_or (map value xs) i 0
  value-at l = sym (get_or-map value xs i x 0 l)

  pub values-set : set (map value xs) i (value x) ≡ map value (set xs i x)
  values-set = sym (map-set value xs i x)

-- ---- the schedule

module _ (P : Width) (M : List ℕ) (sixteen : length M ≡ 16) where
  length-scheduled : (t : ℕ) → length (scheduled P M t) ≡ 16 + t
  unfolding scheduled with_next
  length-scheduled zero = sixteen
  length-scheduled (suc t) =
      length-append (scheduled P M t) (next_word P (scheduled P M t) t ∷ [])
      ∙ ap (λ (n : ℕ). n + 1) (length-scheduled t)
      ∙ add-one (16 + t)
      ∙ sym (add-suc 16 t)

  -- a word that is there stays
  kept : (t n j : ℕ) → j < 16 + t → get_or (scheduled P M (t + n)) j 0 ≡ get_or (scheduled P M t) j 0
  unfolding scheduled with_next
  kept t zero j h = ap (λ (k : ℕ). get_or (scheduled P M k) j 0) (add-zero t)
  kept t (suc n) j h =
      ap (λ (k : ℕ). get_or (scheduled P M k) j 0) (add-suc t n)
      ∙ get_or-append (scheduled P M (t + n)) (next_word P (scheduled P M (t + n)) (t + n) ∷ []) 0 j
      (omega (arith, length-scheduled (t + n)))
      ∙ kept t n j h

  in-schedule : (t j : ℕ) → t ≤ P.rounds - 16 → j < 16 + t → get_or (schedule P M) j 0 ≡ get_or (scheduled P M t) j 0
  in-schedule t j l h =
      ap (λ (k : ℕ). get_or (scheduled P M k) j 0) (sym (add-sub_of_le l)) ∙ kept t (P.rounds - 16 - t) j h

  -- the first 16 words are the block's
  schedule-first : (j : ℕ) → j < 16 → get_or (schedule P M) j 0 ≡ get_or M j 0
  unfolding scheduled
  schedule-first j h = in-schedule 0 j (omega arith) h

  -- each later word is that of step 1
  schedule-next : (t : ℕ) → t + 16 < P.rounds → get_or (schedule P M) (t + 16) 0 ≡ next_word P (schedule P M) t
  unfolding scheduled with_next
  schedule-next t l =
      in-schedule (suc t) (t + 16) (omega arith) (omega arith)
      ∙ get_or_at (scheduled P M t) (next_word P (scheduled P M t) t) [] 0 (t + 16) (omega (arith, length-scheduled t))
      ∙ alike (get_or (scheduled P M t)) (get_or (schedule P M)) (λ j h. sym (in-schedule t j (omega arith) h))
    where
      alike : (f g : ℕ → ℕ → ℕ) → ((j : ℕ) → j < 16 + t → f j 0 ≡ g j 0)
          → mixed P (f (t + 14) 0) (f (t + 9) 0) (f (t + 1) 0) (f t 0) ≡ mixed P (g (t + 14) 0) (g (t + 9) 0) (g (t + 1) 0) (g t 0)
      alike f g e = rw (e (t + 14) (omega arith), e (t + 9) (omega arith), e (t + 1) (omega arith), e t (omega arith))

-- ---- how far a block has come

module _ (P : Width) (H : Eight) (M : List ℕ) where
  pub none_done : {W : List ℕ} → length M ≡ 16 → length W ≡ P.rounds → take 16 W ≡ M → Rounds P H M 0 H W
  unfolding after_rounds
  none_done {W} l m e =
      record {
        sixteen = l;
        room = m;
        variables = refl;
        words =
            λ j h k.
            sym (get_or-take 16 W j 0 (omega arith)) ∙ ap (λ (s : List ℕ). get_or s j 0) e ∙ sym (schedule-first P M l j (omega arith));
      }

  next-variables : {t : ℕ} {v r : Eight} {W : List ℕ} (K : List ℕ) → K ≡ P.K → t < P.rounds → Rounds P H M t v W
      → r ≡ round P (get_or K t 0) (get_or W t 0) v → r ≡ after_rounds P (schedule P M) H (t + 1)
  unfolding after_rounds
  next-variables {t} {v} {r} {W} K c l h e =
      e
      ∙ ap (λ (s : List ℕ). round P (get_or s t 0) (get_or W t 0) v) c
      ∙ ap₂ (round P (get_or P.K t 0)) (h.words t (omega arith) l) h.variables
      ∙ ap (after_rounds P (schedule P M) H) (sym (add-one t))

  -- a round, and the next word stored
  pub round-and-word : {t : ℕ} {v r : Eight} {W : List ℕ} (K : List ℕ) (x : ℕ) → K ≡ P.K → t + 16 < P.rounds
      → Rounds P H M t v W → r ≡ round P (get_or K t 0) (get_or W t 0) v → x ≡ next_word P W t → Rounds P H M (t + 1) r (set W (t + 16) x)
  round-and-word {t} {v} {r} {W} K x c l h e n =
      record {
        sixteen = h.sixteen;
        room = length-set W (t + 16) x ∙ h.room;
        variables = next-variables K c (omega arith) h e;
        words = λ j a b. ⊎_elim (λ q. at j q) (λ q. before j q b) (here-or-before j a);
      }
    where
      word : (j : ℕ) → j < t + 16 → get_or W j 0 ≡ get_or (schedule P M) j 0
      word j a = h.words j a (omega arith)

      here-or-before : (j : ℕ) → j < t + 1 + 16 → (j ≡ t + 16) ⊎ (j < t + 16)
      here-or-before j a = eq-or-lt_of_le (omega arith)

      at : (j : ℕ) → j ≡ t + 16 → get_or (set W (t + 16) x) j 0 ≡ get_or (schedule P M) j 0
      at j q =
          ap (λ (k : ℕ). get_or (set W (t + 16) x) k 0) q
          ∙ get_or-set_same W (t + 16) x 0 (omega (arith, h.room))
          ∙ n
          ∙ (rw (word (t + 14) (omega arith), word (t + 9) (omega arith), word (t + 1) (omega arith), word t (omega arith)))
          ∙ sym (schedule-next P M h.sixteen t l)
          ∙ ap (λ (k : ℕ). get_or (schedule P M) k 0) (sym q)

      before : (j : ℕ) → j < t + 16 → j < P.rounds → get_or (set W (t + 16) x) j 0 ≡ get_or (schedule P M) j 0
      before j a b = get_or-set_other W (t + 16) j x 0 (omega arith) ∙ h.words j a b

  -- a round, where every word is there
  pub round-alone : {t : ℕ} {v r : Eight} {W : List ℕ} (K : List ℕ) → K ≡ P.K → P.rounds ≤ t + 16 → t < P.rounds
      → Rounds P H M t v W → r ≡ round P (get_or K t 0) (get_or W t 0) v → Rounds P H M (t + 1) r W
  round-alone {t} K c a l h e =
      record { sixteen = h.sixteen; room = h.room; variables = next-variables K c l h e; words = λ j x y. h.words j (omega arith) y }

  -- all rounds and the sum: the block is worked in
  pub all_done : {v r : Eight} {W : List ℕ} → Rounds P H M P.rounds v W → r ≡ summed P v H → r ≡ compressed P H M
  unfolding compressed
  all_done h e = e ∙ ap (λ (v : Eight). summed P v H) h.variables

-- ---- rounds one after the other

leads-on : (P : Width) {t u n : ℕ} {v x y : Eight} {W X Y : List ℕ} → Leads P t v W u x X → Leads P u x X n y Y → Leads P t v W n y Y
leads-on P f g H M h = g H M (f H M h)

leads-to : (P : Width) {t u n : ℕ} {v y : Eight} {W Y : List ℕ} → u ≡ n → Leads P t v W u y Y → Leads P t v W n y Y
leads-to P {v = v} {y} {W} {Y} e f H M h = subst (λ (k : ℕ). Rounds P H M k y Y) e (f H M h)

pub four : (P : Width) (t : ℕ) {v p q r y : Eight} {W A B C Y : List ℕ} → Leads P t v W (t + 1) p A → Leads P (t + 1) p A (t + 1 + 1) q B
    → Leads P (t + 2) q B (t + 2 + 1) r C → Leads P (t + 3) r C (t + 3 + 1) y Y → Leads P t v W (t + 4) y Y
four P t f g h k =
    leads-to P (omega arith) (leads-on P (leads-to P (omega arith) (leads-on P (leads-to P (omega arith) (leads-on P f g)) h)) k)

-- a loop that does four rounds a turn, from `from` to `to`, at i
pub record Fours (P : Width) (from to : ℕ) (v : Eight) (W : List ℕ) (i : ℕ) (y : Eight) (Y : List ℕ) : Type 0 where
  pub since : from ≤ i
  pub until : i ≤ to
  pub whole : i % 4 ≡ 0
  pub leads : Leads P from v W i y Y

module _ (P : Width) (from to : ℕ) where
  pub fours-begin : {v : Eight} {W : List ℕ} → from ≤ to → from % 4 ≡ 0 → Fours P from to v W from v W
  fours-begin l e = record { since = omega arith; until = l; whole = e; leads = λ H M h. h }

  pub fours-more : {i : ℕ} {v y z : Eight} {W Y Z : List ℕ} → to % 4 ≡ 0 → i < to → Fours P from to v W i y Y → Leads P i y Y (i + 4) z Z
      → Fours P from to v W (i + 4) z Z
  fours-more e l h f =
      record {
        since = omega arith;
        until = omega arith;
        whole = omega arith;
        leads = leads-on P h.leads f;
      }

  pub fours-end : {i : ℕ} {v y : Eight} {W Y : List ℕ} → to ≤ i → Fours P from to v W i y Y → Leads P from v W to y Y
  fours-end l h = leads-to P (omega arith) h.leads
