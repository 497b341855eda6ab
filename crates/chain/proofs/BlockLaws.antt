-- Laws of the chain of blocks: how many are proved, turn by turn, and the file that they hold.
use mathlib.Core.Path.{◌≡◌, refl, sym, ap, ap₂, ◌∙◌}
use mathlib.Core.Bool.{Bool, true, false, not, cond}
use mathlib.Core.List.{List, [], ◌++◌}
use mathlib.Core.Logic.{⊎_elim}
use Prim.Native.Nat.{ℕ, zero, suc, ◌+◌, ◌-◌, ◌*◌, ◌≤◌, ◌<◌}
use native.Mathlib.Nat.{eq-or-lt_of_le, zero-add, add-zero, zero-mul, suc-mul, mul-le-mul_right, le_of_eq, le_of_suc-le-suc}
use native.Mathlib.Omega.{arith}
use borrow.Author.Tests.{eqb-true, eqb-false, eq-eqb, not-false}
use lib.Dec.{eqb, eqb-suc-zero}
use lib.ListN.{length, take, drop, length-append, length-drop}
use lib.Seq.{take-append-le, take-length, take_all, drop-append-le, drop-drop, drop_at}
use Rattle.octets.specs.Parts.{part, put, all_zero}
use Rattle.octets.proofs.PartLaws.{put-beside}
use Rattle.octets.proofs.TestLaws.{same-eq, eq-same}
use Rattle.answers.specs.Rules.{first_broken}
use Rattle.answers.proofs.RuleLaws.{zero-all-hold, all-hold-zero}
use Rattle.chain.specs.Hashsum.{hashsum}
use Rattle.chain.specs.Blocks.{hash_field, padding_of, block_rules, block_code, file_bytes, proved, file_up_to}
use Rattle.chain.specs.Header.{Header, Stream, file_length}
use Rattle.chain.proofs.HeaderLaws.{block_data}

-- ---- one more block: with m of n proved and the next block's code c, m' of n + 1 are

pub data Turn (n m m' c : ℕ) : Type 0 where
  -- all were, and the next is
  went : m ≡ n → c ≡ 0 → m' ≡ suc n → Turn n m m' c
  -- all were, and the next is not
  stopped : m ≡ n → (c ≡ 0 → ⊥) → m' ≡ n → Turn n m m' c
  -- not all were, and so it stays
  stays : m < n → m' ≡ m → Turn n m m' c

turn-of : (n m c : ℕ) → m ≤ n → Turn n m (cond (eqb m n) (cond (eqb c 0) (suc n) n) m) c
turn-of n m c h = go (eqb m n) (eqb c 0) refl refl
  where
    go : (a b : Bool) → eqb m n ≡ a → eqb c 0 ≡ b → Turn n m (cond a (cond b (suc n) n) m) c
    go true true p q = went (eqb-true m n p) (eqb-true c 0 q) refl
    go true false p q = stopped (eqb-true m n p) (eqb-false c 0 q) refl
    go false b p q = stays (let ne : (m ≡ n → ⊥) = eqb-false m n p in omega arith) refl

module _ (d : Header) (block : ℕ → List ℕ) where
  pub proved-le : (n : ℕ) → proved d block n ≤ n
  unfolding proved
  proved-le zero = omega arith
  proved-le (suc n) = go (turn-of n (proved d block n) (block_code d block n) (proved-le n))
    where
      go : Turn n (proved d block n) (proved d block (suc n)) (block_code d block n) → proved d block (suc n) ≤ suc n
      go (went p q r) = omega arith
      go (stopped p q r) = omega arith
      go (stays p r) = omega arith

  pub turn : (n : ℕ) → Turn n (proved d block n) (proved d block (suc n)) (block_code d block n)
  unfolding proved
  turn n = turn-of n (proved d block n) (block_code d block n) (proved-le n)

  -- a block that passes behind proved ones is proved
  pub goes_on : (n : ℕ) → proved d block n ≡ n → block_code d block n ≡ 0 → proved d block (suc n) ≡ suc n
  goes_on n p q = go (turn n)
    where
      go : Turn n (proved d block n) (proved d block (suc n)) (block_code d block n) → proved d block (suc n) ≡ suc n
      go (went _ _ r) = r
      go (stopped _ ne r) = absurd (ne q)
      go (stays l r) = omega arith

  -- one that does not holds the count, however many blocks follow
  pub holds : (n : ℕ) → proved d block n < n → (m : ℕ) → n ≤ m → proved d block m ≡ proved d block n
  holds n h zero l = omega arith
  holds n h (suc m) l =
      ⊎_elim (λ e. ap (proved d block) (sym e)) (λ s. go (turn m) (omega arith) (holds n h m (omega arith)))
      (eq-or-lt_of_le l)
    where
      go : Turn m (proved d block m) (proved d block (suc m)) (block_code d block m) → n ≤ m
          → proved d block m ≡ proved d block n → proved d block (suc m) ≡ proved d block n
      go (went p q r) b e = omega arith
      go (stopped p q r) b e = omega arith
      go (stays p r) b e = r ∙ e

  pub stops : (k n : ℕ) → k < n → proved d block k ≡ k → (block_code d block k ≡ 0 → ⊥) → proved d block n ≡ k
  stops k n h p ne = go (turn k)
    where
      go : Turn k (proved d block k) (proved d block (suc k)) (block_code d block k) → proved d block n ≡ k
      go (went _ q _) = absurd (ne q)
      go (stopped _ _ r) = holds (suc k) (omega arith) n h ∙ r
      go (stays l _) = omega arith

  -- of the blocks before a proved one all are, and they pass
  pub proved-before : (n i : ℕ) → i ≤ proved d block n → proved d block i ≡ i
  proved-before zero i h = let z : proved d block zero ≤ zero = proved-le zero in let e : i ≡ zero = omega arith in rw e (omega arith)
  proved-before (suc n) i h = go (turn n) (proved-before n i)
    where
      go : Turn n (proved d block n) (proved d block (suc n)) (block_code d block n)
          → (i ≤ proved d block n → proved d block i ≡ i) → proved d block i ≡ i
      go (went p q r) f =
          let l : i ≤ suc n = omega arith in
          ⊎_elim (λ e. ap (proved d block) e ∙ r ∙ sym e) (λ s. f (omega arith)) (eq-or-lt_of_le l)
      go (stopped p q r) f = f (omega arith)
      go (stays p r) f = f (omega arith)

  pub passes : (n i : ℕ) → i < proved d block n → block_code d block i ≡ 0
  passes n i h = go (turn i)
    where
      go : Turn i (proved d block i) (proved d block (suc i)) (block_code d block i) → block_code d block i ≡ 0
      go (went p q r) = q
      go (stopped p q r) = omega (arith, proved-before n (suc i) h)
      go (stays p r) = omega (arith, proved-before n (suc i) h)

  pub proved-more : (m n : ℕ) → m ≤ n → proved d block m ≤ proved d block n
  proved-more m zero h = let e : m ≡ zero = omega arith in rw e (omega arith)
  proved-more m (suc n) h =
      ⊎_elim (λ e. rw e (omega arith)) (λ s. go (turn n) (proved-more m n (omega arith))) (eq-or-lt_of_le h)
    where
      go : Turn n (proved d block n) (proved d block (suc n)) (block_code d block n) → proved d block m ≤ proved d block n
          → proved d block m ≤ proved d block (suc n)
      go (went p q r) l = omega arith
      go (stopped p q r) l = omega arith
      go (stays p r) l = omega arith

  -- the first that is not proved doesn't
  pub fails : (n : ℕ) → proved d block n < n → block_code d block (proved d block n) ≡ 0 → ⊥
  fails n h q =
      let m : ℕ = proved d block n in
      omega (arith, goes_on m (proved-before n m (omega arith)) q, proved-more (suc m) n h)

  -- all are proved just where all pass
  pub all_pass : (n : ℕ) → ((k : ℕ) → k < n → block_code d block k ≡ 0) → proved d block n ≡ n
  unfolding proved
  all_pass zero f = refl
  all_pass (suc n) f = goes_on n (all_pass n (λ k h. f k (omega arith))) (f n (omega arith))

  pub pass_all : (n : ℕ) → proved d block n ≡ n → (k : ℕ) → k < n → block_code d block k ≡ 0
  pass_all n e k h = passes n k (omega arith)

-- ---- streams that agree in their first blocks

abbrev pub Agree : ℕ → (ℕ → List ℕ) → (ℕ → List ℕ) → Type 0
Agree n block block' = (i : ℕ) → i < n → block i ≡ block' i

module _ (s : Stream) (block block' : ℕ → List ℕ) where
  pub file-agrees : (n : ℕ) → Agree n block block' → file_up_to s block n ≡ file_up_to s block' n
  unfolding file_up_to
  file-agrees zero a = refl
  file-agrees (suc n) a =
      ap₂ (λ (f b : List ℕ). f ++ file_bytes s n b) (file-agrees n (λ i h. a i (omega arith))) (a n (omega arith))

-- ---- the file

-- only the first block is padded
pub unpadded : (s : Stream) (k : ℕ) → padding_of s (suc k) ≡ 0
unpadded s k = ap (λ (b : Bool). cond b s.padding 0) (eqb-suc-zero k)

module _ (s : Stream) (block : ℕ → List ℕ) where
  pub file-none : file_up_to s block zero ≡ []
  unfolding file_up_to
  file-none = refl

  pub file-more : (n : ℕ) → file_up_to s block (suc n) ≡ file_up_to s block n ++ file_bytes s n (block n)
  unfolding file_up_to
  file-more n = refl

  length_more : (n : ℕ) → length (file_up_to s block (suc n))
      ≡ length (file_up_to s block n) + (length (block n) - (s.hashsum_length + padding_of s n))
  length_more n =
      ap length (file-more n) ∙ length-append (file_up_to s block n) (file_bytes s n (block n))
      ∙ ap (λ (k : ℕ). length (file_up_to s block n) + k) (length-drop (s.hashsum_length + padding_of s n) (block n))

  pub file-grows : (m n : ℕ) → m ≤ n → length (file_up_to s block m) ≤ length (file_up_to s block n)
  file-grows m zero h = let e : m ≡ zero = omega arith in rw e (omega arith)
  file-grows m (suc n) h =
      ⊎_elim (λ e. rw e (omega arith)) (λ l. omega (arith, file-grows m n (omega arith), length_more n)) (eq-or-lt_of_le h)

  -- what fewer blocks hold begins what more hold
  pub file-begins : (m n : ℕ) → m ≤ n → take (length (file_up_to s block m)) (file_up_to s block n) ≡ file_up_to s block m
  file-begins m zero h = let e : m ≡ zero = omega arith in rw e (take-length (file_up_to s block zero))
  file-begins m (suc n) h =
      ⊎_elim (λ e. rw e (take-length (file_up_to s block (suc n))))
      (λ l. rw file-more
      (take-append-le (length (file_up_to s block m)) (file_up_to s block n) (file_bytes s n (block n))
      (file-grows m n (omega arith))
      ∙ file-begins m n (omega arith))) (eq-or-lt_of_le h)

  -- the turn of a loop that copies the file out
  pub put-more : (output : List ℕ) (n : ℕ) → length (file_up_to s block (suc n)) ≤ length output
      → put (put output 0 (file_up_to s block n)) (length (file_up_to s block n)) (file_bytes s n (block n))
      ≡ put output 0 (file_up_to s block (suc n))
  put-more output n h =
      let l : length (file_up_to s block (suc n)) ≡ length (file_up_to s block n) + length (file_bytes s n (block n)) =
      ap length (file-more n) ∙ length-append (file_up_to s block n) (file_bytes s n (block n)) in
      ap (λ (at : ℕ). put (put output 0 (file_up_to s block n)) at (file_bytes s n (block n)))
      (sym (zero-add (length (file_up_to s block n))))
      ∙ put-beside output 0 (length (file_up_to s block n)) (file_up_to s block n) (file_bytes s n (block n)) refl (omega arith)
      ∙ ap (λ (f : List ℕ). put output 0 f) (sym (file-more n))

  -- file length = block count x block data length - padding length, also of the first blocks, and of none
  pub length-file : (n : ℕ) → ((k : ℕ) → k < n → length (block k) ≡ s.block_size) → s.padding ≤ block_data s
      → length (file_up_to s block n) ≡ n * block_data s - s.padding
  length-file zero sized small = ap length file-none ∙ omega arith
  length-file (suc zero) sized small =
      length_more zero
      ∙ ap₂ (λ (x y : ℕ). x + (y - (s.hashsum_length + s.padding))) (ap length file-none) (sized zero (omega arith))
      ∙ omega arith
  length-file (suc (suc n)) sized small =
      length_more (suc n)
      ∙ ap₂ (λ (x y : ℕ). x + y) (length-file (suc n) (λ k h. sized k (omega arith)) small)
      (ap₂ (λ (x y : ℕ). x - (s.hashsum_length + y)) (sized (suc n) (omega arith)) (unpadded s n))
      ∙ omega arith

  -- so a file's first part fits where the file does
  pub first-part-fits : (n : ℕ) → n ≤ s.count → ((k : ℕ) → k < s.count → length (block k) ≡ s.block_size)
      → s.padding ≤ block_data s → length (file_up_to s block n) ≤ file_length s
  first-part-fits n h sized small = omega (arith, file-grows n s.count h, length-file s.count sized small)

-- ---- what passes 13, 14 and 15

pub record Proper (s : Stream) (k : ℕ) (expected block : List ℕ) : Type 0 where
  pub hashed : hashsum s.ids block ≡ expected
  pub padded : all_zero (part block s.hashsum_length (padding_of s k)) ≡ true
  pub last : suc k ≡ s.count → all_zero (hash_field s block) ≡ true

module _ (s : Stream) (k : ℕ) (expected block : List ℕ) where
  pub proper : first_broken (block_rules s k expected block) ≡ 0 → Proper s k expected block
  proper e =
      let h = zero-all-hold (block_rules s k expected block) tt e in
      record {
        hashed = same-eq (hashsum s.ids block) expected (not-false _ h.0);
        padded = not-false _ h.1.0;
        last = λ q. not-false _
            (ap (λ (b : Bool). cond b (not (all_zero (hash_field s block))) false) (sym (eq-eqb (suc k) s.count q))
            ∙ h.1.1.0);
      }

  pub proper-passes : Proper s k expected block → first_broken (block_rules s k expected block) ≡ 0
  proper-passes r =
      all-hold-zero (block_rules s k expected block) (
        ap not (eq-same (hashsum s.ids block) expected r.hashed),
        (ap not r.padded, (go (eqb (suc k) s.count) refl, tt)),
      )
    where
      go : (b : Bool) → eqb (suc k) s.count ≡ b → cond b (not (all_zero (hash_field s block))) false ≡ false
      go true q = ap not (r.last (eqb-true (suc k) s.count q))
      go false q = refl

-- ---- a part that ends within the first of two lists

pub part-front : (s t : List ℕ) (at n : ℕ) → at + n ≤ length s → part (s ++ t) at n ≡ part s at n
part-front s t at n h =
    ap (λ (l : List ℕ). take n l) (drop-append-le at s t (omega arith))
    ∙ take-append-le n (drop at s) t (rw length-drop (omega arith))

-- ---- the data of the blocks: the file behind its padding

unfoldable pub data_up_to : Stream → (ℕ → List ℕ) → ℕ → List ℕ
data_up_to s block zero = []
data_up_to s block (suc n) = data_up_to s block n ++ drop s.hashsum_length (block n)

module _ (s : Stream) (block : ℕ → List ℕ) (n : ℕ) (sized : (k : ℕ) → k < n → length (block k) ≡ s.block_size) where
  length-data-of : (k : ℕ) → k < n → length (drop s.hashsum_length (block k)) ≡ block_data s
  length-data-of k h = length-drop s.hashsum_length (block k) ∙ ap (λ (x : ℕ). x - s.hashsum_length) (sized k h)

  pub length-data : (m : ℕ) → m ≤ n → length (data_up_to s block m) ≡ m * block_data s
  unfolding data_up_to
  length-data zero h = sym (zero-mul (block_data s))
  length-data (suc m) h =
      length-append (data_up_to s block m) (drop s.hashsum_length (block m))
      ∙ ap₂ (λ (x y : ℕ). x + y) (length-data m (omega arith)) (length-data-of m h) ∙ sym (suc-mul m (block_data s))

  pub file-of-data : (m : ℕ) → m < n → s.padding ≤ block_data s
      → file_up_to s block (suc m) ≡ drop s.padding (data_up_to s block (suc m))
  unfolding file_up_to data_up_to
  file-of-data zero h small = sym (drop-drop s.padding s.hashsum_length (block zero))
  file-of-data (suc m) h small =
      ap₂ (λ (f : List ℕ) (x : ℕ). f ++ drop x (block (suc m))) (file-of-data m (omega arith) small)
      (ap (λ (x : ℕ). s.hashsum_length + x) (unpadded s m) ∙ add-zero s.hashsum_length)
      ∙ sym
      (drop-append-le s.padding (data_up_to s block (suc m)) (drop s.hashsum_length (block (suc m)))
      (rw (length-data (suc m) (omega arith)) (omega arith)))

  pub data-part : (m : ℕ) → m ≤ n → (k : ℕ) → k < m
      → part (data_up_to s block m) (k * block_data s) (block_data s) ≡ drop s.hashsum_length (block k)
  unfolding data_up_to
  data-part zero h k l = absurd (omega arith)
  data-part (suc m) h k l =
      ⊎_elim
      (λ e. rw e
      (ap (λ (t : List ℕ). take (block_data s) t)
      (drop_at (data_up_to s block m) (drop s.hashsum_length (block m)) (m * block_data s) (length-data m (omega arith)))
      ∙ take_all (block_data s) (drop s.hashsum_length (block m)) (le_of_eq (length-data-of m h))))
      (λ r. part-front (data_up_to s block m) (drop s.hashsum_length (block m)) (k * block_data s) (block_data s)
      (rw (length-data m (omega arith)) (omega (arith, mul-le-mul_right (block_data s) r, suc-mul k (block_data s))))
      ∙ data-part m (omega arith) k r) (eq-or-lt_of_le (le_of_suc-le-suc l))
