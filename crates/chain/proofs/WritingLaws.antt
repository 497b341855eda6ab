-- Laws of writing an image: from its last block to its first, then the signature field and the header.
use mathlib.Core.Path.{◌≡◌, sym, ap, ap₂, ◌∙◌}
use mathlib.Core.List.{List, ◌++◌, append_assoc}
use Prim.Native.Nat.{ℕ, zero, suc, ◌+◌, ◌-◌, ◌*◌, ◌≤◌, ◌<◌}
use native.Mathlib.Nat.{zero-mul, sub-zero, mul-le-mul_right}
use native.Mathlib.Omega.{arith}
use lib.ListN.{length, take, drop, replicate, length-replicate}
use lib.Seq.{drop_at, length-take-le, take-append-add, drop-append-add}
use Rattle.octets.specs.Parts.{part, put}
use Rattle.octets.proofs.PartLaws.{put-beside}
use Rattle.chain.specs.Blocks.{padding_of}
use Rattle.chain.specs.Hashsum.{sum_length}
use Rattle.chain.specs.Header.{header_bytes, image_length}
use Rattle.chain.specs.Pack.{Order, room, blocks, padding, chunk, link, blocks_from, packed_header, image}
use Rattle.chain.proofs.BlockLaws.{unpadded}
use Rattle.chain.proofs.HeaderLaws.{length-header}
use Rattle.chain.proofs.PackLaws.{Packable, padding-small, padding-fills, within, length-block, length-link, blocks_more}

-- ---- bytes put at an offset

-- they stand before all that was behind them
drop-put : (s : List ℕ) (at : ℕ) (v : List ℕ) → at + length v ≤ length s → drop at (put s at v) ≡ v ++ drop (at + length v) s
drop-put s at v h =
    ap (λ (t : List ℕ). drop at t) (append_assoc (take at s) v (drop (at + length v) s))
    ∙ drop_at (take at s) (v ++ drop (at + length v) s) at (length-take-le at s (omega arith))

-- put side by side from an offset on
pub put_next : (s v w : List ℕ) (at k : ℕ) {t u : List ℕ} → t ≡ put s at v → u ≡ put t (at + k) w → length v ≡ k
    → at + k + length w ≤ length s
    → u ≡ put s at (v ++ w)
put_next s v w at k e f l h = f ∙ ap (λ (x : List ℕ). put x (at + k) w) e ∙ put-beside s at k v w l h

module _ (p : Order) (ok : Packable p) where
  -- ---- the data of block k: the padding's zeros in the first, then the file's bytes from where it has come to

  pub chunk-is : (k : ℕ) → chunk p k
      ≡ replicate (padding_of (packed_header p).stream k) 0
      ++ part p.file (k * room p - padding p) (room p - padding_of (packed_header p).stream k)
  chunk-is zero =
      let zeros : List ℕ = replicate (padding p) 0 in
      let small : padding p < room p = padding-small p ok in
      let l : length zeros ≡ padding p = length-replicate (padding p) 0 in
      let e : room p ≡ length zeros + (room p - padding p) = omega arith in
      let f : 0 ≡ 0 * room p - padding p = omega arith in
      ap₂ (λ (x n : ℕ). take n (drop x (zeros ++ p.file))) (zero-mul (room p)) e
      ∙ take-append-add zeros p.file (room p - padding p)
      ∙ ap (λ (x : ℕ). zeros ++ part p.file x (room p - padding p)) f
  chunk-is (suc k) =
      let zeros : List ℕ = replicate (padding p) 0 in
      let small : padding p < room p = padding-small p ok in
      let l : length zeros ≡ padding p = length-replicate (padding p) 0 in
      let e : suc k * room p ≡ length zeros + (suc k * room p - padding p) = omega arith in
      ap (λ (x : ℕ). take (room p) (drop x (zeros ++ p.file))) e
      ∙ ap (λ (t : List ℕ). take (room p) t) (drop-append-add zeros p.file (suc k * room p - padding p))
      ∙ ap (λ (n : ℕ). part p.file (suc k * room p - padding p) n) (sym (sub-zero (room p)))
      ∙ ap (λ (n : ℕ). replicate n 0 ++ part p.file (suc k * room p - padding p) (room p - n))
      (sym (unpadded (packed_header p).stream k))

  -- those bytes are in the file
  pub chunk-within : (k : ℕ) → k < blocks p
      → k * room p - padding p + (room p - padding_of (packed_header p).stream k) ≤ length p.file
  chunk-within zero h =
      let f : padding p + length p.file ≡ blocks p * room p = padding-fills p ok in
      omega (arith, within p ok zero h)
  chunk-within (suc k) h =
      let f : padding p + length p.file ≡ blocks p * room p = padding-fills p ok in
      let small : padding p < room p = padding-small p ok in
      rw unpadded (omega (arith, within p ok (suc k) h))

  -- ---- one more block, before those that are written

  pub block_written : (s : List ℕ) (start j k : ℕ) → k < blocks p → start + blocks p * p.block_size ≤ length s
      → drop (start + suc k * p.block_size) s ≡ blocks_from p j (suc k)
      → drop (start + k * p.block_size) (put s (start + k * p.block_size) (link p j (suc k) ++ chunk p k)) ≡ blocks_from p (suc j) k
  block_written s start j k h fits e =
      let b : List ℕ = link p j (suc k) ++ chunk p k in
      let l : length b ≡ p.block_size = length-block p ok j k h in
      let at : ℕ = start + k * p.block_size in
      let f : at + length b ≡ start + suc k * p.block_size = omega arith in
      drop-put s at b (omega (arith, mul-le-mul_right p.block_size h))
      ∙ ap (λ (t : List ℕ). b ++ t) (ap (λ (x : ℕ). drop x s) f ∙ e)
      ∙ sym (blocks_more p j k)

  -- ---- before the blocks, signature field and header

  pub image-written : length p.ids ≡ 4 → (s : List ℕ) → length s ≡ image_length (packed_header p)
      → drop (36 + sum_length p.ids + p.signature) s ≡ blocks_from p (blocks p) 0
      → put (put s (36 + sum_length p.ids) (replicate p.signature 0)) 0 (header_bytes (packed_header p)) ≡ image p
  unfolding image
  image-written four s n e =
      let h : List ℕ = header_bytes (packed_header p) in
      let z : List ℕ = replicate p.signature 0 in
      let at : ℕ = 36 + sum_length p.ids in
      let zl : length z ≡ p.signature = length-replicate p.signature 0 in
      let r : length (link p (blocks p) 0) ≡ sum_length p.ids = length-link p (blocks p) 0 in
      let l : 0 + length h ≡ at = omega (arith, length-header (packed_header p) four) in
      ap (λ (t : List ℕ). h ++ t)
      (ap (λ (x : ℕ). drop x (put s at z)) l
      ∙ drop-put s at z (omega arith)
      ∙ ap (λ (t : List ℕ). z ++ t) (ap (λ (x : ℕ). drop (at + x) s) zl ∙ e))
      ∙ sym (append_assoc h z (blocks_from p (blocks p) 0))
