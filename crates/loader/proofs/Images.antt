-- Two images: the stores of both under one approved header, and that neither signature fields nor reserved bytes are read.
use mathlib.Core.Bool.{Bool, true, false, cond}
use mathlib.Core.Path.{◌≡◌, refl, sym, ap, ap₂, ◌∙◌}
use mathlib.Core.List.{List, [], ◌++◌}
use mathlib.Core.Logic.{◌⊎◌, inl, inr, ⊎_elim, ◌≢◌}
use Prim.Native.Nat.{ℕ, ◌≤◌, ◌<◌}
use native.Mathlib.Nat.{eq-or-lt_of_le, le_of_lt, mul-le-mul_right, suc-mul}
use native.Mathlib.Omega.{arith}
use borrow.Author.Tests.{eqb-true, eqb-false}
use lib.Dec.{eqb}
use lib.ListN.{length, take, drop, take-append-drop}
use Rattle.std.specs.Prelude.{unwrap_or}
use Rattle.answers.specs.Answers.{Outcome, answered, answer_after, written_after, refused, stop_at}
use Rattle.answers.specs.Rules.{Rule, first_broken, signature_rules, size_rules}
use Rattle.answers.specs.declared.Answer.{Answer}
use Rattle.answers.specs.declared.Stop.{Stop}
use Rattle.answers.proofs.ChoiceLaws.{cond-ne}
use Rattle.board.specs.Cpuid.{table_rules}
use Rattle.board.specs.Map.{regions, map_rules}
use Rattle.board.specs.Reach.{mode_rules}
use Rattle.chain.specs.Blocks.{block_of, bad_block, file_up_to}
use Rattle.chain.specs.Blocks as blocks
use Rattle.chain.specs.Hashsum.{hashsum}
use Rattle.chain.specs.Header.{Header, header_of, file_length, image_rules}
use Rattle.chain.proofs.BlockLaws.{Agree, proved-le, file-agrees, file-begins, length-file}
use Rattle.chain.proofs.HeaderLaws.{stream-passes, block_data}
use Rattle.chain.proofs.OpenLaws.{Alike, blocks-same, image-rules-same, ButReserved, reserved-header, reserved-rules, reserved-blocks}
use Rattle.chain.proofs.StreamLaws.{Collision, streams}
use Rattle.machine.specs.Machine.{Setting, State, Store, setting_of, begun, run, trace, halted, stop_or, answer_of}
use Rattle.machine.specs.Memory.{applied}
use Rattle.machine.specs.declared.Phase.TheVariants.{Stopped}
use Rattle.machine.proofs.Runs.{ran, made, run-append, trace-append, run-stopped, trace-stopped}
use Rattle.machine.proofs.Theorems.{done-needs-all-bytes}
use Rattle.loader.proofs.LoadLaws.{Taken, taken, sized, proved_bytes, answer_at, load-cases}
use Rattle.loader.specs.Load.{Offer, load_rules, header, block, setting, proved_blocks, ended, stores, answer_made, stores_made, loaded}

-- ---- an image that loads

-- what an answer of 0 says, and the stores behind it
pub record Loads (o : Offer) (memory : ℕ) (a : Answer) (xs : List Store) : Type 0 where
  pub taken : Taken o memory
  pub place : ℕ
  pub stopped : (ended o).phase ≡ Stopped (stop_at 0 place)
  -- every block is proved
  pub all : proved_blocks o ≡ (header o).stream.count
  pub answer : a ≡ answer_at o (stop_at 0 place)
  pub stored : xs ≡ stores o

module _ (o : Offer) (memory : ℕ) where
  -- fewer blocks hold less than the file
  pub all_blocks : Taken o memory → file_length (header o).stream ≤ length (proved_bytes o)
      → proved_blocks o ≡ (header o).stream.count
  all_blocks t whole =
      let d : Header = header o in
      let m : ℕ = proved_blocks o in
      let q = t.image in
      let l : m ≤ d.stream.count = proved-le d (block o) d.stream.count in
      ⊎_elim (λ e. e)
      (λ s. absurd
      (omega (
        arith,
        whole,
        length-file d.stream (block o) m (λ k h. sized o q k (omega arith)) (le_of_lt q.sound.padded),
        mul-le-mul_right (block_data d.stream) s,
        suc-mul m (block_data d.stream),
        q.sound.padded,
      )))
      (eq-or-lt_of_le l)

  pub loads : (answer_made o memory).code ≡ 0 → Loads o memory (answer_made o memory) (stores_made o memory)
  loads =
      load-cases o (λ (a : Answer) (xs : List Store). a.code ≡ 0 → Loads o memory a xs) memory (λ code l u z. absurd (omega arith))
      (λ t stop e h z.
      let e₀ : (ended o).phase ≡ Stopped (stop_at 0 stop.place) = e ∙ ap (λ (c : ℕ). Stopped (stop_at c stop.place)) z in
      record {
        taken = t;
        place = stop.place;
        stopped = e₀;
        all = all_blocks t (done-needs-all-bytes (setting o) (proved_bytes o) e₀);
        answer = ap (λ (c : ℕ). answer_at o (stop_at c stop.place)) z;
        stored = refl;
      })
      (λ t s r l u z. absurd (omega arith))

-- ---- two images under one header

module _ (approved map table : List ℕ) (mode signature : ℕ) where
  abbrev pub offer : List ℕ → Offer
  offer image =
      record { image = image; approved = approved; map = map; table = table; mode = mode; signature = signature }

  abbrev d : Header
  d = header_of approved

  abbrev on : Setting
  on = setting_of (record { length = file_length d.stream; mode = mode }) map table

  -- the second one's stores are a first part of the first one's, in order; done only if they are all of them, and
  -- then with the same entry
  pub record FirstPart (image : List ℕ) (memory : ℕ) (a' : Answer) (xs' : List Store) : Type 0 where
    pub rest : List Store
    pub split : stores_made (offer image) memory ≡ xs' ++ rest
    pub done : a'.code ≡ 0 → (rest ≡ []) × (a'.entry ≡ (answer_made (offer image) memory).entry)

  -- two different blocks with equal hashsums, at one number: blocks of two images that both pass 1 to 12, whole, and proved in both
  pub record BlocksCollide (image image' : List ℕ) (memory : ℕ) : Type 0 where
    pub first : Taken (offer image) memory
    pub second : Taken (offer image') memory
    pub number : ℕ
    pub among : number < d.stream.count
    pub proved : number < proved_blocks (offer image)
    pub proved' : number < proved_blocks (offer image')
    pub whole : length (block_of image d number) ≡ d.stream.block_size
    pub whole' : length (block_of image' d number) ≡ d.stream.block_size
    pub differ : block_of image d number ≢ block_of image' d number
    pub collide : hashsum d.stream.ids (block_of image d number) ≡ hashsum d.stream.ids (block_of image' d number)

  module _ (image image' : List ℕ) (memory : ℕ)
      (first : Loads (offer image) memory (answer_made (offer image) memory) (stores_made (offer image) memory)) where
    abbrev block₁ : ℕ → List ℕ
    block₁ = block_of image d

    abbrev block₂ : ℕ → List ℕ
    block₂ = block_of image' d

    abbrev m₂ : ℕ
    m₂ = blocks.proved_blocks d block₂

    -- the file, and the bytes of it that the second one's proved blocks hold, and what the first one has behind them
    abbrev file : List ℕ
    file = file_up_to d.stream block₁ d.stream.count

    abbrev bytes₂ : List ℕ
    bytes₂ = file_up_to d.stream block₂ m₂

    abbrev behind : List ℕ
    behind = drop (length bytes₂) file

    file-splits : Agree m₂ block₁ block₂ → file ≡ bytes₂ ++ behind
    file-splits a =
        let e : file_up_to d.stream block₁ m₂ ≡ bytes₂ = file-agrees d.stream block₁ block₂ m₂ a in
        sym (take-append-drop (length bytes₂) file)
        ∙ ap (λ (f : List ℕ). f ++ behind)
        (ap (λ (f : List ℕ). take (length f) file) (sym e)
        ∙ file-begins d.stream block₁ m₂ d.stream.count (proved-le d block₂ d.stream.count)
        ∙ e)

    module _ (a : Agree m₂ block₁ block₂) where
      stores-split : stores_made (offer image) memory ≡ made on bytes₂ ++ trace on (ran on bytes₂) behind
      stores-split =
          first.stored
          ∙ ap (λ (k : ℕ). made on (file_up_to d.stream block₁ k)) first.all
          ∙ ap (made on) (file-splits a)
          ∙ trace-append on (begun (file_length d.stream)) bytes₂ behind

      ends_on : ended (offer image) ≡ run on (ran on bytes₂) behind
      ends_on =
          ap (λ (k : ℕ). ran on (file_up_to d.stream block₁ k)) first.all
          ∙ ap (ran on) (file-splits a)
          ∙ run-append on (begun (file_length d.stream)) bytes₂ behind

      part-stopped : (stop : Stop) → (ran on bytes₂).phase ≡ Stopped stop
          → FirstPart image memory (answer_of stop (ran on bytes₂).tally) (made on bytes₂)
      part-stopped stop e =
          record {
            rest = trace on (ran on bytes₂) behind;
            split = stores-split;
            done = λ z. (
              trace-stopped on (ran on bytes₂) behind e,
              ap (λ (c : ℕ). cond (eqb c 0) (unwrap_or (ran on bytes₂).tally.entry 0) 0) z
                  ∙ sym (ap (λ (s : State). unwrap_or s.tally.entry 0) (ends_on ∙ run-stopped on (ran on bytes₂) behind e))
                  ∙ sym (ap (λ (x : Answer). x.entry) first.answer),
            );
          }

      part-bad : (stop : Stop) → stop.code ≢ 0 → FirstPart image memory (answer_of stop (ran on bytes₂).tally) (made on bytes₂)
      part-bad stop n = record { rest = trace on (ran on bytes₂) behind; split = stores-split; done = λ z. absurd (n z) }

    -- the second one passes 1 to 12 too: as far as its blocks are proved they are the first one's, or two blocks collide
    agree-or-collide : Taken (offer image') memory → Agree m₂ block₁ block₂ ⊎ BlocksCollide image image' memory
    agree-or-collide t =
        let l : m₂ ≤ d.stream.count = proved-le d block₂ d.stream.count in
        let all : proved_blocks (offer image) ≡ d.stream.count = first.all in
        ⊎_elim inl (λ c. inr (whole-blocks c))
        (streams d block₁ block₂ d.stream.count d.stream.count m₂ (omega arith) (omega arith))
      where
        whole-blocks : Collision d m₂ block₁ block₂ d.stream.count d.stream.count → BlocksCollide image image' memory
        whole-blocks c =
            let l : m₂ ≤ d.stream.count = proved-le d block₂ d.stream.count in
            let n : c.number < m₂ = c.among in
            let below : c.number < d.stream.count = omega arith in
            record {
              first = first.taken;
              second = t;
              number = c.number;
              among = below;
              proved = c.first;
              proved' = c.second;
              whole = sized (offer image) first.taken.image c.number below;
              whole' = sized (offer image') t.image c.number below;
              differ = c.differ;
              collide = c.collide;
            }

    pub first_part : FirstPart image memory (answer_made (offer image') memory) (stores_made (offer image') memory)
        ⊎ BlocksCollide image image' memory
    first_part =
        load-cases (offer image') (λ (a : Answer) (xs : List Store). FirstPart image memory a xs ⊎ BlocksCollide image image' memory) memory
        (λ code l u. inl (record { rest = stores_made (offer image) memory; split = refl; done = λ z. absurd (omega arith) }))
        (λ t stop e h. ⊎_elim (λ a. inl (part-stopped a stop e)) inr (agree-or-collide t))
        (λ t s r l u. ⊎_elim (λ a. inl (part-bad a (bad_block d block₂ m₂) (λ z. omega (arith, z)))) inr (agree-or-collide t))

-- ---- images that are judged alike

module _ (map table : List ℕ) (mode signature : ℕ) where
  -- what load does by its code so far, its header and its blocks
  abbrev outcome : ℕ → Header → (ℕ → List ℕ) → List ℕ → List ℕ → Outcome
  outcome early d block memory old =
      let on = setting_of (record { length = file_length d.stream; mode = mode }) map table in
      let m = blocks.proved_blocks d block in
      let bytes = file_up_to d.stream block m in
      let end = ran on bytes in
      answered old (answer_after early (answer_of (stop_or (bad_block d block m) (halted end.phase)) end.tally)) memory
      (applied (regions map) memory (written_after early (made on bytes)))

  -- an early refusal sees no block, so streams that are the same where nothing is broken get the same
  outcome-blocks : (early : ℕ) (d : Header) (block block' : ℕ → List ℕ) (memory old : List ℕ) → (early ≡ 0 → block ≡ block')
      → outcome early d block memory old ≡ outcome early d block' memory old
  outcome-blocks early d block block' memory old f = go (eqb early 0) refl
    where
      sees-none : (b : ℕ → List ℕ) → early ≢ 0
          → outcome early d b memory old ≡ answered old (refused early) memory (applied (regions map) memory [])
      sees-none b n =
          ap₂ (λ (a : Answer) (xs : List Store). answered old a memory (applied (regions map) memory xs))
          (cond-ne early 0 _ (refused early) n) (cond-ne early 0 _ [] n)

      go : (t : Bool) → eqb early 0 ≡ t → outcome early d block memory old ≡ outcome early d block' memory old
      go true e = ap (λ (b : ℕ → List ℕ). outcome early d b memory old) (f (eqb-true early 0 e))
      go false e =
          let n : early ≢ 0 = eqb-false early 0 e in
          sees-none block n ∙ sym (sees-none block' n)

  -- 1, 2 and 3 see the image's length alone
  abbrev rules_by : ℕ → ℕ → List Rule → List Rule
  rules_by memory size rules =
      mode_rules mode ++ signature_rules signature ++ size_rules size ++ map_rules map memory ++ table_rules table ++ rules

  rules-same : (image approved image' approved' : List ℕ) → length image ≡ length image'
      → image_rules image approved signature ≡ image_rules image' approved' signature → (memory : ℕ)
      → load_rules (offer approved map table mode signature image) memory
      ≡ load_rules (offer approved' map table mode signature image') memory
  rules-same image approved image' approved' size rules memory = ap₂ (rules_by memory) size rules

  module _ (image approved : List ℕ) where
    abbrev o : Offer
    o = offer approved map table mode signature image

    -- by the header of the first and the blocks of both
    same_blocks : (block : ℕ → List ℕ) (memory old : List ℕ) → (Taken o (length memory) → block_of image (header_of approved) ≡ block)
        → loaded o memory old ≡ outcome (first_broken (load_rules o (length memory))) (header_of approved) block memory old
    unfolding loaded
    same_blocks block memory old f =
        outcome-blocks (first_broken (load_rules o (length memory))) (header_of approved) (block_of image (header_of approved)) block memory old
        (λ e. f (taken o (length memory) e))

    -- images that differ only in their signature fields
    pub loaded-same : (image' memory old : List ℕ) → Alike approved signature image image'
        → loaded o memory old ≡ loaded (offer approved map table mode signature image') memory old
    unfolding loaded
    loaded-same image' memory old b =
        let d : Header = header_of approved in
        same_blocks (block_of image' d) memory old
        (λ t. blocks-same d image image' (b.rest (stream-passes image approved signature t.allowed t.image)))
        ∙ ap (λ (rs : List Rule). outcome (first_broken rs) d (block_of image' d) memory old)
        (rules-same image approved image' approved b.size
        (image-rules-same image image' approved signature b.size b.front) (length memory))

    -- images and approved headers that differ only in the header's reserved bytes
    pub loaded-reserved : (image' approved' memory old : List ℕ) → ButReserved image approved image' approved'
        → loaded o memory old ≡ loaded (offer approved' map table mode signature image') memory old
    unfolding loaded
    loaded-reserved image' approved' memory old b =
        same_blocks (block_of image' (header_of approved)) memory old
        (λ t. reserved-blocks image approved image' approved' b signature t.image)
        ∙ ap₂ (λ (rs : List Rule) (d : Header). outcome (first_broken rs) d (block_of image' d) memory old)
        (rules-same image approved image' approved' b.images.size
        (reserved-rules image approved image' approved' b signature) (length memory))
        (reserved-header image approved image' approved' b)
