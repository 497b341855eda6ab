-- Load beside open and a bare run: the calls agree.
use mathlib.Core.Bool.{Bool, true, false, not, ◌||◌, cond}
use mathlib.Core.Path.{◌≡◌, refl, sym, ap, ap₂, subst, ◌∙◌}
use mathlib.Core.List.{List, [], ◌∷◌, ◌++◌}
use mathlib.Core.Logic.{◌⊎◌, inl, inr, ◌≢◌}
use Prim.Native.Nat.{ℕ, suc, ◌^◌, ◌≤◌, ◌<◌}
use native.Mathlib.Omega.{arith}
use borrow.Author.Tests.{eqb-true, eqb-false, le-ltb, not-false}
use lib.Dec.{T, T_not, eqb}
use lib.ListN.{length, take, replicate, length-replicate}
use Rattle.octets.specs.Parts.{put}
use Rattle.answers.specs.Answers.{Outcome, answered, answer_after, written_after, refused, record_length, stop_at}
use Rattle.answers.specs.Rules.{Rule, rule, first_broken, signature_rules, size_rules}
use Rattle.answers.specs.declared.Answer.{Answer}
use Rattle.answers.specs.declared.Stop.{Stop}
use Rattle.answers.proofs.ChoiceLaws.{cond-eq, cond-ne}
use Rattle.answers.proofs.OutcomeLaws.{given}
use Rattle.answers.proofs.RuleLaws.{both_hold, first-broken-append, refuses, goes_on, holds-behind, zero-all-hold, code-passes}
use Rattle.board.specs.Cpuid.{table_rules}
use Rattle.board.specs.Map.{regions, map_rules}
use Rattle.board.specs.Reach.{mode_rules}
use Rattle.chain.specs.Blocks.{block_code, file_up_to}
use Rattle.chain.specs.Hashsum.{sum_length}
use Rattle.chain.specs.Header.{header_size_for, file_length, image_rules, stream_rules}
use Rattle.chain.specs.Open.{open_rules, open_answer, proved_file, opened}
use Rattle.chain.specs.Pack.{Order, packed}
use Rattle.chain.proofs.BlockLaws.{proved-le}
use Rattle.chain.proofs.GivenCodes.{among, OpenWay, open-way, block-code}
use Rattle.chain.proofs.HeaderLaws.{stream-passed}
use Rattle.chain.proofs.OpenLaws.{ButSignature, unwritten, refusing, proving, outcome, opened-is, outcome-zero, outcome-done}
use Rattle.chain.proofs.Theorems.{open-of-pack}
use Rattle.machine.specs.Bare.{Bare, bare_rules, bare_answer_made, bare_stores_made, run_bare}
use Rattle.machine.specs.Machine.{Setting, State, Store, setting_of, begun, run, trace, halted, stop_or, answer_of}
use Rattle.machine.specs.Memory.{applied}
use Rattle.machine.specs.declared.Phase.{Phase}
use Rattle.machine.specs.declared.Phase.TheVariants.{Stopped}
use Rattle.machine.proofs.ReachedLaws.{reached-ended}
use Rattle.machine.proofs.Standing.{Ended, at-end, at-magic, at-command, without-entry, Running}
use Rattle.machine.proofs.Theorems.{done-needs-all-bytes}
use Rattle.loader.proofs.Images.{all_blocks, offer}
use Rattle.loader.proofs.LoadLaws.{ImagePassed, taken, whole-file, file-short, all-stopped, first_bad, answer_at, answer-ways}
use Rattle.loader.specs.Load.{Offer, load_rules, header, block, setting, proved_blocks, ended, state_after, stores_after}
use Rattle.loader.specs.Load.{load_answer, answer_made, stores_made, loaded}

-- ---- an image that opens

-- an image that passes 1 and 4 to 12, and all of whose blocks are proved
pub record Opens (o : Offer) : Type 0 where
  pub rules : first_broken (stream_rules o.image o.approved o.signature) ≡ 0
  pub all : proved_blocks o ≡ (header o).stream.count

abbrev pub file : Offer → List ℕ
file o = file_up_to (header o).stream (block o) (header o).stream.count

module _ (o : Offer) (output old : List ℕ) where
  abbrev call : Outcome
  call = opened o.image o.approved o.signature output old

  abbrev code_of_open : ℕ
  code_of_open = first_broken (open_rules o.image o.approved o.signature (length output))

  abbrev length_rule : List Rule
  length_rule = rule 29 (not (eqb (length output) (file_length (header o).stream))) ∷ []

  -- where open gives 0, the image opens, and what it gives is the file
  pub open_gives : call.code ≡ 0 → Opens o × (call.lent ≡ file o)
  open_gives e =
      let is = opened-is o.image o.approved o.signature output old in
      let (none, fits, all) = outcome-zero (header o) (block o) code_of_open output old (sym (ap (λ (x : Outcome). x.code) is) ∙ e) in
      let r = both_hold (stream_rules o.image o.approved o.signature) length_rule tt none in
      let q = (stream-passed o.image o.approved o.signature r.0).1 in
      let l : length output ≡ file_length (header o).stream =
      eqb-true (length output) (file_length (header o).stream) (not-false _ (zero-all-hold length_rule tt r.1).0) in (
        record { rules = r.0; all = all },
        ap (λ (x : Outcome). x.lent)
            (is
            ∙ ap (λ (c : ℕ). outcome c (header o) (block o) output old) none
            ∙ outcome-done (header o) (block o) all output old fits (l ∙ sym (whole-file o q))),
      )

-- ---- load of an image that opens is a bare run of its file

-- the bare run of a file with the offer's map, table and mode
abbrev pub bare_of : Offer → List ℕ → Bare
bare_of o bytes = record { file = bytes; map = o.map; table = o.table; mode = o.mode }

module _ (o : Offer) (h : Opens o) where
  sound : ImagePassed o
  sound = (stream-passed o.image o.approved o.signature h.rules).1

  -- the file is not over 2^30 bytes where the image is not
  file-small : length (file o) ≤ 2 ^ 30
  file-small =
      rw (whole-file o sound)
      (file-short o sound (stream-passed o.image o.approved o.signature h.rules).0.small)

  same_code : (memory : ℕ) → first_broken (load_rules o memory) ≡ first_broken (bare_rules (bare_of o (file o)) memory)
  same_code memory =
      let first : List Rule = signature_rules o.signature ++ size_rules (length o.image) in
      let rest : List Rule = map_rules o.map memory ++ table_rules o.table in
      let image : List Rule = image_rules o.image o.approved o.signature in
      let (f, i) = both_hold first image tt h.rules in
      ap (cond (not (eqb o.mode 32 || eqb o.mode 64)) 1)
      (goes_on first (rest ++ image) (first_broken first) tt refl f
      ∙ holds-behind rest image i
      ∙ sym (ap (λ (b : Bool). cond b 1 (first_broken rest)) (le-ltb (2 ^ 30) (length (file o)) file-small)))

  -- the machine has stopped at the end of the file
  whole-answer : (otherwise : Stop)
      → load_answer o
      ≡ answer_of (stop_or otherwise (halted (state_after o (header o).stream.count).phase)) (state_after o (header o).stream.count).tally
  whole-answer otherwise =
      let (stop, e) = all-stopped o sound in
      let s : State = state_after o (header o).stream.count in
      ap (λ (k : ℕ). answer_of (stop_or (first_bad o) (halted (state_after o k).phase)) (state_after o k).tally) h.all
      ∙ ap (λ (p : Phase). answer_of (stop_or (first_bad o) (halted p)) s.tally) e
      ∙ sym (ap (λ (p : Phase). answer_of (stop_or otherwise (halted p)) s.tally) e)

  pub loads-as-bare : (memory old : List ℕ) → loaded o memory old ≡ run_bare (bare_of o (file o)) memory old
  unfolding loaded run_bare
  loads-as-bare memory old =
      ap₂ (λ (a : Answer) (xs : List Store). answered old a memory (applied (regions o.map) memory xs)) answers made
    where
      n : ℕ
      n = length memory

      on : ℕ → Setting
      on size = setting_of (record { length = size; mode = o.mode }) o.map o.table

      -- by the code so far and the file's length
      answer_by : ℕ → ℕ → Answer
      answer_by early size =
          let end = run (on size) (begun size) (file o) in
          answer_after early (answer_of (stop_or (stop_at 27 size) (halted end.phase)) end.tally)

      stores_by : ℕ → ℕ → List Store
      stores_by early size = written_after early (trace (on size) (begun size) (file o))

      answers : answer_made o n ≡ bare_answer_made (bare_of o (file o)) n
      answers =
          ap (answer_after (first_broken (load_rules o n))) (whole-answer (stop_at 27 (file_length (header o).stream)))
          ∙ ap₂ answer_by (same_code n) (sym (whole-file o sound))

      made : stores_made o n ≡ bare_stores_made (bare_of o (file o)) n
      made =
          ap (λ (k : ℕ). written_after (first_broken (load_rules o n)) (stores_after o k)) h.all
          ∙ ap₂ stores_by (same_code n) (sym (whole-file o sound))

-- ---- load of what the packer made, whatever the signature field then holds, is a bare run of the file

pub load-of-pack : (p : Order) (blank : List ℕ) → length p.ids ≡ 4 → (packed p blank).code ≡ 0
    → (image' : List ℕ) → ButSignature (header_size_for (sum_length p.ids)) p.signature (packed p blank).output image'
    → (map table : List ℕ) (mode : ℕ) (memory old : List ℕ)
    → loaded (offer (take (header_size_for (sum_length p.ids)) (packed p blank).output) map table mode p.signature image') memory old
    ≡ run_bare (record { file = p.file; map = map; table = table; mode = mode }) memory old
load-of-pack p blank four e image' but map table mode memory old =
    let o : Offer = offer (take (header_size_for (sum_length p.ids)) (packed p blank).output) map table mode p.signature image' in
    let zeros : List ℕ = replicate record_length 0 in
    let opens = open-of-pack p blank four e image' but p.file zeros refl (length-replicate {A = ℕ} record_length 0) in
    let g = open_gives o p.file zeros (ap (λ (x : Outcome). x.code) opens) in
    loads-as-bare o g.0 memory old
    ∙ ap (λ (f : List ℕ). run_bare (bare_of o f) memory old) (sym g.1 ∙ ap (λ (x : Outcome). x.lent) opens)

-- ---- where open refuses before any block, or stops at one

-- 4 to 12
abbrev pub header_codes : List ℕ
header_codes = 4 ∷ 5 ∷ 6 ∷ 7 ∷ 8 ∷ 9 ∷ 10 ∷ 11 ∷ 12 ∷ []

-- 13 to 15
abbrev pub block_codes : List ℕ
block_codes = 13 ∷ 14 ∷ 15 ∷ []

-- the arguments that load has and open has not are taken
abbrev pub ArgumentsTaken : Offer → ℕ → Type 0
ArgumentsTaken o memory = first_broken (mode_rules o.mode ++ map_rules o.map memory ++ table_rules o.table) ≡ 0

module _ (o : Offer) where
  abbrev stream : ℕ
  stream = first_broken (stream_rules o.image o.approved o.signature)

  same-early : (memory : ℕ) → ArgumentsTaken o memory → first_broken (load_rules o memory) ≡ stream
  same-early memory fits =
      let first : List Rule = signature_rules o.signature ++ size_rules (length o.image) in
      let rest : List Rule = map_rules o.map memory ++ table_rules o.table in
      let image : List Rule = image_rules o.image o.approved o.signature in
      let (m, r) = both_hold (mode_rules o.mode) rest tt fits in
      goes_on (mode_rules o.mode) (first ++ rest ++ image) (first_broken (mode_rules o.mode)) tt refl m
      ∙ first-broken-append first (rest ++ image) tt
      ∙ ap (λ (c : ℕ). cond (eqb (first_broken first) 0) c (first_broken first)) (goes_on rest image (first_broken rest) tt refl r)
      ∙ sym (first-broken-append first image tt)

  -- open's answer where it stops at a block
  abbrev pub open_tells : Answer
  open_tells = open_answer (header o) (block o)

  -- the machine has refused within the proved bytes
  pub record RefusedEarlier (a : Answer) : Type 0 where
    pub stop : Stop
    pub stopped : (ended o).phase ≡ Stopped stop
    pub from : 16 ≤ stop.code
    pub to : stop.code ≤ 27
    pub answer : a ≡ answer_at o stop

  -- it stops behind the proved blocks, of which there are not all
  pub record StopsAt (output old : List ℕ) : Type 0 where
    pub rules : stream ≡ 0
    pub fewer : proved_blocks o < (header o).stream.count
    pub tells : call o output old ≡ given open_tells (put output 0 (proved_file (header o) (block o)))
    pub code : open_tells.code ≡ block_code (header o) (block o) (proved_blocks o)
    pub place : open_tells.place ≡ suc (proved_blocks o)

  module _ (output old : List ℕ) (whole : length old ≡ record_length) where
    -- what open does
    abbrev opened_way : Type 0
    opened_way = OpenWay o.image o.approved o.signature output old

    opens-so : opened_way
    opens-so = open-way o.image o.approved o.signature output old

    -- where nothing is broken up to 12, open gives another code
    open-later : stream ≡ 0 → T (not (among header_codes (call o output old).code))
    open-later e = go opens-so
      where
        Later : ℕ → Type 0
        Later c = T (not (among header_codes c))

        go : opened_way → Later (call o output old).code
        go (unwritten l q) = absurd (l whole)
        go (refusing l c q) =
            subst (λ (x : Outcome). Later x.code) (sym q)
            (subst Later (sym (goes_on (stream_rules o.image o.approved o.signature) (length_rule o output old) stream tt refl e))
            (code-passes (λ (c : ℕ). not (among header_codes c)) (length_rule o output old) tt tt))
        go (proving l c q) =
            subst (λ (x : Outcome). Later x.code) (sym q)
            (block-code o.image o.approved o.signature output old (λ (c : ℕ). not (among header_codes c)) tt tt)

    open-sooner : stream ≢ 0 → (call o output old).code ≡ stream
    open-sooner ne = go opens-so
      where
        same : stream ≡ code_of_open o output old
        same = refuses (stream_rules o.image o.approved o.signature) (length_rule o output old) stream tt refl ne

        go : opened_way → (call o output old).code ≡ stream
        go (unwritten l q) = absurd (l whole)
        go (refusing l c q) = ap (λ (x : Outcome). x.code) q ∙ sym same
        go (proving l c q) = absurd (ne (same ∙ c))

    -- 4 to 12 come from both
    pub header-agrees : (memory : ℕ) → ArgumentsTaken o memory → T (among header_codes (call o output old).code)
        → answer_made o memory ≡ refused (call o output old).code
    header-agrees memory fits t = go (eqb stream 0) refl
      where
        go : (b : Bool) → eqb stream 0 ≡ b → answer_made o memory ≡ refused (call o output old).code
        go true e = absurd (T_not (among header_codes (call o output old).code) (open-later (eqb-true stream 0 e)) t)
        go false e =
            let n : stream ≢ 0 = eqb-false stream 0 e in
            ap (λ (c : ℕ). answer_after c (load_answer o)) (same-early memory fits)
            ∙ cond-ne stream 0 (load_answer o) (refused stream) n
            ∙ ap refused (sym (open-sooner n))

    pub stops_at : T (among block_codes (call o output old).code) → StopsAt output old
    stops_at t = go opens-so
      where
        m : ℕ
        m = proved_blocks o

        n : ℕ
        n = (header o).stream.count

        not-all : (b : Bool) → T (among block_codes (cond b (stop_at 0 0) (first_bad o)).code) → b ≡ false
        not-all true z = absurd z
        not-all false z = refl

        go : opened_way → StopsAt output old
        go (unwritten l q) = absurd (l whole)
        go (refusing l c q) =
            absurd
            (T_not (among block_codes (code_of_open o output old))
            (code-passes (λ (x : ℕ). not (among block_codes x)) (open_rules o.image o.approved o.signature (length output)) tt tt)
            (subst (λ (x : Outcome). T (among block_codes x.code)) q t))
        go (proving l c q) =
            let e : eqb m n ≡ false = not-all (eqb m n) (subst (λ (x : Outcome). T (among block_codes x.code)) q t) in
            let ne : m ≢ n = eqb-false m n e in
            record {
              rules = (both_hold (stream_rules o.image o.approved o.signature) (length_rule o output old) tt c).0;
              fewer = omega (arith, proved-le (header o) (block o) n);
              tells = q;
              code = ap (λ (b : Bool). (cond b (stop_at 0 0) (first_bad o)).code) e;
              place = ap (λ (b : Bool). (cond b (stop_at 0 0) (first_bad o)).place) e;
            }

    pub stop-agrees : (memory : ℕ) → ArgumentsTaken o memory → StopsAt output old
        → RefusedEarlier (answer_made o memory) ⊎ (answer_made o memory ≡ answer_at o (stop_at open_tells.code open_tells.place))
    stop-agrees memory fits at = go (answer-ways o)
      where
        early : ℕ
        early = first_broken (load_rules o memory)

        none : early ≡ 0
        none = same-early memory fits ∙ at.rules

        bytes : List ℕ
        bytes = proved_file (header o) (block o)

        made : answer_made o memory ≡ load_answer o
        made = cond-eq early 0 (load_answer o) (refused early) none

        refusal : (stop : Stop) → (ended o).phase ≡ Stopped stop → Ended (setting o) (ended o) stop → (16 ≤ stop.code) × (stop.code ≤ 27)
        refusal stop e (at-end z n f) =
            absurd
            (let e₀ : (ended o).phase ≡ Stopped (stop_at 0 stop.place) = e ∙ ap (λ (c : ℕ). Stopped (stop_at c stop.place)) z in
            omega (arith, at.fewer, all_blocks o memory (taken o memory none) (done-needs-all-bytes (setting o) bytes e₀)))
        refusal stop e (at-magic z n) = (omega (arith, z), omega (arith, z))
        refusal stop e (at-command l u) = (omega (arith, l), omega (arith, u))
        refusal stop e (without-entry z n f) = (omega (arith, z), omega (arith, z))

        go : ((stop : Stop) × ((ended o).phase ≡ Stopped stop) × (load_answer o ≡ answer_at o stop))
            ⊎ (Running (ended o).phase × (load_answer o ≡ answer_at o (first_bad o)))
            → RefusedEarlier (answer_made o memory) ⊎ (answer_made o memory ≡ answer_at o (stop_at open_tells.code open_tells.place))
        go (inl (stop, e, a)) =
            let r = refusal stop e (reached-ended (setting o) (ended o) (bytes, refl) e) in
            inl (record { stop = stop; stopped = e; from = r.0; to = r.1; answer = made ∙ a })
        go (inr (r, a)) =
            inr (made ∙ a ∙ sym (ap₂ (λ (c p : ℕ). answer_at o (stop_at c p)) at.code at.place))
