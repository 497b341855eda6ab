-- What load is held to, each under the sentence that it carries.
use mathlib.Core.Bool.{Bool, false, ◌&&◌, cond}
use mathlib.Core.Path.{◌≡◌, refl, sym, ap, subst, ◌∙◌}
use mathlib.Core.List.Memᴰ
use mathlib.Core.List.{List, map, Memᴰ}
use mathlib.Core.Logic.{◌⊎◌, inl, inr, ◌≢◌, ◌↔◌}
use Prim.Native.Nat.{ℕ, suc, ◌+◌, ◌^◌, ◌≤◌, ◌<◌}
use native.Mathlib.Omega.{arith}
use borrow.Author.Tests.{ne_eqb, le-leb, lt-leb}
use lib.Dec.{T, leb, lit≤}
use lib.ListN.{length, get_or, take}
use Rattle.std.specs.Prelude.{unwrap_or}
use Rattle.octets.specs.Parts.{put}
use Rattle.answers.specs.Answers.{Outcome, refused, record_bytes, record_length, stop_at}
use Rattle.answers.specs.Rules.{first_broken}
use Rattle.answers.specs.declared.Answer.{Answer}
use Rattle.answers.specs.declared.Stop.{Stop}
use Rattle.answers.proofs.OutcomeLaws.{given, unwritten, answered-alike, answered-cases, answered-zero, concluded-done}
use Rattle.answers.proofs.RecordLaws.{Fit, record-injective}
use Rattle.board.specs.Map.{regions, map_rules, offset}
use Rattle.board.specs.Reach.{limit}
use Rattle.board.proofs.MapLaws.{Covered, ordered-holds, map-means}
use Rattle.board.proofs.Theorems.{IsRam, memory-byte-onto}
use Rattle.chain.specs.Blocks.{bad_block}
use Rattle.chain.specs.Hashsum.{sum_length}
use Rattle.chain.specs.Header.{header_of, header_size_for, file_length}
use Rattle.chain.specs.Open.{opened}
use Rattle.chain.specs.Pack.{Order, packed}
use Rattle.chain.proofs.GivenCodes.{among}
use Rattle.chain.proofs.OpenLaws.{SameBut, ButSignature, Alike, but-signature-alike, own-signature-alike, ButReserved, any-reserved}
use Rattle.machine.specs.Bare.{run_bare}
use Rattle.machine.specs.Commands.{address}
use Rattle.machine.specs.Machine.{Store, begun, trace, answer_of}
use Rattle.machine.specs.Memory.{applied}
use Rattle.machine.specs.declared.Phase.TheVariants.{Stopped}
use Rattle.machine.proofs.History.{NoEntry, LastEntry}
use Rattle.machine.proofs.Judging.{StoreOf}
use Rattle.machine.proofs.MemoryLaws.{length-applied}
use Rattle.machine.proofs.Places.{first_byte, Placed, done, no-magic, by-command, no-entry, NotStoring, stop-placed}
use Rattle.machine.proofs.Runs.{made, empty}
use Rattle.machine.proofs.Standing.{Ended, at-end, at-magic, at-command, without-entry, Running, range_length}
use Rattle.machine.proofs.Theorems.{store-inside, stored-counts-stores, stop-fits}
use Rattle.machine.proofs.Theorems as machine
use Rattle.loader.proofs.Calls.{bare_of, open_gives, loads-as-bare, open_tells, StopsAt, stops_at}
use Rattle.loader.proofs.Calls.{RefusedEarlier, ArgumentsTaken, stop-agrees, header_codes, block_codes, header-agrees}
use Rattle.loader.proofs.Calls as calls
use Rattle.loader.proofs.Cases as codes
use Rattle.loader.proofs.FileEnd.{commands_met, WholeFile, Enters, without-entry-file, file-without-entry, without-entry-comes}
use Rattle.loader.proofs.FileEnd.{done-file, file-done}
use Rattle.loader.proofs.Fold.{at_start, follow}
use Rattle.loader.proofs.Fold as fold
use Rattle.loader.proofs.Images.{loads, offer, FirstPart, BlocksCollide, first_part, loaded-same, loaded-reserved}
use Rattle.loader.proofs.LoadLaws.{Taken, file-short, blocks-few, proved_bytes, memory_made, load-answered, load-unwritten}
use Rattle.loader.proofs.LoadLaws.{load-cases, first_bad, bad_code, answer-ways}
use Rattle.loader.proofs.MemoryBytes.{ByteAfter, ToIndex, every-index, index-address, ram-covered}
use Rattle.loader.proofs.Refusals.{FoundFirst, unchanged, lent-unchanged, found-first-stores-nothing, none-done-stores-nothing}
use Rattle.loader.specs.Load.{Offer, load_rules, header, block, setting, proved_blocks, ended, stores}
use Rattle.loader.specs.Load.{load_answer, answer_made, stores_made, loaded}

-- codes that are always found before the first command: 1 to 12, and 16
abbrev pub Early : ℕ → Type 0
Early c = ((1 ≤ c) × (c ≤ 12)) ⊎ (c ≡ 16)

module _ (o : Offer) where
  -- ---- 1. What the call leaves

  -- What the call returns and leaves. With a record of its length: the code of the answer made, its record, and memory as the
  -- stores made leave it; with one of another length: 1, and nothing is written anywhere, whatever stores the image would cause.
  pub load-call : (memory old : List ℕ)
      → (length old ≡ record_length
      → loaded o memory old ≡ given (answer_made o (length memory)) (applied (regions o.map) memory (stores_made o (length memory))))
      × (length old ≢ record_length → loaded o memory old ≡ unwritten old memory)
  load-call memory old = (load-answered o memory old, load-unwritten o memory old)

  -- On every answer memory holds exactly the stores made before it, in order: the machine's over the proved bytes,
  -- or none where load was refused by 1 to 12 (`stores_made`).
  pub memory-is-the-stores : (memory old : List ℕ) → length old ≡ record_length
      → (loaded o memory old).lent ≡ applied (regions o.map) memory (stores_made o (length memory))
  memory-is-the-stores memory old fits = ap (λ (x : Outcome). x.lent) (load-answered o memory old fits)

  -- The record's bytes stored is their number.
  pub record-counts-stores : (memory : ℕ) → (answer_made o memory).stored ≡ length (stores_made o memory)
  record-counts-stores memory =
      load-cases o (λ (a : Answer) (xs : List Store). a.stored ≡ length xs) memory (λ code l u. refl)
      (λ t stop e q. stored-counts-stores (setting o) (proved_bytes o))
      (λ t s r l u. stored-counts-stores (setting o) (proved_bytes o))

  -- Every store is at an address in a region of the map and below the mode's reach limit.
  pub load-stores-inside : (memory : ℕ) (x : Store) → Memᴰ x (stores_made o memory)
      → Covered (regions o.map) x.address × (x.address < limit o.mode)
  load-stores-inside memory x =
      load-cases o
      (λ (a : Answer) (xs : List Store). Memᴰ x xs → Covered (regions o.map) x.address × (x.address < limit o.mode)) memory
      (λ code l u m. absurd (Memᴰ.not-nil m))
      (λ t stop e q m. store-inside (setting o) (proved_bytes o) x m)
      (λ t s r l u m. store-inside (setting o) (proved_bytes o) x m)

  -- Memory keeps its length, and outside the stores it never changes: each byte of it is as it was where no store goes to it,
  -- else the last such store's byte.
  pub memory-keeps-length : (memory old : List ℕ) → length (loaded o memory old).lent ≡ length memory
  unfolding loaded
  memory-keeps-length memory old =
      answered-cases old (answer_made o (length memory)) memory (memory_made o memory) (λ (x : Outcome). length x.lent ≡ length memory)
      (λ e. length-applied (regions o.map) memory (stores_made o (length memory))) (λ n. refl)

  pub every_byte : (memory old : List ℕ) → length old ≡ record_length → (i : ℕ) → i < length memory
      → ByteAfter (λ (x : Store). offset (regions o.map) x.address ≡ i) (stores_made o (length memory)) (get_or memory i 0)
      (get_or (loaded o memory old).lent i 0)
  every_byte memory old fits i inside =
      subst
      (λ (after : List ℕ). ByteAfter (ToIndex (regions o.map) i) (stores_made o (length memory)) (get_or memory i 0) (get_or after i 0))
      (sym (memory-is-the-stores memory old fits)) (every-index (regions o.map) i memory (stores_made o (length memory)) inside)

  -- Said over addresses: with a map that is taken each byte of memory is that of exactly one address of RAM, and the stores
  -- that go to it are those at that address.
  pub every-address : (memory old : List ℕ) → length old ≡ record_length → first_broken (map_rules o.map (length memory)) ≡ 0
      → (i : ℕ) → i < length memory
      → (a : ℕ) × IsRam o.map a × (offset (regions o.map) a ≡ i)
      × ((b : ℕ) → IsRam o.map b → offset (regions o.map) b ≡ i → b ≡ a)
      × ByteAfter (λ (x : Store). x.address ≡ a) (stores_made o (length memory)) (get_or memory i 0) (get_or (loaded o memory old).lent i 0)
  every-address memory old fits taken i inside =
      let (a, ram, at, only) = memory-byte-onto o.map (length memory) taken i inside in (
        a,
        ram,
        at,
        only,
        index-address (regions o.map) i (map-means o.map (length memory) taken).order a (ram-covered o.map a ram) at
            (stores_made o (length memory)) (λ x m. (load-stores-inside (length memory) x m).0) (every_byte memory old fits i inside),
      )

  -- ---- 2. Demand 1: refusals

  -- A refusal by one of the codes that are always found before the first command, 1 to 12 and 16, changes no byte of memory.
  pub early-refusals-keep-memory : (memory old : List ℕ) → Early (loaded o memory old).code → (loaded o memory old).lent ≡ memory
  unfolding loaded
  early-refusals-keep-memory memory old =
      answered-cases old (answer_made o (length memory)) memory (memory_made o memory)
      (λ (x : Outcome). Early x.code → x.lent ≡ memory)
      (λ e n. unchanged o memory (found-first-stores-nothing o (length memory) (first n)))
      (λ e n. refl)
    where
      first : Early (answer_made o (length memory)).code → FoundFirst (answer_made o (length memory))
      first (inl n) = inl n
      first (inr n) = inr (inr (inl n))

  -- A refusal that is found before the first command changes no byte of memory: 1 to 12; 13 to 15 at block 1; 16; 17 to 26 at
  -- place 8, the first command's; and 27 at place 8, on the magic alone.
  pub refused-first-keeps-memory : (memory old : List ℕ) → FoundFirst (answer_made o (length memory)) → (loaded o memory old).lent ≡ memory
  refused-first-keeps-memory memory old n = lent-unchanged o memory old (found-first-stores-nothing o (length memory) n)

  -- Nor does an answer with no command done and none begun to store: a refused command has not begun to, so this is asked
  -- only where the next block was bad.
  pub none-done-keeps-memory : (memory old : List ℕ) → (answer_made o (length memory)).commands ≡ 0
      → (13 ≤ (answer_made o (length memory)).code → (answer_made o (length memory)).code ≤ 15 → NotStoring (ended o).phase)
      → (loaded o memory old).lent ≡ memory
  none-done-keeps-memory memory old n q = lent-unchanged o memory old (none-done-stores-nothing o (length memory) n q)

  -- An answer that counts no store, as at a bad first block or where the first command is refused, changes no byte of memory.
  pub nothing-stored-keeps-memory : (memory old : List ℕ) → (answer_made o (length memory)).stored ≡ 0 → (loaded o memory old).lent ≡ memory
  nothing-stored-keeps-memory memory old z =
      lent-unchanged o memory old (empty (stores_made o (length memory)) (sym (record-counts-stores (length memory)) ∙ z))

  -- On every refusal the entry is 0.
  pub refusal-has-no-entry : (memory : ℕ) → (answer_made o memory).code ≢ 0 → (answer_made o memory).entry ≡ 0
  refusal-has-no-entry memory =
      load-cases o (λ (a : Answer) (xs : List Store). a.code ≢ 0 → a.entry ≡ 0) memory (λ code l u n. refl)
      (λ t stop e q n. ap (λ (b : Bool). cond b (unwrap_or (ended o).tally.entry 0) 0) (ne_eqb stop.code 0 n))
      (λ t s r l u n. ap (λ (b : Bool). cond b (unwrap_or (ended o).tally.entry 0) 0) (ne_eqb (bad_code o) 0 n))

  -- Place is the block number from 1 for 13 to 15, that of the first block that is not proved; the file offset of the
  -- command's first byte for 17 to 26, behind the magic and the commands done; the file length for 27; else 0.
  abbrev pub place_for : ℕ → ℕ
  place_for code =
      cond (leb 13 code && leb code 15) (suc (proved_blocks o)) (machine.place_for (setting o) (proved_bytes o) code)

  pub place-said : (memory : ℕ) → (answer_made o memory).place ≡ place_for (answer_made o memory).code
  place-said memory =
      load-cases o (λ (a : Answer) (xs : List Store). a.place ≡ place_for a.code) memory
      (λ code l u. sym
      (simp (lt-leb 13 code (omega arith), lt-leb 17 code (omega arith), ne_eqb code 27 (λ e. omega arith))))
      (λ t stop e q.
      let place = machine.place_for (setting o) (proved_bytes o) stop.code in
      machine.place-said (setting o) (proved_bytes o) e
      ∙ sym (ap (λ (b : Bool). cond b (suc (proved_blocks o)) place) (not-block stop q)))
      (λ t s r l u. sym (simp (le-leb 13 (bad_code o) l, le-leb (bad_code o) 15 u)))
    where
      block-code : ℕ → Bool
      block-code c = leb 13 c && leb c 15

      not-block : (stop : Stop) → Ended (setting o) (ended o) stop → block-code stop.code ≡ false
      not-block stop (at-end c n f) = ap block-code c
      not-block stop (at-magic c n) = ap block-code c
      not-block stop (at-command l u) = simp (lt-leb stop.code 15 (omega arith), le-leb 13 stop.code (omega arith))
      not-block stop (without-entry c n f) = ap block-code c

  -- It is the number of a block of the image for 13 to 15, and an offset in the file for 17 to 26.
  pub place_inside : (memory : ℕ)
      → (13 ≤ (answer_made o memory).code → (answer_made o memory).code ≤ 15 → (answer_made o memory).place ≤ (header o).stream.count)
      × (17 ≤ (answer_made o memory).code → (answer_made o memory).code ≤ 26 → (answer_made o memory).place < file_length (header o).stream)
  place_inside memory =
      load-cases o (λ (a : Answer) (xs : List Store). Inside a.code a.place) memory
      (λ code l u. (λ l' u'. omega arith, λ l' u'. absurd (omega arith)))
      (λ t stop e q. by-stop stop (stop-placed (setting o) (proved_bytes o) e))
      (λ t s r l u. (λ l' u'. s, λ l' u'. absurd (omega arith)))
    where
      Inside : ℕ → ℕ → Type 0
      Inside code place =
          (13 ≤ code → code ≤ 15 → place ≤ (header o).stream.count) × (17 ≤ code → code ≤ 26 → place < file_length (header o).stream)

      by-stop : (stop : Stop) → Placed (setting o) (first_byte (setting o) (proved_bytes o)) stop → Inside stop.code stop.place
      by-stop stop (done c p at) = (λ l u. omega arith, λ l u. absurd (omega arith))
      by-stop stop (no-magic c p) = (λ l u. omega arith, λ l u. absurd (omega arith))
      by-stop stop (by-command l u p below) = (λ l' u'. absurd (omega arith), λ l' u'. omega arith)
      by-stop stop (no-entry c p at) = (λ l u. absurd (omega arith), λ l u. absurd (omega arith))

  -- The record tells the answer: none of its numbers is cut to 64 bits,
  pub answer-fits : (memory : ℕ) → Fit (answer_made o memory)
  answer-fits memory =
      load-cases o (λ (a : Answer) (xs : List Store). Fit a) memory
      (λ code l u. record { code = omega arith; place = omega arith; commands = omega arith; stored = omega arith; entry = omega arith })
      (λ t stop e q.
      let (code, place) = stop-fits (setting o) (proved_bytes o) (short t) e in
      fits t stop code place)
      (λ t s r l u. fits t (first_bad o) (omega arith) (omega (arith, blocks-few o t.image t.allowed.small)))
    where
      short : Taken o memory → file_length (header o).stream ≤ 2 ^ 30
      short t = file-short o t.image t.allowed.small

      fits : Taken o memory → (stop : Stop) → stop.code < 2 ^ 64 → stop.place < 2 ^ 64 → Fit (answer_of stop (ended o).tally)
      fits t stop =
          let m = map-means o.map memory t.map in
          machine.answer-fits (setting o) (proved_bytes o) stop (short t) (ordered-holds 0 (regions o.map) m.order) m.small

  -- so place, counts and entry can be read back from it: no other answer that fits has this record.
  pub read_back : (memory old : List ℕ) → length old ≡ record_length → (a : Answer) → Fit a → (loaded o memory old).answer ≡ record_bytes a
      → a ≡ answer_made o (length memory)
  read_back memory old fits a f e =
      record-injective a (answer_made o (length memory)) f (answer-fits (length memory))
      (sym e ∙ ap (λ (x : Outcome). x.answer) (load-answered o memory old fits))

  -- ---- 3. Judged over the whole range

  -- A write or fill is judged over its whole range before its first byte is stored: not to do so is the fault that this loader
  -- was made to end. On 20 and 21, as on every code from 17 to 26, none of the refused command's bytes is stored: the stores
  -- made are those of the bytes before the command's first one, its place;
  pub refused-command-stores-nothing : (memory : ℕ) → 17 ≤ (answer_made o memory).code → (answer_made o memory).code ≤ 26
      → stores_made o memory ≡ made (setting o) (take (answer_made o memory).place (proved_bytes o))
  refused-command-stores-nothing memory =
      load-cases o
      (λ (a : Answer) (xs : List Store). 17 ≤ a.code → a.code ≤ 26 → xs ≡ made (setting o) (take a.place (proved_bytes o))) memory
      (λ code l u i j. absurd (omega arith))
      (λ t stop e q i j. (machine.refused-command-stores-nothing (setting o) (proved_bytes o) e i j).1)
      (λ t s r l u i j. absurd (omega arith))

  -- of a command that stored a byte, its header and parameters being among the proved bytes, the whole range, in which the
  -- store lies, is RAM and reachable;
  pub judged-to-its-end : (memory : ℕ) (x : Store) → Memᴰ x (stores_made o memory) → StoreOf (setting o) (proved_bytes o) x
  judged-to-its-end memory x =
      load-cases o (λ (a : Answer) (xs : List Store). Memᴰ x xs → StoreOf (setting o) (proved_bytes o) x) memory
      (λ code l u m. absurd (Memᴰ.not-nil m))
      (λ t stop e q m. machine.judged-to-its-end (setting o) (proved_bytes o) x m)
      (λ t s r l u m. machine.judged-to-its-end (setting o) (proved_bytes o) x m)

  -- so each address of that range is in a region of the map and below the mode's reach limit.
  pub whole-range-inside : (x : Store) (s : StoreOf (setting o) (proved_bytes o) x) (y : ℕ) → address s.c ≤ y
      → y < address s.c + range_length s.command s.c → Covered (regions o.map) y × (y < limit o.mode)
  whole-range-inside x s = machine.whole-range-inside (setting o) s.command s.c s.whole

  -- ---- 4. Demand 2: what load leaves is the written machine's

  -- Where 1 to 12 are not given, the code, the record and memory are the written machine's over the proved bytes:
  -- memory by its stores, the answer by where it stands;
  pub load-is-the-machine : (memory old : List ℕ) → first_broken (load_rules o (length memory)) ≡ 0 → length old ≡ record_length
      → loaded o memory old
      ≡ record {
        code = (load_answer o).code;
        answer = record_bytes (load_answer o);
        lent = applied (regions o.map) memory (trace (setting o) (begun (file_length (header o).stream)) (proved_bytes o));
      }
  unfolding loaded
  load-is-the-machine memory old e fits =
      concluded-done (first_broken (load_rules o (length memory))) (load_answer o) (stores o) (applied (regions o.map) memory) old memory
      fits e

  -- its stop, with its counts and, if it is done, its entry; or, where it has not stopped, the first bad block's code
  -- and place, with the machine's counts as they stand.
  pub answer-is-the-machine : ((stop : Stop) × ((ended o).phase ≡ Stopped stop)
      × (load_answer o ≡ answer_of stop (ended o).tally))
      ⊎ (Running (ended o).phase
      × (load_answer o ≡ answer_of (bad_block (header o) (block o) (proved_blocks o)) (ended o).tally))
  answer-is-the-machine = answer-ways o

  -- Done is said only when every block is proved.
  pub done-needs-all-blocks : (memory : ℕ) → (answer_made o memory).code ≡ 0 → proved_blocks o ≡ (header o).stream.count
  done-needs-all-blocks memory e = (loads o memory e).all

  -- 27 is judged last: it is answered exactly where 1 to 12 are not given, all blocks are proved, the machine has used the whole
  -- file, which is the magic and whole commands, and none of these is an entry command;
  pub no-entry-exactly : (memory : ℕ) → ((answer_made o memory).code ≡ 27) ↔ (WholeFile o memory × NoEntry (commands_met o))
  no-entry-exactly memory = (
    without-entry-file o memory,
    λ (w, none). ap (λ (a : Answer). a.code) (file-without-entry o memory w none),
  )

  -- its place is then the file's length;
  pub no-entry-place : (memory : ℕ) → (answer_made o memory).code ≡ 27 → (answer_made o memory).place ≡ file_length (header o).stream
  no-entry-place memory e = place-said memory ∙ ap place_for e

  -- and it does come where no other refusal comes and no entry command was met.
  pub no-entry-comes : (memory : ℕ) → (1 ≤ (answer_made o memory).code → (answer_made o memory).code ≤ 26 → ⊥) → NoEntry (commands_met o)
      → (answer_made o memory).code ≡ 27
  no-entry-comes = without-entry-comes o

  -- Done is answered exactly where one of these is an entry command; the entry is the last one's address.
  pub done-exactly : (memory : ℕ)
      → ((answer_made o memory).code ≡ 0) ↔ (WholeFile o memory × ((c : List ℕ) × LastEntry (commands_met o) c))
  done-exactly memory = (
    λ e. let (w, n) = done-file o memory e in (w, (n.command, n.last)),
    λ (w, (c, l)). ap (λ (a : Answer). a.code) (file-done o memory w c l),
  )

  pub done-enters : (memory : ℕ) → (answer_made o memory).code ≡ 0 → Enters o (answer_made o memory)
  done-enters memory e = (done-file o memory e).1

  -- Load block by block: prove a block, do everything that the proved bytes allow, look at the next; a machine that has
  -- stopped looks at none.
  pub load-block-by-block : (memory : ℕ) → Taken o memory
      → follow o (header o).stream.count 0 (at_start o) ≡ record { answer = load_answer o; stores = stores o }
  load-block-by-block memory t = fold.load-follows o t.image

-- ---- 5. Demand 3: a changed image

module _ (approved map table : List ℕ) (mode signature : ℕ) where
  abbrev by : List ℕ → Offer
  by = offer approved map table mode signature

  -- Of two images with the same approved header, expected signature length, map, table, mode and starting memory, the
  -- first of which loads: the second one's stores are a first part of the first one's, in order, with done only if
  -- they are all of them and then with the same entry; or there is a block number at which the two have different
  -- blocks with equal hashsums. The second image then passes 1 to 12 as well, and both blocks are whole and proved.
  pub first-part-or-collision : (image image' memory old : List ℕ) → (loaded (by image) memory old).code ≡ 0
      → FirstPart approved map table mode signature image (length memory) (answer_made (by image') (length memory))
      (stores_made (by image') (length memory))
      ⊎ BlocksCollide approved map table mode signature image image' (length memory)
  unfolding loaded
  first-part-or-collision image image' memory old e =
      first_part approved map table mode signature image image' (length memory)
      (loads (by image) (length memory)
      (answered-zero old (answer_made (by image) (length memory)) memory (memory_made (by image) memory) e).0)

  -- ---- 6. Signature fields and reserved bytes

  -- Two images that differ only in their signature fields get the same answer and memory, whatever part of their header is approved.
  pub load-but-own-signature : (image image' memory old : List ℕ)
      → SameBut (header_of image).header_size (header_of image).signature image image' → length approved ≤ (header_of image).header_size
      → loaded (by image) memory old ≡ loaded (by image') memory old
  load-but-own-signature image image' memory old b h =
      loaded-same map table mode signature image approved image' memory old (own-signature-alike image image' approved signature b h)

  -- They need only be of one length and have the same first bytes, as many as are approved; and where 1 and 4 to 12 are passed the same
  -- behind the field.
  pub load-but-signature : (image image' memory old : List ℕ) → Alike approved signature image image'
      → loaded (by image) memory old ≡ loaded (by image') memory old
  load-but-signature image = loaded-same map table mode signature image approved

  -- So it is for the field behind the approved header.
  pub load-but-field : (image image' memory old : List ℕ)
      → ButSignature (length approved) (header_of approved).signature image image'
      → loaded (by image) memory old ≡ loaded (by image') memory old
  load-but-field image image' memory old b =
      load-but-signature image image' memory old (but-signature-alike image image' approved signature b)

-- Reserved bytes of the header are ignored: two images with their approved headers, of the same lengths and the same bytes but for
-- the header's 30 and 31, which are in each image what they are in its approved header, get the same answer and memory.
pub load-ignores-reserved : (image approved image' approved' : List ℕ) → ButReserved image approved image' approved'
    → (map table : List ℕ) (mode signature : ℕ) (memory old : List ℕ)
    → loaded (offer approved map table mode signature image) memory old
    ≡ loaded (offer approved' map table mode signature image') memory old
load-ignores-reserved image approved image' approved' b map table mode signature memory old =
    loaded-reserved map table mode signature image approved image' approved' memory old b

-- So any two bytes may stand there, in an image and in the approved header that it begins with.
pub load-any-reserved : (image approved other : List ℕ) → take (length approved) image ≡ approved → 32 ≤ length approved → length other ≡ 2
    → (map table : List ℕ) (mode signature : ℕ) (memory old : List ℕ)
    → loaded (offer approved map table mode signature image) memory old
    ≡ loaded (offer (put approved 30 other) map table mode signature (put image 30 other)) memory old
load-any-reserved image approved other e h two =
    load-ignores-reserved image approved (put image 30 other) (put approved 30 other) (any-reserved other two image approved e h)

-- ---- 7. The calls agree

module _ (o : Offer) (output : List ℕ) (told : List ℕ) where
  -- what open does with the image
  abbrev opened_so : Outcome
  opened_so = opened o.image o.approved o.signature output told

  -- Where open gives 0 with file F, load's code, record and memory are those of a bare run of F, whatever map, table,
  -- mode, memory and record are lent.
  pub load-runs-what-opens : opened_so.code ≡ 0 → (memory old : List ℕ)
      → loaded o memory old
      ≡ run_bare (record { file = opened_so.lent; map = o.map; table = o.table; mode = o.mode }) memory old
  load-runs-what-opens e memory old =
      let g = open_gives o output told e in
      loads-as-bare o g.0 memory old
      ∙ ap (λ (f : List ℕ). run_bare (bare_of o f) memory old) (sym g.1)

  -- Where open gives 4 to 12, so does load, if the arguments that open has not are taken.
  pub load-refuses-as-open : length told ≡ record_length → (memory : ℕ) → ArgumentsTaken o memory
      → T (among header_codes opened_so.code) → answer_made o memory ≡ refused opened_so.code
  load-refuses-as-open fits memory taken t = header-agrees o output told fits memory taken t

  -- Where open stops at a block, load has either refused earlier within the proved bytes, or gives the same code and
  -- place (those of open's record, `StopsAt`) with the machine's counts over them.
  pub load-stops-as-open : length told ≡ record_length → (memory : ℕ) → ArgumentsTaken o memory
      → T (among block_codes opened_so.code)
      → StopsAt o output told
      × (RefusedEarlier o (answer_made o memory)
      ⊎ (answer_made o memory ≡ answer_of (stop_at (open_tells o).code (open_tells o).place) (ended o).tally))
  load-stops-as-open fits memory taken t =
      let at = stops_at o output told fits t in
      (at, stop-agrees o output told fits memory taken at)

-- Load of what the packer made, whatever its signature field then holds, is a bare run of the file.
pub load-of-pack : (p : Order) (blank : List ℕ) → length p.ids ≡ 4 → (packed p blank).code ≡ 0
    → (image' : List ℕ) → ButSignature (header_size_for (sum_length p.ids)) p.signature (packed p blank).output image'
    → (map table : List ℕ) (mode : ℕ) (memory old : List ℕ)
    → loaded (offer (take (header_size_for (sum_length p.ids)) (packed p blank).output) map table mode p.signature image') memory old
    ≡ run_bare (record { file = p.file; map = map; table = table; mode = mode }) memory old
load-of-pack = calls.load-of-pack

-- ---- 8. Codes, and what they depend on

module _ (o : Offer) where
  -- Code and record do not depend on what memory held, nor do the stores (`stores_made`).
  pub memory-not-read : (m n old : List ℕ) → length m ≡ length n
      → ((loaded o m old).code ≡ (loaded o n old).code) × ((loaded o m old).answer ≡ (loaded o n old).answer)
  unfolding loaded
  memory-not-read m n old e = rw e (answered-alike old (answer_made o (length n)) _ _ _ _)

  -- The codes of load are 0 to 27,
  pub load-codes : (memory old : List ℕ) → (loaded o memory old).code ≤ 27
  unfolding loaded
  load-codes memory old =
      answered-cases old (answer_made o (length memory)) memory (memory_made o memory) (λ (x : Outcome). x.code ≤ 27)
      (λ e. load-cases o (λ (a : Answer) (xs : List Store). a.code ≤ 27) (length memory) (λ code l u. omega arith)
      (λ t stop q r. by_end stop r)
      (λ t s r l u. omega arith))
      (λ e. lit≤ tt)
    where
      by_end : (stop : Stop) → Ended (setting o) (ended o) stop → stop.code ≤ 27
      by_end stop (at-end q n f) = omega (arith, q)
      by_end stop (at-magic q n) = omega (arith, q)
      by_end stop (at-command l u) = omega (arith, u)
      by_end stop (without-entry q n f) = omega (arith, q)

-- and for each some input gives it.
pub load-codes-met : map codes.returned codes.cases ≡ codes.load_codes
load-codes-met = codes.each-code-given

-- ---- 9. One result

-- Two results that load's promise allows are equal.
pub result-unique : (o : Offer) (memory old : List ℕ) (x y : Outcome) → loaded o memory old ≡ x → loaded o memory old ≡ y → x ≡ y
result-unique o memory old x y e q = sym e ∙ q
