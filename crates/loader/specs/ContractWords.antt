-- What contracts say besides load itself.
use Rattle.std.specs.Prelude.{◌≡◌, List, ◌++◌, ℕ, ◌^◌, ◌≤◌, length, Result, IfOk}
use Rattle.answers.specs.Codes.{code_of}
use Rattle.answers.specs.Rules.{Rule, first_broken, signature_rules, size_rules}
use Rattle.answers.specs.declared.Answer.{Answer}
use Rattle.answers.specs.declared.codes.Refusal.{Refusal}
use Rattle.board.specs.Cpuid.{table_rules}
use Rattle.board.specs.Map.{regions, map_rules}
use Rattle.board.specs.Reach.{mode_rules}
use Rattle.chain.specs.Images.{approved_header}
use Rattle.chain.specs.declared.blocks.Image.{Image}
use Rattle.machine.specs.Machine.{Store}
use Rattle.machine.specs.Memory.{applied}
use Rattle.loader.specs.Load.{Offer, stores, load_rules, load_answer, answer_made, stores_made}
use Rattle.loader.specs.declared.Offer.{Offer as Lent}

-- what the code is given to read
abbrev pub offered : Lent → Offer
offered o =
    record {
      image = o.image.now;
      approved = o.approved.now;
      map = o.map.now;
      table = o.table.now;
      mode = o.mode;
      signature = o.signature;
    }

-- 1 to 3, which are judged before the approved header is looked at, with so much memory
abbrev pub early_rules : Offer → ℕ → List Rule
early_rules o memory =
    mode_rules o.mode
    ++ signature_rules o.signature
    ++ size_rules (length o.image)
    ++ map_rules o.map memory
    ++ table_rules o.table

-- an image that is not too long, and a map that is taken with this much memory
pub record Loadable (image : Image) (map : List ℕ) (memory : ℕ) : Type 0 where
  pub short : length image.bytes.now ≤ 2 ^ 30
  pub taken : first_broken (map_rules map memory) ≡ 0

-- the offer of an image that passed, with the signature length that the header says: the blocks ask for no other
abbrev pub offer_of : Image → List ℕ → List ℕ → ℕ → Offer
offer_of image map table mode =
    record {
      image = image.bytes.now;
      approved = image.approved.now;
      map = map;
      table = table;
      mode = mode;
      signature = (approved_header image).signature;
    }

-- a is the answer `said`, and memory, which held `before`, is as the stores `made` leave it
pub record Gives (said : Answer) (made : List Store) (map before : List ℕ) (a : Answer) (after : List ℕ) : Type 0 where
  pub answer : a ≡ said
  pub memory : after ≡ applied (regions map) before made

-- what the blocks of an offer give, and what load does
abbrev pub BlocksGive : Offer → List ℕ → Answer → List ℕ → Type 0
BlocksGive o before = Gives (load_answer o) (stores o) o.map before

abbrev pub LoadGives : Offer → List ℕ → Answer → List ℕ → Type 0
LoadGives o before = Gives (answer_made o (length before)) (stores_made o (length before)) o.map before

-- the same of an answer that is given only where none of 1 to 12 is
pub record LoadsTo (o : Offer) (before : List ℕ) (r : Result Answer Refusal) (after : List ℕ) : Type 0 where
  pub code : code_of r ≡ first_broken (load_rules o (length before))
  pub answer : IfOk r (λ a. a ≡ load_answer o)
  pub memory : after ≡ applied (regions o.map) before (stores_made o (length before))
