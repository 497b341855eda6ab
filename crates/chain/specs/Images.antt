-- An image that passed, as the contracts on its blocks speak of it. Code.antt cannot have this, since the image's own facts cite that.
use Rattle.std.specs.Prelude.{List, ◌≡◌, ℕ, Result, IfOk}
use Rattle.answers.specs.Codes.{code_of}
use Rattle.answers.specs.Rules.{Rule, first_broken}
use Rattle.answers.specs.declared.codes.Refusal.{Refusal}
use Rattle.chain.specs.Blocks.{block_of}
use Rattle.chain.specs.Header.{Header, header_of}
use Rattle.chain.specs.declared.blocks.Image.{Image}

-- its approved header, and its blocks
abbrev pub approved_header : Image → Header
approved_header i = header_of i.approved.now

abbrev pub block_in : Image → ℕ → List ℕ
block_in i = block_of i.bytes.now (approved_header i)

-- an image judged by some rules: where none is broken, that image with that approved header
pub record JudgedBy (rules : List Rule) (bytes approved : List ℕ) (r : Result Image Refusal) : Type 0 where
  pub code : code_of r ≡ first_broken rules
  pub image : IfOk r (λ i. (i.bytes.now ≡ bytes) × (i.approved.now ≡ approved))
