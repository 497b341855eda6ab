-- Open: what it answers and leaves in its output (J3); and the signature field, which is handed to the chip (J6).
use Rattle.std.specs.Prelude.{not, cond, List, [], ◌∷◌, ◌++◌, ℕ, eqb, length}
use Rattle.octets.specs.Parts.{part, put}
use Rattle.answers.specs.Answers.{Outcome, answered, answer_after, written_after, told}
use Rattle.answers.specs.Rules.{Rule, rule, first_broken}
use Rattle.answers.specs.declared.Answer.{Answer}
use Rattle.chain.specs.Blocks.{block_of, proved_blocks, blocks_stop, file_up_to}
use Rattle.chain.specs.Header.{Header, header_of, file_length, stream_rules}

-- O3: open gives 29 after 12, where the output has so many bytes
abbrev pub open_rules : List ℕ → List ℕ → ℕ → ℕ → List Rule
open_rules image approved signature output =
    stream_rules image approved signature ++ rule 29 (not (eqb output (file_length (header_of approved).stream))) ∷ []

-- the file as far as the blocks are proved
abbrev pub proved_file : Header → (ℕ → List ℕ) → List ℕ
proved_file d block = file_up_to d.stream block (proved_blocks d block)

-- P1, P10: all blocks proved: 0; else the first bad block's code at its place. No commands, no entry; the file bytes copied
abbrev pub open_answer : Header → (ℕ → List ℕ) → Answer
open_answer d block = told (blocks_stop d block (proved_blocks d block)) 0 (length (proved_file d block)) 0

-- what open returns, and leaves in the answer record, which held `old`, and in its output: the proved
-- first part of the file (P11, P13)
unfoldable pub opened : List ℕ → List ℕ → ℕ → List ℕ → List ℕ → Outcome
opened image approved signature output old =
    let early = first_broken (open_rules image approved signature (length output)) in
    let d = header_of approved in
    answered old (answer_after early (open_answer d (block_of image d))) output
    (put output 0 (written_after early (proved_file d (block_of image d))))

-- I3 to I5: the image's bytes between header and first block; where open would give 1 or 4 to 12 the part is empty
abbrev pub signature_field : List ℕ → List ℕ → ℕ → List ℕ
signature_field image approved signature =
    cond (eqb (first_broken (stream_rules image approved signature)) 0)
    (part image (length approved) (header_of approved).signature) []

-- where it begins in the image; 0 where it is empty
abbrev pub field_start : List ℕ → List ℕ → ℕ → ℕ
field_start image approved signature =
    cond (eqb (first_broken (stream_rules image approved signature)) 0) (length approved) 0
