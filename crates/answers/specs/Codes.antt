-- The numbered answers: each refusal's number (N1 to N29), and the number that a result stands for.
use Rattle.std.specs.Prelude.{ℕ, Result, Ok, Err}
use Rattle.answers.specs.declared.codes.Refusal.{Refusal}
use Rattle.answers.specs.declared.codes.Refusal.TheVariants.{Argument, Map, Table, Approved, HeaderMagic, HashId, HashsumLength, HeaderSize, Scheme, SignatureLength, Blocks, ImageLength, BlockHashsum, BlockPadding, LastHash, FileMagic, CommandCut, CommandId, CommandLength, NotReachable, NotRam, Text, CpuidMissing, Register, NoRecord, CheckFailed, NoEntry, EmptyFile, OutputLength}

-- the number of a refusal
abbrev pub number : Refusal → ℕ
number Argument = 1  -- N1
number Map = 2  -- N2
number Table = 3  -- N3
number Approved = 4  -- N4
number HeaderMagic = 5  -- N5
number HashId = 6  -- N6
number HashsumLength = 7  -- N7
number HeaderSize = 8  -- N8
number Scheme = 9  -- N9
number SignatureLength = 10  -- N10
number Blocks = 11  -- N11
number ImageLength = 12  -- N12
number BlockHashsum = 13  -- N13
number BlockPadding = 14  -- N14
number LastHash = 15  -- N15
number FileMagic = 16  -- N16
number CommandCut = 17  -- N17
number CommandId = 18  -- N18
number CommandLength = 19  -- N19
number NotReachable = 20  -- N20
number NotRam = 21  -- N21
number Text = 22  -- N22
number CpuidMissing = 23  -- N23
number Register = 24  -- N24
number NoRecord = 25  -- N25
number CheckFailed = 26  -- N26
number NoEntry = 27  -- N27
number EmptyFile = 28  -- N28
number OutputLength = 29  -- N29

-- the number that a call or a test answers with: 0 where it goes through (N0), else the refusal's
abbrev pub code_of : {A : Type 0} → Result A Refusal → ℕ
code_of (Ok a) = 0
code_of (Err why) = number why
