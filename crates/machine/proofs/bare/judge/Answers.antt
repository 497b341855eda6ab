use Rattle.std.proofs.Common.{◌≡◌, ◌++◌, Err, length, sym, ap, ◌∙◌, rules}
use Rattle.answers.specs.Codes.{code_of}
use Rattle.answers.specs.Rules.{size_rules}
use Rattle.answers.proofs.RefusalLaws.{refuses-first, holds-first}
use Rattle.board.specs.Cpuid.{table_rules}
use Rattle.board.specs.Map.{map_rules}
use Rattle.board.specs.Reach.{mode_rules}
use Rattle.machine.proofs.bare.judge.Goals as goal

pub returns-in_err-judge_map : goal.returns-in_err-judge_map
returns-in_err-judge_map c =
    let g = c.args.given in
    let why = c.in_err-judge_map.field-0.0 in
    let e : c.from_residual-in_err-judge_map.result ≡ Err why = search rules in
    let sizes = size_rules (length g.file.now) in
    let maps = map_rules g.map.now c.args.memory in
    let tables = table_rules g.table.now in
    ap code_of e ∙ refuses-first maps tables why c.in_err-judge_map.ensures
    ∙ sym (holds-first sizes (maps ++ tables) tt c.in_ok-judge_size.ensures)
    ∙ sym (holds-first (mode_rules g.mode) (sizes ++ (maps ++ tables)) tt c.in_ok-judge_mode.ensures)
