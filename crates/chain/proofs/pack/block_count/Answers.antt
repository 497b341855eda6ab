use Rattle.std.proofs.Common.{sym, ◌∙◌}
use Rattle.std.proofs.lemmas.Grind.{div_ceil_times}
use Rattle.chain.proofs.PackLaws.{only-number}
use Rattle.chain.proofs.pack.block_count.Goals as goal

pub returns : goal.returns
returns c =
    let h = div_ceil_times c.args.file c.args.room c.requires.1 in
    c.div_ceil.ensures ∙ sym (only-number c.args.file c.args.room c.requires.1 _ h.0 h.1)
