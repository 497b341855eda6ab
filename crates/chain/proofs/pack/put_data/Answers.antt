use Rattle.std.proofs.Common.{ℕ, ◌+◌, ◌-◌, ◌*◌, refl, length, arith, rules}
use Rattle.chain.specs.ContractWords.{room_of}
use Rattle.chain.proofs.PackingLaws.{planned, data_is, data-put}
use Rattle.chain.proofs.pack.put_data.Goals as goal

pub slice_bounds-copy-end : goal.slice_bounds-copy-end
slice_bounds-copy-end c =
    let a = c.args in
    let n : ℕ = length a.output.now in
    let b =
    data_is a.file.now a.h n (planned a.file.now a.h n c.requires.0) a.k c.padding_of-padding.result (room_of a.h) c.requires.1
    c.padding_of-padding.ensures refl in
    search (rules, b.ends)

pub returns : goal.returns
returns c =
    let a = c.args in
    let n : ℕ = length a.output.now in
    let q : ℕ = c.padding_of-padding.result in
    let pl = planned a.file.now a.h n c.requires.0 in
    let from : ℕ = a.k * room_of a.h + q - a.h.stream.padding in
    data-put a.file.now a.h n pl a.k q (room_of a.h) a.at (from + (room_of a.h - q) - from) a.output.now _ _
    (data_is a.file.now a.h n pl a.k q (room_of a.h) c.requires.1 c.padding_of-padding.ensures refl) c.requires.2 (omega arith)
    c.fill.ensures c.copy.ensures
