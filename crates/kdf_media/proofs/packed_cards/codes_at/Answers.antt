use Rattle.std.proofs.Common.{ℕ, ◌-◌, length, drop, slice_index, arith, length-take}
use Rattle.kdf_media.proofs.PackedCards.{ends_at}
use Rattle.kdf_media.proofs.packed_cards.codes_at.Goals as goal

pub slice_bounds-result-count : goal.slice_bounds-result-count
slice_bounds-result-count c =
    let around = ends_at 0 c.args.ends.now (length c.args.codes.now) c.args.place c.requires.ends c.requires.there in
    rw c.start_of-start.ensures around.up

pub slice_bounds-result-start : goal.slice_bounds-result-start
slice_bounds-result-start c =
    let around = ends_at 0 c.args.ends.now (length c.args.codes.now) c.args.place c.requires.ends c.requires.there in
    rw c.start_of-start.ensures around.up

pub slice_bounds-result-end : goal.slice_bounds-result-end
slice_bounds-result-end c =
    let around = ends_at 0 c.args.ends.now (length c.args.codes.now) c.args.place c.requires.ends c.requires.there in
    around.inside

pub returns-clause-short : goal.returns-clause-short
returns-clause-short c =
    let around = ends_at 0 c.args.ends.now (length c.args.codes.now) c.args.place c.requires.ends c.requires.there in
    let short = around.short in
    let e = c.start_of-start.ensures in
    let n : ℕ = slice_index c.args.ends.now c.args.place - c.start_of-start.result in
    omega (arith, length-take n (drop c.start_of-start.result c.args.codes.now), short, e)
