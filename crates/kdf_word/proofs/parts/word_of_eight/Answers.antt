use Rattle.std.proofs.Common.{◌≡◌, ◌+◌, ◌*◌, ◌^◌, ◌<◌, ◌∙◌, slice_index, arith}
use Rattle.kdf_word.specs.Characters.{first_word}
use Rattle.kdf_word.proofs.Lanes.{packed, to_eight, to_fours, to_twos}
use Rattle.kdf_word.proofs.parts.word_of_eight.Goals as goal
use Rattle.kdf_word.proofs.parts.word_of_eight.Goals.{After-from_be_bytes-bytes}

eight : (c : After-from_be_bytes-bytes) → to_eight (to_fours (to_twos c.from_be_bytes-bytes.result)) ≡
    slice_index c.args.codes 0 * 2 ^ 42 + slice_index c.args.codes 1 * 2 ^ 36 + slice_index c.args.codes 2 * 2 ^ 30 +
    slice_index c.args.codes 3 * 2 ^ 24 + slice_index c.args.codes 4 * 2 ^ 18 + slice_index c.args.codes 5 * 2 ^ 12 +
    slice_index c.args.codes 6 * 2 ^ 6 + slice_index c.args.codes 7
eight c =
    packed (slice_index c.args.codes 0) (slice_index c.args.codes 1) (slice_index c.args.codes 2) (slice_index c.args.codes 3)
    (slice_index c.args.codes 4) (slice_index c.args.codes 5) (slice_index c.args.codes 6) (slice_index c.args.codes 7)
    (c.requires 0 0 (omega arith)) (c.requires 1 0 (omega arith)) (c.requires 2 0 (omega arith)) (c.requires 3 0 (omega arith))
    (c.requires 4 0 (omega arith)) (c.requires 5 0 (omega arith)) (c.requires 6 0 (omega arith)) (c.requires 7 0 (omega arith))
    c.from_be_bytes-bytes.result c.from_be_bytes-bytes.ensures

pub new-requires : goal.new-requires
new-requires c =
    let e = eight (goal.at.new-requires c).After-from_be_bytes-bytes in
    let a : slice_index c.args.codes 0 < 64 = c.requires 0 0 (omega arith) in
    let b : slice_index c.args.codes 1 < 64 = c.requires 1 0 (omega arith) in
    let d : slice_index c.args.codes 2 < 64 = c.requires 2 0 (omega arith) in
    let f : slice_index c.args.codes 3 < 64 = c.requires 3 0 (omega arith) in
    let g : slice_index c.args.codes 4 < 64 = c.requires 4 0 (omega arith) in
    let h : slice_index c.args.codes 5 < 64 = c.requires 5 0 (omega arith) in
    let i : slice_index c.args.codes 6 < 64 = c.requires 6 0 (omega arith) in
    let j : slice_index c.args.codes 7 < 64 = c.requires 7 0 (omega arith) in
    omega (arith, e)

pub returns : goal.returns
unfolding first_word
returns c = c.new.ensures ∙ eight (goal.at.returns c).After-from_be_bytes-bytes
