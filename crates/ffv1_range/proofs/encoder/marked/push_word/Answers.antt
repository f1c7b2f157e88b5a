-- Four places of a number, big end first.
use Rattle.std.proofs.Common.{◌≡◌, ◌+◌, ◌*◌, ◌/◌, ◌%◌, ◌<◌, arith}
use Rattle.ffv1_range.proofs.HeldBack.{value_word}
use Rattle.ffv1_range.proofs.encoder.marked.push_word.Goals as goal

pub returns-clause-value : goal.returns-clause-value
returns-clause-value g c =
    let word = c.args.word in
    let bytes = value_word c.args.bytes.now.items (word / 16777216 % 256) (word / 65536 % 256)
    (word / 256 % 256) (word % 256) in
    let small : word < 4294967296 = omega arith in
    let parts : 16777216 * (word / 16777216 % 256) + 65536 * (word / 65536 % 256) + 256 *
    (word / 256 % 256) + word % 256 ≡ word = omega arith in
    rw (c.in_ok-extend_from_slice.ensures.items, c.to_be_bytes.ensures)
    (omega (arith, bytes, parts))
