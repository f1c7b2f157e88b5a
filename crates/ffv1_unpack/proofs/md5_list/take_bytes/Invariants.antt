use Rattle.std.proofs.Common.{◌≡◌}
use Rattle.ffv1_reads.specs.Known.{Known}
use Rattle.ffv1_unpack.specs.Internal.Md5List.{md5s_with}
use Rattle.ffv1_unpack.proofs.md5_list.take_bytes.Given as goal

abbrev pub invariant-loop : goal.invariant-loop
invariant-loop g l =
    Known (g.R.ByteIn.remaining l.initial.input) (g.R.ByteIn.remaining l.input)
    (λ text rest. md5s_with l.initial.lines text ≡ md5s_with l.lines rest)
    × (g.R.ByteIn.failures l.input ≡ g.R.ByteIn.failures l.initial.input)
