use Rattle.std.proofs.Common.{◌≡◌, ◌≤◌, ◌-◌, ℕ, None, List, length}
use Rattle.ffv1_wire.specs.Passage.{passage}
use Rattle.ffv1_files.specs.Places.{container_of}
use Rattle.ffv1_unpack.specs.Internal.Located.{StaysReached}
use Rattle.ffv1_unpack.specs.Internal.Passing.{Passes}
use Rattle.ffv1_unpack.specs.Stream.{last_bytes}
use Rattle.ffv1_unpack.proofs.carrying.pass_keeping.Given as goal

abbrev pub invariant-loop-passed : goal.invariant-loop-passed
invariant-loop-passed g l =
    (l.player.reader.fault ≡ None) × (l.player.decoder ≡ l.fn.player.decoder)
    × (container_of l.player.reader.place ≡ container_of l.fn.player.reader.place)
    × (l.player.reader.head ≡ l.fn.player.reader.head)
    × StaysReached l.fn.player.reader l.player.reader
    (passage g.R.ByteIn.remaining g.R.ByteIn.failures l.initial.input l.input)
    × ((payloads : List (List ℕ)) × (length payloads ≡ l.passed) × (l.passed ≤ l.first)
    × Passes l.fn.player.reader.place l.player.reader.place
    (passage g.R.ByteIn.remaining g.R.ByteIn.failures l.initial.input l.input) payloads
    × (l.kept.items ≡ last_bytes payloads))

abbrev pub decreases-loop-passed : goal.decreases-loop-passed
decreases-loop-passed g l = l.first - l.passed
