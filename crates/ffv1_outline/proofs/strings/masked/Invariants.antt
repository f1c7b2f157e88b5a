use Rattle.std.proofs.Common.{◌≡◌, ◌++◌, false, drop}
use Rattle.ffv1_outline.specs.Strings.{masked}
use Rattle.ffv1_outline.proofs.strings.masked.Given as goal

abbrev pub invariant-loop-byte : goal.invariant-loop-byte
invariant-loop-byte g l =
    l.bytes.items ++ masked l.after (drop l.byte-index l.string) ≡ masked false l.string
