use Rattle.std.proofs.Common.{◌≡◌, ◌*◌, take}
use Rattle.ffv1_pack.specs.Report.{hexadecimal}
use Rattle.ffv1_pack.proofs.report.write_hexadecimal.Given as goal

abbrev pub invariant-loop-x : goal.invariant-loop-x
invariant-loop-x l = take (l.x * 2) l.digits ≡ hexadecimal (take l.x l.bytes)
