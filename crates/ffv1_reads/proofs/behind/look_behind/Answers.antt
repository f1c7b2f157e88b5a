-- Looks at the four bytes behind the end of a file.
use Rattle.std.proofs.Common.{◌≡◌, ℕ, ◌<◌, ◌≤◌, Bool, true, List, [], length, take, nat_lt, inl, inr, sym, arith}
use Rattle.std.proofs.lemmas.List.{length-take}
use Rattle.ffv1_reads.proofs.FilesBehind.{another_is_met, few_are_read, file_by_four}
use Rattle.ffv1_reads.proofs.behind.look_behind.Goals as goal

pub returns-in_default : goal.returns-in_default
returns-in_default g c =
    let e = c.in_default.ensures.err in
    let bytes = take e.0 c.read_full.new.buf in (
      c.in_default.ensures.counted,
      inr (
        nat_lt 0 (length bytes),
        record {
          bytes = bytes;
          consumed = e.2;
          is = few_are_read bytes (omega (arith, e.1, length-take e.0 c.read_full.new.buf, c.read_full.auto.buf));
        },
      ),
    )

pub returns-then-begins_file : goal.returns-then-begins_file
returns-then-begins_file g c =
    let fills = c.in-Ok.ensures.ok in
    let bytes = take c.in-Ok.len c.read_full.new.buf in (
      c.in-Ok.ensures.counted,
      record {
        bytes = bytes;
        consumed = fills.0;
        is = λ rest. another_is_met bytes rest (sym c.if-begins_file.ensures);
      },
    )
