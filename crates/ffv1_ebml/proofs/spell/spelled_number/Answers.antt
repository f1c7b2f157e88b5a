-- An element with this ID that holds a number in so many bytes, its size in one byte.
use Rattle.std.proofs.Common.{◌-◌, refl}
use Rattle.std.proofs.lemmas.List.{take_rest}
use Rattle.std.specs.Int.{bytes_high_first}
use Rattle.ffv1_ebml.proofs.Numbers.{low_bytes}
use Rattle.ffv1_ebml.proofs.spell.spelled_number.Goals as goal

pub returns : goal.returns
returns c =
    let w = c.args.width in
    let low = low_bytes 8 w c.args.number c.requires in
    rw (
      c.with.ensures,
      c.with-header.ensures,
      c.spelled_ident.ensures.bytes,
      c.to_be_bytes-all.ensures,
      take_rest (bytes_high_first 8 c.args.number) (8 - w),
      low,
    ) refl
