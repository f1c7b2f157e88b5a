-- The text without white space at its beginning, and at its end.
use Rattle.std.proofs.Common.{refl}
use Rattle.std.proofs.lemmas.Str.Ascii.{trim_ascii_is}
use Rattle.ffv1_unpack.specs.Md5Line.{trimmed, without_leading}
use Rattle.ffv1_unpack.proofs.md5_line.trimmed.Goals as goal

pub returns : goal.returns
unfolding trimmed
returns c =
    trim_ascii_is c.args.text.now c.trim_ascii.result.now (without_leading c.args.text.now) refl
    c.trim_ascii.ensures.value
