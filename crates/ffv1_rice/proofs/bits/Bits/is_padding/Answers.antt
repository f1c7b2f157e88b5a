-- Whether what is left are zeros that fill the last byte.
use Rattle.std.proofs.Common.{◌<◌, length, inl, inr}
use Rattle.std.proofs.lemmas.Bool.{cases_lt, iff_false}
use Rattle.ffv1_rice.proofs.Padding.{padding_seen}
use Rattle.ffv1_rice.proofs.bits.Bits.is_padding.Goals as goal

pub returns-then-not-has : goal.returns-then-not-has
returns-then-not-has c =
    let few : length c.args.self.now < 8 = elim (cases_lt (length c.args.self.now) 8) [
      | inl less ↦ less
      | inr more ↦ absurd (iff_false c.has.ensures c.if-not-has.true more)
    ] in
    padding_seen c.peek.result c.args.self.now few c.peek.ensures
