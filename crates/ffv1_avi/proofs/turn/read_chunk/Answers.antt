-- The next chunk; None at the end.
use Rattle.ffv1_avi.proofs.EndedTurns.{never_there, none_there, stood_there}
use Rattle.ffv1_avi.proofs.turn.read_chunk.Goals as goal

pub returns-then-place-gt0-clause-some : goal.returns-then-place-gt0-clause-some
returns-then-place-gt0-clause-some g c =
    never_there c.args.place _ _ c.read_sized.result c.read_sized.ensures.more

pub returns-then-place-eq0-clause-some : goal.returns-then-place-eq0-clause-some
returns-then-place-eq0-clause-some g c = λ none. none_there c.args.place _ c.if-place-eq0.true

pub returns-then-is_open-clause-some : goal.returns-then-is_open-clause-some
returns-then-is_open-clause-some g c =
    stood_there c.args.place _ _ _ c.read_open.result c.if-place-eq0.false c.read_open.ensures.stand

pub returns-clause-some : goal.returns-clause-some
returns-clause-some g c =
    stood_there c.args.place _ _ _ c.read_begun.result c.if-place-eq0.false c.read_begun.ensures.told
