-- What a decoder has read is coded by its bytes, after the decisions that it had read before.
use Rattle.ffv1_range.proofs.Steps.{read_on}
use Rattle.ffv1_range.proofs.laws.read_bytes_code_what_was_read.Goals as goal

pub returns : goal.returns
returns c = λ t old states new after steps past h f.
    let now = read_on t old states new after steps past h f in (now, now.inside)
