-- However states are named from the decisions before, bytes with a good start code one list of each
-- length.
use Rattle.std.proofs.Common.{sym, ◌∙◌, []}
use Rattle.ffv1_range.specs.Interval.{start}
use Rattle.ffv1_range.proofs.OneList.{goes_on, same}
use Rattle.ffv1_range.proofs.laws.bytes_code_one_list_of_each_length.Goals as goal

pub returns : goal.returns
returns c = λ bytes name count are is h.
    let found = goes_on bytes are name is count [] start h in (
      found.0,
      record {
        long = found.1.long;
        named = found.1.named;
        codes = found.1.inside;
        only = λ es long named codes. same bytes are name is [] es found.0 start h
            (long ∙ sym found.1.long) named found.1.named codes found.1.inside;
      },
    )
