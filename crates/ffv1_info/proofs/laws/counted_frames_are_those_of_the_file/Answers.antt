-- Payloads that come after a head, and after which there is none, are those of the file.
use Rattle.ffv1_unpack.proofs.FileRead.{holds_payloads}
use Rattle.ffv1_info.proofs.laws.counted_frames_are_those_of_the_file.Goals as goal

pub returns : goal.returns
returns c = λ profile head held file rest h.
    let has = h.3 in
    let over = has.3 in (
      over.0,
      holds_payloads c.frames_come_in_turn.ensures c.what_is_read_is_a_file.ensures.first
          c.what_is_read_is_a_file.ensures.whole profile file h.1 over.0 head h.0 has.0 has.1 held
          h.2 has.2 over.1.0,
    )
