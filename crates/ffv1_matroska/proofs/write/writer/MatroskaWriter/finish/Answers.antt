-- Writes Cues, and then writes over all that comes before Tracks: the Segment's size, where Cues
-- begin and how long the frames last become known.
use Rattle.std.proofs.Common.{◌≡◌, ◌+◌, ◌∙◌, length, arith, ap, inl, sym}
use Rattle.ffv1_reads.specs.Head.{head_of}
use Rattle.ffv1_matroska.specs.Written.{cues_element}
use Rattle.ffv1_matroska.specs.Writers.{Writing}
use Rattle.ffv1_matroska.proofs.Finishing.{asks_by, fails_by, finish_is, finishes_by}
use Rattle.ffv1_matroska.proofs.OpeningLength.{opening_long}
use Rattle.ffv1_matroska.proofs.Pieces.{done_of, failed_of}
use Rattle.ffv1_matroska.proofs.WrittenLengths.{cues_long}
use Rattle.ffv1_matroska.proofs.write.writer.MatroskaWriter.finish.Goals as goal

pub patch-requires : goal.patch-requires
patch-requires g c =
    let long = ap length (c.as_slice-2.ensures ∙ c.opening-opening.ensures) ∙ opening_long _ _ in
    let begins = c.self.invariant.begins in
    omega (arith, long, begins)

pub returns-then-is_err-clause-answer : goal.returns-then-is_err-clause-answer
returns-then-is_err-clause-answer g c = λ lives some.
    let stopped = failed_of _ _ _ _ _ _ (sym c.is_err.ensures.value ∙ c.if-is_err.true)
    (rw c.as_slice.ensures.value at c.put_cues.ensures) in
    rw (← c.self.view_is) (stopped.0, inl stopped.1)

pub returns-in-Ok-clause-answer : goal.returns-in-Ok-clause-answer
returns-in-Ok-clause-answer g c = λ lives some.
    let inside = c.self.inside in
    let cues = cues_element inside.stride inside.places.items in
    let size : c.cues_size.result ≡ length cues =
    omega (
      arith,
      c.cues_size.ensures.value,
      c.len.ensures,
      cues_long inside.stride
          inside.places.items,
    ) in
    let back : 52 + (inside.at + c.cues_size.result) ≡ 52 + inside.at + length cues =
    omega (arith, size) in
    let bytes = c.as_slice-2.ensures ∙ c.opening-opening.ensures ∙ finish_is (head_of inside.head)
    inside.at inside.count _ _ size in
    let sent = done_of _ _ _ _ _ _ (sym c.is_err.ensures.value ∙ c.if-is_err.false)
    (rw c.as_slice.ensures.value at c.put_cues.ensures) in
    let w : Writing = record {
      head = head_of inside.head;
      details = inside.details;
      count =
          inside.count;
      at = inside.at;
      stride = inside.stride;
      places = inside.places.items;
      failed =
          inside.failed;
    } in
    finishes_by _ _ _ _ _ _ _ _ w _ c.in-Ok.done c.self.view_is sent.0 c.in-Ok.ensures.counted
    sent.1 back bytes c.in-Ok.ensures.done c.in-Ok.ensures.none

pub returns-in-Ok-clause-asks : goal.returns-in-Ok-clause-asks
returns-in-Ok-clause-asks g c = λ lives some.
    let inside = c.self.inside in
    let cues = cues_element inside.stride inside.places.items in
    let size : c.cues_size.result ≡ length cues =
    omega (
      arith,
      c.cues_size.ensures.value,
      c.len.ensures,
      cues_long inside.stride
          inside.places.items,
    ) in
    let back : 52 + (inside.at + c.cues_size.result) ≡ 52 + inside.at + length cues =
    omega (arith, size) in
    let bytes = c.as_slice-2.ensures ∙ c.opening-opening.ensures ∙ finish_is (head_of inside.head)
    inside.at inside.count _ _ size in
    let sent = done_of _ _ _ _ _ _ (sym c.is_err.ensures.value ∙ c.if-is_err.false)
    (rw c.as_slice.ensures.value at c.put_cues.ensures) in
    let w : Writing = record {
      head = head_of inside.head;
      details = inside.details;
      count =
          inside.count;
      at = inside.at;
      stride = inside.stride;
      places = inside.places.items;
      failed =
          inside.failed;
    } in
    asks_by g.W.ByteOut.contents g.W.PatchOut.overwrites _ c.put_cues.new.out _ _ _ w _ c.in-Ok.done
    c.self.view_is sent.1 back bytes c.in-Ok.ensures.does

pub returns-clause-answer : goal.returns-clause-answer
returns-clause-answer g c = λ lives some.
    let inside = c.self.inside in
    let cues = cues_element inside.stride inside.places.items in
    let size : c.cues_size.result ≡ length cues =
    omega (
      arith,
      c.cues_size.ensures.value,
      c.len.ensures,
      cues_long inside.stride
          inside.places.items,
    ) in
    let back : 52 + (inside.at + c.cues_size.result) ≡ 52 + inside.at + length cues =
    omega (arith, size) in
    let bytes = c.as_slice-2.ensures ∙ c.opening-opening.ensures ∙ finish_is (head_of inside.head)
    inside.at inside.count _ _ size in
    let sent = done_of _ _ _ _ _ _ (sym c.is_err.ensures.value ∙ c.if-is_err.false)
    (rw c.as_slice.ensures.value at c.put_cues.ensures) in
    let w : Writing = record {
      head = head_of inside.head;
      details = inside.details;
      count =
          inside.count;
      at = inside.at;
      stride = inside.stride;
      places = inside.places.items;
      failed =
          inside.failed;
    } in
    fails_by _ _ _ _ _ _ _ _ w _ c.self.view_is sent.0 c.in-Err.ensures.counted sent.1 back bytes
    c.in-Err.ensures.err
