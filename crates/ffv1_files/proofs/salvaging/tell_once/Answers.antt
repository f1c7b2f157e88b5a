-- Looks at the first byte of a file, and opens it as what it is, as `open_told` does, but reads it
-- once.
use Rattle.std.proofs.Common.{◌≡◌, refl, subst, ◌∙◌}
use Rattle.ffv1_wire.specs.Passage.{between}
use Rattle.ffv1_wire.specs.Reads.{GivesByte}
use Rattle.ffv1_reads.specs.Ends.{ReadOrOver, RefusedOrFaults}
use Rattle.ffv1_reads.specs.First.{bytes_with}
use Rattle.ffv1_reads.specs.Reads.{Looked}
use Rattle.ffv1_reads.specs.declared.fault.FileFault.TheVariants as fault
use Rattle.ffv1_matroska.specs.Opened as beginning
use Rattle.ffv1_matroska.specs.Readers.{HasEnded}
use Rattle.ffv1_files.specs.declared.container.Scope.TheVariants.{Whole}
use Rattle.ffv1_files.specs.Answers.{StopsReading}
use Rattle.ffv1_files.specs.Endings.{opening_endings}
use Rattle.ffv1_files.specs.Files.{once_read}
use Rattle.ffv1_files.proofs.FirstByte.{nothing_read, other_first, same_first}
use Rattle.ffv1_files.proofs.Locations.{avi_reached, avi_stopped, first_stopped, matroska_reached}
use Rattle.ffv1_files.proofs.Locations.{matroska_stopped, once_stopped}
use Rattle.ffv1_files.proofs.Openings.{avi_apart, avi_opens, avi_stops, matroska_late}
use Rattle.ffv1_files.proofs.Openings.{matroska_opens, matroska_stops, none_short}
use Rattle.ffv1_files.proofs.NotedStreams.{avi_streams, segment_streams}
use Rattle.ffv1_files.proofs.NotedTimes.{lists_begin, segment_begins}
use Rattle.ffv1_files.proofs.OpenedRooms.{room_with}
use Rattle.ffv1_files.proofs.SalvagedOpenings.{lacks_counted, lacks_first, refused_plainly}
use Rattle.ffv1_files.proofs.SalvagedOpenings.{refused_told, salvaged_first, tells_first, tried_first}
use Rattle.ffv1_matroska.specs.Times.{times_begun}
use Rattle.ffv1_files.proofs.salvaging.tell_once.Goals as goal

pub returns-in_default-clause-answer : goal.returns-in_default-clause-answer
returns-in_default-clause-answer g c = λ none.
    ((
      c.in_default.ensures.counted,
      nothing_read (opening_endings Whole) (once_read Whole)
          Looked _ _ none_short c.in_default.ensures.err,
    ))

pub returns-in-Ok-open_salvaged-clause-answer : goal.returns-in-Ok-open_salvaged-clause-answer
returns-in-Ok-open_salvaged-clause-answer g c = λ none.
    (let old = g.R.ByteIn.remaining c.args.input.now in
    let mid = g.R.ByteIn.remaining c.read_byte.new.input in
    let new = g.R.ByteIn.remaining c.open_salvaged.new.input in
    let before = g.R.ByteIn.failures c.read_byte.new.input in
    let after = g.R.ByteIn.failures c.open_salvaged.new.input in
    let first = same_first c.in-Ok.first 26 c.eq.result c.eq.ensures c.if-eq.true in
    let reader = c.in-Ok-open_salvaged.reader in
    let opened : beginning.Opened = record {
      track = reader.track;
      segment = reader.segment;
      place =
          reader.place;
    } in
    let answer = subst (λ b. (after ≡ before) × ReadOrOver HasEnded beginning.open_read
    (bytes_with b mid) new opened) first (c.in-Ok-open_salvaged.ensures.opens none) in
    let read = matroska_opens old mid new before after
    (subst (GivesByte old mid) first c.in-Ok.ensures.ok) opened answer in
    (read.0 ∙ c.in-Ok.ensures.counted, read.1))

pub returns-in-Err-clause-answer : goal.returns-in-Err-clause-answer
returns-in-Err-clause-answer g c = λ none.
    (let old = g.R.ByteIn.remaining c.args.input.now in
    let mid = g.R.ByteIn.remaining c.read_byte.new.input in
    let new = g.R.ByteIn.remaining c.open_salvaged.new.input in
    let before = g.R.ByteIn.failures c.read_byte.new.input in
    let after = g.R.ByteIn.failures c.open_salvaged.new.input in
    let first = same_first c.in-Ok.first 26 c.eq.result c.eq.ensures c.if-eq.true in
    let f = c.in-Err.fault in
    let answer = subst (λ b. RefusedOrFaults fault.NoTracks HasEnded beginning.open_read
    (bytes_with b mid) new before after f) first (c.in-Err.ensures.opens none) in
    subst (λ n. StopsReading (opening_endings Whole) (once_read Whole) (between old new n after) f)
    c.in-Ok.ensures.counted
    (matroska_stops old mid new before after (subst (GivesByte old mid) first c.in-Ok.ensures.ok) f
    answer))

pub returns-in-Ok-open_located-clause-answer : goal.returns-in-Ok-open_located-clause-answer
returns-in-Ok-open_located-clause-answer g c = λ none.
    (let reader = c.in-Ok-open_located.reader in
    let read =
    avi_opens c.in-Ok.first (g.R.ByteIn.remaining c.args.input.now)
    (g.R.ByteIn.remaining c.read_byte.new.input)
    (g.R.ByteIn.remaining c.open_located.new.input)
    (g.R.ByteIn.failures c.read_byte.new.input) (g.R.ByteIn.failures c.open_located.new.input)
    c.in-Ok.ensures.ok (other_first c.in-Ok.first 26 c.eq.result c.eq.ensures c.if-eq.false)
    (reader.head, reader.place) c.in-Ok-open_located.ensures.answer in
    (read.0 ∙ c.in-Ok.ensures.counted, read.1))

pub returns-in-Err-open_located-clause-answer : goal.returns-in-Err-open_located-clause-answer
returns-in-Err-open_located-clause-answer g c = λ none.
    (let old = g.R.ByteIn.remaining c.args.input.now in
    let new = g.R.ByteIn.remaining c.open_located.new.input in
    let after = g.R.ByteIn.failures c.open_located.new.input in
    let f = c.in-Err-open_located.fault in
    subst (λ n. StopsReading (opening_endings Whole) (once_read Whole) (between old new n after) f)
    c.in-Ok.ensures.counted
    (avi_stops c.in-Ok.first old (g.R.ByteIn.remaining c.read_byte.new.input) new
    (g.R.ByteIn.failures c.read_byte.new.input) after c.in-Ok.ensures.ok
    (other_first c.in-Ok.first 26 c.eq.result c.eq.ensures c.if-eq.false) f
    c.in-Err-open_located.ensures.answer))

pub returns-in-Ok-open_salvaged-clause-room : goal.returns-in-Ok-open_salvaged-clause-room
returns-in-Ok-open_salvaged-clause-room g c = room_with c.in-Ok.first _ _ _ _ _ c.in-Ok.ensures.ok
    c.in-Ok-open_salvaged.ensures.room

pub returns-in-Ok-open_located-clause-room : goal.returns-in-Ok-open_located-clause-room
returns-in-Ok-open_located-clause-room g c = room_with c.in-Ok.first _ _ _ _ _ c.in-Ok.ensures.ok
    c.in-Ok-open_located.ensures.room

pub returns-in_default-clause-stopped : goal.returns-in_default-clause-stopped
returns-in_default-clause-stopped g c = λ none.
    (first_stopped _ _ _ _ c.in_default.ensures.err
    c.in_default.ensures.counted)

pub returns-in-Ok-open_salvaged-clause-located : goal.returns-in-Ok-open_salvaged-clause-located
returns-in-Ok-open_salvaged-clause-located g c = λ none.
    (matroska_reached c.in-Ok.first _ _ _ _ _
    (g.R.ByteIn.failures c.open_salvaged.new.input) c.in-Ok.ensures.counted c.in-Ok.ensures.ok
    c.in-Ok-open_salvaged.reader c.open_salvaged.new.offset (c.in-Ok-open_salvaged.ensures.plain none))

pub returns-in-Err-clause-stopped : goal.returns-in-Err-clause-stopped
returns-in-Err-clause-stopped g c = λ none.
    (matroska_stopped c.in-Ok.first _ _ _ _ _ _
    c.in-Ok.ensures.counted c.in-Ok.ensures.ok c.in-Err.fault c.open_salvaged.new.offset
    (c.in-Err.ensures.plain none))

pub returns-in-Ok-open_located-clause-located : goal.returns-in-Ok-open_located-clause-located
returns-in-Ok-open_located-clause-located g c = λ none.
    (avi_reached c.in-Ok.first _ _ _ _ _
    (g.R.ByteIn.failures c.open_located.new.input) c.in-Ok.ensures.counted c.in-Ok.ensures.ok
    c.in-Ok-open_located.reader c.open_located.new.offset c.in-Ok-open_located.ensures.offset)

pub returns-in-Err-open_located-clause-stopped : goal.returns-in-Err-open_located-clause-stopped
returns-in-Err-open_located-clause-stopped g c = λ none.
    (avi_stopped c.in-Ok.first _ _ _ _ _ _
    c.in-Ok.ensures.counted c.in-Ok.ensures.ok c.in-Err-open_located.fault
    c.open_located.new.offset c.in-Err-open_located.ensures.offset)

pub returns-in_default-clause-late : goal.returns-in_default-clause-late
returns-in_default-clause-late g c = λ none.
    (λ is. avi_apart fault.Read refl is)

pub returns-in-Err-clause-late : goal.returns-in-Err-clause-late
returns-in-Err-clause-late g c = λ none.
    (λ is.
    (let old = g.R.ByteIn.remaining c.args.input.now in
    let mid = g.R.ByteIn.remaining c.read_byte.new.input in
    let new = g.R.ByteIn.remaining c.open_salvaged.new.input in
    let before = g.R.ByteIn.failures c.read_byte.new.input in
    let after = g.R.ByteIn.failures c.open_salvaged.new.input in
    let first = same_first c.in-Ok.first 26 c.eq.result c.eq.ensures c.if-eq.true in
    let f = c.in-Err.fault in
    let answer = subst (λ b. RefusedOrFaults fault.NoTracks HasEnded beginning.open_read
    (bytes_with b mid) new before after f) first (c.in-Err.ensures.opens none) in
    matroska_late old mid new before after (subst (GivesByte old mid) first c.in-Ok.ensures.ok) f is
    answer))

pub returns-in-Err-open_located-clause-late : goal.returns-in-Err-open_located-clause-late
returns-in-Err-open_located-clause-late g c = λ none.
    (λ is.
    avi_apart c.in-Err-open_located.fault c.in-Err-open_located.ensures.own is)

pub returns-in-Ok-open_salvaged-clause-streams : goal.returns-in-Ok-open_salvaged-clause-streams
returns-in-Ok-open_salvaged-clause-streams g c = λ none.
    (segment_streams _ _ _ 0
    c.in-Ok-open_salvaged.reader.segment c.in-Ok-open_salvaged.reader.track.numbers
    c.in-Ok-open_salvaged.reader.place (returns-in-Ok-open_salvaged-clause-answer g c none).1)

pub returns-in-Ok-open_located-clause-streams : goal.returns-in-Ok-open_located-clause-streams
returns-in-Ok-open_located-clause-streams g c = λ none.
    (avi_streams c.in-Ok.first _ _ _
    c.in-Ok-open_located.reader.others c.in-Ok-open_located.reader.place c.in-Ok.ensures.ok
    c.in-Ok-open_located.ensures.others)

pub returns-in-Ok-open_salvaged-clause-times : goal.returns-in-Ok-open_salvaged-clause-times
returns-in-Ok-open_salvaged-clause-times g c = λ none.
    (segment_begins c.in-Ok.first _ _ _
    c.in-Ok-open_salvaged.reader.times c.in-Ok.ensures.ok (c.in-Ok-open_salvaged.ensures.timed none))

pub returns-in-Ok-open_located-clause-times : goal.returns-in-Ok-open_located-clause-times
returns-in-Ok-open_located-clause-times g c = λ none.
    (lists_begin _ _ _
    c.in-Ok-open_located.reader.place (times_begun 0)
    (returns-in-Ok-open_located-clause-answer g c none).1)

pub returns-in_default-clause-refused : goal.returns-in_default-clause-refused
returns-in_default-clause-refused g c = λ some. absurd (some c.clear.ensures.items)

pub returns-in-Ok-open_salvaged-clause-opens : goal.returns-in-Ok-open_salvaged-clause-opens
returns-in-Ok-open_salvaged-clause-opens g c = λ some.
    (let first = same_first c.in-Ok.first 26 c.eq.result c.eq.ensures c.if-eq.true in
    let answer = rw first at c.in-Ok-open_salvaged.ensures.answer in
    record {
      kept = answer.0 ∙ c.in-Ok.ensures.counted;
      known = salvaged_first _ _ _ (rw first at c.in-Ok.ensures.ok) _ _ _ answer.1 (rw first at c.in-Ok-open_salvaged.ensures.data) c.in-Ok-open_salvaged.ensures.offset;
    })

pub returns-in-Ok-open_salvaged-clause-plainly : goal.returns-in-Ok-open_salvaged-clause-plainly
returns-in-Ok-open_salvaged-clause-plainly g c = λ some.
    (let first = same_first c.in-Ok.first 26 c.eq.result c.eq.ensures c.if-eq.true in
    let answer = rw first at c.in-Ok-open_salvaged.ensures.answer in
    refused_plainly _ _ _ (rw first at c.in-Ok.ensures.ok) c.what_is_told_says_what_plain_reading_meets.ensures.first
    c.what_is_told_says_what_plain_reading_meets.ensures.all _ some answer.1)

pub returns-in-Ok-open_salvaged-clause-segment : goal.returns-in-Ok-open_salvaged-clause-segment
returns-in-Ok-open_salvaged-clause-segment g c = λ some. (c.in-Ok-open_salvaged.reader.segment, refl)

pub returns-in-Err-clause-refused : goal.returns-in-Err-clause-refused
returns-in-Err-clause-refused g c = λ some.
    (let first = same_first c.in-Ok.first 26 c.eq.result c.eq.ensures c.if-eq.true in
    let answer = rw first at c.in-Err.ensures.answer in
    tells_first _ _ _ (rw first at c.in-Ok.ensures.ok) _ _ _ c.in-Ok.ensures.counted c.in-Err.fault answer _ _ _
    (rw first at c.in-Err.ensures.stopped) (rw first at c.in-Err.ensures.told) some)

pub returns-in-Err-clause-tried : goal.returns-in-Err-clause-tried
returns-in-Err-clause-tried g c = λ told.
    (let first = same_first c.in-Ok.first 26 c.eq.result c.eq.ensures c.if-eq.true in
    let answer = rw first at c.in-Err.ensures.answer in
    tried_first _ _ _ (rw first at c.in-Ok.ensures.ok) _ _ _ c.in-Ok.ensures.counted c.in-Err.fault answer told)

pub returns-in_default-clause-first : goal.returns-in_default-clause-first
returns-in_default-clause-first g c = λ none is. avi_apart fault.Read refl is

pub returns-in-Err-clause-first : goal.returns-in-Err-clause-first
returns-in-Err-clause-first g c = λ none is. once_stopped c.in-Ok.first _ _ _ _ _ _
    c.in-Ok.ensures.counted c.in-Ok.ensures.ok c.in-Err.fault c.open_salvaged.new.offset
    (c.in-Err.ensures.plain none)

pub returns-in-Err-open_located-clause-first : goal.returns-in-Err-open_located-clause-first
returns-in-Err-open_located-clause-first g c = λ none is.
    avi_apart c.in-Err-open_located.fault c.in-Err-open_located.ensures.own is

pub returns-in_default-clause-plainly : goal.returns-in_default-clause-plainly
returns-in_default-clause-plainly g c = λ some. absurd (some c.clear.ensures.items)

pub returns-in-Err-clause-plainly : goal.returns-in-Err-clause-plainly
returns-in-Err-clause-plainly g c = λ some.
    (let first = same_first c.in-Ok.first 26 c.eq.result c.eq.ensures c.if-eq.true in
    let tells = rw first at c.in-Err.ensures.told in
    refused_told _ _ _ (rw first at c.in-Ok.ensures.ok)
    c.what_is_told_says_what_plain_reading_meets.ensures.first tells.bytes
    (λ none. some (tells.is ∙ none)) tells.consumed)

pub returns-in_default-clause-lacks : goal.returns-in_default-clause-lacks
returns-in_default-clause-lacks g c = λ is. avi_apart fault.Read refl is

pub returns-in-Err-clause-lacks : goal.returns-in-Err-clause-lacks
returns-in-Err-clause-lacks g c = λ is.
    (let first = same_first c.in-Ok.first 26 c.eq.result c.eq.ensures c.if-eq.true in
    let answer = rw first at c.in-Err.ensures.answer in
    lacks_first _ _ _ (rw first at c.in-Ok.ensures.ok) _ _ _ c.in-Ok.ensures.counted c.in-Err.fault
    answer _ is (rw first at c.in-Err.ensures.stopped))

pub returns-in-Err-open_located-clause-lacks : goal.returns-in-Err-open_located-clause-lacks
returns-in-Err-open_located-clause-lacks g c = λ is.
    avi_apart c.in-Err-open_located.fault c.in-Err-open_located.ensures.own is

pub returns-in_default-clause-counted : goal.returns-in_default-clause-counted
returns-in_default-clause-counted g c = λ is. avi_apart fault.Read refl is

pub returns-in-Err-clause-counted : goal.returns-in-Err-clause-counted
returns-in-Err-clause-counted g c = λ is.
    (let first = same_first c.in-Ok.first 26 c.eq.result c.eq.ensures c.if-eq.true in
    let answer = rw first at c.in-Err.ensures.answer in
    lacks_counted _ _ _ (rw first at c.in-Ok.ensures.ok) _ _ _ c.in-Ok.ensures.counted
    c.in-Err.fault answer is)

pub returns-in-Err-open_located-clause-counted : goal.returns-in-Err-open_located-clause-counted
returns-in-Err-open_located-clause-counted g c = λ is.
    avi_apart c.in-Err-open_located.fault c.in-Err-open_located.ensures.own is
