-- Looks at the first byte of a file, and opens it as what it is. It is read once.
use Rattle.std.proofs.Common.{◌≡◌, refl, subst, ◌∙◌}
use Rattle.ffv1_wire.specs.Passage.{between}
use Rattle.ffv1_wire.specs.Reads.{GivesByte}
use Rattle.ffv1_reads.specs.Ends.{ReadOrOver, RefusedOrFaults}
use Rattle.ffv1_reads.specs.First.{bytes_with}
use Rattle.ffv1_reads.specs.Reads.{Looked}
use Rattle.ffv1_reads.specs.declared.fault.FileFault.TheVariants as fault
use Rattle.ffv1_matroska.specs.Opened as beginning
use Rattle.ffv1_matroska.specs.Readers.{HasEnded}
use Rattle.ffv1_files.specs.declared.container.Scope.TheVariants.{Whole}
use Rattle.ffv1_files.specs.Answers.{StopsReading}
use Rattle.ffv1_files.specs.Endings.{opening_endings}
use Rattle.ffv1_files.specs.Files.{once_read}
use Rattle.ffv1_files.proofs.FirstByte.{nothing_read, other_first, same_first}
use Rattle.ffv1_files.proofs.Locations.{avi_reached, avi_stopped, first_stopped, matroska_reached}
use Rattle.ffv1_files.proofs.Locations.{matroska_stopped, once_stopped}
use Rattle.ffv1_files.proofs.Openings.{avi_apart, avi_opens, avi_stops, matroska_late}
use Rattle.ffv1_files.proofs.Openings.{matroska_opens, matroska_stops, none_short}
use Rattle.ffv1_files.proofs.NotedStreams.{avi_streams, segment_streams}
use Rattle.ffv1_files.proofs.NotedTimes.{lists_begin, segment_begins}
use Rattle.ffv1_files.proofs.OpenedRooms.{room_with}
use Rattle.ffv1_matroska.specs.Times.{times_begun}
use Rattle.ffv1_files.proofs.opening.open_once.Goals as goal

pub returns-in_default-clause-answer : goal.returns-in_default-clause-answer
returns-in_default-clause-answer g c = (
  c.in_default.ensures.counted,
  nothing_read (opening_endings Whole) (once_read Whole)
      Looked _ _ none_short c.in_default.ensures.err,
)

pub returns-in-Ok-open_located-clause-answer : goal.returns-in-Ok-open_located-clause-answer
returns-in-Ok-open_located-clause-answer g c =
    let old = g.R.ByteIn.remaining c.args.input.now in
    let mid = g.R.ByteIn.remaining c.read_byte.new.input in
    let new = g.R.ByteIn.remaining c.open_located.new.input in
    let before = g.R.ByteIn.failures c.read_byte.new.input in
    let after = g.R.ByteIn.failures c.open_located.new.input in
    let first = same_first c.in-Ok.first 26 c.eq.result c.eq.ensures c.if-eq.true in
    let reader = c.in-Ok-open_located.reader in
    let opened : beginning.Opened = record {
      track = reader.track;
      segment = reader.segment;
      place =
          reader.place;
    } in
    let answer = subst (λ b. (after ≡ before) × ReadOrOver HasEnded beginning.open_read
    (bytes_with b mid) new opened) first c.in-Ok-open_located.ensures.answer in
    let read = matroska_opens old mid new before after
    (subst (GivesByte old mid) first c.in-Ok.ensures.ok) opened answer in
    (read.0 ∙ c.in-Ok.ensures.counted, read.1)

pub returns-in-Err-clause-answer : goal.returns-in-Err-clause-answer
returns-in-Err-clause-answer g c =
    let old = g.R.ByteIn.remaining c.args.input.now in
    let mid = g.R.ByteIn.remaining c.read_byte.new.input in
    let new = g.R.ByteIn.remaining c.open_located.new.input in
    let before = g.R.ByteIn.failures c.read_byte.new.input in
    let after = g.R.ByteIn.failures c.open_located.new.input in
    let first = same_first c.in-Ok.first 26 c.eq.result c.eq.ensures c.if-eq.true in
    let f = c.in-Err.fault in
    let answer = subst (λ b. RefusedOrFaults fault.NoTracks HasEnded beginning.open_read
    (bytes_with b mid) new before after f) first c.in-Err.ensures.answer in
    subst (λ n. StopsReading (opening_endings Whole) (once_read Whole) (between old new n after) f)
    c.in-Ok.ensures.counted
    (matroska_stops old mid new before after (subst (GivesByte old mid) first c.in-Ok.ensures.ok) f
    answer)

pub returns-in-Ok-open_located-2-clause-answer : goal.returns-in-Ok-open_located-2-clause-answer
returns-in-Ok-open_located-2-clause-answer g c =
    let reader = c.in-Ok-open_located-2.reader in
    let read =
    avi_opens c.in-Ok.first (g.R.ByteIn.remaining c.args.input.now)
    (g.R.ByteIn.remaining c.read_byte.new.input)
    (g.R.ByteIn.remaining c.open_located-2.new.input)
    (g.R.ByteIn.failures c.read_byte.new.input) (g.R.ByteIn.failures c.open_located-2.new.input)
    c.in-Ok.ensures.ok (other_first c.in-Ok.first 26 c.eq.result c.eq.ensures c.if-eq.false)
    (reader.head, reader.place) c.in-Ok-open_located-2.ensures.answer in
    (read.0 ∙ c.in-Ok.ensures.counted, read.1)

pub returns-in-Err-open_located-clause-answer : goal.returns-in-Err-open_located-clause-answer
returns-in-Err-open_located-clause-answer g c =
    let old = g.R.ByteIn.remaining c.args.input.now in
    let new = g.R.ByteIn.remaining c.open_located-2.new.input in
    let after = g.R.ByteIn.failures c.open_located-2.new.input in
    let f = c.in-Err-open_located.fault in
    subst (λ n. StopsReading (opening_endings Whole) (once_read Whole) (between old new n after) f)
    c.in-Ok.ensures.counted
    (avi_stops c.in-Ok.first old (g.R.ByteIn.remaining c.read_byte.new.input) new
    (g.R.ByteIn.failures c.read_byte.new.input) after c.in-Ok.ensures.ok
    (other_first c.in-Ok.first 26 c.eq.result c.eq.ensures c.if-eq.false) f
    c.in-Err-open_located.ensures.answer)

pub returns-in-Ok-open_located-clause-room : goal.returns-in-Ok-open_located-clause-room
returns-in-Ok-open_located-clause-room g c = room_with c.in-Ok.first _ _ _ _ _ c.in-Ok.ensures.ok
    c.in-Ok-open_located.ensures.room

pub returns-in-Ok-open_located-2-clause-room : goal.returns-in-Ok-open_located-2-clause-room
returns-in-Ok-open_located-2-clause-room g c = room_with c.in-Ok.first _ _ _ _ _ c.in-Ok.ensures.ok
    c.in-Ok-open_located-2.ensures.room

pub returns-in_default-clause-stopped : goal.returns-in_default-clause-stopped
returns-in_default-clause-stopped g c = first_stopped _ _ _ _ c.in_default.ensures.err
    c.in_default.ensures.counted

pub returns-in-Ok-open_located-clause-located : goal.returns-in-Ok-open_located-clause-located
returns-in-Ok-open_located-clause-located g c = matroska_reached c.in-Ok.first _ _ _ _ _
    (g.R.ByteIn.failures c.open_located.new.input) c.in-Ok.ensures.counted c.in-Ok.ensures.ok
    c.in-Ok-open_located.reader c.open_located.new.offset c.in-Ok-open_located.ensures.offset

pub returns-in-Err-clause-stopped : goal.returns-in-Err-clause-stopped
returns-in-Err-clause-stopped g c = matroska_stopped c.in-Ok.first _ _ _ _ _ _
    c.in-Ok.ensures.counted c.in-Ok.ensures.ok c.in-Err.fault c.open_located.new.offset
    c.in-Err.ensures.offset

pub returns-in-Ok-open_located-2-clause-located : goal.returns-in-Ok-open_located-2-clause-located
returns-in-Ok-open_located-2-clause-located g c = avi_reached c.in-Ok.first _ _ _ _ _
    (g.R.ByteIn.failures c.open_located-2.new.input) c.in-Ok.ensures.counted c.in-Ok.ensures.ok
    c.in-Ok-open_located-2.reader c.open_located-2.new.offset c.in-Ok-open_located-2.ensures.offset

pub returns-in-Err-open_located-clause-stopped : goal.returns-in-Err-open_located-clause-stopped
returns-in-Err-open_located-clause-stopped g c = avi_stopped c.in-Ok.first _ _ _ _ _ _
    c.in-Ok.ensures.counted c.in-Ok.ensures.ok c.in-Err-open_located.fault
    c.open_located-2.new.offset c.in-Err-open_located.ensures.offset

pub returns-in_default-clause-late : goal.returns-in_default-clause-late
returns-in_default-clause-late g c = λ is. avi_apart fault.Read refl is

pub returns-in-Err-clause-late : goal.returns-in-Err-clause-late
returns-in-Err-clause-late g c = λ is.
    (let old = g.R.ByteIn.remaining c.args.input.now in
    let mid = g.R.ByteIn.remaining c.read_byte.new.input in
    let new = g.R.ByteIn.remaining c.open_located.new.input in
    let before = g.R.ByteIn.failures c.read_byte.new.input in
    let after = g.R.ByteIn.failures c.open_located.new.input in
    let first = same_first c.in-Ok.first 26 c.eq.result c.eq.ensures c.if-eq.true in
    let f = c.in-Err.fault in
    let answer = subst (λ b. RefusedOrFaults fault.NoTracks HasEnded beginning.open_read
    (bytes_with b mid) new before after f) first c.in-Err.ensures.answer in
    matroska_late old mid new before after (subst (GivesByte old mid) first c.in-Ok.ensures.ok) f is
    answer)

pub returns-in-Err-open_located-clause-late : goal.returns-in-Err-open_located-clause-late
returns-in-Err-open_located-clause-late g c = λ is.
    avi_apart c.in-Err-open_located.fault c.in-Err-open_located.ensures.own is

pub returns-in-Ok-open_located-clause-streams : goal.returns-in-Ok-open_located-clause-streams
returns-in-Ok-open_located-clause-streams g c = segment_streams _ _ _ 0
    c.in-Ok-open_located.reader.segment c.in-Ok-open_located.reader.track.numbers
    c.in-Ok-open_located.reader.place (returns-in-Ok-open_located-clause-answer g c).1

pub returns-in-Ok-open_located-2-clause-streams : goal.returns-in-Ok-open_located-2-clause-streams
returns-in-Ok-open_located-2-clause-streams g c = avi_streams c.in-Ok.first _ _ _
    c.in-Ok-open_located-2.reader.others c.in-Ok-open_located-2.reader.place c.in-Ok.ensures.ok
    c.in-Ok-open_located-2.ensures.others

pub returns-in-Ok-open_located-clause-times : goal.returns-in-Ok-open_located-clause-times
returns-in-Ok-open_located-clause-times g c = segment_begins c.in-Ok.first _ _ _
    c.in-Ok-open_located.reader.times c.in-Ok.ensures.ok c.in-Ok-open_located.ensures.timed

pub returns-in-Ok-open_located-2-clause-times : goal.returns-in-Ok-open_located-2-clause-times
returns-in-Ok-open_located-2-clause-times g c = lists_begin _ _ _
    c.in-Ok-open_located-2.reader.place (times_begun 0)
    (returns-in-Ok-open_located-2-clause-answer g c).1

pub returns-in_default-clause-first : goal.returns-in_default-clause-first
returns-in_default-clause-first g c = λ is. avi_apart fault.Read refl is

pub returns-in-Err-clause-first : goal.returns-in-Err-clause-first
returns-in-Err-clause-first g c = λ is. once_stopped c.in-Ok.first _ _ _ _ _ _
    c.in-Ok.ensures.counted c.in-Ok.ensures.ok c.in-Err.fault c.open_located.new.offset
    c.in-Err.ensures.offset

pub returns-in-Err-open_located-clause-first : goal.returns-in-Err-open_located-clause-first
returns-in-Err-open_located-clause-first g c = λ is.
    avi_apart c.in-Err-open_located.fault c.in-Err-open_located.ensures.own is
