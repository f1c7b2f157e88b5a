-- Packs a video: YUV4MPEG2 or, if the first byte is `P`, binary PPM is read, each picture is
-- encoded, and an AVI of the frames is written (RFC 9043, 4.3.3).
use Rattle.std.proofs.lemmas.Result.{err_from_is_err_and}
use Rattle.std.proofs.Common.{◌∙◌, sym, ap, subst, ◌≤◌, Ok, Err}
use Rattle.ffv1_wire.specs.Passage.{passage}
use Rattle.ffv1_reads.specs.Head.{head_of}
use Rattle.ffv1_avi.specs.Written.{frames_of, most}
use Rattle.ffv1_avi.specs.Writes.{WritesFile}
use Rattle.ffv1_pack.specs.Packing.{bytes_in}
use Rattle.ffv1_pack.proofs.ConfigurationJudged.{video_accepted}
use Rattle.ffv1_pack.proofs.FilePacked.{file_refused, file_written, refused_own}
use Rattle.ffv1_pack.proofs.FrameBytes.{few_bytes, many_frames}
use Rattle.ffv1_pack.proofs.packing.pack.Goals as goal

pub returns-in_err-write_avi-clause-err : goal.returns-in_err-write_avi-clause-err
returns-in_err-write_avi-clause-err g c =
    let p = err_from_is_err_and c.from_residual-in_err-write_avi.result
    c.from_residual-in_err-write_avi.ensures.1 in
    rw (p.1, p.2) (file_refused c.args.profile c.args.choice.now _ _ _ _ c.in_ok-stream.ensures.ok
    c.in_err-write_avi.field-0.0 (subst (λ fs. WritesFile
    (passage g.W.ByteOut.contents g.W.ByteOut.failures c.args.output.now c.write_avi.new.out)
    (head_of c.in_ok-stream.stream.head) (frames_of fs) (Err c.in_err-write_avi.field-0.0))
    c.deref.ensures.value c.in_err-write_avi.ensures))

pub returns-in_err-stream-clause-sound : goal.returns-in_err-stream-clause-sound
returns-in_err-stream-clause-sound g c =
    let p = err_from_is_err_and c.from_residual.result c.from_residual.ensures.1 in
    rw (p.1, p.2) c.in_err-stream.ensures.sound

pub returns-in_err-write_avi-clause-sound : goal.returns-in_err-write_avi-clause-sound
returns-in_err-write_avi-clause-sound g c =
    let p = err_from_is_err_and c.from_residual-in_err-write_avi.result
    c.from_residual-in_err-write_avi.ensures.1 in
    let encoded = c.in_ok-stream.ensures.ok in
    rw (p.1, p.2) (λ _. video_accepted c.args.profile c.args.choice.now _ _ encoded.video
    encoded.accepted encoded.ends encoded.for)

pub bytes_in-requires : goal.bytes_in-requires
bytes_in-requires g c =
    let written = subst (λ fs. WritesFile (passage g.W.ByteOut.contents g.W.ByteOut.failures
    c.args.output.now c.write_avi.new.out) (head_of c.in_ok-stream.stream.head) (frames_of fs)
    (Ok c.in_ok-write_avi.field-0)) c.deref.ensures.value c.in_ok-write_avi.ensures in
    subst (λ fs. bytes_in (frames_of fs) ≤ most) (sym c.deref-2.ensures.value)
    (few_bytes (head_of c.in_ok-stream.stream.head)
    (frames_of c.in_ok-stream.stream.frames.items) written.0)

pub returns-clause-ok : goal.returns-clause-ok
returns-clause-ok g c =
    let written = subst (λ fs. WritesFile (passage g.W.ByteOut.contents g.W.ByteOut.failures
    c.args.output.now c.write_avi.new.out) (head_of c.in_ok-stream.stream.head) (frames_of fs)
    (Ok c.in_ok-write_avi.field-0)) c.deref.ensures.value c.in_ok-write_avi.ensures in
    file_written c.args.profile c.args.choice.now _ _ _ _ c.in_ok-stream.ensures.ok _
    (record {
      frames = c.len.result;
      bytes = c.bytes_in.result;
      loses_colour = c.loses_colour.result;
    }) written (c.len.ensures ∙ many_frames c.in_ok-stream.stream.frames)
    (c.bytes_in.ensures ∙ ap (λ fs. bytes_in (frames_of fs)) c.deref-2.ensures.value)
    c.loses_colour.ensures

pub returns-in_err-write_avi-clause-own : goal.returns-in_err-write_avi-clause-own
returns-in_err-write_avi-clause-own g c =
    let p = err_from_is_err_and c.from_residual-in_err-write_avi.result
    c.from_residual-in_err-write_avi.ensures.1 in
    rw (p.1, p.2) (refused_own c.args.profile
    (passage g.W.ByteOut.contents g.W.ByteOut.failures c.args.output.now c.write_avi.new.out)
    (head_of c.in_ok-stream.stream.head) (frames_of c.in_ok-stream.stream.frames.items)
    c.in_err-write_avi.field-0.0 (subst (λ fs. WritesFile
    (passage g.W.ByteOut.contents g.W.ByteOut.failures c.args.output.now c.write_avi.new.out)
    (head_of c.in_ok-stream.stream.head) (frames_of fs) (Err c.in_err-write_avi.field-0.0))
    c.deref.ensures.value c.in_err-write_avi.ensures))
