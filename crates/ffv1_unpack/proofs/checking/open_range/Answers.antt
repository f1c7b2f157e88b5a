-- Opens a file, and passes the frames before a range.
use Rattle.std.proofs.Common.{inl, inr, ap}
use Rattle.ffv1_video.specs.Faults.{cause_of}
use Rattle.ffv1_video.specs.Profiles.{scope_in}
use Rattle.ffv1_unpack.proofs.FilePlayed.{moves_whole}
use Rattle.ffv1_unpack.proofs.FramesPassed.{opens_range, pass_file}
use Rattle.ffv1_unpack.proofs.OwnFaults.{opening_checks, passing_checks}
use Rattle.ffv1_wire.specs.Passage.{passage}
use Rattle.ffv1_unpack.proofs.ReadAgain.{passing_again}
use Rattle.ffv1_unpack.proofs.checking.open_range.Goals as goal

pub returns-in-Err-clause-err : goal.returns-in-Err-clause-err
returns-in-Err-clause-err g c = inl (
  record {
    offset = c.open_player_located.new.offset;
    stops = c.in-Err.ensures.stopped;
    writes = c.tell_byte.ensures;
  },
  c.in-Err.ensures.err,
)

pub returns-in-Err-clause-own : goal.returns-in-Err-clause-own
returns-in-Err-clause-own g c = opening_checks c.args.profile c.in-Err.fault c.in-Err.ensures.own

pub returns-in-Err-pass_frames-clause-err : goal.returns-in-Err-pass_frames-clause-err
returns-in-Err-pass_frames-clause-err g c =
    let f = c.in-Err-pass_frames.fault in
    let opens = c.in-Ok.ensures.ok in
    let i0 = g.R.ByteIn.remaining c.args.input.now in
    let i1 = g.R.ByteIn.remaining c.open_player_located.new.input in
    let i2 = g.R.ByteIn.remaining c.pass_frames.new.input in
    let ib = g.R.ByteIn.failures c.args.input.now in
    let im = g.R.ByteIn.failures c.open_player_located.new.input in
    let ia = g.R.ByteIn.failures c.pass_frames.new.input in
    inr (
      c.pass_frames.new.passed,
      record {
        offset = c.pass_frames.new.player.offset;
        stops = moves_whole (scope_in c.args.profile) c.in-Ok.player.reader i0 i1 i2 ib im ia
            opens.kept (record {
              reached = c.in-Ok.ensures.located;
              ends = c.in-Ok.ensures.ends;
              noted = c.in-Ok.ensures.noted;
            }) f
            c.pass_frames.new.player.offset c.in-Err-pass_frames.ensures.located;
        writes = c.tell_byte-in-Err-pass_frames.ensures;
      },
      pass_file c.args.profile c.args.first i0 i1 i2 ib im ia c.in-Ok.player.reader
          c.in-Ok.player.decoder.accepted opens c.pass_frames.new.passed f (cause_of f)
          c.in-Err-pass_frames.ensures.answer,
    )

pub returns-in-Err-pass_frames-clause-own : goal.returns-in-Err-pass_frames-clause-own
returns-in-Err-pass_frames-clause-own g c =
    passing_checks c.args.profile c.in-Ok.player.reader
    (g.R.ByteIn.remaining c.args.input.now)
    (g.R.ByteIn.remaining c.open_player_located.new.input) c.in-Err-pass_frames.fault
    (record {
      reached = c.in-Ok.ensures.located;
      ends = c.in-Ok.ensures.ends;
      noted = c.in-Ok.ensures.noted;
    })
    c.in-Ok.ensures.ok.within c.in-Err-pass_frames.ensures.own

pub returns-in-Ok-pass_frames-clause-ok : goal.returns-in-Ok-pass_frames-clause-ok
returns-in-Ok-pass_frames-clause-ok g c =
    let passed = c.in-Ok-pass_frames.ensures.answer in
    opens_range c.args.profile c.args.first (g.R.ByteIn.remaining c.args.input.now)
    (g.R.ByteIn.remaining c.open_player_located.new.input)
    (g.R.ByteIn.remaining c.pass_frames.new.input)
    (g.R.ByteIn.failures c.args.input.now) (g.R.ByteIn.failures c.open_player_located.new.input)
    (g.R.ByteIn.failures c.pass_frames.new.input) c.in-Ok.player.reader
    c.in-Ok.player.decoder.accepted c.in-Ok.ensures.ok
    c.pass_frames.new.player.reader c.pass_frames.new.player.decoder.accepted passed.0 passed.1
    passed.2 c.in-Ok-pass_frames.ensures.head
    (ap (λ d. d.accepted) c.in-Ok-pass_frames.ensures.same) c.in-Ok-pass_frames.ensures.container
    c.in-Ok-pass_frames.ensures.sound

pub returns-in-Ok-pass_frames-clause-located : goal.returns-in-Ok-pass_frames-clause-located
returns-in-Ok-pass_frames-clause-located g c =
    c.in-Ok-pass_frames.ensures.reached (scope_in c.args.profile)
    (g.R.ByteIn.remaining c.args.input.now)
    (record {
      reached = c.in-Ok.ensures.located;
      ends = c.in-Ok.ensures.ends;
      noted = c.in-Ok.ensures.noted;
    })

pub returns-in-Err-pass_frames-clause-again : goal.returns-in-Err-pass_frames-clause-again
returns-in-Err-pass_frames-clause-again g c =
    passing_again c.args.profile
    (g.R.AgainIn.begins c.args.input.now)
    (passage g.R.ByteIn.remaining g.R.ByteIn.failures c.args.input.now c.pass_frames.new.input)
    c.in-Ok.player.reader (g.R.ByteIn.remaining c.open_player_located.new.input)
    c.in-Err-pass_frames.fault c.in-Err-pass_frames.ensures.own
