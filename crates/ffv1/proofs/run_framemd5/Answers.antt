-- `run_framemd5`: what comes of the file of a path.
use Rattle.std.proofs.Common.{inl, inr, refl}
use Rattle.std.proofs.lemmas.Result.{err_from_is_err_and}
use Rattle.ffv1.specs.Opened.{unread}
use Rattle.ffv1.proofs.run_framemd5.Goals as goal

pub returns-in_err-source-clause-prints : goal.returns-in_err-source-clause-prints
returns-in_err-source-clause-prints g c =
    let p = err_from_is_err_and c.from_residual.result c.from_residual.ensures.1 in
    rw (p.1, p.2, c.in_err-source.ensures.refused)
    (unread, refl, inr (c.in_err-source.ensures.missed, refl))

pub returns-in_default-clause-prints : goal.returns-in_default-clause-prints
returns-in_default-clause-prints g c = (
  unread,
  refl,
  inl (
    c.in_ok-source.source,
    c.read_byte.new.input,
    c.in_ok-source.ensures.opened,
    inr (c.in_default.ensures.counted, refl),
  ),
)

pub returns-clause-prints : goal.returns-clause-prints
returns-clause-prints g c = (
  c.framemd5_stream-done.result,
  c.noted.ensures.value,
  inl (
    c.in_ok-source.source,
    c.read_byte.new.input,
    c.in_ok-source.ensures.opened,
    inl (record {
      first = c.in-Ok.first;
      mid = c.read_byte.new.input;
      gives = c.in-Ok.ensures.ok;
      begin = c.new-reader.result;
      given = c.new-reader.ensures.first;
      rest = c.new-reader.ensures.inner;
      last = c.framemd5_stream-done.new.input;
      output = _;
      prints = record {
        images = c.framemd5_stream-done.ensures.images;
        text = c.framemd5_stream-done.ensures.text;
        file = c.framemd5_stream-done.ensures.file;
        frames = c.framemd5_stream-done.ensures.frames;
      };
    }),
  ),
)
