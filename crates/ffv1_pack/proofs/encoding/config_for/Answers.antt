-- `config_for`: the configuration of a video, whose depth it leaves out.
use Rattle.std.proofs.Common.{◌∙◌, ap}
use Rattle.ffv1_record.specs.Configuration.{with_sets}
use Rattle.ffv1_pack.specs.Packing.{configuration_for}
use Rattle.ffv1_pack.specs.Internal.VideoReads.{reading_of}
use Rattle.ffv1_pack.proofs.encoding.config_for.Goals as goal

pub returns-clause-ok : goal.returns-clause-ok
returns-clause-ok g c =
    c.config_with.ensures.value ∙ ap (with_sets (configuration_for c.args.choice.now
    (reading_of c.args.reader.now).ppm (reading_of c.args.reader.now).head)) c.in_ok-sets.ensures.ok
