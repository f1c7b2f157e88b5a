-- Refuses a video whose configuration is not accepted in a profile, which reads its depth.
use Rattle.std.proofs.Common.{◌≡◌, ◌∙◌, [], ap, refl}
use Rattle.std.proofs.lemmas.Result.{err_from_is_err_and}
use Rattle.ffv1_record.specs.Configuration.{at_depth, configuration_of, with_sets}
use Rattle.ffv1_video.specs.Profiles.{greatest_depth, record_profile}
use Rattle.ffv1_pack.specs.Packing.{configuration_for}
use Rattle.ffv1_pack.specs.Internal.VideoReads.{reading_of}
use Rattle.ffv1_pack.proofs.ConfigurationJudged.{accepts, first_of, no_memory_first}
use Rattle.ffv1_pack.proofs.VideoChecks.{own_in}
use Rattle.ffv1_pack.proofs.judging.judge.Goals as goal

pub returns-in_err-judged_by-clause-err : goal.returns-in_err-judged_by-clause-err
returns-in_err-judged_by-clause-err g c =
    let p = err_from_is_err_and c.from_residual.result c.from_residual.ensures.1 in
    let f = c.in_err-judged_by.field-0.0 in
    let is : at_depth (configuration_of c.config_with-config.result)
    (reading_of c.args.reader.now).head.depth ≡ with_sets (configuration_for c.args.choice.now
    (reading_of c.args.reader.now).ppm (reading_of c.args.reader.now).head) [] =
    c.config_with-config.ensures.value ∙ ap (with_sets (configuration_for c.args.choice.now
    (reading_of c.args.reader.now).ppm (reading_of c.args.reader.now).head)) c.new.ensures in
    rw (p.1, p.2) (
      f,
      first_of c.args.profile c.args.choice.now (reading_of c.args.reader.now).ppm
          (reading_of c.args.reader.now).head (configuration_of c.config_with-config.result) is f
          (rw (c.of_record.ensures, c.depth.ensures.value, c.greatest_depth.ensures) at
          c.in_err-judged_by.ensures.refused),
      refl,
    )

pub returns-in_err-judged_by-clause-own : goal.returns-in_err-judged_by-clause-own
returns-in_err-judged_by-clause-own g c =
    let p = err_from_is_err_and c.from_residual.result c.from_residual.ensures.1 in
    let f = c.in_err-judged_by.field-0.0 in
    let is : at_depth (configuration_of c.config_with-config.result)
    (reading_of c.args.reader.now).head.depth ≡ with_sets (configuration_for c.args.choice.now
    (reading_of c.args.reader.now).ppm (reading_of c.args.reader.now).head) [] =
    c.config_with-config.ensures.value ∙ ap (with_sets (configuration_for c.args.choice.now
    (reading_of c.args.reader.now).ppm (reading_of c.args.reader.now).head)) c.new.ensures in
    rw (p.1, p.2) (own_in c.args.profile c.args.choice.now (reading_of c.args.reader.now).ppm
    (reading_of c.args.reader.now).head f c.deltas_make_one_table.ensures.standard
    c.config_with-config.ensures.head c.depth.ensures.least c.requires
    (first_of c.args.profile c.args.choice.now (reading_of c.args.reader.now).ppm
    (reading_of c.args.reader.now).head (configuration_of c.config_with-config.result) is f
    (rw (c.of_record.ensures, c.depth.ensures.value, c.greatest_depth.ensures) at
    c.in_err-judged_by.ensures.refused)))

pub returns-in_err-judged_by-clause-memory : goal.returns-in_err-judged_by-clause-memory
returns-in_err-judged_by-clause-memory g c =
    let p = err_from_is_err_and c.from_residual.result c.from_residual.ensures.1 in
    let f = c.in_err-judged_by.field-0.0 in
    let is : at_depth (configuration_of c.config_with-config.result)
    (reading_of c.args.reader.now).head.depth ≡ with_sets (configuration_for c.args.choice.now
    (reading_of c.args.reader.now).ppm (reading_of c.args.reader.now).head) [] =
    c.config_with-config.ensures.value ∙ ap (with_sets (configuration_for c.args.choice.now
    (reading_of c.args.reader.now).ppm (reading_of c.args.reader.now).head)) c.new.ensures in
    rw (p.1, p.2) (no_memory_first (record_profile c.args.profile)
    (greatest_depth c.args.profile) (configuration_for c.args.choice.now
    (reading_of c.args.reader.now).ppm (reading_of c.args.reader.now).head) f
    (first_of c.args.profile c.args.choice.now (reading_of c.args.reader.now).ppm
    (reading_of c.args.reader.now).head (configuration_of c.config_with-config.result) is f
    (rw (c.of_record.ensures, c.depth.ensures.value, c.greatest_depth.ensures) at
    c.in_err-judged_by.ensures.refused)))

pub returns-clause-ok : goal.returns-clause-ok
returns-clause-ok g c =
    let is : at_depth (configuration_of c.config_with-config.result)
    (reading_of c.args.reader.now).head.depth ≡ with_sets (configuration_for c.args.choice.now
    (reading_of c.args.reader.now).ppm (reading_of c.args.reader.now).head) [] =
    c.config_with-config.ensures.value ∙ ap (with_sets (configuration_for c.args.choice.now
    (reading_of c.args.reader.now).ppm (reading_of c.args.reader.now).head)) c.new.ensures in
    let judged = rw (c.of_record.ensures, c.depth.ensures.value, c.greatest_depth.ensures) at
    c.in_ok-judged_by.ensures in
    accepts c.args.profile c.args.choice.now (reading_of c.args.reader.now).ppm
    (reading_of c.args.reader.now).head (configuration_of c.config_with-config.result) is
    c.in_ok-judged_by.field-0 judged.depth judged.passes judged.coder judged.closed judged.writable
