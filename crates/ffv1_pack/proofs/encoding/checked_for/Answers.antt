-- `checked_for`: the same of the video's depth, checked in a profile, which reads that depth.
use Rattle.std.proofs.Common.{refl, ◌∙◌, ◌≡◌, ap, inr, subst}
use Rattle.ffv1_record.specs.Accepted.{IsFirstUpTo}
use Rattle.ffv1_record.specs.Configuration.{at_depth, configuration_of}
use Rattle.std.proofs.lemmas.Result.{err_from_is_err_and}
use Rattle.ffv1_pack.specs.Packing.{configuration_for}
use Rattle.ffv1_video.specs.Profiles.{greatest_depth, record_profile}
use Rattle.ffv1_pack.specs.Internal.VideoReads.{reading_of}
use Rattle.ffv1_pack.proofs.VideoChecks.{own_in}
use Rattle.ffv1_pack.proofs.encoding.checked_for.Goals as goal

pub returns-in_err-check_in-clause-err : goal.returns-in_err-check_in-clause-err
returns-in_err-check_in-clause-err g c =
    let p = err_from_is_err_and c.from_residual-in_err-check_in.result
    c.from_residual-in_err-check_in.ensures.1 in
    let f = c.in_err-check_in.field-0.0 in
    let k : at_depth (configuration_of c.in_ok-config.config) c.depth.result ≡ configuration_for
    c.args.choice.now (reading_of c.args.reader.now).ppm (reading_of c.args.reader.now).head =
    ap (at_depth (configuration_of c.in_ok-config.config)) c.depth.ensures.value ∙
    c.in_ok-config.ensures.ok in
    let first = subst (λ z. IsFirstUpTo (record_profile c.args.profile)
    (greatest_depth c.args.profile) z f) k (rw c.of_record.ensures at c.in_err-check_in.ensures.refused) in
    rw (p.1, p.2) (inr (f, first, refl))

pub returns-clause-ok : goal.returns-clause-ok
returns-clause-ok g c = record {
  configuration = c.in_ok-check_in.ensures.ok ∙
      ap (at_depth (configuration_of c.in_ok-config.config)) c.depth.ensures.value ∙
      c.in_ok-config.ensures.ok;
  accepted = c.in_ok-check_in.ensures.accepted;
  passes = rw c.of_record.ensures at c.in_ok-check_in.ensures.passes;
  profiled = c.in_ok-check_in.ensures.profile ∙ c.of_record.ensures;
}

pub returns-in_err-check_in-clause-own : goal.returns-in_err-check_in-clause-own
returns-in_err-check_in-clause-own g c =
    let p = err_from_is_err_and c.from_residual-in_err-check_in.result
    c.from_residual-in_err-check_in.ensures.1 in
    let f = c.in_err-check_in.field-0.0 in
    let k : at_depth (configuration_of c.in_ok-config.config) c.depth.result ≡ configuration_for
    c.args.choice.now (reading_of c.args.reader.now).ppm (reading_of c.args.reader.now).head =
    ap (at_depth (configuration_of c.in_ok-config.config)) c.depth.ensures.value ∙
    c.in_ok-config.ensures.ok in
    let first = subst (λ z. IsFirstUpTo (record_profile c.args.profile)
    (greatest_depth c.args.profile) z f) k (rw c.of_record.ensures at c.in_err-check_in.ensures.refused) in
    rw (p.1, p.2) (own_in c.args.profile c.args.choice.now (reading_of c.args.reader.now).ppm
    (reading_of c.args.reader.now).head f c.deltas_make_one_table.ensures.standard
    c.in_ok-config.ensures.head c.depth.ensures.least c.requires first)

pub returns-clause-profile : goal.returns-clause-profile
returns-clause-profile g c = c.in_ok-check_in.ensures.profile ∙ c.of_record.ensures
