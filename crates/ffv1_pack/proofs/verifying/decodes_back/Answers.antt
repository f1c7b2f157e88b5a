-- Whether a frame decodes to this picture, of which it says this: if it codes that, and not
-- otherwise.
use Rattle.std.proofs.Common.{rules, ◌≡◌, ◌≢◌, refl, sym, subst, ◌∙◌, Bool, false, not, ◌&&◌, ◌==◌}
use Rattle.ffv1_codec.specs.SliceList.{Said}
use Rattle.ffv1_record.specs.Accepted.{Accepted, IsAccepted}
use Rattle.ffv1_video.specs.KeptLines.{IsKeptFor}
use Rattle.ffv1_pack.proofs.FrameBack.{picture_coded}
use Rattle.ffv1_pack.proofs.verifying.decodes_back.Goals as goal

-- what is said of two pictures is the same if no part of it differs
says_same : (s t : Said) (differ : Bool) → differ ≡ not
    ((s.structure == t.structure) && ((s.sar_num == t.sar_num) && (s.sar_den == t.sar_den))) →
    differ ≡ false → s ≡ t
says_same s t differ is same = search rules

pub returns-in_default-clause-only : goal.returns-in_default-clause-only
returns-in_default-clause-only g c = λ codes.
    let a = c.args.back.now.decoder.accepted in
    let ok = subst (λ (x : Accepted). IsAccepted x.configuration x.table) c.config.ensures
    c.table-table.ensures.accepted in
    let own = c.sinks_of_own_lines_refuse_none.ensures.kept a c.args.frame.now c.args.back.now.kept
    c.decode.new.sink c.decode.new.self.tally c.in_default.field-0 ok c.in_default.ensures.exact
    c.requires.grid in
    absurd (own (c.in_default.ensures.headline.only c.args.picture.now c.args.info codes).0)

pub returns-then-ne-clause-only : goal.returns-then-ne-clause-only
returns-then-ne-clause-only g c = λ codes.
    let differs : c.in-Ok.said ≢ c.args.info = search rules in
    absurd (differs (c.in-Ok.ensures.headline.only c.args.picture.now c.args.info codes).0)

pub returns-clause-found : goal.returns-clause-found
returns-clause-found g c = λ same.
    let a = c.args.back.now.decoder.accepted in
    let ok = subst (λ (x : Accepted). IsAccepted x.configuration x.table) c.config.ensures
    c.table-table.ensures.accepted in
    let found = c.in-Ok.ensures.headline.found c.in-Ok.said refl in
    let kept = c.kept_lines_make_up_the_picture.ensures.picture a found.0 c.args.back.now.kept
    c.decode.new.sink ok found.1.picture.fits c.requires.grid c.requires.planes found.2 in
    let says : c.in-Ok.said ≡ c.args.info = says_same c.in-Ok.said c.args.info c.ne.result
    c.ne.ensures c.if-ne.false in
    picture_coded a c.args.frame.now found.0 c.args.picture.now c.in-Ok.said c.args.info found.1
    (sym kept.0 ∙ c.has_planes.ensures.same.0 same ∙ sym c.planes.ensures.value) says

pub returns-clause-only : goal.returns-clause-only
returns-clause-only g c = λ codes.
    let a = c.args.back.now.decoder.accepted in
    let ok = subst (λ (x : Accepted). IsAccepted x.configuration x.table) c.config.ensures
    c.table-table.ensures.accepted in
    let to = c.in-Ok.ensures.headline.only c.args.picture.now c.args.info codes in
    let kept = c.kept_lines_make_up_the_picture.ensures.picture a c.args.picture.now
    c.args.back.now.kept c.decode.new.sink ok codes.picture.fits c.requires.grid
    c.requires.planes to.1 in
    c.has_planes.ensures.same.1 (kept.0 ∙ c.planes.ensures.value)

pub returns-clause-kept : goal.returns-clause-kept
returns-clause-kept g c = λ same.
    let a = c.args.back.now.decoder.accepted in
    let ok = subst (λ (x : Accepted). IsAccepted x.configuration x.table) c.config.ensures
    c.table-table.ensures.accepted in
    let found = c.in-Ok.ensures.headline.found c.in-Ok.said refl in
    let kept = c.kept_lines_make_up_the_picture.ensures.picture a found.0 c.args.back.now.kept
    c.decode.new.sink ok found.1.picture.fits c.requires.grid c.requires.planes found.2 in
    let now : IsKeptFor a c.decode.new.sink = record {
      grid = kept.1 ∙ c.requires.grid;
      planes =
          c.has_planes.ensures.sizes;
    } in
    subst (IsKeptFor a) (sym c.has_planes.ensures.kept) now
