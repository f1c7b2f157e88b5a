-- The planes of a checked configuration are divided part by part, in RCT all alike, and their
-- samples have 8 to 16 bits.
use Rattle.std.proofs.Common.{◌≡◌, ◌^◌, ◌%◌, sym, subst, arith}
use Rattle.ffv1_slice.specs.Grid.{Side, IsDivided, across, down, division_of}
use Rattle.ffv1_record.specs.Accepted.{AreMultiples, edge}
use Rattle.ffv1_frame.specs.Sides.{Tiles}
use Rattle.ffv1_frame.proofs.lemmas.laws.decoding.EventsOf.{is_rct_is}
use Rattle.ffv1_frame.proofs.laws.planes_are_divided_part_by_part.Goals as goal

-- without a factor each edge is a multiple
flat_multiples : (s : Side) → s.log2 ≡ 0 → AreMultiples s.size s.count s.log2
flat_multiples s flat = λ k some inside.
    subst (λ n. edge k s.size s.count % 2 ^ n ≡ 0) (sym flat) (omega arith)

pub returns : goal.returns
returns c = λ conf t is.
    let division = c.accepted_pictures_are_divided.ensures conf t is in
    let tiles : (s : Side) → IsDivided s → Tiles s = λ s divided. record {
      first = c.parts_follow_one_another.ensures.first s divided;
      next = λ k. c.parts_follow_one_another.ensures.next s k divided;
      last = c.parts_follow_one_another.ensures.last s divided;
      some = λ k. c.parts_follow_one_another.ensures.some s k divided;
      begins = λ k inside. (c.parts_follow_one_another.ensures.few s k divided inside).0;
      ends = λ k. c.parts_follow_one_another.ensures.coded s k divided;
      few = λ k inside. (c.parts_follow_one_another.ensures.few s k divided inside).1;
      flat = λ flat k. c.sides_share_nothing_at_multiples.ensures.none s k divided.some
          divided.fits (flat_multiples s flat);
    } in
    record {
      columns_tile = λ p. tiles (across (division_of conf) p)
          (c.cells_tile_their_plane.ensures.across (division_of conf) p division);
      rows_tile = λ p. tiles (down (division_of conf) p)
          (c.cells_tile_their_plane.ensures.down (division_of conf) p division);
      part = λ p x inside.
          let one = c.parts_follow_one_another.ensures.one (across (division_of conf) p) x
          (c.cells_tile_their_plane.ensures.across (division_of conf) p division) inside in
          record { part = one.0; lies = one.1 };
      rct = λ e. let facts = c.accepted_configuration_has_sound_parts.ensures.rct conf t is
          (is_rct_is conf.colour e) in record { chroma = facts.0; h = facts.1; v = facts.2 };
      shallow = (c.accepted_configuration_is_in_range.ensures.depth conf t is).0;
      deep = (c.accepted_configuration_is_in_range.ensures.depth conf t is).1;
      columns = (c.accepted_configuration_is_in_range.ensures.columns conf t is).0;
      rows = (c.accepted_configuration_is_in_range.ensures.rows conf t is).0;
    }
