-- Pictures of a configuration that was checked are divided so.
use Rattle.ffv1_slice.proofs.Parts.{reach_covered}
use Rattle.ffv1_slice.proofs.Tilings.{few_planes}
use Rattle.ffv1_slice.proofs.laws.accepted_pictures_are_divided.Goals as goal

pub returns : goal.returns
returns c = λ x t is.
    let size = c.accepted_configuration_is_in_range.ensures.sizes x t is in
    let depth = c.accepted_configuration_is_in_range.ensures.depth x t is in
    let factors = c.accepted_configuration_is_in_range.ensures.factors x t is in
    let columns = c.accepted_configuration_is_in_range.ensures.columns x t is in
    let rows = c.accepted_configuration_is_in_range.ensures.rows x t is in
    let edges = c.accepted_configuration_is_in_range.ensures.edges x t is in
    record {
      width = size.1;
      height = size.3;
      shallow = depth.0;
      deep = depth.1;
      some_columns = columns.0;
      columns = columns.1;
      wide = columns.2;
      some_rows = rows.0;
      rows = rows.1;
      high = rows.2;
      log2_h = factors.0;
      log2_v = factors.1;
      covered_h = reach_covered (record { size = x.width; count = x.columns; log2 = x.log2_h }) columns.0 edges.0;
      covered_v = reach_covered (record { size = x.height; count = x.rows; log2 = x.log2_v }) rows.0 edges.1;
      planes = few_planes x.chroma_planes x.extra_plane;
    }
