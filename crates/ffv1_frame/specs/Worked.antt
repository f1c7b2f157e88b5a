-- Small configurations, whose frames are known from outside the program.
use Rattle.std.specs.Prelude.{ℕ, Bool, List, true, [], ◌∷◌}
use Rattle.ffv1_range.specs.Standard.{standard}
use Rattle.ffv1_plane.specs.Quantisation.{small_set}
use Rattle.ffv1_record.specs.declared.config.Colour.{Colour}
use Rattle.ffv1_record.specs.declared.config.Profile.TheVariants as profile
use Rattle.ffv1_record.specs.declared.config.Coder.TheVariants as coder
use Rattle.ffv1_record.specs.Accepted.{Accepted}
use Rattle.ffv1_frame.specs.Picture.{Planes, cell_in}
use Rattle.ffv1_frame.specs.SliceList.{Said, chosen_head, lines_in}
use Rattle.ffv1_frame.specs.RiceLines.{rice_bits}

-- pictures of so many columns and lines, in so many slices beside one another, with the small set
abbrev pub small_pictures : Colour → Bool → Bool → ℕ → ℕ → ℕ → Bool → Accepted
small_pictures colour chroma extra width height columns ec = record {
  configuration = record {
    width = width;
    height = height;
    depth = 8;
    coder = coder.One;
    colour = colour;
    chroma_planes = chroma;
    extra_plane = extra;
    log2_h = 0;
    log2_v = 0;
    columns = columns;
    rows = 1;
    sets = small_set ∷ [];
    ec = ec;
    intra = true;
  };
  table = standard;
  profile = profile.Strict;
}

-- nothing is known of structure and aspect
abbrev pub unknown : Said
unknown = record { structure = 0; sar_num = 0; sar_den = 0 }

-- the bits of their first slice, by the set that they have
abbrev pub rice_of : Accepted → Planes → List Bool
rice_of a planes =
    rice_bits a.configuration (chosen_head a.configuration unknown)
    (cell_in a.configuration planes 0) (lines_in a.configuration 0)
