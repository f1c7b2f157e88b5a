-- The grid of slices of a picture for which none is chosen, as in Matroska.
use Rattle.std.specs.Prelude.{ℕ, ◌+◌, ◌-◌, ◌*◌, ◌/◌, ◌^◌, ◌==◌, ◌&&◌, nat_le, nat_lt, Bool}
use Rattle.std.specs.Prelude.{List, Option, true, false}
use Rattle.std.specs.Prelude.{find, flat_map, if◌then◌else◌, map, unwrap_or}
use Rattle.std.specs.Option.{option_or}
use Rattle.std.specs.List.{filter, range_with_len, sum}
use Rattle.ffv1_record.specs.Accepted.{are_multiples, edge, reduced}
use Rattle.ffv1_record.specs.declared.config.Profile.{Profile as RecordProfile}
use Rattle.ffv1_record.specs.declared.config.Profile.TheVariants as edges
use Rattle.ffv1_y4m.specs.VideoHead.{plane_bytes}
use Rattle.ffv1_y4m.specs.declared.head.VideoHead.{VideoHead}
use Rattle.ffv1_words.specs.declared.order.Choice.{Choice}
use Rattle.ffv1_video.specs.declared.profile.Profile.{Profile}
use Rattle.ffv1_video.specs.Profiles.{record_profile}
use Rattle.ffv1_video.specs.Video.{SaidHead}

-- RFC 9043, section 5: a picture of more pixels has at least 4 slices
abbrev pub most_pixels : ℕ
most_pixels = 101376

-- own: the greatest slice has fewer bytes of samples than 12 MiB
abbrev pub slice_limit : ℕ
slice_limit = 12582912

-- the greatest of so many parts of a size
abbrev pub greatest_part : ℕ → ℕ → ℕ
greatest_part size count = (size + (count - 1)) / count

-- a picture of the size of the greatest slice
abbrev pub slice_head : VideoHead → ℕ → ℕ → VideoHead
slice_head h columns rows =
    record h { width = greatest_part h.width columns; height = greatest_part h.height rows }

-- how many bytes its samples have
unfoldable pub slice_bytes : ℕ → VideoHead → ℕ → ℕ → ℕ
slice_bytes depth h columns rows = sum (plane_bytes depth (slice_head h columns rows))

-- so many parts of a size suit the chroma factor, as a profile has it: each inner edge is a
-- multiple; or no sample of chroma is left out, though two parts may share one
unfoldable pub has_edges : RecordProfile → ℕ → ℕ → ℕ → Bool
has_edges edges.Strict size count log2 = are_multiples size count log2
has_edges edges.Wide size count log2 =
    edge (count - 1) size count / 2 ^ log2 + reduced log2 (size - edge (count - 1) size count)
    == reduced log2 size

-- a picture may have so many columns and rows, with edges as a profile has them
unfoldable pub has_grid : RecordProfile → ℕ → VideoHead → ℕ → ℕ → Bool
has_grid p depth h columns rows =
    (nat_le columns h.width && nat_le rows h.height)
    && ((has_edges p h.width columns h.log2_h && has_edges p h.height rows h.log2_v)
    && nat_lt (slice_bytes depth h columns rows) slice_limit)

-- a grid: columns and rows
abbrev pub Grid : Type 0
Grid = ℕ × ℕ

-- the most rows beside so many columns: no more than columns, or any that a grid may have
abbrev pub most_rows : Bool → ℕ → ℕ
most_rows wide columns = if wide then columns else 32

-- the grids of so many slices, of at most 32 columns and rows, of fewest columns first
unfoldable pub grids_of : Bool → ℕ → List Grid
grids_of wide slices = filter (λ g. (g.0 * g.1 == slices) && nat_le g.1 (most_rows wide g.0))
    (map (λ columns. (columns, slices / columns)) (range_with_len 1 32))

-- the grids of at least 4 slices, of fewest slices first
unfoldable pub grid_order : Bool → List Grid
grid_order wide = flat_map (grids_of wide) (range_with_len 4 1021)

-- the first of them that a picture may have
abbrev pub first_grid : RecordProfile → ℕ → VideoHead → Bool → Option Grid
first_grid p depth h wide = find (λ g. has_grid p depth h g.0 g.1) (grid_order wide)

-- the default in a profile: one slice; of a picture of more pixels the first grid of at least as
-- many columns as rows that it may have with edges that are multiples, else with edges as the
-- profile has them, else the first of any columns and rows with edges that are multiples, and one
-- slice if there is none
abbrev pub default_grid : RecordProfile → ℕ → VideoHead → Grid
default_grid p depth h =
    if nat_le (h.width * h.height) most_pixels then (1, 1)
    else unwrap_or (option_or (first_grid edges.Strict depth h true)
    (option_or (first_grid p depth h true) (first_grid edges.Strict depth h false))) (1, 1)

-- the grid of a choice for a video with this head: its own, or the default
unfoldable pub grid_for : Profile → Choice → SaidHead → Grid
grid_for profile choice h =
    if choice.default_grid then default_grid (record_profile profile) h.depth h.head
    else (choice.columns, choice.rows)

-- the choice with that grid
abbrev pub choice_for : Profile → Choice → SaidHead → Choice
choice_for profile choice h = record choice {
  columns = (grid_for profile choice h).0;
  rows = (grid_for profile choice h).1;
}
