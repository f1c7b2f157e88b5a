-- The default grid of a picture of more than 101376 pixels has at least 4 slices and at least as many
-- columns as rows, if the picture may have such a grid: it is the first of those whose inner edges are
-- multiples of the chroma factors, and, if there is none, the first that the profile takes.
use Rattle.std.proofs.Common.{◌≡◌, ◌≤◌, ◌<◌, ◌*◌, ◌+◌, ◌/◌, ◌==◌, ◌&&◌, ◌∙◌, ℕ, Bool, true, false, if◌then◌else◌, nat_le, Some, None, ap, refl, get_or, arith}
use Rattle.std.specs.Prelude.{unwrap_or, map}
use Rattle.std.specs.Option.{option_or}
use Rattle.std.specs.List.{All, filter, range_with_len}
use Rattle.std.proofs.lemmas.Bool.{leb-true}
use Rattle.std.proofs.lemmas.Bool.Decides.{nat_tests}
use Rattle.std.proofs.lemmas.List.Elements.{filter_passes}
use Rattle.ffv1_record.specs.declared.config.Profile.{Profile}
use Rattle.ffv1_record.specs.declared.config.Profile.TheVariants as edges
use Rattle.ffv1_y4m.specs.declared.head.VideoHead.{VideoHead}
use Rattle.ffv1_pack.specs.Grids.{Grid, default_grid, first_grid, grid_order, grids_of, has_grid, most_pixels}
use Rattle.ffv1_pack.proofs.GridLists.{all_joined, found_holds}
use Rattle.ffv1_pack.proofs.laws.default_grid_is_wide.Goals as goal

-- a grid of so many slices, wide
abbrev Wide : ℕ → Grid → Type 0
Wide least g = (g.1 ≤ g.0) × (least ≤ g.0 * g.1)

both : (a b : Bool) → (a && b) ≡ true → (a ≡ true) × (b ≡ true)
both true true h = (refl, refl)
both true false h = (refl, h)
both false b h = (h, search (arith))

is_wide : (g : Grid) (slices : ℕ) → 4 ≤ slices →
    ((g.0 * g.1 == slices) && nat_le g.1 g.0) ≡ true → Wide 4 g
is_wide g slices least test =
    let parts = both (g.0 * g.1 == slices) (nat_le g.1 g.0) test in
    (leb-true g.1 g.0 parts.1, grind (arith, nat_tests, parts.0, least))

all_wide : (slices : ℕ) → 4 ≤ slices → All (Wide 4) (grids_of true slices)
unfolding grids_of
all_wide slices least = λ k d lt. is_wide (get_or (grids_of true slices) k d) slices least
    (filter_passes (λ (g : Grid). (g.0 * g.1 == slices) && nat_le g.1 g.0)
    (map (λ columns. (columns, slices / columns)) (range_with_len 1 32)) k d lt)

order_is_wide : All (Wide 4) (grid_order true)
unfolding grid_order
order_is_wide = all_joined (Wide 4) (grids_of true) 4 1021 all_wide

-- the first of them is one that a profile takes, and wide
found : (p : Profile) (depth : ℕ) (h : VideoHead) (g : Grid) → first_grid p depth h true ≡ Some g →
    (has_grid p depth h g.0 g.1 ≡ true) × Wide 4 g
found p depth h g first =
    found_holds (λ (g : Grid). has_grid p depth h g.0 g.1) (Wide 4) (grid_order true) g order_is_wide
    first

large : (h : VideoHead) → most_pixels < h.width * h.height →
    nat_le (h.width * h.height) most_pixels ≡ false
large h many = grind (arith, nat_tests, many)

pub returns-clause-multiples : goal.returns-clause-multiples
returns-clause-multiples c = λ p depth h g many first.
    let is = found edges.Strict depth h g first in
    let later = option_or (first_grid p depth h true) (first_grid edges.Strict depth h false) in (
      ap (λ b. if b then (1, 1) else unwrap_or (option_or (first_grid edges.Strict depth h true)
          later) (1, 1)) (large h many) ∙ ap (λ o. unwrap_or (option_or o later) (1, 1)) first,
      is.0,
      is.1.0,
      is.1.1,
    )

pub returns-clause-others : goal.returns-clause-others
returns-clause-others c = λ p depth h g many none first.
    let is = found p depth h g first in
    let last = first_grid edges.Strict depth h false in
    let later = option_or (first_grid p depth h true) last in (
      ap (λ b. if b then (1, 1) else unwrap_or (option_or (first_grid edges.Strict depth h true)
          later) (1, 1)) (large h many) ∙ ap (λ o. unwrap_or (option_or o later) (1, 1)) none
          ∙ ap (λ o. unwrap_or (option_or o last) (1, 1)) first,
      is.0,
      is.1.0,
      is.1.1,
    )
