-- The cells of a plane cover each of its samples once, and nothing else.
use Rattle.ffv1_slice.proofs.Tilings.{divided_across, divided_down, covered_once, covered_inside, covers_coded, coded_within}
use Rattle.ffv1_slice.proofs.laws.cells_tile_their_plane.Goals as goal

pub returns-clause-across : goal.returns-clause-across
returns-clause-across c = λ d p is. divided_across d p is

pub returns-clause-down : goal.returns-clause-down
returns-clause-down c = λ d p is. divided_down d p is

pub returns-clause-covered : goal.returns-clause-covered
returns-clause-covered c = λ d p x y is wide high. covered_once d p x y is wide high

pub returns-clause-inside : goal.returns-clause-inside
returns-clause-inside c = λ d p n x y is covers. covered_inside d p n x y is covers

pub returns-clause-coded : goal.returns-clause-coded
returns-clause-coded c = λ d p n x y is covers. covers_coded d p n x y is covers

pub returns-clause-within : goal.returns-clause-within
returns-clause-within c = λ d p n x y is coded. coded_within d p n x y is coded
