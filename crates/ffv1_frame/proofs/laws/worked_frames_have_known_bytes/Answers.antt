-- Frames that are known from outside the program: what the definition of a frame gives for them.
use Rattle.std.proofs.Common.{refl}
use Rattle.ffv1_range.specs.Symbols.{raising, halvings}
use Rattle.ffv1_plane.specs.Context.{size_of, flip_of}
use Rattle.ffv1_line.specs.Cell.{seen}
use Rattle.ffv1_line.specs.Row.{chosen_row}
use Rattle.ffv1_record.specs.Parity.{parity_of, divided}
use Rattle.ffv1_slice.specs.Grid.{reduced}
use Rattle.ffv1_frame.proofs.laws.worked_frames_have_known_bytes.Goals as goal

pub returns-clause-zero : goal.returns-clause-zero
unfolding chosen_row seen size_of flip_of reduced raising halvings
returns-clause-zero c = refl

pub returns-clause-parity : goal.returns-clause-parity
unfolding chosen_row seen size_of flip_of reduced raising halvings parity_of divided
returns-clause-parity c = refl

pub returns-clause-greatest : goal.returns-clause-greatest
unfolding chosen_row seen size_of flip_of reduced raising halvings
returns-clause-greatest c = refl

pub returns-clause-middle : goal.returns-clause-middle
unfolding chosen_row seen size_of flip_of reduced raising halvings
returns-clause-middle c = refl

pub returns-clause-four : goal.returns-clause-four
unfolding chosen_row seen size_of flip_of reduced raising halvings
returns-clause-four c = refl

pub returns-clause-beside : goal.returns-clause-beside
unfolding chosen_row seen size_of flip_of reduced raising halvings
returns-clause-beside c = refl

pub returns-clause-chroma : goal.returns-clause-chroma
unfolding chosen_row seen size_of flip_of reduced raising halvings
returns-clause-chroma c = refl

pub returns-clause-transparency : goal.returns-clause-transparency
unfolding chosen_row seen size_of flip_of reduced raising halvings
returns-clause-transparency c = refl

pub returns-clause-red : goal.returns-clause-red
unfolding chosen_row seen size_of flip_of reduced raising halvings
returns-clause-red c = refl
