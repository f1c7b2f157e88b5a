-- How many decisions the residuals of a slice take: 2 n + 1 for each of n binary digits. And how
-- many bytes a slice has before its footer: one and its renormalisations, at most as many as its
-- decisions and 101 more, with 6 for a third set index and 2 for each place that may be above 15.
use Rattle.std.proofs.Common.{ℕ, [], ◌++◌, ◌*◌, ◌<◌, ◌≤◌, length, arith, length-append}
use Rattle.ffv1_record.specs.Accepted.{Accepted, IsAccepted}
use Rattle.ffv1_slice.specs.Length.{head_most}
use Rattle.ffv1_frame.specs.Frame.{IsSaid}
use Rattle.ffv1_slice.specs.Head.{key_steps, head_steps}
use Rattle.ffv1_frame.specs.Picture.{cell_in}
use Rattle.ffv1_frame.specs.SliceList.{Said, chosen_head, chosen_body, chosen_slice, lines_in}
use Rattle.ffv1_frame.proofs.lemmas.picture.Lines.{Sides}
use Rattle.ffv1_frame.proofs.lemmas.Lengths.{Rows, body_long, residuals_few, key_few, sealed_most}
use Rattle.ffv1_frame.proofs.lemmas.Lengths.{sealed_least, sentinel_long}
use Rattle.ffv1_range.specs.Interval.{interval_of}
use Rattle.ffv1_range.specs.History.{decisions_after}
use Rattle.ffv1_frame.proofs.laws.slice_length_follows_from_residuals.Goals as goal

rows : (c : goal.After-parts_follow_one_another) → Rows
rows c = record {
  row = c.residual_length_follows_from_digits.ensures.row;
  most = c.residual_length_follows_from_digits.ensures.most;
  small = c.residual_length_follows_from_digits.ensures.chosen_small;
  long = c.chosen_residuals_suit_their_samples.ensures.long;
  shifted_long = c.symbol_length_follows_from_exponent.ensures.shifted;
}

head : (c : goal.After-parts_follow_one_another) (a : Accepted) (info : Said) (n : ℕ) → IsAccepted
    a.configuration a.table → IsSaid info → n < a.configuration.columns * a.configuration.rows →
    length (head_steps a.configuration n (chosen_head a.configuration info))
    ≤ head_most a.configuration
head c a info n is said inside = c.head_takes_few_decisions.ensures.head a.profile a.configuration
    a.table n (chosen_head a.configuration info) is
    (c.chosen_slices_suit_their_picture.ensures.head a info is said) inside

pub returns-clause-body : goal.returns-clause-body
returns-clause-body c = λ a planes info n some most.
    let conf = a.configuration in
    body_long (rows c) conf some most (chosen_head conf info) (cell_in conf planes n)
    (lines_in conf n)

pub returns-clause-few : goal.returns-clause-few
returns-clause-few c = λ a planes info n is inside.
    let conf = a.configuration in
    let sides : Sides = record {
      across = c.cells_tile_their_plane.ensures.across;
      down =
          c.cells_tile_their_plane.ensures.down;
      ends = c.parts_follow_one_another.ensures.coded;
    } in
    residuals_few (rows c) sides conf planes (chosen_head conf info) n
    (c.accepted_pictures_are_divided.ensures conf a.table is) inside

pub returns-clause-beginning : goal.returns-clause-beginning
returns-clause-beginning c = λ a info n is said inside.
    let conf = a.configuration in
    let both = length-append (key_steps n) (head_steps conf n (chosen_head conf info)) in
    let key = key_few n in
    omega (arith, head c a info n is said inside, both, key)

pub returns-clause-bytes : goal.returns-clause-bytes
returns-clause-bytes c = λ a planes info n is said inside.
    let conf = a.configuration in
    let depth = c.accepted_configuration_is_in_range.ensures.depth conf a.table is in
    let body = body_long (rows c) conf (omega (arith, depth.0)) depth.1 (chosen_head conf info)
    (cell_in conf planes n) (lines_in conf n) in
    let rest = length-append (head_steps conf n (chosen_head conf info))
    (chosen_body conf (chosen_head conf info) (cell_in conf planes n) (lines_in conf n)) in
    let all = length-append (key_steps n) (head_steps conf n (chosen_head conf info) ++ chosen_body
    conf (chosen_head conf info) (cell_in conf planes n) (lines_in conf n)) in
    let most = sealed_most a.table (chosen_slice conf planes info n) in
    omega (arith, key_few n, head c a info n is said inside, body, rest, all, most)

pub returns-clause-coded : goal.returns-clause-coded
returns-clause-coded c = λ a planes info n.
    let steps = chosen_slice a.configuration planes info n in
    omega (
      arith,
      sentinel_long (interval_of (decisions_after a.table [] steps)),
      sealed_least
          a.table steps,
    )
