-- A frame is found chunk by chunk.
use Rattle.std.proofs.Common.{◌≡◌, ◌∙◌, ◌==◌, ℕ, Bool, true, false, List, Option, Some, None, Result, Ok, Err, refl, sym, ap}
use Rattle.std.proofs.lemmas.Bool.{eqb-false, eqb-true}
use Rattle.ffv1_reads.specs.Reads.{Stop, given, read_on, ◌>>=◌}
use Rattle.ffv1_avi.specs.declared.chunk.Entry.{Entry}
use Rattle.ffv1_avi.specs.declared.place.Open.{Open}
use Rattle.ffv1_avi.specs.declared.place.Open.TheVariants.{Sized, OpenRiff, OpenMovi}
use Rattle.ffv1_avi.specs.declared.place.Place.{Place}
use Rattle.ffv1_avi.specs.Files.{beyond, found_or_on, frame_found, movi_found, movi_or_riff, movi_sought, riff_begun, sought_on, stepped}
use Rattle.ffv1_avi.specs.Names.{rule_of}
use Rattle.ffv1_avi.specs.Offsets.{movi_left, riff_left}
use Rattle.ffv1_avi.specs.Opens.{no_frame, visit_movi, visit_riff}
use Rattle.ffv1_avi.specs.Turns.{beyond_step, chunk_step, movi_step, riff_place, riff_step, step_read}
use Rattle.ffv1_avi.specs.Walk.{entry_in, entry_read, resumed, visited, walk, walk_in}
use Rattle.ffv1_avi.proofs.ChunkByChunk.{walk_step, walk_step_in}
use Rattle.ffv1_avi.proofs.FrameLaws.{found_same}
use Rattle.ffv1_avi.proofs.Moves.{beyond_first, frame_step, moved_every, movi_empty}

-- ---- behind a movi, in an RIFF that has a size

begun_apart : (place : Place) (left : ℕ) (text : List ℕ) → riff_begun (riff_left place left) text ≡ riff_begun place text
unfolding riff_begun
begun_apart place left text = refl

module _ (place : Place) (closed : place.open_in ≡ Sized) (some : place.input ≡ 0 → ⊥) where
  moves_apart : (left : ℕ) (z : Result (Option (ℕ × ℕ) × List ℕ) Stop) → read_on z (movi_or_riff place) ≡ read_on z (movi_or_riff (riff_left place left))
  moves_apart left (Err why) = refl
  moves_apart left (Ok (Some p, rest)) = refl
  moves_apart left (Ok (None, rest)) = sym (begun_apart place left rest)

  -- the frame after a chunk of RIFF that is passed
  found_behind : (left : ℕ) (text : List ℕ) → frame_found (riff_left place left) text ≡ read_on (read_on (movi_sought place.names left text) (movi_or_riff place)) (sought_on frame_found)
  found_behind left text =
      frame_step (riff_left place left) text
      ∙ ap (λ z. read_on z (found_or_on frame_found (riff_left place left))) (movi_empty place.names text)
      ∙ ap (λ o. beyond o frame_found (riff_left place left) text) closed
      ∙ ap (λ z. read_on z (sought_on frame_found)) (moved_every (riff_left place left) some text)
      ∙ ap (λ z. read_on z (sought_on frame_found)) (sym (moves_apart left (movi_sought place.names left text)))

  riff_visited : (e : Entry) (z : Result ((Unit {0} × Option (ℕ × ℕ)) × List ℕ) Stop) →
      read_on (read_on (read_on (read_on z (λ p. resumed (walk (visit_riff place.names) e.left) p.0 p.1)) (λ p. given p.1)) (movi_or_riff place)) (sought_on frame_found)
      ≡ read_on (read_on z (λ p. given (Some (None, riff_place place e.left p.1)))) (stepped frame_found)
  unfolding movi_sought
  riff_visited e (Err why) = refl
  riff_visited e (Ok ((t, Some y), rest)) = refl
  riff_visited e (Ok ((t, None), rest)) = sym (found_behind e.left rest)

  riff_begins : (z : Result (Option Place × List ℕ) Stop) → read_on z (sought_on frame_found) ≡ read_on (read_on z no_frame) (stepped frame_found)
  riff_begins (Err why) = refl
  riff_begins (Ok (None, rest)) = refl
  riff_begins (Ok (Some next, rest)) = refl

  riff_entered : (z : Result (Option Entry × List ℕ) Stop) →
      read_on (read_on (read_on (read_on z (visited (visit_riff place.names) (walk (visit_riff place.names)) tt)) (λ p. given p.1)) (movi_or_riff place)) (sought_on frame_found)
      ≡ read_on (read_on z (riff_step place)) (stepped frame_found)
  riff_entered (Err why) = refl
  riff_entered (Ok (None, rest)) = riff_begins (riff_begun place rest)
  riff_entered (Ok (Some e, rest)) = riff_visited e (visit_riff place.names tt e rest)

  sized_beyond : (text : List ℕ) → beyond Sized frame_found place text ≡ read_on (beyond_step Sized place text) (stepped frame_found)
  unfolding movi_sought
  sized_beyond text =
      ap (λ z. read_on z (sought_on frame_found)) (moved_every place some text)
      ∙ ap (λ z. read_on (read_on (read_on z (λ p. given p.1)) (movi_or_riff place)) (sought_on frame_found)) (walk_step (visit_riff place.names) place.riff tt text)
      ∙ riff_entered (entry_read place.riff text)

-- ---- behind a movi

module _ (place : Place) where
  any_beyond : (o : Open) → place.open_in ≡ o → (place.input ≡ 0 → ⊥) → (text : List ℕ) → beyond o frame_found place text ≡ read_on (beyond_step o place text) (stepped frame_found)
  any_beyond Sized is some text = sized_beyond place is some text
  any_beyond OpenRiff is some text = refl
  any_beyond OpenMovi is some text = refl

  beyond_is : (text : List ℕ) (b : Bool) → (place.input == 0) ≡ b → beyond place.open_in frame_found place text ≡ read_on (chunk_step place None text) (stepped frame_found)
  beyond_is text true none = beyond_first place.open_in frame_found place (eqb-true place.input 0 none) text ∙ (rw none refl)
  beyond_is text false more = any_beyond place.open_in refl (eqb-false place.input 0 more) text ∙ (rw more refl)

  movi_visited : (e : Entry) (z : Result ((Unit {0} × Option (ℕ × ℕ)) × List ℕ) Stop) →
      read_on (read_on (read_on z (λ p. resumed (walk_in (rule_of place.names) (visit_movi place.names) e.left) p.0 p.1)) (λ p. given p.1)) (found_or_on frame_found place)
      ≡ read_on (read_on z (λ p. given (Some (movi_step place e.left p.1)))) (stepped frame_found)
  unfolding movi_found
  movi_visited e (Err why) = refl
  movi_visited e (Ok ((t, Some y), rest)) = refl
  movi_visited e (Ok ((t, None), rest)) = found_same place e.left (movi_found place.names e.left rest) ∙ sym (frame_step (movi_left place e.left) rest)

  movi_entered : (z : Result (Option Entry × List ℕ) Stop) →
      read_on (read_on (read_on z (visited (visit_movi place.names) (walk_in (rule_of place.names) (visit_movi place.names)) tt)) (λ p. given p.1)) (found_or_on frame_found place)
      ≡ read_on (read_on z (chunk_step place)) (stepped frame_found)
  movi_entered (Err why) = refl
  movi_entered (Ok (None, rest)) = beyond_is rest (place.input == 0) refl
  movi_entered (Ok (Some e, rest)) = movi_visited e (visit_movi place.names tt e rest)

  -- it is in the next chunk, or the first one after that
  pub found_step : (text : List ℕ) → frame_found place text ≡ (step_read place >>= stepped frame_found) text
  unfolding movi_found step_read
  found_step text =
      frame_step place text
      ∙ ap (λ z. read_on (read_on z (λ p. given p.1)) (found_or_on frame_found place)) (walk_step_in (rule_of place.names) (visit_movi place.names) place.movi tt text)
      ∙ movi_entered (entry_in (rule_of place.names) place.movi text)
