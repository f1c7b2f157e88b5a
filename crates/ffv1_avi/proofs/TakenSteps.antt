-- A chunk is read whole by its step, and its bytes if it is a frame.
use Rattle.std.proofs.Common.{◌≡◌, ◌∙◌, ◌==◌, ℕ, Bool, true, false, if◌then◌else◌, List, [], ◌∷◌, ◌++◌, Option, Some, None, Result, Ok, Err, refl, sym, ap}
use Rattle.ffv1_reads.specs.Offsets.{Leads}
use Rattle.ffv1_reads.specs.Reads.{Kept, Reading, Stop, given, read_on, ◌>>=◌}
use Rattle.ffv1_reads.proofs.Results.{ok_is}
use Rattle.ffv1_avi.specs.declared.chunk.Entry.{Entry}
use Rattle.ffv1_avi.specs.declared.place.Open.{Open}
use Rattle.ffv1_avi.specs.declared.place.Open.TheVariants.{Sized, OpenRiff, OpenMovi}
use Rattle.ffv1_avi.specs.declared.place.Place.{Place}
use Rattle.ffv1_avi.specs.Files.{riff_begun}
use Rattle.ffv1_avi.specs.Names.{rule_of}
use Rattle.ffv1_avi.specs.Offsets.{beyond_taken, chunk_taken, frame_taken, movi_entered, movi_taken, open_taken, riff_next, riff_taken}
use Rattle.ffv1_avi.specs.Opens.{Step, no_frame, open_found, visit_movi, visit_riff}
use Rattle.ffv1_avi.specs.Padding.{content}
use Rattle.ffv1_avi.specs.Places.{ended}
use Rattle.ffv1_avi.specs.Turns.{beyond_step, chunk_step, movi_step, riff_place, riff_step, step_read}
use Rattle.ffv1_avi.specs.Walk.{entry_in, entry_read}

-- where it is at the end
abbrev pub end_at : Place → Place
end_at place = if place.input == 0 then place else ended

-- what is taken of a step
abbrev pub step_taken : Place → Option Step → Reading Place
step_taken place None = given (end_at place)
step_taken place (Some (None, next)) = given next
step_taken place (Some (Some size, next)) = content Kept size >>= λ bytes. given next

module _ (place : Place) where
  movi_visited : (e : Entry) (z : Result ((Unit {0} × Option (ℕ × ℕ)) × List ℕ) Stop) →
      read_on z (λ p. frame_taken place e.left p.1) ≡ read_on (read_on z (λ p. given (Some (movi_step place e.left p.1)))) (step_taken place)
  movi_visited e (Err why) = refl
  movi_visited e (Ok ((t, None), rest)) = refl
  movi_visited e (Ok ((t, Some p), rest)) = refl

  module _ (more : (place.input == 0) ≡ false) where
    end_is : end_at place ≡ ended
    end_is = rw more refl

    riff_visited : (e : Entry) (z : Result ((Unit {0} × Option (ℕ × ℕ)) × List ℕ) Stop) →
        read_on z (λ p. movi_entered place e.left p.1) ≡ read_on (read_on z (λ p. given (Some (None, riff_place place e.left p.1)))) (step_taken place)
    riff_visited e (Err why) = refl
    riff_visited e (Ok ((t, None), rest)) = refl
    riff_visited e (Ok ((t, Some p), rest)) = refl

    riff_begins : (z : Result (Option Place × List ℕ) Stop) → read_on z riff_next ≡ read_on (read_on z no_frame) (step_taken place)
    riff_begins (Err why) = refl
    riff_begins (Ok (None, rest)) = ap (λ p. Ok (p, rest)) (sym end_is)
    riff_begins (Ok (Some next, rest)) = refl

    riff_read : (z : Result (Option Entry × List ℕ) Stop) → read_on z (riff_taken place) ≡ read_on (read_on z (riff_step place)) (step_taken place)
    riff_read (Err why) = refl
    riff_read (Ok (None, rest)) = riff_begins (riff_begun place rest)
    riff_read (Ok (Some e, rest)) = riff_visited e (visit_riff place.names tt e rest)

    open_read : (z : Result (Option Step × List ℕ) Stop) → read_on z open_taken ≡ read_on z (step_taken place)
    open_read (Err why) = refl
    open_read (Ok (None, rest)) = ap (λ p. Ok (p, rest)) (sym end_is)
    open_read (Ok (Some (None, next), rest)) = refl
    open_read (Ok (Some (Some size, next), rest)) = refl

    beyond_read : (o : Open) (text : List ℕ) → beyond_taken o place text ≡ read_on (beyond_step o place text) (step_taken place)
    beyond_read Sized text = riff_read (entry_read place.riff text)
    beyond_read OpenRiff text = open_read (open_found place text)
    beyond_read OpenMovi text = open_read (open_found place text)

  beyond_is : (text : List ℕ) (b : Bool) → (place.input == 0) ≡ b → movi_taken place None text ≡ read_on (chunk_step place None text) (step_taken place)
  beyond_is text true none =
      let taken : movi_taken place None text ≡ Ok (place, text) = rw none refl in
      let step : chunk_step place None text ≡ Ok (None, text) = rw none refl in
      let end : end_at place ≡ place = rw none refl in
      taken ∙ ap (λ p. Ok (p, text)) (sym end) ∙ ap (λ z. read_on z (step_taken place)) (sym step)
  beyond_is text false more =
      let taken : movi_taken place None text ≡ beyond_taken place.open_in place text = rw more refl in
      let step : chunk_step place None text ≡ beyond_step place.open_in place text = rw more refl in
      taken ∙ beyond_read more place.open_in text ∙ ap (λ z. read_on z (step_taken place)) (sym step)

  movi_read : (z : Result (Option Entry × List ℕ) Stop) → read_on z (movi_taken place) ≡ read_on (read_on z (chunk_step place)) (step_taken place)
  movi_read (Err why) = refl
  movi_read (Ok (None, rest)) = beyond_is rest (place.input == 0) refl
  movi_read (Ok (Some e, rest)) = movi_visited e (visit_movi place.names tt e rest)

  pub taken_by_step : (text : List ℕ) → chunk_taken place text ≡ read_on (step_read place text) (step_taken place)
  unfolding chunk_taken step_read
  taken_by_step text = movi_read (entry_in (rule_of place.names) place.movi text)

-- nothing is read behind the end
over_taken : (place : Place) (text : List ℕ) → place.movi ≡ 0 → place.input ≡ 0 → chunk_taken place text ≡ Ok (place, text)
unfolding chunk_taken entry_in
over_taken place text none ended = rw (none, ended) refl

pub over_leads : (elements : List (List ℕ)) (from to : Place) (rest : List ℕ) → from.movi ≡ 0 → from.input ≡ 0 → Leads chunk_taken from elements to → chunk_taken to rest ≡ Ok (to, rest)
over_leads [] from to rest none over leads = rw leads (over_taken from rest none over)
over_leads (bytes ∷ others) from to rest none over (next, reads, leads) =
    let same : from ≡ next = ap (λ (z : Place × List ℕ). z.0) (ok_is (from, bytes ++ []) (next, []) (sym (over_taken from (bytes ++ []) none over) ∙ reads [])) in
    let there : next.movi ≡ 0 = ap (λ (z : Place). z.movi) (sym same) ∙ none in
    let here : next.input ≡ 0 = ap (λ (z : Place). z.input) (sym same) ∙ over in
    over_leads others next to rest there here leads
