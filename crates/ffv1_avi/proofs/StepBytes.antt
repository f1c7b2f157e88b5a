-- The bytes of a step: no byte after them was looked at.
use Rattle.std.proofs.Common.{◌≡◌, ◌∙◌, ◌==◌, ℕ, Bool, true, false, List, ◌++◌, codes, Option, Some, None, Ok, if◌then◌else◌, refl, sym, ap, append_assoc}
use Rattle.ffv1_reads.specs.Reads.{Reading, given, read_on, ◌>>=◌}
use Rattle.ffv1_reads.proofs.Made.{Made, any, made_given, made_local, made_then}
use Rattle.ffv1_reads.proofs.Results.{ok_is, read_on_ok}
use Rattle.ffv1_reads.specs.Behind.{begins_file}
use Rattle.ffv1_avi.specs.declared.chunk.Entry.{Entry}
use Rattle.ffv1_avi.specs.declared.place.Open.{Open}
use Rattle.ffv1_avi.specs.declared.place.Open.TheVariants.{Sized, OpenRiff, OpenMovi}
use Rattle.ffv1_avi.specs.declared.place.Place.{Place}
use Rattle.ffv1_avi.specs.Files.{riff_begun, riff_entered, riff_judged, riff_named}
use Rattle.ffv1_avi.specs.Names.{rule_of}
use Rattle.ffv1_avi.specs.Offsets.{chunk_taken}
use Rattle.ffv1_avi.specs.Opens.{named_or_end, no_frame, open_found, open_named, or_end, rest_named, taken_or_end, visit_movi, visit_riff}
use Rattle.ffv1_avi.specs.Turns.{beyond_step, chunk_step, movi_step, riff_place, riff_step, step_read}
use Rattle.ffv1_avi.specs.Walk.{entry_in, entry_read, is_name}
use Rattle.ffv1_avi.proofs.ReadingFaults.{of_entry, of_movi_visit, of_open_named, of_rest_named, of_riff_judged, of_riff_visit}
use Rattle.ffv1_avi.proofs.TakenBytes.{enough_there, some_taken}
use Rattle.ffv1_avi.proofs.TakenSteps.{step_taken, taken_by_step}

-- the bytes of which this was read, whatever comes after them
pub record Taken {X : Type 0} (r : Reading X) (text : List ℕ) (x : X) (rest : List ℕ) : Type 0 where
  pub used : List ℕ
  pub text_is : text ≡ used ++ rest
  pub again : (more : List ℕ) → r (used ++ more) ≡ Ok (x, more)

-- a value that is some has its bytes
abbrev Takes : {X : Type 0} → Reading (Option X) → Type 0
Takes {X = X} r = (text : List ℕ) (x : X) (rest : List ℕ) → r text ≡ Ok (Some x, rest) → Taken r text (Some x) rest

made_takes : {X : Type 0} {r : Reading (Option X)} → Made any false r → Takes r
made_takes made text x rest is =
    let u = made_local made text (Some x) rest is in
    record { used = u.used; text_is = u.text_is; again = u.again }

none_takes : {X : Type 0} {r : Reading (Option X)} → ((text : List ℕ) → r text ≡ Ok (None, text)) → Takes r
none_takes {X = X} none text x rest is = absurd (no_some (ap (λ (z : Option X × List ℕ). z.0) (ok_is (None, text) (Some x, rest) (sym (none text) ∙ is))))
  where
    no_some : ◌≡◌ {A = Option X} None (Some x) → ⊥
    no_some e = absurd (cc)

if_takes : {X : Type 0} (b : Bool) (r s : Reading (Option X)) → Takes r → Takes s → Takes (if b then r else s)
if_takes true r s one two = one
if_takes false r s one two = two

joined : {Y X : Type 0} (r : Reading Y) (k : Y → Reading (Option X)) (text : List ℕ) (y : Y) (mid : List ℕ) (x : X) (rest : List ℕ) → Taken r text y mid → Taken (k y) mid (Some x) rest → Taken (r >>= k) text (Some x) rest
joined r k text y mid x rest u v =
    record {
      used = u.used ++ v.used;
      text_is = u.text_is ∙ ap (λ z. u.used ++ z) v.text_is ∙ sym (append_assoc u.used v.used rest);
      again = λ more. ap (r >>= k) (append_assoc u.used v.used more) ∙ ap (λ z. read_on z k) (u.again (v.used ++ more)) ∙ v.again more;
    }

module _ {Y X : Type 0} where
  -- after a reading that never ends
  made_next : (r : Reading Y) (k : Y → Reading (Option X)) → Made any false r → ((y : Y) → Takes (k y)) → Takes (r >>= k)
  made_next r k made next text x rest is = on_parts (read_on_ok (r text) k (Some x, rest) is)
    where
      on_parts : (p : Y × List ℕ) × (r text ≡ Ok p) × (k p.0 p.1 ≡ Ok (Some x, rest)) → Taken (r >>= k) text (Some x) rest
      on_parts (p, one, two) =
          let u = made_local made text p.0 p.1 one in
          joined r k text p.0 p.1 x rest (record { used = u.used; text_is = u.text_is; again = u.again }) (next p.0 p.1 x rest two)

  -- after one that may end
  takes_next : (r : Reading (Option Y)) (k : Option Y → Reading (Option X)) → Takes r → ((text : List ℕ) → k None text ≡ Ok (None, text)) → ((y : Y) → Takes (k (Some y))) → Takes (r >>= k)
  takes_next r k takes none next text x rest is = on_parts (read_on_ok (r text) k (Some x, rest) is)
    where
      on_parts : (p : Option Y × List ℕ) × (r text ≡ Ok p) × (k p.0 p.1 ≡ Ok (Some x, rest)) → Taken (r >>= k) text (Some x) rest
      on_parts ((None, mid), one, two) = absurd (no_some (ap (λ (z : Option X × List ℕ). z.0) (ok_is (None, mid) (Some x, rest) (sym (none mid) ∙ two))))
        where
          no_some : ◌≡◌ {A = Option X} None (Some x) → ⊥
          no_some e = absurd (cc)
      on_parts ((Some y, mid), one, two) = joined r k text (Some y) mid x rest (takes text y mid one) (next y mid x rest two)

bytes_take : (n owes : ℕ) → Takes (taken_or_end n owes)
bytes_take n owes text x rest is =
    let some = some_taken n owes text x rest is in
    record { used = x; text_is = some.0; again = λ more. enough_there n owes x more some.1 }

module _ (place : Place) where
  entered_takes : Takes (riff_entered place)
  entered_takes = takes_next (taken_or_end 8 place.owed) (or_end (riff_judged place)) (bytes_take 8 place.owed) (λ text. refl) (λ bytes. made_takes (of_riff_judged any false refl refl refl place bytes))

  named_takes : (name : List ℕ) → Takes (riff_named place name)
  named_takes name =
      if_takes (is_name name (codes "RIFF")) _ _ entered_takes
      (if_takes (begins_file name) _ _ (λ text x rest is. absurd (cc (is)))
      (if_takes (place.owed == 0) _ _ (none_takes (λ text. refl)) (λ text x rest is. absurd (cc (is)))))

  begun_takes : Takes (riff_begun place)
  unfolding riff_begun
  begun_takes = takes_next (taken_or_end 4 place.owed) (or_end (riff_named place)) (bytes_take 4 place.owed) (λ text. refl) named_takes

  found_takes : Takes (open_found place)
  unfolding open_found
  found_takes =
      if_takes (place.input == 0) _ _ (none_takes (λ text. refl))
      (takes_next (named_or_end place.owed) (or_end (open_named place))
      (takes_next (taken_or_end 1 place.owed) rest_named (bytes_take 1 place.owed) (λ text. refl) (λ first. made_takes (of_rest_named any false refl refl refl refl (Some first))))
      (λ text. refl) (λ name. made_takes (of_open_named any false refl refl refl refl refl place name)))

  riff_takes : (o : Option Entry) → Takes (riff_step place o)
  riff_takes None = takes_next (riff_begun place) no_frame begun_takes (λ text. refl) (λ next. made_takes (made_given _))
  riff_takes (Some e) = made_takes (made_then (visit_riff place.names tt e) (λ p. given (Some (None, riff_place place e.left p.1))) (of_riff_visit any false refl refl place.names tt e) (λ p. made_given _))

  beyond_takes : (o : Open) → Takes (beyond_step o place)
  beyond_takes Sized = made_next (entry_read place.riff) (riff_step place) (of_entry any false refl refl _ place.riff) riff_takes
  beyond_takes OpenRiff = found_takes
  beyond_takes OpenMovi = found_takes

  chunk_takes : (o : Option Entry) → Takes (chunk_step place o)
  chunk_takes None = if_takes (place.input == 0) _ _ (none_takes (λ text. refl)) (beyond_takes place.open_in)
  chunk_takes (Some e) = made_takes (made_then (visit_movi place.names tt e) (λ p. given (Some (movi_step place e.left p.1))) (of_movi_visit any false refl refl refl refl place.names tt e) (λ p. made_given _))

  step_takes : Takes (step_read place)
  unfolding step_read
  step_takes = made_next (entry_in (rule_of place.names) place.movi) (chunk_step place) (of_entry any false refl refl (rule_of place.names) place.movi) chunk_takes

  -- a chunk without a frame is read whole
  pub step_whole : (text : List ℕ) (next : Place) (rest : List ℕ) → step_read place text ≡ Ok (Some (None, next), rest) → Taken (chunk_taken place) text next rest
  step_whole text next rest is =
      let u = step_takes text (None, next) rest is in
      record { used = u.used; text_is = u.text_is; again = λ more. taken_by_step place (u.used ++ more) ∙ ap (λ z. read_on z (step_taken place)) (u.again more) }
