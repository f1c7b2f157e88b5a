-- The course where there is no further item, turn by turn.
use Rattle.std.proofs.Common.{◌≡◌, ◌∙◌, ◌+◌, ◌<◌, ℕ, suc, nat_lt, Bool, true, false, List, [], ◌++◌, length, Option, Some, None, Result, Ok, Err, IfOk, inl, inr, refl, sym, ap, append-nil, arith}
use Rattle.std.proofs.lemmas.Bool.{lt-ltb}
use Rattle.std.proofs.lemmas.List.{length-append}
use Rattle.std.specs.Io.KnownBytes.{IsAtEnd}
use Rattle.ffv1_reads.specs.declared.fault.FileFault.{FileFault}
use Rattle.ffv1_reads.specs.declared.fault.FileFault.TheVariants as fault
use Rattle.ffv1_reads.specs.declared.item.Item.{Item}
use Rattle.ffv1_reads.specs.declared.item.Item.TheVariants as item
use Rattle.ffv1_reads.specs.Ends.{ReadOrNone, RefusedOrNone}
use Rattle.ffv1_reads.specs.Items.{SaidBy, StopsBy}
use Rattle.ffv1_reads.specs.Known.{Known}
use Rattle.ffv1_reads.specs.Reads.{Faults, Lacks, Short, Want}
use Rattle.ffv1_reads.proofs.KnownLaws.{none_known}
use Rattle.ffv1_avi.specs.Behind.{Stand}
use Rattle.ffv1_avi.specs.Items.{ended_after, ended_up_to, moved, over, over_at, stands}
use Rattle.ffv1_avi.specs.Turns.{turn_read}
use Rattle.ffv1_avi.specs.declared.course.Course.{Course}
use Rattle.ffv1_avi.specs.declared.course.Pending.{Pending}
use Rattle.ffv1_avi.specs.declared.course.Pending.TheVariants as pending
use Rattle.ffv1_avi.specs.declared.course.Turn.{Turn}
use Rattle.ffv1_avi.specs.declared.course.Turn.TheVariants.{On}
use Rattle.ffv1_avi.specs.declared.place.Place.{Place}
use Rattle.ffv1_avi.proofs.TurnsMade.{turn_meets_none}

-- what a look at bytes says of their number
stood : (old new : Option (List ℕ)) (some : Bool) (text : List ℕ) → Stand old new some → old ≡ Some text → some ≡ nat_lt 0 (length text)
stood None new some text stand is = absurd (cc (is))
stood (Some other) None true text (bytes, long, consumed) is = absurd consumed
stood (Some other) (Some rest) true text (bytes, long, consumed) is =
    let same : other ≡ text = cc (is) in
    let whole : length other ≡ length bytes + length rest = ap length consumed ∙ length-append bytes rest in
    let more : 0 < length other = omega (arith, long, whole) in
    sym (lt-ltb 0 (length text) (rw same at more))
stood (Some other) None false text (consumed, ended) is = absurd consumed
stood (Some other) (Some rest) false text (consumed, ended) is =
    let same : other ≡ text = cc (is) in
    let none : other ≡ [] = consumed ∙ ended in
    rw (← same, none) refl

-- of a chunk, where bytes are read
abbrev pub Says : Place → Option (List ℕ) → Bool → Type 0
Says place old some = (text : List ℕ) → old ≡ Some text → some ≡ stands pending.Nothing place text

module _ (place : Place) (old new : Option (List ℕ)) where
  says_stood : (some : Bool) → (place.input ≡ 0 → ⊥) → Stand old new some → Says place old some
  says_stood some more stand text is = stood old new some text stand is ∙ sym (rw (lt-ltb 0 place.input (omega (arith, more))) refl)

  pub stood_there : (some : Bool) (result : Result (Option Turn) FileFault) → (place.input ≡ 0 → ⊥) → IfOk result (λ t. t ≡ None → Stand old new some) → IfOk result (λ t. t ≡ None → Says place old some)
  stood_there some (Ok t) more stand = λ none. says_stood some more (stand none)
  stood_there some (Err f) more stand = tt

-- nothing is read after the end
pub none_there : (place : Place) (old : Option (List ℕ)) → place.input ≡ 0 → Says place old false
none_there place old none text is = sym (rw none refl)

-- there is more
pub never_there : (place : Place) (old : Option (List ℕ)) (some : Bool) (result : Result (Option Turn) FileFault) → IfOk result (λ t. t ≡ None → ⊥) → IfOk result (λ t. t ≡ None → Says place old some)
never_there place old some (Ok t) never = λ none. absurd (never none)
never_there place old some (Err f) never = tt

-- what holds in any case
pub in_any : {P : Type 0} (result : Result (Option Turn) FileFault) → P → IfOk result (λ t. t ≡ None → P)
in_any (Ok t) h = λ none. h
in_any (Err f) h = tt

-- how far turns have come
abbrev pub EndedSoFar : (List ℕ → Course) → (List ℕ → Course) → Option (List ℕ) → Option (List ℕ) → Type 0
EndedSoFar whole on old now = Known old now (λ text at. on at ≡ whole text)

pub ended_begins : (whole : List ℕ → Course) (text : Option (List ℕ)) → EndedSoFar whole whole text text
ended_begins whole None = tt
ended_begins whole (Some bytes) = refl

module _ (whole : List ℕ → Course) (most : ℕ) (c : Course) where
  after_turn : (o : Option Turn) (at rest : List ℕ) → turn_read c.pending c.place at ≡ Ok (o, rest) → ended_after (ended_up_to most) c (stands c.pending c.place at) (Ok (o, rest)) ≡ ended_up_to (suc most) c at
  unfolding ended_up_to
  after_turn o at rest is = ap (ended_after (ended_up_to most) c (stands c.pending c.place at)) (sym is)

  -- a chunk without a frame
  turned : (count : ℕ) (next : Pending) (place : Place) (old now new : Option (List ℕ)) → EndedSoFar whole (ended_up_to (suc most) c) old now → Known now new (λ at rest. turn_read c.pending c.place at ≡ Ok (Some (On count next place), rest)) →
      EndedSoFar whole (ended_up_to most (moved c count next place)) old new
  turned count next place None now new h known = tt
  turned count next place (Some text) None new h known = absurd h
  turned count next place (Some text) (Some at) None h known = absurd known
  turned count next place (Some text) (Some at) (Some rest) h known = after_turn (Some (On count next place)) at rest known ∙ h

  pub ended_on : (count : ℕ) (next : Pending) (place : Place) (old now new : Option (List ℕ)) → EndedSoFar whole (ended_up_to (suc most) c) old now → ReadOrNone (turn_read c.pending c.place) now new (Some (On count next place)) →
      EndedSoFar whole (ended_up_to most (moved c count next place)) old new
  ended_on count next place old now new h read = turned count next place old now new h (none_known (turn_read c.pending c.place) now new (Some (On count next place)) read)

  -- the end
  over_there : (some : Bool) (old now new : Option (List ℕ)) → ((text : List ℕ) → now ≡ Some text → some ≡ stands c.pending c.place text) → EndedSoFar whole (ended_up_to (suc most) c) old now → Known now new (λ at rest. turn_read c.pending c.place at ≡ Ok (None, rest)) →
      SaidBy whole old new (over_at c some)
  over_there some None now new says h known = tt
  over_there some (Some text) None new says h known = absurd h
  over_there some (Some text) (Some at) None says h known = absurd known
  over_there some (Some text) (Some at) (Some rest) says h known = ap (over_at c) (says at refl) ∙ after_turn None at rest known ∙ h

  pub ended_over : (some : Bool) (old now new : Option (List ℕ)) → ((text : List ℕ) → now ≡ Some text → some ≡ stands c.pending c.place text) → EndedSoFar whole (ended_up_to (suc most) c) old now → ReadOrNone (turn_read c.pending c.place) now new None →
      SaidBy whole old new (over_at c some)
  ended_over some old now new says h read = over_there some old now new says h (none_known (turn_read c.pending c.place) now new None read)

  -- the bytes end in a turn
  short_turn : (at : List ℕ) (w : Want) → turn_read c.pending c.place at ≡ Err (Short w) → over c ≡ ended_up_to (suc most) c at
  unfolding ended_up_to
  short_turn at w is = ap (ended_after (ended_up_to most) c (stands c.pending c.place at)) (sym is)

  ended_short : (w : Want) (old now new : Option (List ℕ)) → EndedSoFar whole (ended_up_to (suc most) c) old now → Lacks (turn_read c.pending c.place) now new w → IsAtEnd new → SaidBy whole old new (over c)
  ended_short w None now new h lacks ended = tt
  ended_short w (Some text) None new h lacks ended = absurd h
  ended_short w (Some text) (Some at) None h lacks ended = absurd lacks.consumed
  ended_short w (Some text) (Some at) (Some rest) h lacks ended = short_turn at w (ap (turn_read c.pending c.place) (lacks.consumed ∙ ap (λ z. lacks.bytes ++ z) ended ∙ append-nil lacks.bytes) ∙ lacks.is) ∙ h

  met : (now new : Option (List ℕ)) (f : FileFault) → Faults (turn_read c.pending c.place) now new f → ⊥
  met now new f why = turn_meets_none c.pending c.place (why.bytes ++ []) [] f (why.is [])

  pub ended_stops : (end : Item) (d : Course) (old now new : Option (List ℕ)) (before after : ℕ) (f : FileFault) (result : Result Item FileFault) → EndedSoFar whole (ended_up_to (suc most) c) old now → RefusedOrNone (turn_read c.pending c.place) now new before after f → StopsBy end (over c) c d f result →
      IfOk result (λ i. i ≡ item.End → SaidBy whole old new d)
  ended_stops end d old now new before after fault.Truncated result h (counted, inl (wants, ended)) (is, same) = rw (is, same) (λ i. ended_short wants.0 old now new h wants.1 ended)
  ended_stops end d old now new before after fault.Truncated result h (counted, inr why) (is, same) = absurd (met now new fault.Truncated why)
  ended_stops end d old now new before after f result h why (is, same) = rw is tt

-- no turn is left
pub ended_spent : (whole : List ℕ → Course) (left : ℕ) (c : Course) (old now : Option (List ℕ)) → left ≡ 0 → EndedSoFar whole (ended_up_to left c) old now → SaidBy whole old now (over c)
unfolding ended_up_to
ended_spent whole left c None now none h = tt
ended_spent whole left c (Some text) None none h = absurd h
ended_spent whole left c (Some text) (Some rest) none h = (rw none at h)
