-- Whether Cues came after the last Cluster, turn by turn.
use Rattle.std.proofs.Common.{◌≡◌, ◌∙◌, ℕ, suc, Bool, false, List, [], ◌∷◌, ◌++◌, Option, Some, None, Result, Ok, Err, IfOk, inl, inr, refl, sym, ap, append-nil, arith}
use Rattle.std.specs.Io.KnownBytes.{Consumes, IsAtEnd, Keeps}
use Rattle.ffv1_wire.specs.Passage.{Passage}
use Rattle.ffv1_reads.specs.declared.fault.FileFault.{FileFault}
use Rattle.ffv1_reads.specs.declared.fault.FileFault.TheVariants as fault
use Rattle.ffv1_reads.specs.Ends.{AnswersOrNone, ReadOrNone, RefusedOrNone}
use Rattle.ffv1_reads.specs.Known.{Known}
use Rattle.ffv1_reads.specs.Reads.{Answers, Faults, Lacks, Read, Reading, Short, Want}
use Rattle.ffv1_reads.proofs.KnownLaws.{none_known}
use Rattle.ffv1_reads.proofs.WantedBytes.{taken_complete}
use Rattle.ffv1_ebml.specs.Tried.{tried}
use Rattle.ffv1_ebml.specs.Vints.{vint_read, vint_rest}
use Rattle.ffv1_ebml.proofs.TriedReadings.{tried_whole}
use Rattle.ffv1_matroska.specs.CuedItems.{CuedBy, cued_after, cued_named, cued_outer, cued_read, cued_sought, cued_turn, cued_up_to}
use Rattle.ffv1_reads.specs.Items.{Given, ItemAnswers, StopsBy}
use Rattle.ffv1_matroska.specs.Items.{over}
use Rattle.ffv1_matroska.specs.Turns.{scanned, turn_of, turn_read}
use Rattle.ffv1_matroska.specs.declared.course.Course.{Course}
use Rattle.ffv1_matroska.specs.declared.course.Turn.{Turn}
use Rattle.ffv1_reads.specs.declared.item.Item.{Item}
use Rattle.ffv1_matroska.specs.declared.track.TrackNumbers.{TrackNumbers}
use Rattle.ffv1_matroska.proofs.TurnsMade.{turn_meets_none}

-- ---- behind bytes that were consumed

-- nothing was read
pub cued_here : (by : List ℕ → Bool) (cued : Bool) (text : Option (List ℕ)) → ((bytes : List ℕ) → cued ≡ by bytes) → CuedBy by text text cued
cued_here by cued None same = tt
cued_here by cued (Some bytes) same = same bytes

-- some bytes say so, whatever comes after them
cued_there : (by : List ℕ → Bool) (cued : Bool) (old new : Option (List ℕ)) (bytes : List ℕ) → Consumes old new bytes → ((rest : List ℕ) → cued ≡ by (bytes ++ rest)) → CuedBy by old new cued
cued_there by cued None new bytes consumed same = tt
cued_there by cued (Some text) None bytes consumed same = absurd consumed
cued_there by cued (Some text) (Some rest) bytes consumed same = same rest ∙ ap by (sym consumed)

-- and others were consumed after them
cued_then : (by : List ℕ → Bool) (cued : Bool) (old mid new : Option (List ℕ)) (bytes more : List ℕ) → Consumes old mid bytes → Consumes mid new more → ((rest : List ℕ) → cued ≡ by (bytes ++ rest)) → CuedBy by old new cued
cued_then by cued None mid new bytes more first others same = tt
cued_then by cued (Some text) None new bytes more first others same = absurd first
cued_then by cued (Some text) (Some left) None bytes more first others same = absurd others
cued_then by cued (Some text) (Some left) (Some rest) bytes more first others same = same left ∙ ap by (sym first)

-- a turn that changes nothing
turn_keeps : (by : List ℕ → Bool) (cued : Bool) (r : Reading (Option Turn)) (old new : Option (List ℕ)) (o : Option Turn) → ((text : List ℕ) → cued ≡ by text) → ReadOrNone r old new o → CuedBy by old new cued
turn_keeps by cued r None new o same h = tt
turn_keeps by cued r (Some text) None o same (inl read) = absurd read.consumed
turn_keeps by cued r (Some text) None o same (inr ((halts, ended), none)) = absurd halts.consumed
turn_keeps by cued r (Some text) (Some rest) o same h = same text

pub cued_kept : (by : List ℕ → Bool) (cued : Bool) (r : Reading (Option Turn)) (p : Passage) (result : Result (Option Turn) FileFault) → ((text : List ℕ) → cued ≡ by text) → AnswersOrNone (λ (t : Option Turn). t) r p result → IfOk result (λ t. CuedBy by p.old p.new cued)
cued_kept by cued r p (Ok o) same h = turn_keeps by cued r p.old p.new o same h.1
cued_kept by cued r p (Err f) same h = tt

-- ---- the ID of an element

module _ (cued came : Bool) (r : Reading (Result (List ℕ) FileFault)) (old mid new : Option (List ℕ)) (before last : ℕ) (ident : Result (List ℕ) FileFault) where
  pub cued_ident : (next : Reading Turn) (result : Result Turn FileFault) → Read r old mid ident → came ≡ cued_named cued ident → Answers (λ (t : Turn). t) next (record { old = mid; new = new; before = before; after = last }) result →
      IfOk result (λ t. CuedBy (λ text. cued_read cued (r text)) old new came)
  cued_ident next (Ok t) h same answer = cued_then (λ text. cued_read cued (r text)) came old mid new h.bytes answer.1.bytes h.consumed answer.1.consumed (λ rest. same ∙ ap (cued_read cued) (sym (h.is rest)))
  cued_ident next (Err f) h same answer = tt

-- its first byte was read
outer_first : (b : ℕ) (text : List ℕ) → tried (vint_read 4 4) (b ∷ text) ≡ tried (vint_rest 4 4 (b ∷ [])) text
outer_first b text =
    let whole = tried_whole 4 4 (λ e. absurd (omega (arith, e))) (b ∷ text) in
    let front = taken_complete 1 (b ∷ []) text refl in
    rw (whole, front) refl

pub cued_first : (cued came : Bool) (b : ℕ) (old mid new : Option (List ℕ)) → Consumes old mid (b ∷ []) → CuedBy (λ text. cued_read cued (tried (vint_rest 4 4 (b ∷ [])) text)) mid new came → CuedBy (cued_outer cued) old new came
cued_first cued came b None mid new first h = tt
cued_first cued came b (Some text) None new first h = absurd first
cued_first cued came b (Some text) (Some left) None first h = absurd h
cued_first cued came b (Some text) (Some left) (Some rest) first h = h ∙ ap (cued_read cued) (sym (outer_first b left)) ∙ ap (cued_outer cued) (sym first)

pub cued_begun : (cued came : Bool) (b : ℕ) (old mid new : Option (List ℕ)) (result : Result Turn FileFault) → Consumes old mid (b ∷ []) → IfOk result (λ t. CuedBy (λ text. cued_read cued (tried (vint_rest 4 4 (b ∷ [])) text)) mid new came) →
    IfOk (turn_of result) (λ t. CuedBy (cued_outer cued) old new came)
cued_begun cued came b old mid new (Ok t) first h = cued_first cued came b old mid new first h
cued_begun cued came b old mid new (Err f) first h = tt

-- nothing comes
no_ident : (cued : Bool) → cued ≡ cued_outer cued []
unfolding vint_read
no_ident cued = refl

pub cued_ended : (cued : Bool) (old new : Option (List ℕ)) → Keeps old new × IsAtEnd new → CuedBy (cued_outer cued) old new cued
cued_ended cued None new h = tt
cued_ended cued (Some text) None h = absurd h.0
cued_ended cued (Some text) (Some rest) h = no_ident cued ∙ ap (cued_outer cued) (sym (sym h.0 ∙ h.1))

-- of a turn that is not the end
pub cued_turn_of : (by : List ℕ → Bool) (came : Bool) (old new : Option (List ℕ)) (result : Result Turn FileFault) → IfOk result (λ t. CuedBy by old new came) → IfOk (turn_of result) (λ t. CuedBy by old new came)
cued_turn_of by came old new (Ok t) h = h
cued_turn_of by came old new (Err f) h = tt

-- where it is said otherwise
pub cued_same : (by other : List ℕ → Bool) (came : Bool) (old new : Option (List ℕ)) (result : Result (Option Turn) FileFault) → ((text : List ℕ) → other text ≡ by text) → IfOk result (λ t. CuedBy other old new came) → IfOk result (λ t. CuedBy by old new came)
cued_same by other came old new (Err f) same h = tt
cued_same by other came None new (Ok t) same h = tt
cued_same by other came (Some text) None (Ok t) same h = absurd h
cued_same by other came (Some text) (Some rest) (Ok t) same h = h ∙ same text

-- of a reading that is no end
pub cued_kept_turn : (by : List ℕ → Bool) (cued : Bool) (r : Reading Turn) (p : Passage) (result : Result Turn FileFault) → ((text : List ℕ) → cued ≡ by text) → Answers (λ (t : Turn). t) r p result → IfOk (turn_of result) (λ t. CuedBy by p.old p.new cued)
cued_kept_turn by cued r p (Ok t) same h = cued_there by cued p.old p.new h.1.bytes h.1.consumed (λ rest. same (h.1.bytes ++ rest))
cued_kept_turn by cued r p (Err f) same h = tt

-- ---- a Cluster that is sought

pub cued_found : (cued : Bool) (count left : ℕ) (next : Reading Turn) (old mid new : Option (List ℕ)) (before last : ℕ) (result : Result Turn FileFault) → Read (scanned count 0) old mid (Some left) → Answers (λ (t : Turn). t) next (record { old = mid; new = new; before = before; after = last }) result →
    IfOk result (λ t. CuedBy (λ text. cued_sought cued (scanned count 0 text)) old new false)
cued_found cued count left next old mid new before last (Ok t) h answer = cued_then (λ text. cued_sought cued (scanned count 0 text)) false old mid new h.bytes answer.1.bytes h.consumed answer.1.consumed (λ rest. ap (cued_sought cued) (sym (h.is rest)))
cued_found cued count left next old mid new before last (Err f) h answer = tt

pub cued_none : (cued : Bool) (count : ℕ) (old new : Option (List ℕ)) → ReadOrNone (scanned count 0) old new None → CuedBy (λ text. cued_sought cued (scanned count 0 text)) old new cued
cued_none cued count None new h = tt
cued_none cued count (Some text) None (inl read) = absurd read.consumed
cued_none cued count (Some text) None (inr ((halts, ended), none)) = absurd halts.consumed
cued_none cued count (Some text) (Some rest) (inl read) = ap (cued_sought cued) (sym (ap (scanned count 0) read.consumed ∙ read.is rest))
cued_none cued count (Some text) (Some rest) (inr ((halts, ended), none)) =
    ap (cued_sought cued) (sym (ap (scanned count 0) (halts.consumed ∙ ap (λ z. halts.bytes ++ z) ended ∙ append-nil halts.bytes) ∙ halts.is))

-- ---- the turns of an item

-- how far they came
abbrev pub CuedSoFar : (List ℕ → Bool) → (List ℕ → Bool) → Option (List ℕ) → Option (List ℕ) → Type 0
CuedSoFar whole on old now = Known old now (λ text at. on at ≡ whole text)

pub cued_begins : (whole : List ℕ → Bool) (text : Option (List ℕ)) → CuedSoFar whole whole text text
cued_begins whole None = tt
cued_begins whole (Some bytes) = refl

module _ (whole : List ℕ → Bool) (most : ℕ) (track : TrackNumbers) (c : Course) (cued : Bool) where
  after_turn : (o : Option Turn) (came : Bool) (at rest : List ℕ) → came ≡ cued_turn c.pending c.place cued at → turn_read track c.pending c.place at ≡ Ok (o, rest) → cued_after (cued_up_to most track) c cued came (Ok (o, rest)) ≡ cued_up_to (suc most) track c cued at
  unfolding cued_up_to
  after_turn o came at rest same is = ap (cued_after (cued_up_to most track) c cued came) (sym is) ∙ ap (λ b. cued_after (cued_up_to most track) c cued b (turn_read track c.pending c.place at)) same

  -- one that was read, or none
  pub cued_turned : (o : Option Turn) (came : Bool) (old now new : Option (List ℕ)) → CuedSoFar whole (cued_up_to (suc most) track c cued) old now → CuedBy (cued_turn c.pending c.place cued) now new came → ReadOrNone (turn_read track c.pending c.place) now new o →
      CuedSoFar whole (λ rest. cued_after (cued_up_to most track) c cued came (Ok (o, rest))) old new
  cued_turned o came None now new h same read = tt
  cued_turned o came (Some text) None new h same read = absurd h
  cued_turned o came (Some text) (Some at) None h same read = absurd same
  cued_turned o came (Some text) (Some at) (Some rest) h same read = after_turn o came at rest same (none_known (turn_read track c.pending c.place) (Some at) (Some rest) o read) ∙ h

  short_turn : (at : List ℕ) (w : Want) → turn_read track c.pending c.place at ≡ Err (Short w) → cued ≡ cued_up_to (suc most) track c cued at
  unfolding cued_up_to
  short_turn at w is = ap (cued_after (cued_up_to most track) c cued (cued_turn c.pending c.place cued at)) (sym is)

  -- the bytes end in one
  cued_short : (w : Want) (old now new : Option (List ℕ)) → CuedSoFar whole (cued_up_to (suc most) track c cued) old now → Lacks (turn_read track c.pending c.place) now new w → IsAtEnd new → CuedBy whole old new cued
  cued_short w None now new h lacks ended = tt
  cued_short w (Some text) None new h lacks ended = absurd h
  cued_short w (Some text) (Some at) None h lacks ended = absurd lacks.consumed
  cued_short w (Some text) (Some at) (Some rest) h lacks ended = short_turn at w (ap (turn_read track c.pending c.place) (lacks.consumed ∙ ap (λ z. lacks.bytes ++ z) ended ∙ append-nil lacks.bytes) ∙ lacks.is) ∙ h

  met : (now new : Option (List ℕ)) (f : FileFault) → Faults (turn_read track c.pending c.place) now new f → ⊥
  met now new f why = turn_meets_none track c.pending c.place (why.bytes ++ []) [] f (why.is [])

  -- a turn was refused
  pub cued_stops : (end : Item) (d : Course) (old now new : Option (List ℕ)) (before after : ℕ) (f : FileFault) (result : Result Item FileFault) → CuedSoFar whole (cued_up_to (suc most) track c cued) old now → RefusedOrNone (turn_read track c.pending c.place) now new before after f → StopsBy end (over c) c d f result →
      IfOk result (λ i. CuedBy whole old new cued)
  cued_stops end d old now new before after fault.Truncated result h (counted, inl (wants, ended)) (is, same) = rw is (cued_short wants.0 old now new h wants.1 ended)
  cued_stops end d old now new before after fault.Truncated result h (counted, inr why) (is, same) = absurd (met now new fault.Truncated why)
  cued_stops end d old now new before after f result h why (is, same) = rw is tt

-- no turn is left
pub cued_over : (whole : List ℕ → Bool) (left : ℕ) (track : TrackNumbers) (c : Course) (cued : Bool) (old now : Option (List ℕ)) → left ≡ 0 → CuedSoFar whole (cued_up_to left track c cued) old now → CuedBy whole old now cued
unfolding cued_up_to
cued_over whole left track c cued None now none h = tt
cued_over whole left track c cued (Some text) None none h = absurd h
cued_over whole left track c cued (Some text) (Some rest) none h = (rw none at h)

-- what was told of one
pub cued_told : (whole : List ℕ → Bool) (cued : Bool) (old new : Option (List ℕ)) → CuedSoFar whole (λ rest. cued) old new → CuedBy whole old new cued
cued_told whole cued None new h = tt
cued_told whole cued (Some text) None h = absurd h
cued_told whole cued (Some text) (Some rest) h = h

-- and the frame that comes then was read
still : (whole : List ℕ → Bool) (cued : Bool) (old now new : Option (List ℕ)) (bytes : List ℕ) → CuedSoFar whole (λ rest. cued) old now → Consumes now new bytes → CuedBy whole old new cued
still whole cued None now new bytes h consumed = tt
still whole cued (Some text) None new bytes h consumed = absurd h
still whole cued (Some text) (Some at) None bytes h consumed = absurd consumed
still whole cued (Some text) (Some at) (Some rest) bytes h consumed = h

pub cued_frame : (whole : List ℕ → Bool) (cued : Bool) (reading : Reading (Option (Given × Course))) (old now new : Option (List ℕ)) (before after : ℕ) (result : Result Item FileFault) (bytes : List ℕ) (d : Course) → CuedSoFar whole (λ rest. cued) old now → ItemAnswers reading (record { old = now; new = new; before = before; after = after }) result bytes d →
    IfOk result (λ i. CuedBy whole old new cued)
cued_frame whole cued reading old now new before after (Ok i) bytes d h (same, inl read) = still whole cued old now new read.bytes h read.consumed
cued_frame whole cued reading old now new before after (Ok i) bytes d h (same, inr (stops, ended)) = still whole cued old now new stops.bytes h stops.consumed
cued_frame whole cued reading old now new before after (Err f) bytes d h answer = tt
