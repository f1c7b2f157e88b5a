-- Where frames are looked for after a movi.
use Rattle.std.proofs.Common.{◌≡◌, ◌⊎◌, inl, inr, ℕ, suc, zero, ◌+◌, ◌-◌, ◌≤◌, ◌<◌, ◌==◌, nat_lt, Bool, true, false, Option, Some, None, Result, Ok, Err, List, codes, ap, ◌∙◌, sym, subst, arith, refl}
use Rattle.std.proofs.lemmas.Bool.{eqb-false, eqb-true, ne_eqb}
use Rattle.ffv1_avi.specs.declared.chunk.Entry.{Entry}
use Rattle.ffv1_avi.specs.declared.place.Extent.TheVariants.{FirstMovi, EveryRiff}
use Rattle.ffv1_avi.specs.declared.place.Place.{Place}
use Rattle.ffv1_avi.specs.Files.{beyond, stepped, found_read, frame_found, frame_found_up_to, frame_read, found_or_on, moved, moved_by, movi_found, movi_or_riff, movi_sought, riff_begun, sought_on}
use Rattle.ffv1_avi.specs.Opens.{Step, open_found, open_framed, open_passed, riff_list, visit_riff}
use Rattle.ffv1_avi.specs.Opens.{list_opened, visit_movi}
use Rattle.ffv1_avi.specs.Places.{amount, extent_of, frame_at, is_open, movi_at, open_at, open_frame_at}
use Rattle.ffv1_reads.specs.Reads.{Looked, Reading, Stop, given, passed, read_on, taken, ◌>>=◌}
use Rattle.ffv1_avi.specs.Padding.{content, padded}
use Rattle.ffv1_avi.specs.Walk.{Rule, Visit, plain, entry_in, entry_of, is_name, resumed, size_in, visited, walk_in, walk_up_to}
use Rattle.ffv1_avi.proofs.BegunRiffs.{FoundOpen, FoundRiff, begun_sound}
use Rattle.ffv1_avi.proofs.OpenCases.{IsAhead, IsOfMovi, IsOfRiff, IsStep, open_case}
use Rattle.ffv1_avi.proofs.TakenChunks.{size_fits}
use Rattle.byteorder.specs.Endian.{little_number}
use Rattle.ffv1_avi.specs.declared.place.Open.{Open}
use Rattle.ffv1_avi.specs.declared.place.Open.TheVariants.{Sized, OpenRiff, OpenMovi}
use Rattle.ffv1_avi.proofs.ListWalks.{entry_found, headed_fits}
use Rattle.ffv1_avi.proofs.OpenedLists.{opened_sound}
use Rattle.ffv1_reads.proofs.Results.{read_on_ok}
use Rattle.ffv1_reads.proofs.Results.{ok_is, some_is}
use Rattle.ffv1_avi.specs.declared.place.Names.{Names}
use Rattle.ffv1_avi.specs.Names.{is_barred, least_bytes, most_bytes, rule_of}
use Rattle.ffv1_avi.specs.Names.{is_frame}

no_some : {X : Type 0} (x : X) → ◌≡◌ {A = Option X} (Some x) None → ⊥
no_some x e = absurd (cc)

-- the chunk at which a walk stops
pub record StopsAt {S Y : Type 0} (visit : Visit S Y) (left : ℕ) (t : S) (y : Y) (rest : List ℕ) : Type 0 where
  pub state : S
  pub entry : Entry
  pub text : List ℕ
  pub fits : entry.left + (8 + padded entry.size) ≤ left
  pub is : visit state entry text ≡ Ok ((t, Some y), rest)

stops_up_to : {S Y : Type 0} (rule : Rule) (visit : Visit S Y) (most left : ℕ) (s : S) (text : List ℕ) (t : S) (y : Y) (rest : List ℕ) → walk_up_to rule visit most left s text ≡ Ok ((t, Some y), rest) → StopsAt visit left t y rest
unfolding walk_up_to
stops_up_to {S = S} {Y = Y} rule visit zero left s text t y rest h = absurd (no_some y (sym (ap (λ (z : (S × Option Y) × List ℕ). z.0.1) (ok_is ((s, None), text) ((t, Some y), rest) h))))
stops_up_to {S = S} {Y = Y} rule visit (suc most) left s text t y rest h =
    let first = read_on_ok (entry_in rule left text) (visited visit (walk_up_to rule visit most) s) ((t, Some y), rest) h in
    on_entry (λ l u after k. stops_up_to rule visit most l u after t y rest k) first.0.0 first.0.1 first.1 first.2
  where
    Again : Type 0
    Again = (l : ℕ) (u : S) (after : List ℕ) → walk_up_to rule visit most l u after ≡ Ok ((t, Some y), rest) → StopsAt visit l t y rest

    on_visit : Again → (e : Entry) (more : List ℕ) → e.left + (8 + padded e.size) ≤ left → (u : S) (o : Option Y) (after : List ℕ) → visit s e more ≡ Ok ((u, o), after) → resumed (walk_up_to rule visit most e.left) u o after ≡ Ok ((t, Some y), rest) → StopsAt visit left t y rest
    on_visit again e more fits u (Some x) after is k = record { state = s; entry = e; text = more; fits = fits; is = is ∙ k }
    on_visit again e more fits u None after is k =
        let later = again e.left u after k in
        record { state = later.state; entry = later.entry; text = later.text; fits = omega (arith, later.fits, fits); is = later.is }

    on_entry : Again → (o : Option Entry) (more : List ℕ) → entry_in rule left text ≡ Ok (o, more) → visited visit (walk_up_to rule visit most) s o more ≡ Ok ((t, Some y), rest) → StopsAt visit left t y rest
    on_entry again None more is k = absurd (no_some y (sym (ap (λ (z : (S × Option Y) × List ℕ). z.0.1) (ok_is ((s, None), more) ((t, Some y), rest) k))))
    on_entry again (Some e) more is k =
        let entry = headed_fits (entry_found rule left text e more is) in
        let second = read_on_ok (visit s e more) (λ p. resumed (walk_up_to rule visit most e.left) p.0 p.1) ((t, Some y), rest) k in
        on_visit again e more (omega (arith, entry)) second.0.0.0 second.0.0.1 second.0.1 second.1 second.2

-- the state and the outcome of a walk that stops
walk_given : {S Y : Type 0} (rule : Rule) (visit : Visit S Y) (left : ℕ) (s : S) (text : List ℕ) (y : Y) (rest : List ℕ) → (walk_in rule visit left s >>= λ p. given p.1) text ≡ Ok (Some y, rest) → (t : S) × (walk_in rule visit left s text ≡ Ok ((t, Some y), rest))
walk_given {S = S} {Y = Y} rule visit left s text y rest h =
    let first = read_on_ok (walk_in rule visit left s text) (λ p. given p.1) (Some y, rest) h in
    let same = ok_is (first.0.0.1, first.0.1) (Some y, rest) first.2 in
    let P : Option Y × List ℕ → Type 0 = λ z. walk_in rule visit left s text ≡ Ok ((first.0.0.0, z.0), z.1) in
    (first.0.0.0, subst P same first.1)

-- the bytes of a movi, and those that RIFF has after it, are fewer than RIFF had
riff_stop : (names : Names) (s : Unit {0}) (e : Entry) (text : List ℕ) (t : Unit {0}) (y : ℕ × ℕ) (rest : List ℕ) → visit_riff names s e text ≡ Ok ((t, Some y), rest) → (y.0 ≡ e.size - 4) × (y.1 ≡ e.left)
unfolding visit_riff
riff_stop names s e text t y rest h = on_list (is_name e.name (codes "LIST")) refl h
  where
    Z : Type 0
    Z = (Unit {0} × Option (ℕ × ℕ)) × List ℕ

    on_own : (own more : List ℕ) (b : Bool) → is_name own (codes "movi") ≡ b → riff_list e.left e.size own more ≡ Ok ((t, Some y), rest) → (y.0 ≡ e.size - 4) × (y.1 ≡ e.left)
    on_own own more true p k =
        let x : ℕ × ℕ = (e.size - 4, e.left) in
        let same : x ≡ y = some_is x y (ap (λ (z : Z). z.0.1) (ok_is ((tt, Some x), more) ((t, Some y), rest) (rw p at k))) in
        (ap (λ (z : ℕ × ℕ). z.0) (sym same), ap (λ (z : ℕ × ℕ). z.1) (sym same))
    on_own own more false p k =
        let first = read_on_ok (passed (padded e.size - 4) more) (λ _. given (tt, None)) ((t, Some y), rest) (rw p at k) in
        absurd (no_some y (sym (ap (λ (z : Z). z.0.1) (ok_is ((tt, None), first.0.1) ((t, Some y), rest) first.2))))

    on_list : (a : Bool) → is_name e.name (codes "LIST") ≡ a → visit_riff names s e text ≡ Ok ((t, Some y), rest) → (y.0 ≡ e.size - 4) × (y.1 ≡ e.left)
    on_list false p h = on_frame (is_frame names e.name) refl p h
      where
        on_frame : (b : Bool) → is_frame names e.name ≡ b → is_name e.name (codes "LIST") ≡ false → visit_riff names s e text ≡ Ok ((t, Some y), rest) → (y.0 ≡ e.size - 4) × (y.1 ≡ e.left)
        on_frame true q p h = absurd (cc (rw (p, q) at h))
        on_frame false q p h =
            let first = read_on_ok (passed (padded e.size) text) (λ _. given (s, None)) ((t, Some y), rest) (rw (p, q) at h) in
            absurd (no_some y (sym (ap (λ (z : Z). z.0.1) (ok_is ((s, None), first.0.1) ((t, Some y), rest) first.2))))
    on_list true p h =
        let first = read_on_ok (taken 4 text) (riff_list e.left e.size) ((t, Some y), rest) (rw p at h) in
        on_own first.0.0 first.0.1 (is_name first.0.0 (codes "movi")) refl first.2

sought_less : (names : Names) (left : ℕ) (text : List ℕ) (y : ℕ × ℕ) (rest : List ℕ) → movi_sought names left text ≡ Ok (Some y, rest) → y.0 + y.1 + 8 ≤ left
unfolding movi_sought
sought_less names left text y rest h =
    let walked = walk_given plain (visit_riff names) left tt text y rest h in
    let stop = stops_up_to plain (visit_riff names) left left tt text walked.0 y rest walked.1 in
    let movi = riff_stop names stop.state stop.entry stop.text walked.0 y rest stop.is in
    omega (arith, stop.fits, movi.0, movi.1)

-- the next RIFF is counted
pub begun_less : (place next : Place) (text rest : List ℕ) → riff_begun place text ≡ Ok (Some next, rest) → (amount next < place.input) × (0 < next.input) × (next.names ≡ place.names)
begun_less place next text rest h = on_found (begun_sound place text (Some next, rest) h)
  where
    P : Place → Type 0
    P z = (amount z < place.input) × (0 < z.input) × (z.names ≡ place.names)

    on_found : FoundRiff place text next rest ⊎ FoundOpen place text next rest → P next
    on_found (inl found) = subst P (sym found.place_is) (omega (arith, found.room, found.fits), omega (arith, found.fits), refl)
    on_found (inr found) = subst P (sym found.place_is) (omega (arith, found.fits), omega (arith, found.fits), refl)

-- the extent of a position, by what it has left of the input
pub extent_first : (place : Place) → place.input ≡ 0 → extent_of place ≡ FirstMovi
extent_first place none = rw none refl

pub extent_every : (place : Place) → (place.input ≡ 0 → ⊥) → extent_of place ≡ EveryRiff
extent_every place some = rw (ne_eqb _ _ some) refl

pub moved_first : (place : Place) → place.input ≡ 0 → (text : List ℕ) → moved place text ≡ Ok (None, text)
unfolding moved
moved_first place none text = ap (λ z. moved_by z place text) (extent_first place none)

pub moved_every : (place : Place) → (place.input ≡ 0 → ⊥) → (text : List ℕ) → moved place text ≡ (movi_sought place.names place.riff >>= movi_or_riff place) text
unfolding moved
moved_every place some text = ap (λ z. moved_by z place text) (extent_every place some)

-- less is left after a move, as much is read, and the names stay
pub moved_less : (place next : Place) (text rest : List ℕ) → moved place text ≡ Ok (Some next, rest) → (amount next < amount place) × (extent_of next ≡ extent_of place) × (next.names ≡ place.names)
moved_less place next text rest h = on_input (place.input == 0) refl
  where
    Goal : Type 0
    Goal = (amount next < amount place) × (extent_of next ≡ extent_of place) × (next.names ≡ place.names)

    on_found : (o : Option (ℕ × ℕ)) (more : List ℕ) → (place.input ≡ 0 → ⊥) → movi_sought place.names place.riff text ≡ Ok (o, more) → movi_or_riff place o more ≡ Ok (Some next, rest) → Goal
    on_found None more some is k =
        let begun = begun_less place next more rest k in
        (omega (arith, begun.0), extent_every next (λ e. omega (arith, e, begun.1)) ∙ sym (extent_every place some), begun.2)
    on_found (Some p) more some is k =
        let made = movi_at place p in
        let same : made ≡ next = some_is made next (ap (λ (z : Option Place × List ℕ). z.0) (ok_is (Some made, more) (Some next, rest) k)) in
        let less = sought_less place.names place.riff text p more is in
        let P : Place → Type 0 = λ z. (amount z < amount place) × (extent_of z ≡ extent_of place) × (z.names ≡ place.names) in
        subst P same (omega (arith, less), refl, refl)

    on_input : (b : Bool) → (place.input == 0) ≡ b → Goal
    on_input true e = absurd (no_some next (sym (ap (λ (z : Option Place × List ℕ). z.0) (ok_is (None, text) (Some next, rest) (sym (moved_first place (eqb-true place.input 0 e) text) ∙ h)))))
    on_input false e =
        let some : place.input ≡ 0 → ⊥ = eqb-false place.input 0 e in
        let first = read_on_ok (movi_sought place.names place.riff text) (movi_or_riff place) (Some next, rest) (sym (moved_every place some text) ∙ h) in
        on_found first.0.0 first.0.1 some first.1 first.2

-- the frame at which the walk of a movi stops
movi_stop_at : (names : Names) (s : Unit {0}) (e : Entry) (text : List ℕ) (t : Unit {0}) (y : ℕ × ℕ) (rest : List ℕ) → visit_movi names s e text ≡ Ok ((t, Some y), rest) → (y.0 ≡ e.size) × (y.1 ≡ e.left)
unfolding visit_movi
movi_stop_at names s e text t y rest h = on_names (is_barred names e.name) (is_frame names e.name) (nat_lt (most_bytes names) e.size) (nat_lt e.size (least_bytes names)) refl refl refl refl h
  where
    Z : Type 0
    Z = (Unit {0} × Option (ℕ × ℕ)) × List ℕ

    on_names : (a b c d : Bool) → is_barred names e.name ≡ a → is_frame names e.name ≡ b → nat_lt (most_bytes names) e.size ≡ c → nat_lt e.size (least_bytes names) ≡ d → visit_movi names s e text ≡ Ok ((t, Some y), rest) → (y.0 ≡ e.size) × (y.1 ≡ e.left)
    on_names true b c d p q r z h = absurd (cc (rw p at h))
    on_names false true true d p q r z h = absurd (cc (rw (p, q, r) at h))
    on_names false true false true p q r z h = absurd (cc (rw (p, q, r, z) at h))
    on_names false true false false p q r z h =
        let x : ℕ × ℕ = (e.size, e.left) in
        let same : x ≡ y = some_is x y (ap (λ (m : Z). m.0.1) (ok_is ((tt, Some x), text) ((t, Some y), rest) (rw (p, q, r, z) at h))) in
        (ap (λ (n : ℕ × ℕ). n.0) (sym same), ap (λ (n : ℕ × ℕ). n.1) (sym same))
    on_names false false c d p q r z h = on_list (is_name e.name (codes "LIST")) refl p q h
      where
        on_list : (l : Bool) → is_name e.name (codes "LIST") ≡ l → is_barred names e.name ≡ false → is_frame names e.name ≡ false → visit_movi names s e text ≡ Ok ((t, Some y), rest) → (y.0 ≡ e.size) × (y.1 ≡ e.left)
        on_list true l p q h =
            let first = read_on_ok (content Looked e.size text) list_opened ((t, Some y), rest) (rw (p, q, l) at h) in
            absurd (no_some y (opened_sound first.0.0 first.0.1 t (Some y) rest first.2).1)
        on_list false l p q h =
            let first = read_on_ok (passed (padded e.size) text) (λ _. given (tt, None)) ((t, Some y), rest) (rw (p, q, l) at h) in
            absurd (no_some y (sym (ap (λ (m : Z). m.0.1) (ok_is ((tt, None), first.0.1) ((t, Some y), rest) first.2))))

found_less : (names : Names) (left : ℕ) (text : List ℕ) (y : ℕ × ℕ) (rest : List ℕ) → movi_found names left text ≡ Ok (Some y, rest) → y.0 + y.1 + 8 ≤ left
unfolding movi_found
found_less names left text y rest h =
    let walked = walk_given (rule_of names) (visit_movi names) left tt text y rest h in
    let stop = stops_up_to (rule_of names) (visit_movi names) left left tt text walked.0 y rest walked.1 in
    let frame = movi_stop_at names stop.state stop.entry stop.text walked.0 y rest stop.is in
    omega (arith, stop.fits, frame.0, frame.1)

-- a step in an RIFF or a movi without size
abbrev pub LessAfter : Place → Place → Type 0
LessAfter place next = (amount next < amount place) × (extent_of next ≡ extent_of place) × (next.names ≡ place.names)

less_input : (place next : Place) → next.movi + next.riff + next.input < place.input → 0 < next.input → next.names ≡ place.names → LessAfter place next
less_input place next less some names = (omega (arith, less), extent_every next (λ e. omega (arith, e, some)) ∙ sym (extent_every place (λ e. omega (arith, e, less))), names)

-- less of the input is left after it
abbrev pub InputAfter : Place → Place → Type 0
InputAfter place next = (next.movi + next.riff + next.input < place.input) × (0 < next.input) × (next.names ≡ place.names)

after_input : (place next : Place) → next.movi + next.riff + next.input < place.input → 0 < next.input → next.names ≡ place.names → InputAfter place next
after_input place next less some names = (less, some, names)

movi_step_less : (place : Place) (text : List ℕ) (s : Step) (rest : List ℕ) → IsOfMovi place text s rest → InputAfter place s.1
movi_step_less place text s rest is = on_found is.found refl is.visit is.step
  where
    n : ℕ
    n = little_number 4 is.size

    taken_size : ℕ
    taken_size = size_in (rule_of place.names) is.name n

    fits : padded taken_size ≤ padded n
    fits = size_fits (rule_of place.names) is.name n is.room

    same : (o : Option Step) → ◌≡◌ {A = Result (Option Step × List ℕ) Stop} (Ok (o, rest)) (Ok (Some s, rest)) → o ≡ Some s
    same o k = ap (λ (z : Option Step × List ℕ). z.0) (ok_is (o, rest) (Some s, rest) k)

    on_found : (o : Option (ℕ × ℕ)) → is.found ≡ o → visit_movi place.names tt (entry_of (place.input - 1) is.name taken_size) is.middle ≡ Ok ((tt, o), rest) → open_framed place (place.input - 1 - (8 + padded taken_size)) o rest ≡ Ok (Some s, rest) → InputAfter place s.1
    on_found None e visit step =
        let made : Step = (None, open_at place OpenMovi (place.input - 1 - (8 + padded taken_size) + 1) 0) in
        let is_made : made ≡ s = some_is made s (same (Some made) step) in
        let P : Step → Type 0 = λ z. InputAfter place z.1 in
        subst P is_made (after_input place made.1 (omega (arith, is.whole, fits)) (omega arith) refl)
    on_found (Some y) e visit step =
        let made : Step = (Some y.0, open_frame_at place (y.1 + 1)) in
        let is_made : made ≡ s = some_is made s (same (Some made) step) in
        let stop = movi_stop_at place.names tt (entry_of (place.input - 1) is.name taken_size) is.middle tt y rest visit in
        let P : Step → Type 0 = λ z. InputAfter place z.1 in
        subst P is_made (after_input place made.1 (omega (arith, is.whole, fits, stop.1)) (omega arith) refl)

riff_step_less : (place : Place) (text : List ℕ) (next : Place) (rest : List ℕ) → IsOfRiff place text next rest → InputAfter place next
riff_step_less place text next rest is = subst (InputAfter place) (sym is.place_is) (on_found is.found is.visit)
  where
    n : ℕ
    n = little_number 4 is.size

    left : ℕ
    left = place.input - 1 - (8 + padded n)

    on_found : (o : Option (ℕ × ℕ)) → visit_riff place.names tt (entry_of (place.input - 1) is.name n) is.middle ≡ Ok ((tt, o), rest) → InputAfter place (open_passed place left o)
    on_found None visit = after_input place (open_passed place left None) (omega (arith, is.whole)) (omega arith) refl
    on_found (Some p) visit =
        let stop = riff_stop place.names tt (entry_of (place.input - 1) is.name n) is.middle tt p rest visit in
        after_input place (open_passed place left (Some p)) (omega (arith, is.whole, stop.0)) (omega arith) refl

ahead_less : (place : Place) (text : List ℕ) (next : Place) (rest : List ℕ) → IsAhead place text next rest → InputAfter place next
ahead_less place text next rest (inl is) = subst (InputAfter place) (sym is.place_is) (after_input place (open_at place OpenRiff (place.input - 12) 0) (omega (arith, is.fits)) (omega (arith, is.fits)) refl)
ahead_less place text next rest (inr (inl is)) = riff_step_less place text next rest is
ahead_less place text next rest (inr (inr is)) = subst (InputAfter place) (sym is.place_is) (after_input place (open_at place OpenMovi (place.input - 12) 0) (omega (arith, is.fits)) (omega (arith, is.fits)) refl)

pub step_input : (place : Place) (text : List ℕ) (s : Step) (rest : List ℕ) → open_found place text ≡ Ok (Some s, rest) → InputAfter place s.1
step_input place text s rest h = on_case (open_case place text (Some s, rest) h).1
  where
    on_case : IsStep place text s rest → InputAfter place s.1
    on_case (inl is) = movi_step_less place text s rest is
    on_case (inr is) = ahead_less place text s.1 rest is.1

pub step_less : (place : Place) (text : List ℕ) (s : Step) (rest : List ℕ) → open_found place text ≡ Ok (Some s, rest) → LessAfter place s.1
step_less place text s rest h = let after = step_input place text s rest h in less_input place s.1 after.0 after.1 after.2

-- if nothing is left of the input, nothing comes after a movi
pub open_first : (place : Place) → place.input ≡ 0 → (text : List ℕ) → open_found place text ≡ Ok (None, text)
unfolding open_found
open_first place none text = rw none refl

pub beyond_first : (o : Open) (on : Place → Reading (Option (ℕ × Place))) (place : Place) → place.input ≡ 0 → (text : List ℕ) → beyond o on place text ≡ Ok (None, text)
beyond_first Sized on place none text = ap (λ z. read_on z (sought_on on)) (moved_first place none text)
beyond_first OpenRiff on place none text = ap (λ z. read_on z (stepped on)) (open_first place none text)
beyond_first OpenMovi on place none text = ap (λ z. read_on z (stepped on)) (open_first place none text)

-- less is left after a frame, as much is read, and the names stay
frame_up_to_less : (most : ℕ) (place next : Place) (size : ℕ) (text rest : List ℕ) → frame_found_up_to most place text ≡ Ok (Some (size, next), rest) → LessAfter place next
unfolding frame_found_up_to
frame_up_to_less zero place next size text rest h =
    let y : ℕ × Place = (size, next) in
    absurd (no_some y (sym (ap (λ (z : Option (ℕ × Place) × List ℕ). z.0) (ok_is (None, text) (Some y, rest) h))))
frame_up_to_less (suc most) place next size text rest h =
    let first = read_on_ok (movi_found place.names place.movi text) (found_or_on (frame_found_up_to most) place) (Some (size, next), rest) h in
    on_found (λ p more k. frame_up_to_less most p next size more rest k) first.0.0 first.0.1 first.1 first.2
  where
    Again : Type 0
    Again = (p : Place) (more : List ℕ) → frame_found_up_to most p more ≡ Ok (Some (size, next), rest) → LessAfter p next

    y : ℕ × Place
    y = (size, next)

    later : (p : Place) → LessAfter place p → LessAfter p next → LessAfter place next
    later p one two = (omega (arith, one.0, two.0), two.1 ∙ one.1, two.2 ∙ one.2)

    no_none : (behind : List ℕ) → ◌≡◌ {A = Result (Option (ℕ × Place) × List ℕ) Stop} (Ok (None, behind)) (Ok (Some y, rest)) → ⊥
    no_none behind k = no_some y (sym (ap (λ (z : Option (ℕ × Place) × List ℕ). z.0) (ok_is (None, behind) (Some y, rest) k)))

    on_moved : Again → (o : Option Place) (more behind : List ℕ) → moved place more ≡ Ok (o, behind) → sought_on (frame_found_up_to most) o behind ≡ Ok (Some (size, next), rest) → LessAfter place next
    on_moved again None more behind is k = absurd (no_none behind k)
    on_moved again (Some p) more behind is k = later p (moved_less place p more behind is) (again p behind k)

    on_step : Again → (o : Option Step) (more behind : List ℕ) → open_found place more ≡ Ok (o, behind) → stepped (frame_found_up_to most) o behind ≡ Ok (Some (size, next), rest) → LessAfter place next
    on_step again None more behind is k = absurd (no_none behind k)
    on_step again (Some (None, p)) more behind is k = later p (step_less place more (None, p) behind is) (again p behind k)
    on_step again (Some (Some n, p)) more behind is k =
        let x : ℕ × Place = (n, p) in
        let same : x ≡ y = some_is x y (ap (λ (z : Option (ℕ × Place) × List ℕ). z.0) (ok_is (Some x, behind) (Some y, rest) k)) in
        subst (LessAfter place) (ap (λ (z : ℕ × Place). z.1) same) (step_less place more (Some n, p) behind is)

    on_beyond : Again → (o : Open) (more : List ℕ) → beyond o (frame_found_up_to most) place more ≡ Ok (Some (size, next), rest) → LessAfter place next
    on_beyond again Sized more k =
        let second = read_on_ok (moved place more) (sought_on (frame_found_up_to most)) (Some (size, next), rest) k in
        on_moved again second.0.0 more second.0.1 second.1 second.2
    on_beyond again OpenRiff more k =
        let second = read_on_ok (open_found place more) (stepped (frame_found_up_to most)) (Some (size, next), rest) k in
        on_step again second.0.0 more second.0.1 second.1 second.2
    on_beyond again OpenMovi more k =
        let second = read_on_ok (open_found place more) (stepped (frame_found_up_to most)) (Some (size, next), rest) k in
        on_step again second.0.0 more second.0.1 second.1 second.2

    on_found : Again → (o : Option (ℕ × ℕ)) (more : List ℕ) → movi_found place.names place.movi text ≡ Ok (o, more) → found_or_on (frame_found_up_to most) place o more ≡ Ok (Some (size, next), rest) → LessAfter place next
    on_found again None more is k = on_beyond again place.open_in more k
    on_found again (Some p) more is k =
        let x : ℕ × Place = (p.0, frame_at place p.1) in
        let same : x ≡ y = some_is x y (ap (λ (z : Option (ℕ × Place) × List ℕ). z.0) (ok_is (Some x, more) (Some y, rest) k)) in
        let less = found_less place.names place.movi text p more is in
        subst (LessAfter place) (ap (λ (z : ℕ × Place). z.1) same) (omega (arith, less), refl, refl)

pub frame_less_at : (place next : Place) (size : ℕ) (text rest : List ℕ) → frame_found place text ≡ Ok (Some (size, next), rest) → LessAfter place next
unfolding frame_found
frame_less_at place next size text rest h = frame_up_to_less (amount place) place next size text rest h

-- an empty movi has no frame
pub movi_empty : (names : Names) (text : List ℕ) → movi_found names 0 text ≡ Ok (None, text)
unfolding movi_found walk_up_to
movi_empty names text = refl

-- if nothing is left, there is no frame
pub found_nothing : (most : ℕ) (place : Place) (text : List ℕ) → place.movi ≡ 0 → place.input ≡ 0 → frame_found_up_to most place text ≡ Ok (None, text)
unfolding frame_found_up_to
found_nothing zero place text movi input = refl
found_nothing (suc most) place text movi input =
    ap (λ n. read_on (movi_found place.names n text) (found_or_on (frame_found_up_to most) place)) movi
    ∙ ap (λ z. read_on z (found_or_on (frame_found_up_to most) place)) (movi_empty place.names text)
    ∙ beyond_first place.open_in (frame_found_up_to most) place input text

-- more lists than there can be make no difference
found_enough : (f g : ℕ) (place : Place) (text : List ℕ) → amount place ≤ f → amount place ≤ g → frame_found_up_to f place text ≡ frame_found_up_to g place text
unfolding frame_found_up_to
found_enough zero zero place text h k = refl
found_enough zero (suc g) place text h k = sym (found_nothing (suc g) place text (omega (arith, h)) (omega (arith, h)))
found_enough (suc f) zero place text h k = found_nothing (suc f) place text (omega (arith, k)) (omega (arith, k))
found_enough (suc f) (suc g) place text h k = on_found (λ p more. found_enough f g p more) (movi_found place.names place.movi text) refl
  where
    Same : Type 0
    Same = (p : Place) (more : List ℕ) → amount p ≤ f → amount p ≤ g → frame_found_up_to f p more ≡ frame_found_up_to g p more

    on_moved : Same → (text : List ℕ) (z : Result (Option Place × List ℕ) Stop) → moved place text ≡ z → read_on z (sought_on (frame_found_up_to f)) ≡ read_on z (sought_on (frame_found_up_to g))
    on_moved same text (Err why) is = refl
    on_moved same text (Ok (None, rest)) is = refl
    on_moved same text (Ok (Some p, rest)) is =
        let less = moved_less place p text rest is in
        same p rest (omega (arith, less.0, h)) (omega (arith, less.0, k))

    on_step : Same → (text : List ℕ) (z : Result (Option Step × List ℕ) Stop) → open_found place text ≡ z → read_on z (stepped (frame_found_up_to f)) ≡ read_on z (stepped (frame_found_up_to g))
    on_step same text (Err why) is = refl
    on_step same text (Ok (None, rest)) is = refl
    on_step same text (Ok (Some (Some n, p), rest)) is = refl
    on_step same text (Ok (Some (None, p), rest)) is =
        let less = step_less place text (None, p) rest is in
        same p rest (omega (arith, less.0, h)) (omega (arith, less.0, k))

    on_beyond : Same → (o : Open) (text : List ℕ) → beyond o (frame_found_up_to f) place text ≡ beyond o (frame_found_up_to g) place text
    on_beyond same Sized text = on_moved same text (moved place text) refl
    on_beyond same OpenRiff text = on_step same text (open_found place text) refl
    on_beyond same OpenMovi text = on_step same text (open_found place text) refl

    on_found : Same → (z : Result (Option (ℕ × ℕ) × List ℕ) Stop) → movi_found place.names place.movi text ≡ z → read_on z (found_or_on (frame_found_up_to f) place) ≡ read_on z (found_or_on (frame_found_up_to g) place)
    on_found same (Err why) is = refl
    on_found same (Ok (Some p, rest)) is = refl
    on_found same (Ok (None, rest)) is = on_beyond same place.open_in rest

-- a frame is that of movi, or the first one after it
pub frame_step : (place : Place) (text : List ℕ) → frame_found place text ≡ (movi_found place.names place.movi >>= found_or_on frame_found place) text
unfolding frame_found frame_found_up_to
frame_step place text = found_enough (amount place) (suc (amount place)) place text (omega arith) (omega arith) ∙ on_found (movi_found place.names place.movi text) refl
  where
    on_moved : (more : List ℕ) (z : Result (Option Place × List ℕ) Stop) → moved place more ≡ z → read_on z (sought_on (frame_found_up_to (amount place))) ≡ read_on z (sought_on frame_found)
    on_moved more (Err why) is = refl
    on_moved more (Ok (None, rest)) is = refl
    on_moved more (Ok (Some p, rest)) is =
        let less = moved_less place p more rest is in
        found_enough (amount place) (amount p) p rest (omega (arith, less.0)) (omega arith)

    on_step : (more : List ℕ) (z : Result (Option Step × List ℕ) Stop) → open_found place more ≡ z → read_on z (stepped (frame_found_up_to (amount place))) ≡ read_on z (stepped frame_found)
    on_step more (Err why) is = refl
    on_step more (Ok (None, rest)) is = refl
    on_step more (Ok (Some (Some n, p), rest)) is = refl
    on_step more (Ok (Some (None, p), rest)) is =
        let less = step_less place more (None, p) rest is in
        found_enough (amount place) (amount p) p rest (omega (arith, less.0)) (omega arith)

    on_beyond : (o : Open) (more : List ℕ) → beyond o (frame_found_up_to (amount place)) place more ≡ beyond o frame_found place more
    on_beyond Sized more = on_moved more (moved place more) refl
    on_beyond OpenRiff more = on_step more (open_found place more) refl
    on_beyond OpenMovi more = on_step more (open_found place more) refl

    on_found : (z : Result (Option (ℕ × ℕ) × List ℕ) Stop) → movi_found place.names place.movi text ≡ z → read_on z (found_or_on (frame_found_up_to (amount place)) place) ≡ read_on z (found_or_on frame_found place)
    on_found (Err why) is = refl
    on_found (Ok (Some p, rest)) is = refl
    on_found (Ok (None, rest)) is = on_beyond place.open_in rest

-- where the sizes are known, the next movi is looked for
pub beyond_sized : (place : Place) → place.open_in ≡ Sized → (text : List ℕ) → beyond place.open_in frame_found place text ≡ (moved place >>= sought_on frame_found) text
beyond_sized place known text = ap (λ z. beyond z frame_found place text) known

-- else the next chunk
pub beyond_open : (place : Place) → is_open place.open_in ≡ true → (text : List ℕ) → beyond place.open_in frame_found place text ≡ (open_found place >>= stepped frame_found) text
beyond_open place unknown text = by_open place.open_in unknown
  where
    by_open : (o : Open) → is_open o ≡ true → beyond o frame_found place text ≡ (open_found place >>= stepped frame_found) text
    by_open Sized e = absurd (cc)
    by_open OpenRiff e = refl
    by_open OpenMovi e = refl

pub is_sized : (o : Open) → is_open o ≡ false → o ≡ Sized
is_sized Sized e = refl
is_sized OpenRiff e = absurd (cc)
is_sized OpenMovi e = absurd (cc)

-- if movi has nothing left, and nothing is left of the input, there is no frame
pub frame_ends : (place : Place) → place.movi ≡ 0 → place.input ≡ 0 → (text : List ℕ) → frame_read place text ≡ Ok (None, text)
unfolding frame_found
frame_ends place movi input text = ap (λ z. read_on z found_read) (found_nothing (amount place) place text movi input)
