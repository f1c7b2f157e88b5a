-- Where the first movi alone is read, a reader of an AVI looks at no further RIFF.
use Rattle.std.proofs.Common.{◌≡◌, refl, ℕ, ◌==◌, ◌≤◌, arith, codes, Bool, true, false, if◌then◌else◌, Option, Some, None, Ok, List, [], ◌∷◌, ◌++◌, ap, subst, sym, ◌∙◌}
use Rattle.ffv1_reads.specs.Head.{Head}
use Rattle.ffv1_reads.specs.Offsets.{Leads, ReadsWhole}
use Rattle.ffv1_reads.specs.Reads.{Kept, Reading, given, refused, taken, passed, ◌>>=◌}
use Rattle.ffv1_reads.specs.declared.fault.FileFault.{FileFault}
use Rattle.ffv1_reads.specs.declared.fault.FileFault.TheVariants as fault
use Rattle.ffv1_reads.proofs.Results.{ok_is, read_on_ok}
use Rattle.std.proofs.lemmas.Bool.{ne_eqb}
use Rattle.ffv1_avi.specs.Files.{Headers, begins, header_read, list_visited, movi_reached, no_headers, room_in, visit_top}
use Rattle.ffv1_avi.specs.Names.{riff_rule}
use Rattle.ffv1_avi.specs.Opens.{visit_movi}
use Rattle.ffv1_avi.proofs.ListWalks.{IsListed, entry_found, headed_entry}
use Rattle.ffv1_avi.specs.Names.{rule_of}
use Rattle.ffv1_avi.specs.Offsets.{BeforeFrames, InRiff, Spot, Start, beyond_taken, chunk_taken, frame_taken, movi_left, movi_taken, riff_begins, spot_taken, top_left, top_taken}
use Rattle.ffv1_avi.specs.Padding.{content, padded}
use Rattle.ffv1_avi.specs.Places.{extent_of, frame_at}
use Rattle.ffv1_avi.specs.Readers.{reads_on}
use Rattle.ffv1_avi.specs.Walk.{entry_in, is_name}
use Rattle.ffv1_avi.specs.declared.place.Extent.TheVariants.{FirstMovi, EveryRiff}
use Rattle.ffv1_avi.specs.declared.place.Place.{Place}

-- what is read is of a kind, whatever the bytes are
abbrev Yields : {X : Type 0} → (X → Type 0) → Reading X → Type 0
Yields {X = X} P reading = (text rest : List ℕ) (x : X) → reading text ≡ Ok (x, rest) → P x

gives : {X : Type 0} (P : X → Type 0) (x : X) → P x → Yields P (given x)
gives P x holds text rest y h = subst P (ap (λ z. z.0) (ok_is (x, text) (y, rest) h)) holds

never : {X : Type 0} (P : X → Type 0) (f : FileFault) → Yields P (refused f)
never P f text rest y h = absurd (cc)

onward : {X Y : Type 0} (P : Y → Type 0) (reading : Reading X) (next : X → Reading Y) → ((x : X) → Yields P (next x)) → Yields P (reading >>= next)
onward P reading next all text rest y h = let first = read_on_ok (reading text) next (y, rest) h in all first.0.0 first.0.1 rest y first.2

onward_of : {X Y : Type 0} (Q : X → Type 0) (P : Y → Type 0) (reading : Reading X) (next : X → Reading Y) → Yields Q reading → ((x : X) → Q x → Yields P (next x)) → Yields P (reading >>= next)
onward_of Q P reading next of all text rest y h =
    let first = read_on_ok (reading text) next (y, rest) h in
    all first.0.0 (of text first.0.1 first.0.0 first.1) first.0.1 rest y first.2

either : {X : Type 0} (P : X → Type 0) (b : Bool) (one other : Reading X) → Yields P one → Yields P other → Yields P (if b then one else other)
either P true one other h k = h
either P false one other h k = k

-- a chunk of RIFF before its first movi leads to none, or to a place behind which no RIFF is read
abbrev Opens : Headers × Option (Head × Place) → Type 0
Opens (k, None) = Unit {0}
Opens (k, Some p) = p.1.input ≡ 0

enters : (k : Headers) (left size : ℕ) (head : Option Head) → Yields Opens (movi_reached FirstMovi k left size head)
enters k left size None = never Opens fault.NoFfv1
enters k left size (Some head) = λ text rest y h. subst Opens (ap (λ z. z.0) (ok_is _ (y, rest) h)) refl

lists : (k : Headers) (left size : ℕ) (own : List ℕ) → 4 ≤ size → Yields Opens (list_visited FirstMovi k left size own)
lists k left size own room =
    let some : (size == 0) ≡ false = ne_eqb size 0 (λ e. omega (arith, room, e)) in
    rw some (either Opens _ _ _ (onward Opens (header_read FirstMovi k size) (λ found. given (found, None)) (λ found. gives Opens (found, None) tt))
    (either Opens _ _ _ (enters k left size k.head) (onward Opens (passed _) (λ u. given (k, None)) (λ u. gives Opens (k, None) tt))))

-- a list has room for its own name
abbrev Found : {E : Type 0} → (E → Type 0) → Option E → Type 0
Found P None = Unit {0}
Found P (Some e) = P e

entries : (left : ℕ) → Yields (Found IsListed) (entry_in (riff_rule FirstMovi) left)
entries left text rest None h = tt
entries left text rest (Some e) h = (headed_entry refl (entry_found (riff_rule FirstMovi) left text e rest h)).listed

visits : (k : Headers) (e : _) → IsListed e → Yields Opens (visit_top FirstMovi k e)
unfolding visit_top
visits k e roomy = on_list (is_name e.name (codes "LIST")) refl
  where
    on_list : (b : Bool) → is_name e.name (codes "LIST") ≡ b → Yields Opens (if b then (taken 4 >>= list_visited FirstMovi k e.left e.size) else (passed (padded e.size) >>= λ u. given (k, None)))
    on_list true is = onward Opens (taken 4) (list_visited FirstMovi k e.left e.size) (λ own. lists k e.left e.size own (roomy is))
    on_list false is = onward Opens (passed (padded e.size)) (λ u. given (k, None)) (λ u. gives Opens (k, None) tt)

-- so is each position before the frames
abbrev Begun : Spot → Type 0
Begun Start = Unit {0}
Begun (InRiff said found left) = Unit {0}
Begun (BeforeFrames head place) = place.input ≡ 0

stands : (said left : ℕ) (p : Headers × Option (Head × Place)) → Opens p → Yields Begun (top_left FirstMovi said left p)
stands said left (k, None) holds = gives Begun (InRiff said k left) tt
stands said left (k, Some p) holds = gives Begun (BeforeFrames p.0 p.1) holds

tops : (said : ℕ) (found : Headers) (o : _) → Found IsListed o → Yields Begun (top_taken FirstMovi said found o)
tops said found None roomy = never Begun fault.NotAvi
tops said found (Some e) roomy = onward_of Opens Begun (visit_top FirstMovi found e) (top_left FirstMovi said e.left) (visits found e roomy) (stands said e.left)

spots : (s : Spot) → Begun s → Yields Begun (spot_taken FirstMovi s)
unfolding spot_taken
spots Start holds = onward Begun (taken 12) (riff_begins FirstMovi) (λ bytes. either Begun (begins FirstMovi bytes) _ _ (gives Begun (InRiff _ no_headers _) tt) (never Begun fault.NotAvi))
spots (InRiff said found left) holds = onward_of (Found IsListed) Begun (entry_in (riff_rule FirstMovi) left) (top_taken FirstMovi said found) (entries left) (λ o roomy. tops said found o roomy)
spots (BeforeFrames head place) holds = gives Begun (BeforeFrames head place) holds

-- and each one among them
abbrev Alone : Place → Type 0
Alone place = place.input ≡ 0

frames : (place : Place) (left : ℕ) (o : Option (ℕ × ℕ)) → Alone place → Yields Alone (frame_taken place left o)
frames place left None holds = gives Alone (movi_left place left) holds
frames place left (Some p) holds = onward Alone (content Kept p.0) (λ bytes. given (frame_at place p.1)) (λ bytes. gives Alone (frame_at place p.1) holds)

chunks : (place : Place) → Alone place → Yields Alone (chunk_taken place)
unfolding chunk_taken
chunks place holds = onward Alone (entry_in (rule_of place.names) place.movi) (movi_taken place) on_entry
  where
    on_entry : (o : _) → Yields Alone (movi_taken place o)
    on_entry (Some e) = onward Alone (visit_movi place.names tt e) (λ p. frame_taken place e.left p.1) (λ p. frames place e.left p.1 holds)
    on_entry None = subst (λ n. Yields Alone (if n == 0 then given place else beyond_taken place.open_in place)) (sym holds) (gives Alone place holds)

leads : {S : Type 0} (P : S → Type 0) (element : S → Reading S) → ((s : S) → P s → Yields P (element s)) → (from : S) (elements : List (List ℕ)) (to : S) → Leads element from elements to → P from → P to
leads P element all from [] to same holds = subst P (sym same) holds
leads P element all from (b ∷ bs) to (next, one, others) holds = leads P element all next bs to others (all from holds (b ++ []) [] next (one []))

pub reads_alone : (head : Head) (first place : Place) (i0 i1 i2 : Option (List ℕ)) (before after : ℕ) → ReadsWhole (spot_taken FirstMovi) Start i0 i1 (BeforeFrames head first) before → ReadsWhole chunk_taken first i1 i2 place after →
    reads_on (extent_of place) ≡ true → ⊥
reads_alone head first place i0 i1 i2 before after opened framed every =
    let begun : first.input ≡ 0 = leads Begun (spot_taken FirstMovi) spots Start opened.elements (BeforeFrames head first) opened.leads tt in
    let alone : place.input ≡ 0 = leads Alone chunk_taken chunks first framed.elements place framed.leads begun in
    let other : false ≡ true = ap (λ (n : ℕ). reads_on (if n == 0 then FirstMovi else EveryRiff)) (sym alone) ∙ every in
    absurd (cc)
