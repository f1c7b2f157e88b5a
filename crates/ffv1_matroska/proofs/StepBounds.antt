-- Each step in a Segment leaves less of it.
use Rattle.ffv1_ebml.proofs.OutsideLaws.{in_read}
use Rattle.std.proofs.Common.{◌≡◌, ◌-◌, ◌+◌, ◌<◌, ◌≤◌, ◌==◌, ◌&&◌, ◌∙◌, ℕ, suc, zero, inl, inr, sym, List, [], ◌∷◌, Option, Some, None, Result, Ok, Err, Bool, true, false, if◌then◌else◌, nat_lt, length, slice_index, refl, ap, subst, arith}
use Rattle.std.proofs.lemmas.Bool.Decides.{nat_tests}
use Rattle.ffv1_reads.specs.declared.fault.FileFault.{FileFault}
use Rattle.ffv1_reads.specs.declared.fault.FileFault.TheVariants as fault
use Rattle.ffv1_reads.specs.Reads.{Reading, Stop, given, refused, taken, ◌>>=◌}
use Rattle.ffv1_reads.proofs.Results.{ok_is, read_on_ok}
use Rattle.ffv1_sum.specs.Sum.{number_of as low_number, turned}
use Rattle.ffv1_ebml.specs.Elements.{content_passed, data_read, element_in, element_judged, element_or_end, element_read, element_rest, first_read, is_crc}
use Rattle.ffv1_ebml.specs.Sums.{passed_summed, taken_summed}
use Rattle.ffv1_ebml.specs.Vints.{number_of, size_of, vint_read}
use Rattle.ffv1_ebml.specs.declared.element.Data.{Data}
use Rattle.ffv1_ebml.specs.declared.element.Element.{Element}
use Rattle.ffv1_ebml.specs.declared.sum.Sum.{Sum}
use Rattle.ffv1_ebml.specs.declared.sum.Sum.TheVariants.{Absent, Begins, Awaits}
use Rattle.ffv1_ebml.proofs.VintLaws.{vint_sound}
use Rattle.ffv1_matroska.specs.WrittenIdents.{timestamp}
use Rattle.ffv1_matroska.specs.Blocks.{block_read, block_rest, fields_read, frame_judged, is_unknown, lacing_of, passed_on, time_of}
use Rattle.ffv1_matroska.specs.Internal.{bytes_of}
use Rattle.ffv1_matroska.specs.Places.{amount, closed, cluster_at, cluster_entered, frame_at, group_at, is_sound, segment_at, step_to, summed_at, timed_to}
use Rattle.ffv1_matroska.specs.Segments.{beside_read, block, block_group, child_by, cluster, cluster_child, cluster_read, cluster_rest, crc_read, first_child, group_child, group_read, group_rest, header_read, is_filler, is_of_cluster, is_outside, is_section, known_child, other_read, segment_child, segment_read, segment_rest, simple_block, step_read, timestamp_read}
use Rattle.ffv1_matroska.specs.declared.place.Place.{Place}
use Rattle.ffv1_matroska.specs.declared.place.Step.{Step}
use Rattle.ffv1_reads.specs.Head.{frame_limit}
use Rattle.ffv1_matroska.specs.Segments.{block_sought, is_beside}
use Rattle.ffv1_matroska.proofs.SoughtBlocks.{Sought, sought_cases}
use Rattle.ffv1_matroska.specs.declared.track.TrackNumbers.{TrackNumbers}

-- whatever a reading gives has this property
pub record Gives {X : Type 0} (P : X → Type 0) (reading : Reading X) : Type 0 where
  pub only : (text rest : List ℕ) (x : X) → reading text ≡ Ok (x, rest) → P x

pub err_is_no_ok : {X : Type 0} (s : Stop) (p : X × List ℕ) → ◌≡◌ {A = Result (X × List ℕ) Stop} (Err s) (Ok p) → ⊥
err_is_no_ok s p e = absurd (cc)

pub gives_given : {X : Type 0} (P : X → Type 0) (x : X) → P x → Gives P (given x)
gives_given {X = X} P x is = record { only = λ text rest y h. subst P (ap (λ (z : X × List ℕ). z.0) (ok_is (x, text) (y, rest) h)) is }

pub gives_refused : {X : Type 0} (P : X → Type 0) (f : FileFault) → Gives P (refused {X = X} f)
gives_refused P f = record { only = λ text rest y h. absurd (err_is_no_ok _ (y, rest) h) }

pub gives_then : {X Y : Type 0} (Q : X → Type 0) (P : Y → Type 0) (r : Reading X) (k : X → Reading Y) → Gives Q r → ((x : X) → Q x → Gives P (k x)) → Gives P (r >>= k)
gives_then {X = X} {Y = Y} Q P r k first next = record { only = λ text rest y h. on_first text rest y (read_on_ok (r text) k (y, rest) h) }
  where
    on_first : (text rest : List ℕ) (y : Y) → (p : X × List ℕ) × (r text ≡ Ok p) × (k p.0 p.1 ≡ Ok (y, rest)) → P y
    on_first text rest y (p, one, two) = (next p.0 (first.only text p.1 p.0 one)).only p.1 rest y two

pub gives_any : {X Y : Type 0} (P : Y → Type 0) (r : Reading X) (k : X → Reading Y) → ((x : X) → Gives P (k x)) → Gives P (r >>= k)
gives_any {X = X} {Y = Y} P r k next = gives_then (λ _. Unit {0}) P r k (record { only = λ text rest x h. tt }) (λ x _. next x)

pub gives_if : {X : Type 0} (P : X → Type 0) (b : Bool) (r s : Reading X) → Gives P r → Gives P s → Gives P (if b then r else s)
gives_if P true r s one two = one
gives_if P false r s one two = two

-- the header of an element leaves less
abbrev pub Leaves : ℕ → Element × Sum → Type 0
Leaves left p = bytes_of p.0.size + p.0.left < left

abbrev pub LeavesNext : ℕ → Option Element → Type 0
LeavesNext left None = Unit {0}
LeavesNext left (Some e) = bytes_of e.size + e.left < left

judged_leaves : (left ident : ℕ) (size : Option ℕ) → Gives (λ (e : Element). bytes_of e.size + e.left ≤ left) (element_judged left ident size)
judged_leaves left ident None = gives_given _ _ (omega arith)
judged_leaves left ident (Some n) = on_test (nat_lt left n) refl
  where
    on_test : (b : Bool) → nat_lt left n ≡ b → Gives (λ (e : Element). bytes_of e.size + e.left ≤ left) (element_judged left ident (Some n))
    on_test true t = rw t (gives_refused _ _)
    on_test false t = rw t (gives_given _ _ (grind (arith, nat_tests, t)))

pub element_leaves : (left : ℕ) (sum : Sum) → Gives (Leaves left) (element_read left sum)
unfolding element_in
element_leaves left sum = gives_then (λ ident. (1 ≤ length ident) × (length ident ≤ left)) (Leaves left) (vint_read 4 left) (element_rest left sum) (record { only = λ text rest x h. (let v = vint_sound 4 left text (x, rest) h in (v.is.0, v.fits)) }) on_ident
  where
    on_ident : (ident : List ℕ) → (1 ≤ length ident) × (length ident ≤ left) → Gives (Leaves left) (element_rest left sum ident)
    on_ident ident some =
        gives_any (Leaves left) (vint_read 8 (left - length ident)) _ (λ size.
        gives_then (λ (e : Element). bytes_of e.size + e.left ≤ left - length ident - length size) (Leaves left) (element_judged (left - length ident - length size) (number_of ident) (size_of size)) _ (judged_leaves _ _ (size_of size))
        (λ e within. gives_given (Leaves left) _ (omega (arith, within, some.0, some.1))))

pub inside_leaves : (outside : ℕ → Bool) (left : ℕ) (sum : Sum) → Gives (Leaves left) (element_in outside left sum)
inside_leaves outside left sum = record { only = λ text rest x h. (element_leaves left sum).only text rest x (in_read outside left sum text (x, rest) h).0 }

-- a step leaves less
abbrev pub Lessens : ℕ → Option Step → Type 0
Lessens n None = Unit {0}
Lessens n (Some s) = amount s.place < n

abbrev pub Within : ℕ → Option Step → Type 0
Within n None = Unit {0}
Within n (Some s) = amount s.place ≤ n

closed_within : (n : ℕ) (step : Option Step) (place : Place) → Within n step → Gives (Within n) (closed step place)
closed_within n step place h = gives_if (Within n) (is_sound place) (given step) (refused fault.Checksum) (gives_given (Within n) step h) (gives_refused (Within n) fault.Checksum)

passed_within : (size : ℕ) (place : Place) → Gives (Within (amount place)) (passed_on size place)
unfolding passed_on
passed_within size place = gives_any (Within (amount place)) (passed_summed size place.sum) _ (λ sum. closed_within (amount place) (Some (step_to (summed_at place sum))) (summed_at place sum) (omega arith))

timestamp_within : (size : ℕ) (place : Place) → Gives (Within (amount place)) (timestamp_read size place)
unfolding timestamp_read
timestamp_within size place = gives_any {X = List ℕ × Sum} (Within (amount place)) (taken_summed size place.sum) _ (λ p. closed_within (amount place) (Some (timed_to (number_of p.0) (summed_at place p.1))) (summed_at place p.1) (omega arith))

beside_within : (ident size : ℕ) (place : Place) → Gives (Within (amount place)) (beside_read ident size place)
beside_within ident size place = gives_if (Within (amount place)) (ident == timestamp) (timestamp_read size place) (passed_on size place) (timestamp_within size place) (passed_within size place)

pub block_within : (track : TrackNumbers) (size : ℕ) (place : Place) → Gives (Within (amount place)) (block_read track size place)
unfolding block_read fields_read
block_within track size place = gives_any {X = Data × Sum} P (data_read size place.sum) (block_rest track place) (λ p. gives_if P (p.0.value == track.number) (fields_read p.0.left (summed_at place p.1)) _ (fields p.0.left p.1) (gives_if P (is_unknown track.known p.0.value) (refused fault.BadElement) (passed_on p.0.left (summed_at place p.1)) (gives_refused P fault.BadElement) (passed_within p.0.left (summed_at place p.1))))
  where
    P : Option Step → Type 0
    P = Within (amount place)

    judged : (time flags size : ℕ) (s : Sum) → Gives P (frame_judged time flags size (summed_at place s))
    judged time flags size s =
        gives_if P (lacing_of flags == 0) _ (refused fault.Laced)
        (gives_if P (nat_lt frame_limit size) (refused fault.ChunkTooLong) _ (gives_refused P fault.ChunkTooLong)
        (gives_if P (size == 0) (refused fault.EmptyFrame) _ (gives_refused P fault.EmptyFrame) (gives_given P (Some (frame_at (Some time) size (summed_at place s))) (omega arith))))
        (gives_refused P fault.Laced)

    fields : (left : ℕ) (s : Sum) → Gives P (fields_read left (summed_at place s))
    fields left s =
        gives_if P (nat_lt left 3) (refused fault.Truncated) _ (gives_refused P fault.Truncated)
        (gives_any P (taken_summed 3 s) (λ p. frame_judged (time_of p.0) (slice_index p.0 2) (left - 3) (summed_at (summed_at place s) p.1)) (λ p. judged (time_of p.0) (slice_index p.0 2) (left - 3) p.1))

within_less : (n m : ℕ) (r : Reading (Option Step)) → n < m → Gives (Within n) r → Gives (Lessens m) r
within_less n m r less h = record { only = λ text rest x is. on_step x (h.only text rest x is) }
  where
    on_step : (x : Option Step) → Within n x → Lessens m x
    on_step None k = tt
    on_step (Some s) k = omega (arith, less, k)

group_less : (track : TrackNumbers) (place : Place) → Gives (Lessens (amount place)) (group_read track place)
unfolding group_read group_child
group_less track place = gives_then (Leaves place.group) P (element_read place.group place.sum) (group_rest track place) (element_leaves place.group place.sum) (λ p less. child p.0.ident (group_at place p.0.left p.1) p.0.size (omega (arith, less)))
  where
    P : Option Step → Type 0
    P = Lessens (amount place)

    child : (ident : ℕ) (now : Place) (size : Option ℕ) → amount now < amount place → Gives P (group_child track ident now size)
    child ident now None less = gives_refused P fault.BadElement
    child ident now (Some n) less = within_less (amount now) (amount place) (group_child track ident now (Some n)) less (gives_if (Within (amount now)) (ident == block) (block_read track n now) (passed_on n now) (block_within track n now) (passed_within n now))

less_within : (n m : ℕ) → n ≤ m → (x : Option Step) → Lessens n x → Within m x
less_within n m fits None h = tt
less_within n m fits (Some s) h = omega (arith, h, fits)

-- a BlockGroup up to its first Block
sought_within : (most : ℕ) (track : TrackNumbers) (n : ℕ) (place : Place) → amount place ≤ n → Gives (Within n) (block_sought most track place)
unfolding block_sought
sought_within zero track n place fits = gives_refused (Within n) fault.BadElement
sought_within (suc most) track n place fits = record { only = λ text rest x h. on_case text rest x h (sought_cases most track place text) (sought_within most track n) }
  where
    on_case : (text rest : List ℕ) (x : Option Step) → block_sought (suc most) track place text ≡ Ok (x, rest) → Sought most track place text → ((p : Place) → amount p ≤ n → Gives (Within n) (block_sought most track p)) → Within n x
    on_case text rest x h (inl (why, is)) again = absurd (err_is_no_ok why (x, rest) (sym is ∙ h))
    on_case text rest x h (inr (inl (some, is))) again = less_within (amount place) n fits x ((group_less track place).only text rest x (sym is ∙ h))
    on_case text rest x h (inr (inr (now, more, some, read, is))) again =
        let less : amount now < amount place = (group_less track place).only text more (Some (step_to now)) read in
        (again now (omega (arith, less, fits))).only more rest x (sym is ∙ h)

-- an element of a Cluster, in a position that has left what comes after it
child_within : (track : TrackNumbers) (ident size n : ℕ) (place : Place) → place.group ≡ 0 → size + amount place ≤ n → Gives (Within n) (cluster_child track ident size place)
unfolding cluster_child
child_within track ident size n place none fits =
    gives_if P (ident == simple_block) (block_read track size place) _ (wider (block_read track size place) (block_within track size place))
    (gives_if P (ident == block_group) _ _ (sought_within size track n (group_at place size place.sum) (omega (arith, none, fits)))
    (gives_if P (is_beside ident size) (beside_read ident size place) _ (wider (beside_read ident size place) (beside_within ident size place)) (gives_refused P fault.BadElement)))
  where
    P : Option Step → Type 0
    P = Within n

    wider : (r : Reading (Option Step)) → Gives (Within (amount place)) r → Gives P r
    wider r h = record { only = λ text rest x is. on_step x (h.only text rest x is) }
      where
        on_step : (x : Option Step) → Within (amount place) x → Within n x
        on_step None k = tt
        on_step (Some s) k = omega (arith, fits, k)

cluster_less : (track : TrackNumbers) (place : Place) → place.group ≡ 0 → Gives (Lessens (amount place)) (cluster_read track place)
unfolding cluster_read known_child first_child
cluster_less track place none = gives_then (Leaves place.cluster) P (element_in is_outside place.cluster place.sum) (cluster_rest track place) (inside_leaves is_outside place.cluster place.sum) (λ p less. child p.0.ident (cluster_at place p.0.left p.1) p.0.size refl (omega (arith, less, none)))
  where
    P : Option Step → Type 0
    P = Lessens (amount place)

    by_sum : (ident size : ℕ) (now : Place) (s : Sum) → now.group ≡ 0 → size + amount now < amount place → Gives (Within (size + amount now)) (child_by track ident size now s)
    by_sum ident size now Begins empty less =
        gives_if (Within (size + amount now)) (is_crc ident size) (crc_read now) (cluster_child track ident size (summed_at now Absent))
        (gives_any (Within (size + amount now)) (taken 4) _ (λ bytes. closed_within (size + amount now) (Some (step_to (summed_at now (Awaits (low_number bytes) turned)))) (summed_at now (Awaits (low_number bytes) turned)) (omega arith)))
        (child_within track ident size (size + amount now) (summed_at now Absent) empty (omega arith))
    by_sum ident size now Absent empty less = child_within track ident size (size + amount now) now empty (omega arith)
    by_sum ident size now (Awaits stated so_far) empty less = child_within track ident size (size + amount now) now empty (omega arith)

    child : (ident : ℕ) (now : Place) (size : Option ℕ) → now.group ≡ 0 → bytes_of size + amount now < amount place → Gives P (known_child track ident now size)
    child ident now None empty less = gives_refused P fault.BadElement
    child ident now (Some n) empty less = within_less (n + amount now) (amount place) (child_by track ident n now now.sum) less (by_sum ident n now now.sum empty less)

pub header_leaves : (place : Place) → Gives (LeavesNext place.segment) (header_read place)
unfolding header_read first_read
header_leaves place = gives_if P (place.segment == 0) (given None) _ (gives_given P None tt) (gives_if P place.endless _ _ (gives_if P (place.segment == 0) _ _ (gives_refused P fault.Truncated) (record { only = or_end })) some)
  where
    P : Option Element → Type 0
    P = LeavesNext place.segment

    some : Gives P (element_read place.segment Absent >>= λ p. given (Some p.0))
    some = gives_then (Leaves place.segment) P (element_read place.segment Absent) _ (element_leaves place.segment Absent) (λ p less. gives_given P (Some p.0) less)

    or_end : (text rest : List ℕ) (x : Option Element) → element_or_end place.segment text ≡ Ok (x, rest) → P x
    or_end [] rest x h = subst P (ap (λ (z : Option Element × List ℕ). z.0) (ok_is (None, []) (x, rest) h)) tt
    or_end (b ∷ bs) rest x h = some.only (b ∷ bs) rest x h

segment_less : (track : TrackNumbers) (place : Place) → place.group ≡ 0 → place.cluster ≡ 0 → Gives (Lessens (amount place)) (segment_read track place)
unfolding segment_read segment_child other_read
segment_less track place group cluster_none = gives_then (LeavesNext place.segment) P (header_read place) (segment_rest track place) (header_leaves place) on_header
  where
    P : Option Step → Type 0
    P = Lessens (amount place)

    child : (ident : ℕ) (now : Place) (size : Option ℕ) → now.group ≡ 0 → now.cluster ≡ 0 → bytes_of size + amount now < amount place → Gives P (segment_child track ident now size)
    child ident now None empty none less = gives_if P (ident == cluster) _ (refused fault.BadElement) (gives_given P (Some (step_to (segment_at now true now.segment))) (omega (arith, less))) (gives_refused P fault.BadElement)
    child ident now (Some n) empty none less =
        gives_if P (ident == cluster) _ _ (gives_given P (Some (step_to (cluster_entered now n))) (omega (arith, less, none, empty)))
        (gives_if P (now.loose && is_of_cluster ident) (cluster_child track ident n now) (other_read ident n now)
        (within_less (n + amount now) (amount place) (cluster_child track ident n now) less (child_within track ident n (n + amount now) now empty (omega arith)))
        (gives_if P (is_section ident) _ _ (gives_any P (content_passed n) _ (λ _. gives_given P (Some (step_to (segment_at now false now.segment))) (omega (arith, less))))
        (gives_if P (is_filler ident) (passed_on n now) (refused fault.BadElement) (within_less (amount now) (amount place) (passed_on n now) (omega (arith, less)) (passed_within n now)) (gives_refused P fault.BadElement))))

    on_header : (o : Option Element) → LeavesNext place.segment o → Gives P (segment_rest track place o)
    on_header None less = gives_given P None tt
    on_header (Some e) less = child e.ident (segment_at place place.loose e.left) e.size refl refl (omega (arith, less, group, cluster_none))

pub step_less : (track : TrackNumbers) (place : Place) → Gives (Lessens (amount place)) (step_read track place)
unfolding step_read
step_less track place = on_tests (nat_lt 0 place.group) (nat_lt 0 place.cluster) refl refl
  where
    on_tests : (g c : Bool) → nat_lt 0 place.group ≡ g → nat_lt 0 place.cluster ≡ c → Gives (Lessens (amount place)) (step_read track place)
    on_tests true c s t = rw s (group_less track place)
    on_tests false true s t = let none : place.group ≡ 0 = grind (arith, nat_tests, s) in rw (s, t) (cluster_less track place none)
    on_tests false false s t =
        let none : place.group ≡ 0 = grind (arith, nat_tests, s) in
        let empty : place.cluster ≡ 0 = grind (arith, nat_tests, t) in
        rw (s, t) (segment_less track place none empty)
