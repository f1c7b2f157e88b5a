-- A fault that may be told, which plain reading meets in some bytes, it meets in more bytes.
use Rattle.std.proofs.Common.{◌≡◌, ◌∙◌, ◌==◌, ℕ, suc, zero, List, [], ◌∷◌, ◌++◌, Bool, true, false, if◌then◌else◌, Option, Some, None, Result, Ok, Err, refl, sym, ap, subst}
use Rattle.ffv1_reads.specs.Reads.{Met, Reading, Short, Stop, given, read_on, refused, ◌>>=◌}
use Rattle.ffv1_reads.specs.declared.fault.FileFault.{FileFault}
use Rattle.ffv1_reads.specs.declared.fault.FileFault.TheVariants as fault
use Rattle.ffv1_reads.proofs.Made.{IsEnough, Made, any, made_extends, made_given, made_if, made_refused, made_then, with_more}
use Rattle.ffv1_ebml.specs.Elements.{element_or_end, element_read, first_read}
use Rattle.ffv1_ebml.specs.declared.element.Element.{Element}
use Rattle.ffv1_ebml.specs.declared.sum.Sum.TheVariants.{Absent}
use Rattle.ffv1_ebml.proofs.MadeElements.{of_some_element}
use Rattle.ffv1_matroska.specs.Opened.{Opened, begin_from, begin_up_to, begun_at, ebml_read, element_or_begun, in_cluster, open_read, segment_opened, tracks_or_passed}
use Rattle.ffv1_matroska.specs.Opening.{segment_begun, segment_entered}
use Rattle.ffv1_matroska.specs.Places.{amount, ended, segment_at}
use Rattle.ffv1_matroska.specs.Readers.{is_opening_fault}
use Rattle.ffv1_matroska.specs.Salvaged.{may_be_told}
use Rattle.ffv1_matroska.specs.Segments.{cluster, header_read}
use Rattle.ffv1_matroska.specs.Tracks.{Track}
use Rattle.ffv1_matroska.specs.declared.place.Place.{Place}
use Rattle.ffv1_matroska.proofs.OpeningFaults.{basic, of_ebml, of_entered, of_visit}

-- more bytes after those that have such a fault
abbrev MeetsIn : {X : Type 0} → Reading X → List ℕ → FileFault → Type 0
MeetsIn r text f = (left : List ℕ) × (r text ≡ Err (Met f left))

abbrev Goes : {X : Type 0} → Reading X → Type 0
Goes r = (text more rest : List ℕ) (f : FileFault) → may_be_told f ≡ true → r text ≡ Err (Met f rest) → MeetsIn r (text ++ more) f

no_fault : {X : Type 0} {P : Type 0} (p : X × List ℕ) (why : Stop) → ◌≡◌ {A = Result (X × List ℕ) Stop} (Ok p) (Err why) → P
no_fault p why e = absurd (cc)

not_short : {X : Type 0} {P : Type 0} (w : _) (f : FileFault) (rest : List ℕ) → ◌≡◌ {A = Result (X × List ℕ) Stop} (Err (Short w)) (Err (Met f rest)) → P
not_short w f rest e = absurd (let same : ◌≡◌ {A = Stop} (Short w) (Met f rest) = cc in cc)

met_same : {X : Type 0} (f g : FileFault) (xs ys : List ℕ) → ◌≡◌ {A = Result (X × List ℕ) Stop} (Err (Met f xs)) (Err (Met g ys)) → f ≡ g
met_same f g xs ys e = let both : ◌≡◌ {A = Stop} (Met f xs) (Met g ys) = cc in cc

goes_made : {own : FileFault → Bool} {X : Type 0} {r : Reading X} → Made own false r → Goes r
goes_made {X = X} {r = r} made text more rest f told met =
    let P : Result (X × List ℕ) Stop → Type 0 = λ z. IsEnough z in
    (rest ++ more, made_extends made text more (subst P (sym met) tt) ∙ ap (with_more more) met)

goes_then : {own : FileFault → Bool} {X Y : Type 0} {r : Reading X} {k : X → Reading Y} → Made own false r → ((x : X) → Goes (k x)) → Goes (r >>= k)
goes_then {X = X} {Y = Y} {r = r} {k = k} made next text more rest f told met = on_first (r text) refl met
  where
    Enough : Result (X × List ℕ) Stop → Type 0
    Enough z = IsEnough z

    on_first : (z : Result (X × List ℕ) Stop) → r text ≡ z → read_on z k ≡ Err (Met f rest) → MeetsIn (r >>= k) (text ++ more) f
    on_first (Ok p) is h =
        let same : r (text ++ more) ≡ Ok (p.0, p.1 ++ more) = made_extends made text more (subst (λ (z : Result (X × List ℕ) Stop). IsEnough z) (sym is) tt) ∙ ap (with_more more) is in
        let on = next p.0 p.1 more rest f told h in
        (on.0, ap (λ z. read_on z k) same ∙ on.1)
    on_first (Err (Short w)) is h = not_short {X = Y} w f rest h
    on_first (Err (Met g at)) is h =
        let same : r (text ++ more) ≡ Err (Met g (at ++ more)) = made_extends made text more (subst (λ (z : Result (X × List ℕ) Stop). IsEnough z) (sym is) tt) ∙ ap (with_more more) is in
        (at ++ more, ap (λ z. read_on z k) same ∙ ap (λ e. Err (Met e (at ++ more))) (met_same {X = Y} g f at rest h))

goes_given : {X Y : Type 0} {r : Reading X} (make : X → Y) → Goes r → Goes (r >>= λ x. given (make x))
goes_given {X = X} {Y = Y} {r = r} make first text more rest f told met = on_first (r text) refl met
  where
    on_first : (z : Result (X × List ℕ) Stop) → r text ≡ z → read_on z (λ x. given (make x)) ≡ Err (Met f rest) → MeetsIn (r >>= λ x. given (make x)) (text ++ more) f
    on_first (Ok p) is h = no_fault (make p.0, p.1) (Met f rest) h
    on_first (Err (Short w)) is h = not_short {X = Y} w f rest h
    on_first (Err (Met g at)) is h =
        let same : g ≡ f = met_same {X = Y} g f at rest h in
        let on = first text more at f told (is ∙ ap (λ e. Err (Met e at)) same) in
        (on.0, ap (λ z. read_on z (λ x. given (make x))) on.1)

goes_if : {X : Type 0} (b : Bool) {r s : Reading X} → Goes r → Goes s → Goes (if b then r else s)
goes_if true one two = one
goes_if false one two = two

-- ---- before the frames

made_begun : (found : Option Track) (place : Place) → Made any false (begun_at found place)
unfolding begun_at
made_begun None place = made_refused fault.NoTracks refl
made_begun (Some track) place = made_given (track, place)

none_told : {P : Type 0} (found : Option Track) (place : Place) (text rest : List ℕ) (f : FileFault) → may_be_told f ≡ true → begun_at found place text ≡ Err (Met f rest) → P
unfolding begun_at
none_told None place text rest f told met =
    let same : fault.NoTracks ≡ f = met_same {X = Track × Place} fault.NoTracks f text rest met in
    absurd (let no : false ≡ true = subst (λ e. may_be_told e ≡ true) (sym same) told in cc)
none_told (Some track) place text rest f told met = no_fault ((track, place), text) (Met f rest) met

module _ (most : ℕ) (again : (found : Option Track) (place : Place) → Goes (begin_up_to most found place)) (found : Option Track) where
  on_element : (place : Place) (o : Option Element) → Goes (element_or_begun (begin_up_to most) found place o)
  on_element place None = goes_made (made_begun found ended)
  on_element place (Some e) =
      goes_if (e.ident == cluster) (goes_made (made_begun found (in_cluster (segment_at place false e.left) e.size)))
      (goes_then (of_visit found e.ident e.size) (λ now. again now (segment_at place false e.left)))

  on_some : (place : Place) (n : ℕ) → Goes ((element_read n Absent >>= λ p. given (Some p.0)) >>= element_or_begun (begin_up_to most) found place)
  on_some place n = goes_then (of_some_element basic n) (on_element place)

  on_end : (place : Place) (n : ℕ) → Goes (element_or_end n >>= element_or_begun (begin_up_to most) found place)
  on_end place n [] more rest f told met = none_told found ended [] rest f told met
  on_end place n (b ∷ bs) more rest f told met = on_some place n (b ∷ bs) more rest f told met

  on_header : (place : Place) → Goes (header_read place >>= element_or_begun (begin_up_to most) found place)
  unfolding header_read first_read
  on_header place = on_test (place.segment == 0) place.endless
    where
      on : Option Element → Reading (Track × Place)
      on = element_or_begun (begin_up_to most) found place

      on_test : (a b : Bool) → Goes ((if a then given None else if b then (if place.segment == 0 then refused fault.Truncated else element_or_end place.segment) else (element_read place.segment Absent >>= λ p. given (Some p.0))) >>= on)
      on_test true b = on_element place None
      on_test false true = on_left (place.segment == 0)
        where
          on_left : (c : Bool) → Goes ((if c then refused fault.Truncated else element_or_end place.segment) >>= on)
          on_left true = goes_then {own = any} (made_refused fault.Truncated refl) (on_element place)
          on_left false = on_end place place.segment
      on_test false false = on_some place place.segment

begin_goes : (most : ℕ) (found : Option Track) (place : Place) → Goes (begin_up_to most found place)
unfolding begin_up_to
begin_goes zero found place = goes_made {own = any} (made_refused fault.NoTracks refl)
begin_goes (suc most) found place = on_header most (begin_goes most) found place

-- a file up to its frames
pub open_goes : (text more rest : List ℕ) (f : FileFault) → may_be_told f ≡ true → open_read text ≡ Err (Met f rest) → (left : List ℕ) × (open_read (text ++ more) ≡ Err (Met f left))
unfolding open_read
open_goes text more rest f told met =
    goes_then of_ebml (λ _. goes_then of_entered (λ size. goes_given (λ (p : Track × Place). record { track = p.0; segment = size; place = p.1 }) (begin_goes (suc (amount (segment_begun size))) None (segment_begun size)))) text more rest f told met
