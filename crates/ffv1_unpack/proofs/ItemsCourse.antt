-- Where reading has come to, item by item, and what is noted by that.
use Rattle.std.proofs.Common.{◌≡◌, ◌∙◌, ℕ, suc, Bool, true, false, List, Option, Some, None, Ok, refl, sym, ap, subst}
use Rattle.ffv1_reads.specs.Items.{SaidBy}
use Rattle.ffv1_reads.specs.Known.{Known}
use Rattle.ffv1_avi.specs.declared.place.Extent.{Extent}
use Rattle.ffv1_avi.specs.declared.place.Extent.TheVariants.{FirstMovi, EveryRiff}
use Rattle.ffv1_avi.specs.declared.place.Place.{Place as AviPlace}
use Rattle.ffv1_avi.specs.Places.{extent_of}
use Rattle.ffv1_files.specs.Behind.{items_noted, notes_read, notes_told}
use Rattle.ffv1_files.specs.Items.{avi_course, course_by, course_ended, course_of, item_read}
use Rattle.ffv1_files.specs.Noted.{notes_reached, streams_reached}
use Rattle.ffv1_files.specs.Places.{InAvi, InMatroska, Place, container_of}
use Rattle.ffv1_files.specs.Readers.{Standing}
use Rattle.ffv1_files.specs.declared.container.Container.{Container}
use Rattle.ffv1_files.specs.declared.container.Container.TheVariants as container
use Rattle.ffv1_files.specs.declared.container.Scope.{Scope}
use Rattle.ffv1_files.specs.declared.container.Scope.TheVariants as scope
use Rattle.ffv1_files.specs.declared.course.Course.{Course}
use Rattle.ffv1_files.specs.declared.course.Course.TheVariants as course
use Rattle.ffv1_unpack.specs.Behind.{Looks}
use Rattle.ffv1_unpack.specs.ItemsEnd.{EndLooks, OthersRead, course_left, course_on, course_up_to, cued_left}
use Rattle.ffv1_unpack.specs.Internal.Containers.{is_segment}
use Rattle.ffv1_unpack.specs.Internal.Plainly.{is_plain}

-- ---- item by item

-- what is said of bytes so far is said of those from the beginning
abbrev pub CourseSoFar : (List ℕ → Course) → (List ℕ → Course) → Option (List ℕ) → Option (List ℕ) → Type 0
CourseSoFar whole on old now = Known old now (λ text at. on at ≡ whole text)

pub course_begins : (whole : List ℕ → Course) (text : Option (List ℕ)) → CourseSoFar whole whole text text
course_begins whole None = tt
course_begins whole (Some bytes) = refl

module _ (whole : List ℕ → Course) (most : ℕ) (from : Place) (c : Course) where
  after_one : (given : _) (to : Place) (d : Course) (at rest : List ℕ) → item_read from c at ≡ Ok (Some (given, to, d), rest) → course_up_to most to d rest ≡ course_up_to (suc most) from c at
  unfolding course_up_to
  after_one given to d at rest is = ap (course_on (course_up_to most) (course_ended c at)) (sym is)

  -- one that came
  pub course_came : (given : _) (to : Place) (d : Course) (old now new : Option (List ℕ)) → CourseSoFar whole (course_up_to (suc most) from c) old now → Known now new (λ text rest. item_read from c text ≡ Ok (Some (given, to, d), rest)) →
      CourseSoFar whole (course_up_to most to d) old new
  course_came given to d None now new h read = tt
  course_came given to d (Some text) None new h read = absurd h
  course_came given to d (Some text) (Some at) None h read = absurd read
  course_came given to d (Some text) (Some at) (Some rest) h read = after_one given to d at rest read ∙ h

  after_all : (d : Course) (at rest : List ℕ) → d ≡ course_ended c at → item_read from c at ≡ Ok (None, rest) → d ≡ course_up_to (suc most) from c at
  unfolding course_up_to
  after_all d at rest over is = over ∙ ap (course_on (course_up_to most) (course_ended c at)) (sym is)

  -- the end
  pub course_over : (d : Course) (old now new : Option (List ℕ)) → CourseSoFar whole (course_up_to (suc most) from c) old now → Known now new (λ text rest. item_read from c text ≡ Ok (None, rest)) → SaidBy (course_ended c) now new d → SaidBy whole old new d
  course_over d None now new h read over = tt
  course_over d (Some text) None new h read over = absurd h
  course_over d (Some text) (Some at) None h read over = absurd read
  course_over d (Some text) (Some at) (Some rest) h read over = after_all d at rest over read ∙ h

-- at most so many were read
pub course_many : (whole : List ℕ → Course) (left : ℕ) (from : Place) (c : Course) (old now : Option (List ℕ)) → left ≡ 0 → CourseSoFar whole (course_up_to left from c) old now → SaidBy whole old now c
unfolding course_up_to
course_many whole left from c None now none h = tt
course_many whole left from c (Some text) None none h = absurd h
course_many whole left from c (Some text) (Some rest) none h = (rw none at h)

-- ---- whether it is read plainly

-- a course that is not so
pub plain_not : (c : Course) → is_plain c ≡ false → c ≡ course.Plain → ⊥
plain_not c reads is = let other : true ≡ false = ap is_plain (sym is) ∙ reads in cc

pub not_plain : (c : Course) → (c ≡ course.Plain → ⊥) → is_plain c ≡ false
not_plain course.Plain differs = absurd (differs refl)
not_plain (course.Avi c repeated) differs = refl
not_plain (course.Matroska c) differs = refl

-- one that is
pub plain_is : (c : Course) → is_plain c ≡ true → c ≡ course.Plain
plain_is course.Plain is = refl
plain_is (course.Avi c repeated) is = absurd (let no : false ≡ true = is in cc)
plain_is (course.Matroska c) is = absurd (let no : false ≡ true = is in cc)

-- and it says nothing of the end
ended_plain : (c : Course) (text : List ℕ) → c ≡ course.Plain → c ≡ course_ended c text
unfolding course_ended
ended_plain course.Plain text is = refl
ended_plain (course.Avi c repeated) text is = absurd (cc (is))
ended_plain (course.Matroska c) text is = absurd (cc (is))

pub plain_over : (c : Course) (P : List ℕ → List ℕ → Type 0) (old new : Option (List ℕ)) → c ≡ course.Plain → Known old new P → SaidBy (course_ended c) old new c
plain_over c P None new is h = tt
plain_over c P (Some text) None is h = absurd h
plain_over c P (Some text) (Some rest) is h = ended_plain c text is

-- a call that keeps such a course keeps what it is
pub kind_kept : (old new : Course) → is_plain old ≡ false → ((old ≡ course.Plain → ⊥) → new ≡ course.Plain → ⊥) → is_plain new ≡ is_plain old
kind_kept old new reads keeps = not_plain new (keeps (plain_not old reads)) ∙ sym reads

-- only an AVI is read plainly
pub plain_avi : (place : Place) (offset : ℕ) → is_plain (course_by place offset) ≡ true → container_of place ≡ container.Avi
plain_avi (InAvi p) offset is = refl
plain_avi (InMatroska size track p) offset is = absurd (let no : false ≡ true = is in cc)

pub segment_on : (place : Place) (offset : ℕ) → is_segment (container_of place) ≡ true → is_plain (course_by place offset) ≡ false
segment_on (InAvi p) offset segment = absurd (let no : false ≡ true = segment in cc)
segment_on (InMatroska size track p) offset segment = refl

avi_plain : (e : Extent) (p : AviPlace) (offset : ℕ) → e ≡ FirstMovi → is_plain (avi_course e p offset) ≡ true
avi_plain FirstMovi p offset is = refl
avi_plain EveryRiff p offset is = absurd (cc (is))

avi_reads : (e : Extent) (p : AviPlace) (offset : ℕ) → e ≡ EveryRiff → is_plain (avi_course e p offset) ≡ false
avi_reads FirstMovi p offset is = absurd (cc (is))
avi_reads EveryRiff p offset is = refl

-- where the first movi alone is read, and where every RIFF is
pub first_plain : (place : Place) (offset end : ℕ) (cued : Bool) (after : Option ℕ) (open_ended : Bool) (file left : List ℕ) → notes_reached scope.FirstMovi place end cued after open_ended file left → is_plain (course_by place offset) ≡ true
first_plain (InAvi p) offset end cued after open_ended file left h = avi_plain (extent_of p) p offset h.0
first_plain (InMatroska size track p) offset end cued after open_ended file left h = absurd h

pub whole_reads : (place : Place) (offset end : ℕ) (cued : Bool) (after : Option ℕ) (open_ended : Bool) (file left : List ℕ) → notes_reached scope.Whole place end cued after open_ended file left → is_plain (course_by place offset) ≡ false
whole_reads (InAvi p) offset end cued after open_ended file left h = avi_reads (extent_of p) p offset h
whole_reads (InMatroska size track p) offset end cued after open_ended file left h = refl

-- ---- further streams

avi_others : (e : Extent) (p : AviPlace) (offset others : ℕ) (file : List ℕ) → streams_reached scope.Whole (InAvi p) others file → OthersRead (avi_course e p offset) others file
avi_others FirstMovi p offset others file h = tt
avi_others EveryRiff p offset others file h = h

pub first_others : (c : Course) (others : ℕ) (file : List ℕ) → is_plain c ≡ true → OthersRead c others file
first_others course.Plain others file is = tt
first_others (course.Avi c repeated) others file is = absurd (let no : false ≡ true = is in cc)
first_others (course.Matroska c) others file is = tt

pub others_here : (s : Scope) (place : Place) (offset others end : ℕ) (cued : Bool) (after : Option ℕ) (open_ended : Bool) (file left : List ℕ) → streams_reached s place others file → notes_reached s place end cued after open_ended file left →
    OthersRead (course_by place offset) others file
others_here scope.FirstMovi place offset others end cued after open_ended file left h reached = first_others (course_by place offset) others file (first_plain place offset end cued after open_ended file left reached)
others_here scope.Whole (InAvi p) offset others end cued after open_ended file left h reached = avi_others (extent_of p) p offset others file h
others_here scope.Whole (InMatroska size track p) offset others end cued after open_ended file left h reached = tt

-- ---- what is noted

-- of a Segment the course says nothing
segment_noted : (place : Place) (end : ℕ) (cued : Bool) (after other : Option ℕ) (repeated again others more : ℕ) (open_ended left_open : Bool) → is_segment (container_of place) ≡ true →
    notes_read place end cued after repeated others open_ended ≡ notes_read place end cued other again more left_open
unfolding notes_read notes_told
segment_noted (InAvi p) end cued after other repeated again others more open_ended left_open segment = absurd (let no : false ≡ true = segment in cc)
segment_noted (InMatroska size track p) end cued after other repeated again others more open_ended left_open segment = refl

by_reader : (r : Standing) (c : Course) (cued : Bool) → is_segment (container_of r.place) ≡ true → items_noted r c cued ≡ notes_read r.place r.end cued r.after r.repeated r.others r.open_ended
by_reader r course.Plain cued segment = refl
by_reader r (course.Avi c repeated) cued segment = segment_noted r.place r.end cued c.after r.after repeated r.repeated r.others r.others c.open_ended r.open_ended segment
by_reader r (course.Matroska c) cued segment = refl

pub noted_alike : (r : Standing) (c d : Course) (cued : Bool) → (container_of r.place ≡ container.Avi → c ≡ d) → items_noted r c cued ≡ items_noted r d cued
noted_alike r c d cued same = on (container_of r.place) refl
  where
    on : (k : Container) → container_of r.place ≡ k → items_noted r c cued ≡ items_noted r d cued
    on container.Avi at = ap (λ z. items_noted r z cued) (same at)
    on (container.Matroska size) at = by_reader r c cued (ap is_segment at) ∙ sym (by_reader r d cued (ap is_segment at))

-- the course after all items of an AVI is this
abbrev pub Goes : Standing → Option (List ℕ) → Option (List ℕ) → Course → Type 0
Goes r old new c = container_of r.place ≡ container.Avi → SaidBy (course_left r.place (course_of r)) old new c

-- how what stands there is read
pub looks_there : (r : Standing) (c : Course) (cued : Bool) (Looked : ℕ → Looks) (at left rest : List ℕ) → cued ≡ cued_left r.place (course_of r) false at → (container_of r.place ≡ container.Avi → c ≡ course_left r.place (course_of r) at) → Looked r.end (items_noted r c cued) left rest →
    EndLooks r at Looked left rest
looks_there r c cued Looked at left rest same goes looked =
    subst (λ b. Looked r.end (items_noted r (course_left r.place (course_of r) at) b) left rest) same
    (subst (λ z. Looked r.end z left rest) (noted_alike r c (course_left r.place (course_of r) at) cued goes) looked)
