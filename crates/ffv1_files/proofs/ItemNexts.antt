-- The next item of a file, of either container.
use Rattle.std.proofs.Common.{◌≡◌, ◌≤◌, ◌+◌, ◌*◌, max, refl, ℕ, Bool, true, false, Option, Some, None, Result, Ok, Err, IfOk, List, ap, subst, arith}
use Rattle.ffv1_wire.specs.Passage.{Passage}
use Rattle.ffv1_reads.specs.Ends.{ReadOrEnds, Stops}
use Rattle.ffv1_reads.specs.Items.{Given, SaidBy, given_by}
use Rattle.ffv1_reads.specs.Items as reads
use Rattle.ffv1_reads.specs.Known.{Known}
use Rattle.ffv1_reads.specs.Reads.{Reading, given, read_on, ◌>>=◌}
use Rattle.ffv1_reads.specs.Room.{HasRoom}
use Rattle.ffv1_reads.specs.declared.fault.FileFault.{FileFault}
use Rattle.ffv1_reads.specs.declared.fault.FileFault.TheVariants as fault
use Rattle.ffv1_reads.specs.declared.item.Item.{Item}
use Rattle.ffv1_reads.specs.declared.item.Item.TheVariants as item
use Rattle.ffv1_avi.specs.Extents.{AnswersFrom}
use Rattle.ffv1_avi.specs.Files as avi
use Rattle.ffv1_avi.specs.Items as avi_items
use Rattle.ffv1_avi.specs.Places.{extent_of}
use Rattle.ffv1_avi.specs.Readers as avi_reader
use Rattle.ffv1_avi.specs.declared.course.Course.{Course as AviCourse}
use Rattle.ffv1_avi.specs.declared.place.Place.{Place as AviPlace}
use Rattle.ffv1_matroska.specs.CuedItems.{CuedBy}
use Rattle.ffv1_matroska.specs.Items as matroska
use Rattle.ffv1_matroska.specs.declared.course.Course.{Course as MatroskaCourse}
use Rattle.ffv1_matroska.specs.declared.place.Place.{Place as MatroskaPlace}
use Rattle.ffv1_matroska.specs.declared.track.TrackNumbers.{TrackNumbers}
use Rattle.ffv1_files.specs.Answers.{ReadsAs}
use Rattle.ffv1_files.specs.Items.{ItemAnswers, ItemSoFar, Next, StopsCourse, avi_item, course_ended, cued_item, item_of, item_read, matroska_item, plain_answer, plain_item, repeated_in}
use Rattle.ffv1_files.specs.Endings.{avi_endings}
use Rattle.ffv1_files.specs.Places.{InAvi, InMatroska, Place}
use Rattle.ffv1_files.specs.declared.course.Course.{Course}
use Rattle.ffv1_files.specs.declared.course.Course.TheVariants as course
use Rattle.ffv1_files.proofs.Answering.{known_map, made_reads, made_stops, value_known}
use Rattle.ffv1_files.proofs.Nexts.{avi_no_fault, avi_over, by_reads, by_stops}

-- an AVI of which the first movi alone is read
module _ (place after : AviPlace) (bytes : List ℕ) (p : Passage) where
  abbrev plain : Result Bool FileFault → Type 0
  plain r = AnswersFrom place (λ more. avi_reader.next_of more bytes after) (avi.frame_read place) p r

  pub plain_items : (r : Result Bool FileFault) → plain r → ItemAnswers (InAvi place) course.Plain p (plain_answer r) bytes (InAvi after) course.Plain
  unfolding item_read
  plain_items (Ok true) h = made_reads (avi.frame_read place) plain_item p (Some (bytes, after)) (by_reads (avi.frame_read place) (λ (more : Bool). avi_reader.next_of more bytes after) p (extent_of place) true h)
  plain_items (Ok false) h = made_reads (avi.frame_read place) plain_item p None (by_reads (avi.frame_read place) (λ (more : Bool). avi_reader.next_of more bytes after) p (extent_of place) false h)
  plain_items (Err f) h = made_stops (avi.frame_read place) plain_item p (avi_endings (extent_of place)) (avi_endings (extent_of place)) (avi_over plain_item refl (extent_of place)) (avi_no_fault plain_item refl (extent_of place)) f (by_stops (avi.frame_read place) (λ (more : Bool). avi_reader.next_of more bytes after) p (extent_of place) f h)

  pub plain_ended : (r : Result Bool FileFault) → plain r → IfOk (plain_answer r) (λ i. i ≡ item.End → SaidBy (course_ended course.Plain) p.old p.new course.Plain)
  unfolding course_ended
  plain_ended (Ok true) h = λ is. absurd (cc (is))
  plain_ended (Ok false) h = λ is. known_map p.old p.new _ _ (λ text rest read. refl) (by_reads (avi.frame_read place) (λ (more : Bool). avi_reader.next_of more bytes after) p (extent_of place) false h).1
  plain_ended (Err f) h = tt

-- nothing was read
pub stayed : {X : Type 0} (text : Option (List ℕ)) (by : List ℕ → X) (x : X) → ((bytes : List ℕ) → x ≡ by bytes) → SaidBy by text text x
stayed None by x same = tt
stayed (Some bytes) by x same = same bytes

pub none_stayed : (reading : Reading Next) (text : Option (List ℕ)) (failures : ℕ) → ((bytes : List ℕ) → reading bytes ≡ Ok (None, bytes)) → ReadsAs reading (record { old = text; new = text; before = failures; after = failures }) None
none_stayed reading None failures same = (refl, tt)
none_stayed reading (Some bytes) failures same = (refl, same bytes)

-- what is made of the items of a container
module _ {C : Type 0} (r : Reading (Option (Given × C))) (g : Option (Given × C) → Next) (bytes : List ℕ) (d : C) (p : Passage) where
  abbrev made : Reading Next
  made = r >>= λ o. given (g o)

  stops_made : (old new : Option (List ℕ)) (x : Option (Given × C)) → Stops r old new x → Known old new (ItemSoFar made)
  stops_made None new x h = tt
  stops_made (Some text) None x h = absurd h.consumed
  stops_made (Some text) (Some rest) x h = (g x, (h.bytes, h.consumed, ap (λ z. read_on z (λ o. given (g o))) h.is))

  pub item_answered : (x : Option (Given × C)) → (p.after ≡ p.before) × ReadOrEnds r p.old p.new x → ReadsAs made p (g x)
  item_answered x h = made_reads r g p x (h.0, value_known r p.old p.new x h.1)

  pub item_stopped : (f : FileFault) → reads.ItemAnswers r p (Err f) bytes d → StopsCourse made p f
  item_stopped fault.Read h = (h.0, stops_made p.old p.new h.1 h.2)
  item_stopped fault.OutOfMemory h = (h.0, stops_made p.old p.new h.1 h.2)
  item_stopped f h = absurd h

module _ (place : AviPlace) (c d : AviCourse) (repeated : ℕ) (bytes : List ℕ) (p : Passage) where
  avi_is : (i : Item) → avi_item (InAvi place) repeated (given_by i bytes d) ≡ item_of i bytes (InAvi place) (course.Avi d (repeated_in (Ok i) bytes repeated))
  avi_is item.Frame = refl
  avi_is (item.Told f offset) = refl
  avi_is item.End = refl

  pub chunk_items : (r : Result Item FileFault) → reads.ItemAnswers (avi_items.item_read c) p r bytes d → ItemAnswers (InAvi place) (course.Avi c repeated) p r bytes (InAvi place) (course.Avi d (repeated_in r bytes repeated))
  unfolding item_read
  chunk_items (Ok i) h = subst (ReadsAs (avi_items.item_read c >>= λ o. given (avi_item (InAvi place) repeated o)) p) (avi_is i) (item_answered (avi_items.item_read c) (avi_item (InAvi place) repeated) bytes d p (given_by i bytes d) h)
  chunk_items (Err f) h = item_stopped (avi_items.item_read c) (avi_item (InAvi place) repeated) bytes d p f h

  pub chunk_ended : (r : Result Item FileFault) → IfOk r (λ i. i ≡ item.End → SaidBy (avi_items.ended_by c) p.old p.new d) → IfOk r (λ i. i ≡ item.End → SaidBy (course_ended (course.Avi c repeated)) p.old p.new (course.Avi d (repeated_in r bytes repeated)))
  unfolding course_ended
  chunk_ended (Ok item.Frame) h = λ is. absurd (cc (is))
  chunk_ended (Ok (item.Told f offset)) h = λ is. absurd (cc (is))
  chunk_ended (Ok item.End) h = λ is. known_map p.old p.new _ _ (λ text rest said. ap (λ z. course.Avi z repeated) said) (h is)
  chunk_ended (Err f) h = tt

module _ (segment : Option ℕ) (track : TrackNumbers) (place : MatroskaPlace) (c d : MatroskaCourse) (bytes : List ℕ) (p : Passage) where
  abbrev here : Place
  here = InMatroska segment track place

  segment_is : (i : Item) → matroska_item here (given_by i bytes d) ≡ item_of i bytes here (course.Matroska d)
  segment_is item.Frame = refl
  segment_is (item.Told f offset) = refl
  segment_is item.End = refl

  pub element_items : (r : Result Item FileFault) → reads.ItemAnswers (matroska.item_read track c) p r bytes d → ItemAnswers here (course.Matroska c) p r bytes here (course.Matroska d)
  unfolding item_read
  element_items (Ok i) h = subst (ReadsAs (matroska.item_read track c >>= λ o. given (matroska_item here o)) p) (segment_is i) (item_answered (matroska.item_read track c) (matroska_item here) bytes d p (given_by i bytes d) h)
  element_items (Err f) h = item_stopped (matroska.item_read track c) (matroska_item here) bytes d p f h

-- ---- a course of another container

still : (from : Place) (c : Course) (text : Option (List ℕ)) (failures : ℕ) (bytes : List ℕ) → ((rest : List ℕ) → item_read from c rest ≡ Ok (None, rest)) → ItemAnswers from c (record { old = text; new = text; before = failures; after = failures }) (Ok item.End) bytes from c
still from c text failures bytes none = none_stayed (item_read from c) text failures none

pub other_chunk : (place : AviPlace) (c : MatroskaCourse) (text : Option (List ℕ)) (failures : ℕ) (bytes : List ℕ) → ItemAnswers (InAvi place) (course.Matroska c) (record { old = text; new = text; before = failures; after = failures }) (Ok item.End) bytes (InAvi place) (course.Matroska c)
unfolding item_read
other_chunk place c text failures bytes = still (InAvi place) (course.Matroska c) text failures bytes (λ rest. refl)

pub other_ended : (c : MatroskaCourse) (text : Option (List ℕ)) → SaidBy (course_ended (course.Matroska c)) text text (course.Matroska c)
unfolding course_ended
other_ended c text = stayed text (course_ended (course.Matroska c)) (course.Matroska c) (λ bytes. refl)

module _ (segment : Option ℕ) (track : TrackNumbers) (place : MatroskaPlace) (text : Option (List ℕ)) (failures : ℕ) (bytes : List ℕ) where
  pub plain_element : ItemAnswers (InMatroska segment track place) course.Plain (record { old = text; new = text; before = failures; after = failures }) (Ok item.End) bytes (InMatroska segment track place) course.Plain
  unfolding item_read
  plain_element = still (InMatroska segment track place) course.Plain text failures bytes (λ rest. refl)

  pub other_element : (c : AviCourse) (repeated : ℕ) → ItemAnswers (InMatroska segment track place) (course.Avi c repeated) (record { old = text; new = text; before = failures; after = failures }) (Ok item.End) bytes (InMatroska segment track place) (course.Avi c repeated)
  unfolding item_read
  other_element c repeated = still (InMatroska segment track place) (course.Avi c repeated) text failures bytes (λ rest. refl)

-- ---- no Cues came

pub uncued : (by : List ℕ → Bool) (cued : Bool) (text : Option (List ℕ)) → ((bytes : List ℕ) → cued ≡ by bytes) → CuedBy by text text cued
uncued by cued None same = tt
uncued by cued (Some bytes) same = same bytes

known_uncued : (cued : Bool) (old new : Option (List ℕ)) (P : List ℕ → List ℕ → Type 0) → Known old new P → CuedBy (λ text. cued) old new cued
known_uncued cued None new P h = tt
known_uncued cued (Some text) None P h = absurd h
known_uncued cued (Some text) (Some rest) P h = refl

pub chunk_uncued : (place : AviPlace) (c : Course) (cued : Bool) (p : Passage) (r : Result Item FileFault) (bytes : List ℕ) (to : Place) (d : Course) → ItemAnswers (InAvi place) c p r bytes to d → IfOk r (λ i. CuedBy (cued_item (InAvi place) c cued) p.old p.new cued)
unfolding cued_item
chunk_uncued place c cued p (Ok i) bytes to d h = known_uncued cued p.old p.new _ h.1
chunk_uncued place c cued p (Err f) bytes to d h = tt

-- ---- how much room the vector has

pub plain_room : (r : Result Bool FileFault) (old new n : ℕ) → HasRoom old new n r → new ≤ max old (2 * n + 65536)
plain_room (Ok b) old new n h = let few : new ≤ max old n = h in omega (arith, few)
plain_room (Err f) old new n h = h

pub plain_held : (r : Result Bool FileFault) (old new n : ℕ) → HasRoom old new n r → IfOk (plain_answer r) (λ i. i ≡ item.Frame → new ≤ max old n)
plain_held (Ok true) old new n h = λ is. h
plain_held (Ok false) old new n h = λ is. h
plain_held (Err f) old new n h = tt
