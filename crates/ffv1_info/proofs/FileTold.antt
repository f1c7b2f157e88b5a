-- The facts of a file are written, or not.
use Rattle.std.proofs.Common.{◌≡◌, refl, ℕ, Bool, Option, Err, List, [], Result, inl, inr, subst, ◌⊎◌}
use Rattle.ffv1_wire.specs.Passage.{Passage, between}
use Rattle.ffv1_record.specs.Accepted.{Accepted}
use Rattle.ffv1_record.specs.Reading.{IsRefused, ReachesSets}
use Rattle.ffv1_record.specs.declared.fault.RecordFault.{RecordFault}
use Rattle.ffv1_record.specs.declared.fault.RecordFault.TheVariants as record_fault
use Rattle.ffv1_files.specs.Again.{StopsOpening}
use Rattle.ffv1_files.specs.Readers.{Standing}
use Rattle.ffv1_reads.specs.Head.{Head}
use Rattle.ffv1_reads.specs.declared.fault.FileFault.{FileFault}
use Rattle.ffv1_video.specs.declared.fault.Fault.{Fault}
use Rattle.ffv1_video.specs.declared.profile.Profile.{Profile}
use Rattle.ffv1_video.specs.Faults.{Cause, cause_of, of_avi, of_record}
use Rattle.ffv1_video.specs.Faults.Cause.{Reading, Writing, Memory, Content}
use Rattle.ffv1_video.specs.Profiles.{greatest_depth, record_profile, scope_in}
use Rattle.ffv1_video.proofs.Output.{silent}
use Rattle.ffv1_outline.specs.declared.facts.Form.{Form}
use Rattle.ffv1_unpack.specs.Internal.Opens.{stream_of}
use Rattle.ffv1_unpack.specs.Internal.Told.{WritesFrame}
use Rattle.ffv1_unpack.specs.Opens.{HasSoundRecord, OpensKnown}
use Rattle.ffv1_unpack.specs.Plays.{FileThen, HasThen}
use Rattle.ffv1_unpack.specs.Stream.{IsStream}
use Rattle.ffv1_unpack.proofs.FilePlayed.{file_has}
use Rattle.ffv1_unpack.proofs.Openings.{LacksHeadBy as OpeningBy, head_by}
use Rattle.ffv1_info.specs.StreamInfo.{FramesDone, FramesStop, HasHead, StreamInfoDone, StreamInfoStops, LacksHeadBy, LacksRecord, Wrote, stream_facts}
use Rattle.ffv1_info.specs.StreamFacts.{head_facts, record_facts}
use Rattle.ffv1_info.proofs.FramesTold.{done_there, stops_there}
use Rattle.ffv1_info.proofs.Groups.{group_stops, stops_after, wrote_behind}

lacks_by : (profile : Profile) (p : Passage) (f : Fault) (why : Cause) → OpeningBy profile p f why → LacksHeadBy profile p f why
lacks_by profile p f Reading h = h
lacks_by profile p f Writing h = h
lacks_by profile p f Memory h = h
lacks_by profile p f Content h = h

-- a file without a head
pub lacks_head : (profile : Profile) (form : Form) (count : Bool) (i0 i1 o : Option (List ℕ)) (ib im ob : ℕ) (again : Bool) (f : FileFault) →
    StopsOpening again (scope_in profile) (between i0 i1 ib im) f → StreamInfoStops profile form count (between i0 i1 ib im) (between o o ob ob) (of_avi f)
lacks_head profile form count i0 i1 o ib im ob again f h =
    inl (silent o ob, lacks_by profile (between i0 i1 ib im) (of_avi f) (cause_of (of_avi f)) (head_by profile (between i0 i1 ib im) again f h))

-- the facts that were written are those of the reader's head
pub head_told : (form : Form) (p : Passage) (r : Result (Unit {0}) Fault) {h k : Head} → h ≡ k → WritesFrame (head_facts form h) p r → WritesFrame (head_facts form k) p r
head_told form p r same writes = subst (λ (z : Head). WritesFrame (head_facts form z) p r) same writes

-- a record that is not accepted
pub lacks_record : (profile : Profile) (head : Head) (r : RecordFault) →
    (r ≡ record_fault.OutOfMemory) ⊎ IsRefused (record_profile profile) (greatest_depth profile) head.config_record head.width head.height r → (r ≡ record_fault.OutOfMemory → ReachesSets (record_profile profile) (greatest_depth profile) head.config_record) →
    (r ≡ record_fault.OutOfMemory → HasSoundRecord profile head) → LacksRecord profile head (of_record r)
lacks_record profile head r why reaches sound = elim why [
  | inl memory ↦ (r, refl, inl (memory, reaches memory, sound memory))
  | inr refused ↦ (r, refl, inr refused)
]

module _ (profile : Profile) (form : Form) (count : Bool) (i0 i1 : Option (List ℕ)) (ib im : ℕ) (r : Standing) (known : OpensKnown profile i0 i1 r.head r.place) (kept : im ≡ ib) where
  abbrev has : HasHead profile (between i0 i1 ib im) r.head
  has = record { place = r.place; known = known; kept = kept }

  -- the facts of its head are not written whole
  pub head_stops : (o0 o1 : Option (List ℕ)) (ob om : ℕ) (f : Fault) → WritesFrame (head_facts form r.head) (between o0 o1 ob om) (Err f) → StreamInfoStops profile form count (between i0 i1 ib im) (between o0 o1 ob om) f
  head_stops o0 o1 ob om f h = inr (inl (record { head = r.head; has = has; stops = group_stops (head_facts form r.head) o0 o1 ob om f h }))

  module _ (o0 o1 : Option (List ℕ)) (ob om : ℕ) (before : Wrote (head_facts form r.head) (between o0 o1 ob om)) where
    pub record_stops : (f : Fault) → LacksRecord profile r.head f → StreamInfoStops profile form count (between i0 i1 ib im) (between o0 o1 ob om) f
    record_stops f h = inr (inr (inl (record { head = r.head; has = has; lacks = h; wrote = before })))

    module _ (a : Accepted) (is : IsStream profile (stream_of r a)) (o2 : Option (List ℕ)) (oa : ℕ) where
      -- those of its record are not
      pub stream_stops : (f : Fault) → WritesFrame (record_facts form a.configuration) (between o1 o2 om oa) (Err f) → StreamInfoStops profile form count (between i0 i1 ib im) (between o0 o2 ob oa) f
      stream_stops f h = inr (inr (inr (inl (record {
        stream = stream_of r a;
        is = is;
        has = has;
        stops =
            stops_after (head_facts form r.head) o0 o1 o2 ob om oa before (record_facts form a.configuration) f
            (group_stops (record_facts form a.configuration) o1 o2 om oa f h);
      }))))

      module _ (wrote : Wrote (record_facts form a.configuration) (between o1 o2 om oa)) (i2 o3 : Option (List ℕ)) (ia oz : ℕ) where
        both : Wrote (stream_facts form (stream_of r a)) (between o0 o2 ob oa)
        both = wrote_behind (head_facts form r.head) o0 o1 o2 ob om oa before (record_facts form a.configuration) wrote

        -- those of its frames are, or not
        pub stream_done : FramesDone (HasThen r.place) form (stream_of r a) [] (between i1 i2 im ia) (between o2 o3 oa oz) count → StreamInfoDone profile form count (between i0 i2 ib ia) (between o0 o3 ob oz)
        stream_done h = record {
          stream = stream_of r a;
          is = is;
          done =
              done_there (HasThen r.place) (FileThen profile r.head) i0 i1 i2 ib im ia (file_has profile i0 i1 i2 r.head r.place known) kept form (stream_of r a) (stream_facts form (stream_of r a)) o0 o2 o3 ob oa oz both count h;
        }

        pub frames_lack : (f : Fault) → FramesStop (HasThen r.place) form (stream_of r a) [] (between i1 i2 im ia) (between o2 o3 oa oz) count f → StreamInfoStops profile form count (between i0 i2 ib ia) (between o0 o3 ob oz) f
        frames_lack f h = inr (inr (inr (inr (record {
          stream = stream_of r a;
          is = is;
          stops =
              stops_there (HasThen r.place) (FileThen profile r.head) i0 i1 i2 ib im ia (file_has profile i0 i1 i2 r.head r.place known) kept form (stream_of r a) (stream_facts form (stream_of r a)) o0 o2 o3 ob oa oz both count f h;
        }))))
