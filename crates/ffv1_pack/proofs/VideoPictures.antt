-- The next picture of a video.
use Rattle.std.specs.Prelude.{◌≡◌, ℕ, Bool, List, Option, Some, None, Ok, Err, true, false}
use Rattle.std.proofs.Common.{refl}
use Rattle.ffv1_wire.specs.Passage.{Passage}
use Rattle.ffv1_y4m.specs.Reads.{ReadsAs, Refused}
use Rattle.ffv1_y4m.specs.State.{NextAnswers}
use Rattle.ffv1_y4m.specs.declared.fault.Fault.{Fault as Y4mFault}
use Rattle.ffv1_y4m.specs.declared.fault.Fault.TheVariants as fault
use Rattle.ffv1_codec.specs.Picture.{Planes}
use Rattle.ffv1_video.specs.Faults.{of_y4m}
use Rattle.ffv1_video.specs.Video.{SaidHead, picture_next}
use Rattle.ffv1_pack.specs.VideoReads.{GrowsInNext}
use Rattle.ffv1_pack.specs.Internal.VideoReads.{NextKnown, NextRead, NextRefused, StopsKnown, VideoReading}

abbrev pub reading : Bool → ℕ → SaidHead → Bool → Option Y4mFault → VideoReading
reading ppm most head begun failed =
    record { ppm = ppm; most = most; head = head; begun = begun; failed = failed }

module _ (ppm : Bool) (most : ℕ) (h : SaidHead) (begun : Bool) where
  stops_known : (failed : Option Y4mFault) (old new : Option (List ℕ)) (f : Y4mFault) → ReadsAs (picture_next ppm most h begun) old new (Err f) → StopsKnown old new (reading ppm most h begun failed) (of_y4m f)
  stops_known failed None new f r = tt
  stops_known failed (Some text) None f r = r
  stops_known failed (Some text) (Some rest) f r = (f, r, refl)

  next_known : (failed : Option Y4mFault) (old new : Option (List ℕ)) (picture : Option Planes) → ReadsAs (picture_next ppm most h begun) old new (Ok picture) → NextKnown old new (reading ppm most h begun failed) picture
  next_known failed None new picture r = tt
  next_known failed (Some text) None picture r = r
  next_known failed (Some text) (Some rest) picture r = r

  -- it was read
  pub next_read : {X : Type 0} (view : X → Option Planes) (grows : List ℕ → Type 0) (later : Bool) (failed after : Option Y4mFault) (p : Passage) (x : X) → failed ≡ None → after ≡ None → (ppm ≡ true → later ≡ false) →
      NextAnswers failed view (picture_next ppm most h begun) grows p (Ok x) → NextRead p (reading ppm most h begun failed) (view x) (reading ppm most h later after)
  next_read view grows later (Some f) after p x e k l a = absurd (cc)
  next_read view grows later None after p x e k l a = record {
    known = next_known None p.old p.new (view x) a.1;
    kept = a.0;
    ppm = refl;
    head = refl;
    failed = k;
    begun = l;
    most = refl;
  }

  -- or why not
  refused : (p : Passage) (f : Y4mFault) → Refused (picture_next ppm most h begun) (GrowsInNext ppm most h begun) p f → NextRefused p (reading ppm most h begun None) (of_y4m f)
  refused p fault.OutOfMemory a = a
  refused p fault.Read a = a
  refused p fault.Write a = absurd a
  refused p f a = (a.0, stops_known None p.old p.new f a.1)

  pub next_refused : {X : Type 0} (view : X → Option Planes) (failed : Option Y4mFault) (p : Passage) (f : Y4mFault) → failed ≡ None →
      NextAnswers failed view (picture_next ppm most h begun) (GrowsInNext ppm most h begun) p (Err f) → NextRefused p (reading ppm most h begun failed) (of_y4m f)
  next_refused view (Some g) p f e a = absurd (cc)
  next_refused view None p f e a = refused p f a
