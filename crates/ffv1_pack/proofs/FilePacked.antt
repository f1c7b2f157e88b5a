-- The file of a video that was encoded.
use Rattle.std.specs.Prelude.{◌≡◌, ◌≤◌, ◌<◌, ℕ, List, [], ◌∷◌, length, map, Option, Some, None, Ok, Err}
use Rattle.std.proofs.Common.{refl, ◌∙◌, ap, subst, inl, inr, suc}
use Rattle.std.specs.Io.KnownBytes.{Appends}
use Rattle.ffv1_wire.specs.Passage.{Passage}
use Rattle.ffv1_wire.specs.Writes.{AppendsBeginning}
use Rattle.ffv1_codec.specs.Frame.{frame_of}
use Rattle.ffv1_record.specs.Accepted.{Accepted}
use Rattle.ffv1_reads.specs.Head.{Head}
use Rattle.ffv1_avi.specs.Written.{file_of, most, riff_size}
use Rattle.ffv1_avi.specs.Writes.{WritesFile}
use Rattle.ffv1_reads.specs.declared.fault.FileFault.{FileFault}
use Rattle.ffv1_reads.specs.declared.fault.FileFault.TheVariants as avi
use Rattle.ffv1_words.specs.declared.order.Choice.{Choice}
use Rattle.ffv1_video.specs.declared.profile.Profile.{Profile}
use Rattle.ffv1_video.specs.Profiles.{greatest_depth, record_profile}
use Rattle.ffv1_pack.specs.declared.packing.Packed.{Packed}
use Rattle.ffv1_video.specs.declared.fault.Fault.TheVariants as fault
use Rattle.ffv1_video.specs.Colours.{loses_colour}
use Rattle.ffv1_video.specs.Faults.{of_avi}
use Rattle.ffv1_pack.specs.Pack.{FaultsPacked, IsPackFault, IsPackable, Packs, RefusesPack}
use Rattle.ffv1_pack.specs.Internal.Pack.{EncodesVideo, EndsVideo}
use Rattle.ffv1_pack.specs.Packing.{AllShort, AreReadableIn, IsFor, bytes_in, packed_file, packed_frames, packed_head, said_for}
use Rattle.ffv1_video.specs.Video.{Video}

too_large : (profile : Profile) (old new : Option (List ℕ)) (choice : Choice) (v : Video) (a : Accepted) → IsFor profile choice v.ppm v.head a → AllShort a v.head v.pictures → AreReadableIn (record_profile profile) (packed_frames v a) → 0 < length v.pictures → most < riff_size (packed_head choice v a) (packed_frames v a) → EndsVideo (greatest_depth profile) old new v → FaultsPacked profile choice old new (fault.File avi.TooLarge)
too_large profile None new choice v a for short readable some large e = tt
too_large profile (Some text) None choice v a for short readable some large e = e
too_large profile (Some text) (Some rest) choice v a for short readable some large (left, begins, end) = inr (inr (record {
  video = v;
  accepted = a;
  left = left;
  begins = begins;
  for = for;
  short = short;
  readable = readable;
  ends = inr (inr (end, inr (some, large, refl)));
}))

long : {X Y : Type 0} (f : X → Y) (xs : List X) → length (map f xs) ≡ length xs
long f [] = refl
long f (x ∷ xs) = ap suc (long f xs)

module _ (profile : Profile) (choice : Choice) (i o : Passage) (head : Head) (frames : List (List ℕ)) (e : EncodesVideo profile choice i head frames) where
  riff : riff_size head frames ≡ riff_size (packed_head choice e.video e.accepted) (packed_frames e.video e.accepted)
  riff = ap (λ h. riff_size h frames) e.head_is ∙ ap (λ f. riff_size (packed_head choice e.video e.accepted) f) e.frames_are

  file : file_of head frames ≡ packed_file choice e.video e.accepted
  file = ap (λ h. file_of h frames) e.head_is ∙ ap (λ f. file_of (packed_head choice e.video e.accepted) f) e.frames_are

  packable : riff_size head frames ≤ most → IsPackable profile choice e.video e.accepted
  packable small = record { deep = e.deep; for = e.for; some = e.some; short = e.short; readable = e.readable; small = subst (λ n. n ≤ most) riff small }

  pub file_refused : (f : FileFault) → WritesFile o head frames (Err f) → RefusesPack profile choice i o (of_avi f)
  file_refused avi.TooLarge w = (record { kept = w.2; same = w.1 }, e.kept, too_large profile i.old i.new choice e.video e.accepted e.for e.short e.readable e.some (subst (λ n. most < n) riff w.0) e.ends)
  file_refused avi.Write w = (
    record {
      video = e.video;
      accepted = e.accepted;
      reads = e.reads;
      packable = packable w.0;
      writes = subst (λ bytes. AppendsBeginning o.old o.new bytes) file w.1.1;
    },
    w.1.0,
    e.kept,
  )
  file_refused avi.OutOfMemory w = absurd w.1
  file_refused avi.NotAvi w = absurd w.1
  file_refused avi.NoFfv1 w = absurd w.1
  file_refused avi.Truncated w = absurd w.1
  file_refused avi.ChunkTooLong w = absurd w.1
  file_refused avi.EmptyFrame w = absurd w.1
  file_refused avi.Read w = absurd w.1
  file_refused avi.NotMatroska w = absurd w.1
  file_refused avi.BadElement w = absurd w.1
  file_refused avi.NoTracks w = absurd w.1
  file_refused avi.Encoded w = absurd w.1
  file_refused avi.Laced w = absurd w.1
  file_refused avi.Checksum w = absurd w.1
  file_refused avi.Rate w = absurd w.1
  file_refused avi.Another w = absurd w.1

  pub file_written : (u : Unit {0}) (packed : Packed) → WritesFile o head frames (Ok u) → packed.frames ≡ length frames → packed.bytes ≡ bytes_in frames → packed.loses_colour ≡ loses_colour head.colour → Packs profile choice i o packed
  file_written u packed w many bytes loses = record {
    video = e.video;
    accepted = e.accepted;
    reads = e.reads;
    packable = packable w.0;
    writes = subst (λ bytes. Appends o.old o.new bytes) file w.1.1;
    frames = many ∙ (ap (λ f. length f) e.frames_are ∙ long (λ planes. frame_of e.accepted planes (said_for e.video.head)) e.video.pictures);
    bytes = bytes ∙ ap bytes_in e.frames_are;
    loses = loses ∙ ap (λ (h : Head). loses_colour h.colour) e.head_is;
    read = e.kept;
    written = w.1.0;
  }

-- a fault of the writer is one of packing
pub refused_own : (profile : Profile) (o : Passage) (head : Head) (frames : List (List ℕ)) (f : FileFault) → WritesFile o head frames (Err f) → IsPackFault profile (of_avi f)
refused_own profile o head frames avi.TooLarge w = inl refl
refused_own profile o head frames avi.Write w = inl refl
refused_own profile o head frames avi.OutOfMemory w = absurd w.1
refused_own profile o head frames avi.NotAvi w = absurd w.1
refused_own profile o head frames avi.NoFfv1 w = absurd w.1
refused_own profile o head frames avi.Truncated w = absurd w.1
refused_own profile o head frames avi.ChunkTooLong w = absurd w.1
refused_own profile o head frames avi.EmptyFrame w = absurd w.1
refused_own profile o head frames avi.Read w = absurd w.1
refused_own profile o head frames avi.NotMatroska w = absurd w.1
refused_own profile o head frames avi.BadElement w = absurd w.1
refused_own profile o head frames avi.NoTracks w = absurd w.1
refused_own profile o head frames avi.Encoded w = absurd w.1
refused_own profile o head frames avi.Laced w = absurd w.1
refused_own profile o head frames avi.Checksum w = absurd w.1
refused_own profile o head frames avi.Rate w = absurd w.1
refused_own profile o head frames avi.Another w = absurd w.1
