-- A Matroska file that may be damaged, and whose Tracks stand behind its first Cluster, is read again.
use Rattle.std.proofs.Common.{◌≡◌, ◌⊎◌, ◌∙◌, ◌++◌, refl, ℕ, Bool, true, false, Option, Some, None, Result, Ok, Err, IfErr, List, [], ◌∷◌, map, inl, inr, ap, sym, subst}
use Rattle.std.specs.Io.KnownBytes.{Consumes}
use Rattle.ffv1_wire.specs.Passage.{Passage, between}
use Rattle.ffv1_reads.specs.Ends.{RefusedOrFaults}
use Rattle.ffv1_reads.specs.Known.{Known}
use Rattle.ffv1_reads.specs.Offsets.{offset_after}
use Rattle.ffv1_reads.specs.Reads.{Met, Read, Reading, Short, Stop, read_on}
use Rattle.ffv1_reads.specs.declared.fault.FileFault.{FileFault}
use Rattle.ffv1_reads.specs.declared.fault.FileFault.TheVariants as fault
use Rattle.ffv1_matroska.specs.SalvagedAgain.{AnswersSalvaged, StopsLate, StopsSalvaged}
use Rattle.ffv1_matroska.specs.SalvagedLate.{late_salvaged, salvage_known, salvage_track, salvaged_with}
use Rattle.ffv1_matroska.specs.Salvaged.{NeverBegins, Salvaged, data_at, may_be_told, salvage_read}
use Rattle.ffv1_matroska.specs.Tracks.{Track}
use Rattle.ffv1_matroska.specs.declared.told.ToldFault.{ToldFault}
use Rattle.ffv1_files.specs.Again.{lacks_tracks}
use Rattle.ffv1_files.specs.Answers.{Endings, FaultsRead, StopsReading}
use Rattle.ffv1_files.specs.Places.{InMatroska}
use Rattle.ffv1_files.specs.Salvaged.{EndsTelling, FirstLacksTracks, IsSalvaged, RefusedLate, StopsAgainAt, StopsTelling, again_salvaged, given_told, salvaged_again}
use Rattle.ffv1_files.proofs.AgainOpenings.{known_both}
use Rattle.ffv1_files.proofs.Answering.{faults_stops, just_read, known_map, over_known}

-- ---- what it reads as

again_late : (text left : List ℕ) (z : Result (Salvaged × List ℕ) Stop) → salvage_read text ≡ Err (Met fault.NoTracks left) → late_salvaged text ≡ z → again_salvaged text ≡ z
unfolding again_salvaged
again_late text left z lacks late = ap (salvaged_again text) lacks ∙ late

pub again_opened : (text rest : List ℕ) (s : Salvaged) → salvage_read text ≡ Ok (s, rest) → again_salvaged text ≡ Ok (s, rest)
unfolding again_salvaged
again_opened text rest s opens = ap (salvaged_again text) opens

-- a fault that ends one reading ends the file, if it is one that may be told
pub again_told : (text rest : List ℕ) (f : FileFault) → may_be_told f ≡ true → FaultsRead salvage_read text rest f → EndsTelling f text rest
unfolding again_salvaged
again_told text rest fault.Checksum told (inr met) = inr (ap (salvaged_again text) met)
again_told text rest fault.BadElement told (inr met) = inr (ap (salvaged_again text) met)
again_told text rest f told (inl (w, short, over, is)) = absurd (let no : false ≡ true = subst (λ e. may_be_told e ≡ true) is told in cc)
again_told text rest f told (inr met) = absurd (cc (told))

-- or that it has no Tracks, if it is read again
abbrev is_said : FileFault → Bool
is_said fault.NoTracks = true
is_said f = may_be_told f

pub may_said : (f : FileFault) → may_be_told f ≡ true → is_said f ≡ true
may_said fault.Checksum told = refl
may_said fault.BadElement told = refl
may_said f told = absurd (cc (told))

pub lacks_said : (f : FileFault) → lacks_tracks f ≡ true → is_said f ≡ true
lacks_said fault.NoTracks is = refl
lacks_said f is = absurd (cc (is))

said_faults : {X : Type 0} (ends : Endings X) (reading : Reading X) (p : Passage) (f : FileFault) → is_said f ≡ true → StopsReading ends reading p f → Known p.old p.new (λ text rest. FaultsRead reading text rest f)
said_faults ends reading p fault.NoTracks said h = h.1
said_faults ends reading p fault.Checksum said h = h.1
said_faults ends reading p fault.BadElement said h = h.1
said_faults ends reading p f said h = absurd (cc (said))

module _ (old left new : Option (List ℕ)) (before after offset : ℕ) (lacks : FirstLacksTracks old left offset) (here : Option (List ℕ)) where
  abbrev p : Passage
  p = between old new before after

  abbrev Lacks : List ℕ → List ℕ → Type 0
  Lacks text rest = salvage_read text ≡ Err (Met fault.NoTracks rest)

  with_track : (track : Track) (middle : Option (List ℕ)) → Read salvage_track old middle track → (P Q : List ℕ → List ℕ → Type 0) → ((text at more rest : List ℕ) → Lacks text at → salvage_track text ≡ Ok (track, more) → P text rest → Q text rest) → Known old new P → Known old new Q
  with_track track middle read P Q f h =
      known_both old left new Lacks (λ file rest. (more : List ℕ) × (salvage_track file ≡ Ok (track, more)) × P file rest) Q (λ file at rest l both. f file at both.0 rest l both.1 both.2) lacks.known
      (known_both old middle new (λ file more. salvage_track file ≡ Ok (track, more)) P _ (λ file more rest has is. (more, has, is)) (just_read salvage_track old middle track read) h)

  late_is : (s : Salvaged) → AnswersSalvaged (λ (z : Salvaged). z) here p (Ok s) → Known old new (λ file rest. again_salvaged file ≡ Ok (s, rest))
  late_is s (same, (track, middle, read, opens)) =
      with_track track middle read (λ file rest. salvage_known track file ≡ Ok (s, rest)) _ (λ text at more rest l has is. again_late text at (Ok (s, rest)) l (ap (salvaged_with text) has ∙ is))
      (over_known (salvage_known track) NeverBegins old new s opens)

  pub late_opened : (s : Salvaged) (start now : ℕ) → AnswersSalvaged (λ (z : Salvaged). z) here p (Ok s) → Known old new (λ text rest. start ≡ offset_after 0 (data_at text)) → now ≡ offset_after start s.begun →
      Known old new (λ file rest. IsSalvaged file rest s.opened.track.head (InMatroska s.opened.segment s.opened.track.numbers s.opened.place) now (map (given_told start) s.told))
  late_opened s start now answer there is =
      known_both old new new (λ text rest. start ≡ offset_after 0 (data_at text)) (λ file rest. again_salvaged file ≡ Ok (s, rest)) _
      (λ text at rest begins opens. (s, opens, refl, refl, rw (← begins) is, ap (λ z. map (given_told z) s.told) begins)) there (late_is s answer)

  -- why it is refused
  first_faults : (f : FileFault) (text at rest : List ℕ) → Lacks text at → FaultsRead salvage_track text rest f → EndsTelling f text rest
  first_faults f text at rest l (inl (w, short, over, is)) = inl (w, again_late text at (Err (Short w)) l (ap (salvaged_with text) short), over, is)
  first_faults f text at rest l (inr met) = inr (again_late text at (Err (Met f rest)) l (ap (salvaged_with text) met))

  known_faults : (track : Track) (f : FileFault) (text at more rest : List ℕ) → Lacks text at → salvage_track text ≡ Ok (track, more) → FaultsRead (salvage_known track) text rest f → EndsTelling f text rest
  known_faults track f text at more rest l has (inl (w, short, over, is)) = inl (w, again_late text at (Err (Short w)) l (ap (salvaged_with text) has ∙ short), over, is)
  known_faults track f text at more rest l has (inr met) = inr (again_late text at (Err (Met f rest)) l (ap (salvaged_with text) has ∙ met))

  pub late_faults : (f : FileFault) → is_said f ≡ true → StopsSalvaged here p f → Known old new (EndsTelling f)
  late_faults f said (inl why) =
      known_both old left new Lacks (λ file rest. FaultsRead salvage_track file rest f) (EndsTelling f) (first_faults f) lacks.known
      (said_faults _ salvage_track p f said (faults_stops salvage_track p (λ (track : Track). ⊥) f why))
  late_faults f said (inr (inl (track, middle, read, why))) =
      with_track track middle read (λ file rest. FaultsRead (salvage_known track) file rest f) (EndsTelling f) (known_faults track f)
      (said_faults _ (salvage_known track) p f said (faults_stops (salvage_known track) p NeverBegins f why))
  late_faults f said (inr (inr (is, failed, more))) = absurd (let no : false ≡ true = subst (λ e. is_said e ≡ true) is said in cc)

-- ---- where it stops

pub late_at : (p : Passage) (f : FileFault) (offset : ℕ) → lacks_tracks f ≡ false → StopsLate p f offset → StopsAgainAt p f offset
late_at p fault.NoTracks offset other stops = absurd (cc (other))
late_at p f offset other stops = stops

pub without_at : (p : Passage) (f : FileFault) (left : Option (List ℕ)) (offset : ℕ) → lacks_tracks f ≡ true → FirstLacksTracks p.old left offset → StopsAgainAt p f offset
without_at p fault.NoTracks left offset is lacks = (left, lacks)
without_at p f left offset is lacks = absurd (cc (is))

-- ---- the call, whose input begins again where it stood
pub moved_late : (old whole new : Option (List ℕ)) (before now after : ℕ) (begins : whole ≡ old) (same : now ≡ before) (P : Passage → Type 0) → P (between whole new now after) → P (between old new before after)
moved_late old whole new before now after begins same P h = subst (λ z. P (between z new before after)) begins (subst (λ n. P (between whole new n after)) same h)

pub refused_late : {X : Type 0} (p : Passage) (start offset : ℕ) (faults : List ToldFault) (r : Result X FileFault) → IfErr r (λ f. RefusedLate p start faults f offset) → IfErr r (λ f. StopsTelling p start faults f offset)
refused_late p start offset faults (Ok x) h = h
refused_late p start offset faults (Err f) h = inr h
