-- Files are opened, of either container.
use Rattle.std.proofs.Common.{◌≡◌, ◌≢◌, ◌==◌, ◌∙◌, refl, ℕ, if◌then◌else◌, Bool, true, false, Option, Some, None, Result, Ok, Err, List, [], inl, inr, ap, subst}
use Rattle.std.proofs.lemmas.Bool.{ne_eqb}
use Rattle.ffv1_wire.specs.Passage.{Passage, between}
use Rattle.ffv1_wire.specs.Reads.{GivesByte}
use Rattle.ffv1_reads.specs.Ends.{ReadOrOver, RefusedOrFaults}
use Rattle.ffv1_reads.specs.First.{bytes_with}
use Rattle.ffv1_reads.specs.Head.{Head}
use Rattle.ffv1_reads.specs.Known.{Known}
use Rattle.ffv1_reads.specs.Reads.{Looked, Met, Read, Refused, Short, Stop, read_on}
use Rattle.ffv1_reads.proofs.Results.{read_on_ok}
use Rattle.ffv1_reads.specs.declared.fault.FileFault.{FileFault}
use Rattle.ffv1_reads.specs.declared.fault.FileFault.TheVariants as fault
use Rattle.ffv1_avi.specs.Files as avi
use Rattle.ffv1_avi.specs.declared.place.Extent.TheVariants.{FirstMovi, EveryRiff}
use Rattle.ffv1_avi.specs.declared.place.Place.{Place as AviPlace}
use Rattle.ffv1_matroska.specs.Opened as beginning
use Rattle.ffv1_matroska.specs.Opening.{ident_read}
use Rattle.ffv1_matroska.specs.Readers.{HasEnded}
use Rattle.ffv1_avi.specs.Readers as avi_reader
use Rattle.ffv1_matroska.specs.Late.{again_read}
use Rattle.ffv1_matroska.specs.Salvaged.{may_be_told}
use Rattle.ffv1_matroska.proofs.AgainLaws.{once_again, other_fault}
use Rattle.ffv1_files.specs.declared.container.Scope.{Scope}
use Rattle.ffv1_files.specs.declared.container.Scope.TheVariants as scope
use Rattle.ffv1_files.specs.Again.{LacksTracks, lacks_tracks}
use Rattle.ffv1_files.specs.Answers.{FaultsRead, ReadsAs, StopsReading, no_ending}
use Rattle.ffv1_files.specs.Endings.{opening_endings}
use Rattle.ffv1_files.specs.Files.{avi_opened, is_matroska, matroska_begun, matroska_once, matroska_opened, once_read, open_read}
use Rattle.ffv1_files.specs.Places.{InAvi, InMatroska, Place}
use Rattle.ffv1_files.proofs.Answering.{faults_stops, just_read, known_map, made_reads, made_stops, over_known, refused_stops}
use Rattle.ffv1_files.proofs.FirstByte.{Begun, first_reads, first_stops, known_first}

abbrev in_avi : Head × AviPlace → Head × Place
in_avi p = (p.0, InAvi p.1)

abbrev in_matroska : beginning.Opened → Head × Place
in_matroska o = (o.track.head, InMatroska o.segment o.track.numbers o.place)

-- what is read once is read
once_open : (s : Scope) (text rest : List ℕ) (x : Head × Place) → once_read s text ≡ Ok (x, rest) → open_read s text ≡ Ok (x, rest)
unfolding open_read once_read
once_open scope.FirstMovi text rest x h = h
once_open scope.Whole text rest x h = on_first (is_matroska text) refl h
  where
    on_first : (b : Bool) → is_matroska text ≡ b → (if b then matroska_once text else avi_opened EveryRiff text) ≡ Ok (x, rest) → (if b then matroska_opened text else avi_opened EveryRiff text) ≡ Ok (x, rest)
    on_first false is k = k
    on_first true is k =
        let first = read_on_ok (beginning.open_read text) matroska_begun (x, rest) k in
        ap (λ z. read_on z matroska_begun) (once_again text (Ok first.0) first.1) ∙ first.2

-- and so is a fault of one that is not read again
pub once_refuses : (text rest : List ℕ) (f : FileFault) → may_be_told f ≡ true → once_read scope.Whole text ≡ Err (Met f rest) → open_read scope.Whole text ≡ Err (Met f rest)
unfolding open_read once_read
once_refuses text rest f told h = on_first (is_matroska text) h
  where
    other : f ≡ fault.NoTracks → ⊥
    other is = absurd (let no : false ≡ true = subst (λ e. may_be_told e ≡ true) is told in cc)

    on_read : (z : Result (beginning.Opened × List ℕ) Stop) → beginning.open_read text ≡ z → read_on z matroska_begun ≡ Err (Met f rest) → read_on (again_read text) matroska_begun ≡ Err (Met f rest)
    on_read (Ok p) is k = absurd (cc (k))
    on_read (Err why) is k =
        let same : ◌≡◌ {A = Stop} why (Met f rest) = cc (k) in
        ap (λ z. read_on z matroska_begun) (once_again text (Err (Met f rest)) (is ∙ ap Err same) ∙ other_fault text rest f other)

    on_first : (b : Bool) → (if b then matroska_once text else avi_opened EveryRiff text) ≡ Err (Met f rest) → (if b then matroska_opened text else avi_opened EveryRiff text) ≡ Err (Met f rest)
    on_first false k = k
    on_first true k = on_read (beginning.open_read text) refl k

pub once_opens : (s : Scope) (p : Passage) (x : Head × Place) → ReadsAs (once_read s) p x → ReadsAs (open_read s) p x
once_opens s p x h = (h.0, known_map p.old p.new _ _ (λ text rest is. once_open s text rest x is) h.1)

-- up to the first movi
pub movi_opens : (p : Passage) (x : Head × AviPlace) → (p.after ≡ p.before) × Read (avi.open_read FirstMovi) p.old p.new x → ReadsAs (open_read scope.FirstMovi) p (in_avi x)
unfolding open_read
movi_opens p x h = made_reads (avi.open_read FirstMovi) in_avi p x (h.0, just_read (avi.open_read FirstMovi) p.old p.new x h.1)

pub movi_stops : (p : Passage) (f : FileFault) → Refused (avi.open_read FirstMovi) p.old p.new p.before p.after f → StopsReading no_ending (once_read scope.FirstMovi) p f
unfolding once_read
movi_stops p f h = made_stops (avi.open_read FirstMovi) in_avi p no_ending no_ending (λ x over. over) (λ e over. over) f (refused_stops (avi.open_read FirstMovi) p no_ending f h)

-- what begins otherwise than Matroska is read as AVI
avi_same : (first : Option ℕ) → first ≢ Some 26 → (text : List ℕ) → Begun first text → once_read scope.Whole text ≡ avi_opened EveryRiff text
unfolding once_read
avi_same None other text begun = rw begun refl
avi_same (Some b) other text (more, begun) =
    let differs : (b == 26) ≡ false = ne_eqb b 26 (λ e. other (ap Some e)) in
    rw (begun, differs) refl

none_avi : once_read scope.Whole [] ≡ avi_opened EveryRiff []
unfolding once_read
none_avi = refl

-- what begins so, as Matroska
matroska_same : (text : List ℕ) → Begun (Some 26) text → once_read scope.Whole text ≡ matroska_once text
unfolding once_read
matroska_same text (more, begun) = rw begun refl

none_matroska : once_read scope.Whole [] ≡ matroska_once []
unfolding once_read avi.open_read beginning.open_read beginning.ebml_read ident_read
none_matroska = refl

pub none_short : once_read scope.Whole [] ≡ Err (Short Looked)
unfolding once_read avi.open_read
none_short = refl

module _ (first : Option ℕ) (old mid new : Option (List ℕ)) (before after : ℕ) (gives : GivesByte old mid first) where
  abbrev handed : Passage
  handed = between (bytes_with first mid) new before after

  pub avi_opens : first ≢ Some 26 → (x : Head × AviPlace) → (after ≡ before) × Read (avi.open_read EveryRiff) handed.old handed.new x → ReadsAs (once_read scope.Whole) (between old new before after) (in_avi x)
  avi_opens other x h =
      first_reads first (avi_opened EveryRiff) (once_read scope.Whole) (avi_same first other) none_avi old mid new before after gives (in_avi x)
      (made_reads (avi.open_read EveryRiff) in_avi handed x (h.0, just_read (avi.open_read EveryRiff) handed.old handed.new x h.1))

  pub avi_stops : first ≢ Some 26 → (f : FileFault) → Refused (avi.open_read EveryRiff) handed.old handed.new before after f → StopsReading (opening_endings scope.Whole) (once_read scope.Whole) (between old new before after) f
  avi_stops other f h =
      first_stops first (avi_opened EveryRiff) (once_read scope.Whole) (avi_same first other) none_avi old mid new before after gives (opening_endings scope.Whole) f
      (made_stops (avi.open_read EveryRiff) in_avi handed no_ending (opening_endings scope.Whole) (λ x over. absurd over) (λ e over. absurd over) f (refused_stops (avi.open_read EveryRiff) handed no_ending f h))

module _ (old mid new : Option (List ℕ)) (before after : ℕ) (gives : GivesByte old mid (Some 26)) where
  abbrev begun : Passage
  begun = between (bytes_with (Some 26) mid) new before after

  pub matroska_opens : (x : beginning.Opened) → (after ≡ before) × ReadOrOver HasEnded beginning.open_read begun.old begun.new x → ReadsAs (once_read scope.Whole) (between old new before after) (in_matroska x)
  matroska_opens x h =
      first_reads (Some 26) matroska_once (once_read scope.Whole) matroska_same none_matroska old mid new before after gives (in_matroska x)
      (made_reads beginning.open_read in_matroska begun x (h.0, over_known beginning.open_read HasEnded begun.old begun.new x h.1))

  pub matroska_stops : (f : FileFault) → RefusedOrFaults fault.NoTracks HasEnded beginning.open_read begun.old begun.new before after f → StopsReading (opening_endings scope.Whole) (once_read scope.Whole) (between old new before after) f
  matroska_stops f h =
      first_stops (Some 26) matroska_once (once_read scope.Whole) matroska_same none_matroska old mid new before after gives (opening_endings scope.Whole) f
      (made_stops beginning.open_read in_matroska begun (record { values = HasEnded; faults = λ e. e ≡ fault.NoTracks }) (opening_endings scope.Whole) (λ x over. over) (λ e over. over) f (faults_stops beginning.open_read begun HasEnded f h))

  -- the first Cluster comes before any Tracks
  pub matroska_late : (f : FileFault) → lacks_tracks f ≡ true → RefusedOrFaults fault.NoTracks HasEnded beginning.open_read begun.old begun.new before after f → Known old new LacksTracks
  matroska_late fault.NoTracks is h =
      let stops = faults_stops beginning.open_read begun HasEnded fault.NoTracks h in
      known_map old new (λ text rest. Begun (Some 26) text × FaultsRead beginning.open_read text rest fault.NoTracks) LacksTracks (λ text rest both. on_text text rest both.0 both.1)
      (known_first (Some 26) old mid new (λ text rest. FaultsRead beginning.open_read text rest fault.NoTracks) gives stops.1)
    where
      on_text : (text rest : List ℕ) → Begun (Some 26) text → FaultsRead beginning.open_read text rest fault.NoTracks → LacksTracks text rest
      on_text text rest first (inl (w, short, over, same)) = absurd (cc same)
      on_text text rest first (inr faults) = (ap is_matroska first.1, faults)
  matroska_late f is h = absurd (cc is)

-- an AVI has no such fault
pub avi_apart : {P : Type 0} (f : FileFault) → avi_reader.is_opening_fault f ≡ true → lacks_tracks f ≡ true → P
avi_apart fault.NoTracks own is = absurd (cc own)
avi_apart f own is = absurd (cc is)
