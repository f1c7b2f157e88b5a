-- A Matroska file that may be damaged is opened.
use Rattle.std.proofs.Common.{◌≡◌, ◌∷◌, ◌++◌, [], append-nil, refl, ℕ, Bool, true, false, Option, Some, None, Ok, Err, List, map, inl, inr, ap, sym, ◌∙◌, subst}
use Rattle.std.specs.Io.KnownBytes.{Consumes}
use Rattle.ffv1_wire.specs.Passage.{Passage, between}
use Rattle.ffv1_wire.specs.Reads.{GivesByte}
use Rattle.ffv1_reads.specs.Ends.{ReadOrOver, RefusedOrFaults}
use Rattle.ffv1_reads.specs.First.{bytes_with}
use Rattle.ffv1_reads.specs.Known.{Known}
use Rattle.ffv1_reads.specs.Offsets.{offset_after}
use Rattle.ffv1_reads.specs.Reads.{Met, read_on}
use Rattle.ffv1_reads.specs.declared.fault.FileFault.{FileFault}
use Rattle.ffv1_reads.specs.declared.fault.FileFault.TheVariants as fault
use Rattle.ffv1_matroska.specs.Opened.{open_read}
use Rattle.ffv1_matroska.specs.SalvageStops as matroska
use Rattle.ffv1_matroska.specs.SalvageTold.{TellsRead, told_before}
use Rattle.ffv1_matroska.specs.Salvaged.{NeverBegins, Salvaged, data_at, may_be_told, salvage_read}
use Rattle.ffv1_matroska.specs.declared.told.ToldFault.{ToldFault}
use Rattle.ffv1_files.specs.Answers.{FaultsRead, StopsReading}
use Rattle.ffv1_files.specs.Again.{StopsAgain, lacks_tracks}
use Rattle.ffv1_files.specs.Files.{is_matroska, matroska_begun, once_read, open_read as open_file}
use Rattle.ffv1_files.specs.Places.{InMatroska}
use Rattle.ffv1_files.specs.Salvaged.{EndsTelling, FirstLacksTracks, IsSalvaged, RefusedOnce, RefusedPlainly, SomeTold, given_told, salvage_endings}
use Rattle.ffv1_files.specs.declared.container.Scope.TheVariants as scope
use Rattle.ffv1_files.proofs.Answering.{faults_stops, known_map, over_known}
use Rattle.ffv1_files.proofs.FirstByte.{Begun, first_stops, known_first}
use Rattle.ffv1_files.proofs.LateTelling.{again_opened, again_told}
use Rattle.ffv1_files.proofs.Locations.{whole_with}
use Rattle.ffv1_files.proofs.MoreBytes.{open_goes}
use Rattle.ffv1_files.proofs.OpenedRooms.{consumed_with}
use Rattle.ffv1_files.proofs.Openings.{once_refuses}
use Rattle.ffv1_files.proofs.ToldOpenings.{once_is}

salvaged_known : (old new : Option (List ℕ)) (s : Salvaged) (start offset : ℕ) → ReadOrOver NeverBegins salvage_read old new s → Known old new (λ text rest. start ≡ offset_after 0 (data_at text)) → offset ≡ offset_after start s.begun →
    Known old new (λ file rest. IsSalvaged file rest s.opened.track.head (InMatroska s.opened.segment s.opened.track.numbers s.opened.place) offset (map (given_told start) s.told))
salvaged_known old new s start offset read there is = both old new (over_known salvage_read NeverBegins old new s read) there
  where
    both : (a b : Option (List ℕ)) → Known a b (λ text rest. salvage_read text ≡ Ok (s, rest)) → Known a b (λ text rest. start ≡ offset_after 0 (data_at text)) →
        Known a b (λ file rest. IsSalvaged file rest s.opened.track.head (InMatroska s.opened.segment s.opened.track.numbers s.opened.place) offset (map (given_told start) s.told))
    both None b one two = tt
    both (Some text) None one two = absurd one
    both (Some text) (Some rest) one two = (s, again_opened text rest s one, refl, refl, rw (← two) is, ap (λ z. map (given_told z) s.told) two)

-- of which the first byte was looked at
module _ (old mid new : Option (List ℕ)) (gives : GivesByte old mid (Some 26)) where
  abbrev Old : Option (List ℕ)
  Old = bytes_with (Some 26) mid

  without : (P : List ℕ → List ℕ → Type 0) → Known Old new P → Known old new P
  without P h = known_map old new (λ text rest. Begun (Some 26) text × P text rest) P (λ text rest z. z.1) (known_first (Some 26) old mid new P gives h)

  pub salvaged_first : (s : Salvaged) (start offset : ℕ) → ReadOrOver NeverBegins salvage_read Old new s → Known Old new (λ text rest. start ≡ offset_after 0 (data_at text)) → offset ≡ offset_after start s.begun →
      Known old new (λ file rest. IsSalvaged file rest s.opened.track.head (InMatroska s.opened.segment s.opened.track.numbers s.opened.place) offset (map (given_told start) s.told))
  salvaged_first s start offset read there is = without _ (salvaged_known Old new s start offset read there is)

  -- it is refused plainly
  module _ (first : (text : List ℕ) (t : ToldFault) (others : List ToldFault) → told_before text ≡ t ∷ others → (rest : List ℕ) × (open_read text ≡ Err (Met t.fault rest)) × (may_be_told t.fault ≡ true)) where
    abbrev Once : Option (List ℕ) → Type 0
    Once o = RefusedPlainly (once_read scope.Whole) o

    refused_by : (bytes : List ℕ) (ts : List ToldFault) → told_before bytes ≡ ts → SomeTold ts → (o n : Option (List ℕ)) → Known o n (λ text rest. Begun (Some 26) text × (text ≡ bytes ++ rest)) → Once o
    refused_by bytes [] is some o n h = absurd (some refl)
    refused_by bytes (t ∷ ts) is some None n h = record { refusal = fault.Checksum; told = refl; left = None; known = tt }
    refused_by bytes (t ∷ ts) is some (Some text) None h = absurd h
    refused_by bytes (t ∷ ts) is some (Some text) (Some rest) ((more, begun), parts) =
        let met = first bytes t ts is in
        let goes = open_goes bytes rest met.0 t.fault met.2 met.1 in
        record {
          refusal = t.fault;
          told = met.2;
          left = Some goes.0;
          known = once_is text (ap is_matroska begun) ∙ ap (λ z. read_on (open_read z) matroska_begun) parts ∙ ap (λ z. read_on z matroska_begun) goes.1;
        }

    consumed_known : (bytes : List ℕ) (o n : Option (List ℕ)) → Consumes o n bytes → Known o n (λ text rest. text ≡ bytes ++ rest)
    consumed_known bytes None n h = tt
    consumed_known bytes (Some text) None h = absurd h
    consumed_known bytes (Some text) (Some rest) h = h

    pub refused_told : (bytes : List ℕ) → SomeTold (told_before bytes) → Consumes Old new bytes → Once old
    refused_told bytes some consumed = refused_by bytes (told_before bytes) refl some old new (known_first (Some 26) old mid new (λ text rest. text ≡ bytes ++ rest) gives (consumed_known bytes Old new consumed))

    pub refused_plainly : ((text rest : List ℕ) (s : Salvaged) → salvage_read text ≡ Ok (s, rest) → told_before text ≡ s.told) → (s : Salvaged) → SomeTold s.told → ReadOrOver NeverBegins salvage_read Old new s → Once old
    refused_plainly all s some read = on_read read
      where
        told : (bytes : List ℕ) (rest : List ℕ) → salvage_read bytes ≡ Ok (s, rest) → SomeTold (told_before bytes)
        told bytes rest is = λ none. some (sym (all bytes rest s is) ∙ none)

        on_read : ReadOrOver NeverBegins salvage_read Old new s → Once old
        on_read (inl h) = refused_told (h.bytes ++ []) (told (h.bytes ++ []) [] (h.is [])) (subst (Consumes Old new) (sym (append-nil h.bytes)) h.consumed)
        on_read (inr h) = refused_told h.0.0.bytes (told h.0.0.bytes [] h.0.0.is) h.0.0.consumed

  -- where it stops
  stands_first : (f : FileFault) (offset : ℕ) → matroska.FileStops Old new f offset → matroska.FileStops old new f offset
  stands_first f offset at = record {
    to = at.to;
    count = at.count;
    stops = record { between = at.stops.between; before = whole_with (Some 26) old mid at.stops.between gives at.stops.before; stops = at.stops.stops };
    offset_is = at.offset_is;
  }

  -- the reading that tells is refused
  module _ (before now after : ℕ) (same : now ≡ before) (f : FileFault) (why : RefusedOrFaults fault.NoTracks NeverBegins salvage_read Old new now after f) where
    stops_first : StopsReading salvage_endings salvage_read (between old new before after) f
    stops_first =
        subst (λ n. StopsReading salvage_endings salvage_read (between old new n after) f) same
        (first_stops (Some 26) salvage_read salvage_read (λ text begun. refl) refl old mid new now after gives salvage_endings f
        (faults_stops salvage_read (between Old new now after) NeverBegins f why))

    pub lacks_first : (offset : ℕ) → lacks_tracks f ≡ true → matroska.FileStops Old new f offset → FirstLacksTracks old new offset
    lacks_first offset is at = by f is (stands_first f offset at) stops_first
      where
        by : (g : FileFault) → lacks_tracks g ≡ true → matroska.FileStops old new g offset → StopsReading salvage_endings salvage_read (between old new before after) g → FirstLacksTracks old new offset
        by fault.NoTracks named stands h = record { known = known_map old new (λ text rest. FaultsRead salvage_read text rest fault.NoTracks) _ met h.1; at = stands }
          where
            met : (text rest : List ℕ) → FaultsRead salvage_read text rest fault.NoTracks → salvage_read text ≡ Err (Met fault.NoTracks rest)
            met text rest (inl (w, short, over, same)) = absurd (cc same)
            met text rest (inr m) = m
        by g named stands h = absurd (cc (named))

    pub lacks_counted : lacks_tracks f ≡ true → after ≡ before
    lacks_counted is = by f is stops_first
      where
        by : (g : FileFault) → lacks_tracks g ≡ true → StopsReading salvage_endings salvage_read (between old new before after) g → after ≡ before
        by fault.NoTracks named h = h.0
        by g named h = absurd (cc (named))

    pub tells_first : (start : ℕ) (faults : List ToldFault) (offset : ℕ) → matroska.FileStops Old new f offset → TellsRead Old new start faults → SomeTold faults → RefusedOnce (between old new before after) start faults f offset
    tells_first start faults offset at tells some = record {
      some = some;
      why = stops_first;
      at = stands_first f offset at;
      tells = record { bytes = tells.bytes; consumed = consumed_with (Some 26) old mid new tells.bytes gives tells.consumed; is = tells.is; start_is = tells.start_is };
    }

    pub tried_first : may_be_told f ≡ true → Known old new (EndsTelling f)
    tried_first told = known_map old new (λ text rest. FaultsRead salvage_read text rest f) (EndsTelling f) (λ text rest is. again_told text rest f told is) (by f told stops_first)
      where
        by : (g : FileFault) → may_be_told g ≡ true → StopsReading salvage_endings salvage_read (between old new before after) g → Known old new (λ text rest. FaultsRead salvage_read text rest g)
        by fault.Checksum is h = h.1
        by fault.BadElement is h = h.1
        by g is h = absurd (cc (is))

-- a file that is refused plainly in one reading, with such a fault, is refused so if it may be read again
pub again_plainly : (o : Option (List ℕ)) → RefusedPlainly (once_read scope.Whole) o → RefusedPlainly (open_file scope.Whole) o
again_plainly o h = record { refusal = h.refusal; told = h.told; left = h.left; known = known_map o h.left _ _ (λ file rest met. once_refuses file rest h.refusal h.told met) h.known }

-- it was read again plainly, and was refused with such a fault
pub refused_again : (p : Passage) (f : FileFault) → may_be_told f ≡ true → StopsAgain p f → RefusedPlainly (open_file scope.Whole) p.old
refused_again p f told stops = record { refusal = f; told = told; left = p.new; known = by f told stops }
  where
    met : (g : FileFault) → may_be_told g ≡ true → (text rest : List ℕ) → FaultsRead (open_file scope.Whole) text rest g → open_file scope.Whole text ≡ Err (Met g rest)
    met g is text rest (inl (w, short, over, same)) = absurd (let no : false ≡ true = subst (λ e. may_be_told e ≡ true) same is in cc)
    met g is text rest (inr m) = m

    by : (g : FileFault) → may_be_told g ≡ true → StopsAgain p g → Known p.old p.new (λ file rest. open_file scope.Whole file ≡ Err (Met g rest))
    by fault.Checksum is h = known_map p.old p.new _ _ (met fault.Checksum refl) h.1
    by fault.BadElement is h = known_map p.old p.new _ _ (met fault.BadElement refl) h.1
    by g is h = absurd (cc (is))

pub again_counted : (p : Passage) (f : FileFault) → may_be_told f ≡ true → StopsAgain p f → p.after ≡ p.before
again_counted p fault.Checksum told h = h.0
again_counted p fault.BadElement told h = h.0
again_counted p f told h = absurd (cc (told))
