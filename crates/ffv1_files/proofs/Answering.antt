-- What the calls on the readers of the containers answer, where the bytes are known.
use Rattle.std.proofs.Common.{◌≡◌, ◌⊎◌, refl, ℕ, Option, Some, None, Result, Ok, Err, List, [], ◌++◌, inl, inr, ap, sym, ◌∙◌, append-nil}
use Rattle.std.specs.Io.KnownBytes.{IsAtEnd}
use Rattle.ffv1_wire.specs.Passage.{Passage}
use Rattle.ffv1_reads.specs.Ends.{Ends, FaultsAtEnd, ReadOrEnds, ReadOrNone, ReadOrOver, RefusedOrEnds, RefusedOrFaults, RefusedOrNone, Stops}
use Rattle.ffv1_reads.specs.Known.{Known}
use Rattle.ffv1_reads.specs.Reads.{Faults, Kept, Lacks, Met, Read, Reading, Refused, Short, Stop, Want, Wants, read_on, given, ◌>>=◌}
use Rattle.ffv1_reads.specs.declared.fault.FileFault.{FileFault}
use Rattle.ffv1_reads.specs.declared.fault.FileFault.TheVariants as fault
use Rattle.ffv1_files.specs.Answers.{Endings, FaultsRead, ReadFails, ReadsAs, SoFar, StopsReading, WantsMore, nothing_more}
use Rattle.ffv1_files.specs.Behind.{any_value}

pub known_map : (old new : Option (List ℕ)) (P Q : List ℕ → List ℕ → Type 0) → ((text rest : List ℕ) → P text rest → Q text rest) → Known old new P → Known old new Q
known_map None new P Q f h = tt
known_map (Some text) None P Q f h = absurd h
known_map (Some text) (Some rest) P Q f h = f text rest h

module _ {X : Type 0} (reading : Reading X) where
  read_known : (old new : Option (List ℕ)) (x : X) → Read reading old new x → Known old new (λ text rest. reading text ≡ Ok (x, rest))
  read_known None new x h = tt
  read_known (Some text) None x h = absurd h.consumed
  read_known (Some text) (Some rest) x h = ap reading h.consumed ∙ h.is rest

  end_known : (old new : Option (List ℕ)) (x : X) → Ends reading old new x → Known old new (λ text rest. reading text ≡ Ok (x, rest))
  end_known None new x h = tt
  end_known (Some text) None x h = absurd h.0.consumed
  end_known (Some text) (Some rest) x (stop, at) = ap reading (stop.consumed ∙ ap (λ z. stop.bytes ++ z) at ∙ append-nil stop.bytes) ∙ stop.is ∙ ap (λ z. Ok (x, z)) (sym at)

  pub value_known : (old new : Option (List ℕ)) (x : X) → ReadOrEnds reading old new x → Known old new (λ text rest. reading text ≡ Ok (x, rest))
  value_known old new x (inl read) = read_known old new x read
  value_known old new x (inr ends) = end_known old new x ends

  pub over_known : (over : X → Type 0) (old new : Option (List ℕ)) (x : X) → ReadOrOver over reading old new x → Known old new (λ text rest. reading text ≡ Ok (x, rest))
  over_known over old new x (inl read) = read_known old new x read
  over_known over old new x (inr (ends, is)) = end_known old new x ends

  pub just_read : (old new : Option (List ℕ)) (x : X) → Read reading old new x → Known old new (λ text rest. reading text ≡ Ok (x, rest))
  just_read old new x h = read_known old new x h

  lacks_known : (old new : Option (List ℕ)) (w : Want) → Lacks reading old new w → Known old new (WantsMore reading w)
  lacks_known None new w h = tt
  lacks_known (Some text) None w h = absurd h.consumed
  lacks_known (Some text) (Some rest) w h = (h.bytes, h.consumed, h.is)

  module _ (ends : Endings X) where
    wants_known : (old new : Option (List ℕ)) → Wants reading old new → Known old new (ReadFails ends reading)
    wants_known None new h = tt
    wants_known (Some text) None h = absurd h.1.consumed
    wants_known (Some text) (Some rest) (w, h) = inl (w, (h.bytes, h.consumed, h.is))

    stops_known : (old new : Option (List ℕ)) (x : X) → ends.values x → Stops reading old new x → Known old new (ReadFails ends reading)
    stops_known None new x over h = tt
    stops_known (Some text) None x over h = absurd h.consumed
    stops_known (Some text) (Some rest) x over h = inr (inl (x, over, (h.bytes, h.consumed, h.is)))

    end_fails : (old new : Option (List ℕ)) (f : FileFault) → ends.faults f → FaultsAtEnd reading old new f → Known old new (ReadFails ends reading)
    end_fails None new f over h = tt
    end_fails (Some text) None f over h = absurd h.consumed
    end_fails (Some text) (Some rest) f over h = inr (inr (f, over, (h.bytes, h.consumed, h.is)))

  faults_known : (old new : Option (List ℕ)) (f : FileFault) → Faults reading old new f → Known old new (λ text rest. FaultsRead reading text rest f)
  faults_known None new f h = tt
  faults_known (Some text) None f h = absurd h.consumed
  faults_known (Some text) (Some rest) f h = inr (ap reading h.consumed ∙ h.is rest)

  end_faults : (old new : Option (List ℕ)) (f : FileFault) → FaultsAtEnd reading old new f → IsAtEnd new → Known old new (λ text rest. FaultsRead reading text rest f)
  end_faults None new f h at = tt
  end_faults (Some text) None f h at = absurd h.consumed
  end_faults (Some text) (Some rest) f h at =
      inr (ap reading (h.consumed ∙ ap (λ z. h.bytes ++ z) at ∙ append-nil h.bytes) ∙ h.is ∙ ap (λ z. Err (Met f z)) (sym at))

  early_known : (old new : Option (List ℕ)) → Wants reading old new → IsAtEnd new → Known old new (λ text rest. FaultsRead reading text rest fault.Truncated)
  early_known None new h at = tt
  early_known (Some text) None h at = absurd h.1.consumed
  early_known (Some text) (Some rest) (w, h) at = inl (w, ap reading (h.consumed ∙ ap (λ z. h.bytes ++ z) at ∙ append-nil h.bytes) ∙ h.is, at, refl)

  module _ (p : Passage) where
    pub refused_stops : (ends : Endings X) (f : FileFault) → Refused reading p.old p.new p.before p.after f → StopsReading ends reading p f
    refused_stops ends fault.OutOfMemory h = (h.0, lacks_known p.old p.new Kept h.1)
    refused_stops ends fault.Truncated (same, inl early) = (same, early_known p.old p.new early.0 early.1)
    refused_stops ends fault.Truncated (same, inr faults) = (same, faults_known p.old p.new fault.Truncated faults)
    refused_stops ends fault.TooLarge h = absurd h
    refused_stops ends fault.Read h = (h.0, wants_known ends p.old p.new h.1)
    refused_stops ends fault.Write h = absurd h
    refused_stops ends fault.Rate h = absurd h
    refused_stops ends f h = (h.0, faults_known p.old p.new f h.1)

    -- such a refusal, or the fault of the end
    module _ (over : X → Type 0) where
      abbrev tracks : Endings X
      tracks = record { values = over; faults = λ f. f ≡ fault.NoTracks }

      either : (f : FileFault) → Refused reading p.old p.new p.before p.after f ⊎ ((p.after ≡ p.before) × (f ≡ fault.NoTracks) × (FaultsAtEnd reading p.old p.new fault.NoTracks × IsAtEnd p.new)) → StopsReading tracks reading p f
      either f (inl h) = refused_stops tracks f h
      either f (inr (same, is, (faults, at))) = rw is (same, end_faults p.old p.new fault.NoTracks faults at)

      pub faults_stops : (f : FileFault) → RefusedOrFaults fault.NoTracks over reading p.old p.new p.before p.after f → StopsReading tracks reading p f
      faults_stops fault.Read (same, inl wants) = (same, wants_known tracks p.old p.new wants)
      faults_stops fault.Read (same, inr (inl stops)) = (same, stops_known tracks p.old p.new stops.0 stops.1.1 stops.1.0)
      faults_stops fault.Read (same, inr (inr h)) = (same, end_fails tracks p.old p.new fault.NoTracks refl h)
      faults_stops f h = either f h

-- where the end of the input may be the answer that there is nothing more
module _ {X : Type 0} (reading : Reading (Option X)) (p : Passage) where
  pub none_known : (x : Option X) → ReadOrNone reading p.old p.new x → Known p.old p.new (λ text rest. reading text ≡ Ok (x, rest))
  none_known x (inl read) = just_read reading p.old p.new x read
  none_known x (inr (over, none)) = rw none (over_known reading (λ o. Unit {0}) p.old p.new None (inr (over, tt)))

  pub none_stops : (f : FileFault) → RefusedOrNone reading p.old p.new p.before p.after f → StopsReading nothing_more reading p f
  none_stops fault.TooLarge h = absurd h
  none_stops fault.Read (same, inl wants) = (same, wants_known reading nothing_more p.old p.new wants)
  none_stops fault.Read (same, inr halts) = (same, stops_known reading nothing_more p.old p.new None refl halts)
  none_stops fault.Write h = absurd h
  none_stops fault.Rate h = absurd h
  none_stops f h = refused_stops reading p nothing_more f h

-- where the end of the input may be any answer
module _ {X : Type 0} (reading : Reading X) (p : Passage) where
  pub ends_known : (x : X) → ReadOrEnds reading p.old p.new x → Known p.old p.new (λ text rest. reading text ≡ Ok (x, rest))
  ends_known x (inl read) = just_read reading p.old p.new x read
  ends_known x (inr ends) = over_known reading (λ x. Unit {0}) p.old p.new x (inr (ends, tt))

  pub ends_stops : (f : FileFault) → RefusedOrEnds reading p.old p.new p.before p.after f → StopsReading any_value reading p f
  ends_stops fault.TooLarge h = absurd h
  ends_stops fault.Read (same, inl wants) = (same, wants_known reading any_value p.old p.new wants)
  ends_stops fault.Read (same, inr (x, stops)) = (same, stops_known reading any_value p.old p.new x tt stops)
  ends_stops fault.Write h = absurd h
  ends_stops fault.Rate h = absurd h
  ends_stops f h = refused_stops reading p any_value f h

-- what is made of what was read
module _ {X Y : Type 0} (reading : Reading X) (make : X → Y) where
  abbrev pub made : Reading Y
  made = reading >>= λ x. given (make x)

  made_so_far : (r : Result (X × List ℕ) Stop) (text rest : List ℕ) → SoFar reading r text rest → SoFar made (read_on r (λ x. given (make x))) text rest
  made_so_far r text rest (bytes, is, reads) = (bytes, is, ap (λ z. read_on z (λ x. given (make x))) reads)

  made_faults : (f : FileFault) (text rest : List ℕ) → FaultsRead reading text rest f → FaultsRead made text rest f
  made_faults f text rest (inl (w, h, over, is)) = inl (w, ap (λ z. read_on z (λ x. given (make x))) h, over, is)
  made_faults f text rest (inr h) = inr (ap (λ z. read_on z (λ x. given (make x))) h)

  module _ (p : Passage) where
    pub made_reads : (x : X) → ReadsAs reading p x → ReadsAs made p (make x)
    made_reads x h = (h.0, known_map p.old p.new _ _ (λ text rest is. ap (λ z. read_on z (λ x. given (make x))) is) h.1)

    -- what the end may be is made of what it may be there
    module _ (ends : Endings X) (after : Endings Y) (values : (x : X) → ends.values x → after.values (make x)) (faults : (f : FileFault) → ends.faults f → after.faults f) where
      made_fails : (text rest : List ℕ) → ReadFails ends reading text rest → ReadFails after made text rest
      made_fails text rest (inl (w, h)) = inl (w, made_so_far (Err (Short w)) text rest h)
      made_fails text rest (inr (inl (x, over, h))) = inr (inl (make x, values x over, made_so_far (Ok (x, [])) text rest h))
      made_fails text rest (inr (inr (f, over, h))) = inr (inr (f, faults f over, made_so_far (Err (Met f [])) text rest h))

      pub made_stops : (f : FileFault) → StopsReading ends reading p f → StopsReading after made p f
      made_stops fault.OutOfMemory h = (h.0, known_map p.old p.new _ _ (made_so_far (Err (Short Kept))) h.1)
      made_stops fault.TooLarge h = absurd h
      made_stops fault.Read h = (h.0, known_map p.old p.new _ _ made_fails h.1)
      made_stops fault.Write h = absurd h
      made_stops fault.Rate h = absurd h
      made_stops f h = (h.0, known_map p.old p.new _ _ (made_faults f) h.1)
