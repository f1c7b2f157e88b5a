-- Readings of bytes of which the first was read before.
use Rattle.std.proofs.Common.{◌≡◌, ◌-◌, [], ℕ, suc, nat_lt, Bool, true, false, Option, Some, None, Result, Ok, Err, List, ◌∷◌, ◌++◌, length, ap, ◌∙◌, refl, arith}
use Rattle.std.proofs.lemmas.Bool.{le-ltb, lt-ltb, ltb-false, ltb-true}
use borrow.Rule.Slice.PartMut.{put_mid}
use lib.ListN.{set}
use Rattle.std.proofs.lemmas.Grind.{common_steps}
use Rattle.std.specs.Io.KnownBytes.{Consumes}
use Rattle.ffv1_reads.specs.First.{bytes_with}
use Rattle.ffv1_reads.specs.Reads.{Faults, Lacks, Read, Reading, Refused, Looked, Stop, Want, Wants, taken, wanted}
use Rattle.ffv1_reads.specs.declared.fault.FileFault.{FileFault}
use Rattle.ffv1_reads.proofs.Causes.{refused_map}

-- a value that is made of what was read
abbrev pub made_of : {X Y : Type 0} → (X → Y) → Result (X × List ℕ) Stop → Result (Y × List ℕ) Stop
made_of make (Ok p) = Ok (make p.0, p.1)
made_of make (Err why) = Err why

pub first_consumed : (b : ℕ) (old new : Option (List ℕ)) (bytes : List ℕ) → Consumes old new bytes → Consumes (bytes_with (Some b) old) new (b ∷ bytes)
first_consumed b None new bytes h = tt
first_consumed b (Some text) None bytes h = absurd h
first_consumed b (Some text) (Some rest) bytes h = ap (λ z. b ∷ z) h

module _ {X Y : Type 0} (b : ℕ) (make : X → Y) (rest_of : Reading X) (whole : Reading Y) (is : (text : List ℕ) → whole (b ∷ text) ≡ made_of make (rest_of text)) (old new : Option (List ℕ)) where
  first_read : (x : X) → Read rest_of old new x → Read whole (bytes_with (Some b) old) new (make x)
  first_read x h = record { bytes = b ∷ h.bytes; consumed = first_consumed b old new h.bytes h.consumed; is = λ rest. is (h.bytes ++ rest) ∙ ap (made_of make) (h.is rest) }

  first_lacks : (w : Want) → Lacks rest_of old new w → Lacks whole (bytes_with (Some b) old) new w
  first_lacks w h = record { bytes = b ∷ h.bytes; consumed = first_consumed b old new h.bytes h.consumed; is = is h.bytes ∙ ap (made_of make) h.is }

  first_faults : (f : FileFault) → Faults rest_of old new f → Faults whole (bytes_with (Some b) old) new f
  first_faults f h = record { bytes = b ∷ h.bytes; consumed = first_consumed b old new h.bytes h.consumed; is = λ rest. is (h.bytes ++ rest) ∙ ap (made_of make) (h.is rest) }

  first_wants : Wants rest_of old new → Wants whole (bytes_with (Some b) old) new
  first_wants (w, h) = (w, first_lacks w h)

  module _ (before after : ℕ) where
    first_refused : (f : FileFault) → Refused rest_of old new before after f → Refused whole (bytes_with (Some b) old) new before after f
    first_refused f h = refused_map after refl first_wants (first_lacks _) first_faults f h

-- so many bytes of which one was read
pub wanted_first : (w : Want) (n b : ℕ) (text : List ℕ) → wanted w (suc n) (b ∷ text) ≡ made_of (λ bytes. b ∷ bytes) (wanted w n text)
wanted_first w n b text = on_test (nat_lt (length text) n) refl
  where
    on_test : (t : Bool) → nat_lt (length text) n ≡ t → wanted w (suc n) (b ∷ text) ≡ made_of (λ bytes. b ∷ bytes) (wanted w n text)
    on_test true t = rw (t, lt-ltb (suc (length text)) (suc n) (omega (arith, ltb-true (length text) n t))) refl
    on_test false t = rw (t, le-ltb (suc (length text)) (suc n) (omega (arith, ltb-false (length text) n t))) refl

pub taken_first : (b n m : ℕ) (old new : Option (List ℕ)) (got : List ℕ) → Read (taken m) old new got → n ≡ suc m → Read (taken n) (bytes_with (Some b) old) new (b ∷ got)
taken_first b n m old new got h e = rw e (first_read b (λ bytes. b ∷ bytes) (taken m) (taken (suc m)) (wanted_first Looked m b) old new got h)

pub taken_not : (b n m before after : ℕ) (old new : Option (List ℕ)) (f : FileFault) → Refused (taken m) old new before after f → n ≡ suc m → Refused (taken n) (bytes_with (Some b) old) new before after f
taken_not b n m before after old new f h e = rw e (first_refused b (λ bytes. b ∷ bytes) (taken m) (taken (suc m)) (wanted_first Looked m b) old new before after f h)

-- a byte, and in the place of all others those that were got
pub first_placed : (b : ℕ) (bytes got : List ℕ) → length bytes ≡ suc (length got) → b ∷ got ≡ put_mid 1 (length (set bytes 0 b) - 1) (set bytes 0 b) got
first_placed b [] got long = absurd (omega (arith, long))
first_placed b (x ∷ xs) got long = grind (arith, common_steps)
