-- Readings, one after the other.
use Rattle.std.proofs.Common.{◌≡◌, ℕ, Option, Some, None, Result, Ok, Err, List, [], ◌++◌, ap, ◌∙◌, refl, append_assoc}
use Rattle.std.specs.Io.KnownBytes.{Consumes}
use Rattle.ffv1_wire.proofs.Bytes.{consumes_then}
use Rattle.ffv1_reads.specs.declared.fault.FileFault.{FileFault}
use Rattle.ffv1_reads.proofs.Causes.{refused_map}
use Rattle.ffv1_reads.specs.Reads.{Answers, Faults, Lacks, Read, Reading, Refused, Stop, given, read_on, refused, ◌>>=◌}

-- a call that reads the whole has come to the rest, and nothing failed
pub record Goes {X : Type 0} (whole : Reading X) (old : Option (List ℕ)) (before : ℕ) (rest : Reading X) (now : Option (List ℕ)) (after : ℕ) : Type 0 where
  pub same : after ≡ before
  pub bytes : List ℕ
  pub consumed : Consumes old now bytes
  pub leads : (more : List ℕ) → whole (bytes ++ more) ≡ rest more

pub consumes_none : (a : Option (List ℕ)) → Consumes a a []
consumes_none None = tt
consumes_none (Some xs) = refl

-- nothing has been read
pub goes_none : {X : Type 0} (r : Reading X) (old : Option (List ℕ)) (before : ℕ) → Goes r old before r old before
goes_none r old before = record { same = refl; bytes = []; consumed = consumes_none old; leads = λ more. refl }

-- one reading more
pub goes_read : {X Y : Type 0} {whole : Reading X} {old now : Option (List ℕ)} {before after : ℕ} (r : Reading Y) (k : Y → Reading X) (new : Option (List ℕ)) (last : ℕ) (y : Y) →
    Goes whole old before (r >>= k) now after → (last ≡ after) × Read r now new y → Goes whole old before (k y) new last
goes_read {whole = whole} {old = old} {now = now} r k new last y h read =
    record {
      same = read.0 ∙ h.same;
      bytes = h.bytes ++ read.1.bytes;
      consumed = consumes_then old now new h.bytes read.1.bytes h.consumed read.1.consumed;
      leads = λ more. ap whole (append_assoc h.bytes read.1.bytes more) ∙ h.leads (read.1.bytes ++ more) ∙ ap (λ z. read_on z k) (read.1.is more);
    }

-- what stops a reading stops the rest
abbrev StopsBy : {X Y : Type 0} → Reading X → Reading Y → Type 0
StopsBy rest r = (text : List ℕ) (why : Stop) → r text ≡ Err why → rest text ≡ Err why

faults_behind : {X Y : Type 0} {whole rest : Reading X} {old now new : Option (List ℕ)} {before after : ℕ} (r : Reading Y) (f : FileFault) → StopsBy rest r → Goes whole old before rest now after → Faults r now new f → Faults whole old new f
faults_behind {whole = whole} {old = old} {now = now} {new = new} r f stops h why =
    record {
      bytes = h.bytes ++ why.bytes;
      consumed = consumes_then old now new h.bytes why.bytes h.consumed why.consumed;
      is = λ more. ap whole (append_assoc h.bytes why.bytes more) ∙ h.leads (why.bytes ++ more) ∙ stops _ _ (why.is more);
    }

lacks_behind : {X Y : Type 0} {whole rest : Reading X} {old now new : Option (List ℕ)} {before after : ℕ} {w : _} (r : Reading Y) → StopsBy rest r → Goes whole old before rest now after → Lacks r now new w → Lacks whole old new w
lacks_behind {old = old} {now = now} {new = new} r stops h why =
    record {
      bytes = h.bytes ++ why.bytes;
      consumed = consumes_then old now new h.bytes why.bytes h.consumed why.consumed;
      is = h.leads why.bytes ∙ stops _ _ why.is;
    }

refused_behind : {X Y : Type 0} {whole rest : Reading X} {old now : Option (List ℕ)} {before after : ℕ} (new : Option (List ℕ)) (r : Reading Y) (last : ℕ) (f : FileFault) → StopsBy rest r → Goes whole old before rest now after → Refused r now new after last f → Refused whole old new before last f
refused_behind new r last f stops h why = refused_map last h.same (λ wants. (wants.0, lacks_behind r stops h wants.1)) (λ lacks. lacks_behind r stops h lacks) (λ f faults. faults_behind r f stops h faults) f why

-- a reading that was refused
pub goes_refused : {X Y : Type 0} {whole : Reading X} {old now : Option (List ℕ)} {before after : ℕ} (r : Reading Y) (k : Y → Reading X) (new : Option (List ℕ)) (last : ℕ) (f : FileFault) →
    Goes whole old before (r >>= k) now after → Refused r now new after last f → Refused whole old new before last f
goes_refused r k new last f h why = refused_behind new r last f (λ text why is. ap (λ z. read_on z k) is) h why

-- the last reading answers
pub goes_last : {X Y : Type 0} {whole : Reading X} {old now : Option (List ℕ)} {before after : ℕ} (r : Reading X) (view : Y → X) (new : Option (List ℕ)) (last : ℕ) (result : Result Y FileFault) →
    Goes whole old before r now after → Answers view r (record { old = now; new = new; before = after; after = last }) result → Answers view whole (record { old = old; new = new; before = before; after = last }) result
goes_last {whole = whole} {old = old} {now = now} r view new last (Ok y) h read = (
  read.0 ∙ h.same,
  record {
    bytes = h.bytes ++ read.1.bytes;
    consumed = consumes_then old now new h.bytes read.1.bytes h.consumed read.1.consumed;
    is = λ more. ap whole (append_assoc h.bytes read.1.bytes more) ∙ h.leads (read.1.bytes ++ more) ∙ read.1.is more;
  },
)
goes_last r view new last (Err f) h why = refused_behind new r last f (λ text why is. is) h why

-- a value is answered, and nothing more is read
pub goes_given : {X : Type 0} {whole : Reading X} {old now : Option (List ℕ)} {before after : ℕ} (x : X) → Goes whole old before (given x) now after → (after ≡ before) × Read whole old now x
goes_given x h = (h.same, record { bytes = h.bytes; consumed = h.consumed; is = h.leads })

-- a fault is answered, and nothing more is read
pub goes_fault : {X : Type 0} {whole : Reading X} {old now : Option (List ℕ)} {before after : ℕ} (f : FileFault) → Goes whole old before (refused f) now after → Refused (refused {X = X} f) now now after after f → Refused whole old now before after f
goes_fault {X = X} {now = now} {after = after} f h why = refused_behind now (refused {X = X} f) after f (λ text why is. is) h why

pub faults_here : (X : Type 0) (f : FileFault) (now : Option (List ℕ)) → Faults (refused {X = X} f) now now f
faults_here X f now = record { bytes = []; consumed = consumes_none now; is = λ rest. refl }

-- the rest, read in another way
pub goes_same : {X : Type 0} {whole : Reading X} {old now : Option (List ℕ)} {before after : ℕ} (r s : Reading X) → ((text : List ℕ) → r text ≡ s text) → Goes whole old before r now after → Goes whole old before s now after
goes_same r s e h = record { same = h.same; bytes = h.bytes; consumed = h.consumed; leads = λ more. h.leads more ∙ e more }
