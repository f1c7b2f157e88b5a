-- What a file that may be damaged gives, one by one: its frames, and its faults; and what a call
-- for the next one answers, by a course, which says where reading goes on.
use Rattle.std.specs.Prelude.{◌≡◌, ℕ, Bool, true, false, List, Option, Some, None, Result, Ok, Err}
use Rattle.ffv1_wire.specs.Failures.{one_more}
use Rattle.ffv1_wire.specs.Passage.{Passage}
use Rattle.ffv1_reads.specs.Ends.{ReadOrEnds, Stops}
use Rattle.ffv1_reads.specs.Known.{Known}
use Rattle.ffv1_reads.specs.Reads.{Reading}
use Rattle.ffv1_reads.specs.declared.fault.FileFault.{FileFault}
use Rattle.ffv1_reads.specs.declared.fault.FileFault.TheVariants as fault
use Rattle.ffv1_reads.specs.declared.item.Item.{Item}
use Rattle.ffv1_reads.specs.declared.item.Item.TheVariants as item

-- a frame; or a fault, with the number of bytes before the element or chunk at fault
pub data Given : Type 0 where
  GivesFrame : List ℕ → Given
  Tells : FileFault → ℕ → Given

-- the one fault of a call, in bytes of which no fault is one, that says that they have ended
abbrev pub is_end : FileFault → Bool
is_end fault.Truncated = true
is_end f = false

-- a call was refused inside an element: if the bytes have ended, this is the answer, and reading
-- goes on nowhere, which is this course
abbrev pub StopsBy : {C : Type 0} → Item → C → C → C → FileFault → Result Item FileFault → Type 0
StopsBy end over old new fault.Truncated result = (result ≡ Ok end) × (new ≡ over)
StopsBy end over old new f result = (result ≡ Err f) × (new ≡ old)

-- what a call that answers so has given
abbrev pub given_by : {C : Type 0} → Item → List ℕ → C → Option (Given × C)
given_by item.Frame bytes c = Some (GivesFrame bytes, c)
given_by (item.Told f offset) bytes c = Some (Tells f offset, c)
given_by item.End bytes c = None

-- the answer of a call for the next item. A read may fail, and memory be refused for a frame, when
-- more bytes are wanted: then those that were read have an item by themselves, or none
abbrev pub ItemAnswers : {C : Type 0} → Reading (Option (Given × C)) → Passage →
    Result Item FileFault → List ℕ → C → Type 0
ItemAnswers reading p (Ok i) bytes c =
    (p.after ≡ p.before) × ReadOrEnds reading p.old p.new (given_by i bytes c)
ItemAnswers {C = C} reading p (Err fault.Read) bytes c =
    (p.after ≡ one_more p.before) × (x : Option (Given × C)) × Stops reading p.old p.new x
ItemAnswers {C = C} reading p (Err fault.OutOfMemory) bytes c =
    (p.after ≡ p.before) × (x : Option (Given × C)) × Stops reading p.old p.new x
ItemAnswers reading p (Err f) bytes c = ⊥

-- what bytes say, if they are known
abbrev pub SaidBy : {X : Type 0} → (List ℕ → X) → Option (List ℕ) → Option (List ℕ) → X → Type 0
SaidBy by old new x = Known old new (λ text rest. x ≡ by text)
