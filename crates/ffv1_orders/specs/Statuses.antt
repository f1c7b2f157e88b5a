-- The exit status of an order, by what became of it.
use Rattle.std.specs.Prelude.{◌≡◌, ◌⊎◌, ◌≤◌, ℕ, Bool, true, false, Result, Ok, Err}
use Rattle.ffv1_orders.specs.Looked.{Outcome}
use Rattle.ffv1_video.specs.declared.fault.Fault.{Fault}
use Rattle.ffv1_words.specs.declared.order.Order.{Order}
use Rattle.ffv1_words.specs.declared.order.Order.TheVariants as order
use Rattle.ffv1_orders.specs.declared.refusal.Refusal.{Refusal}
use Rattle.ffv1_orders.specs.declared.refusal.Refusal.TheVariants as refusal

-- 0 if it was done, 1 for a fault, if a list or a frame of it is refused, or for a note that is a
-- fault, 2 if its files are refused
abbrev pub status_of : Outcome → ℕ
status_of (Ok notes) = 0
status_of (Err (refusal.Fault f)) = 1
status_of (Err refusal.OneFile) = 2
status_of (Err refusal.Exists) = 2
status_of (Err (refusal.Differs frame)) = 1
status_of (Err (refusal.List line)) = 1
status_of (Err (refusal.Judged f notes)) = 1
status_of (Err (refusal.Notes notes)) = 1

-- a refusal that is a fault of the engine, of this kind
abbrev pub IsFault : (Fault → Type 0) → Refusal → Type 0
IsFault are (refusal.Fault f) = are f
IsFault are refusal.OneFile = ⊥
IsFault are refusal.Exists = ⊥
IsFault are (refusal.Differs frame) = ⊥
IsFault are (refusal.List line) = ⊥
IsFault are (refusal.Judged f notes) = ⊥
IsFault are (refusal.Notes notes) = ⊥

-- a refusal that is a fault, of any kind
abbrev pub IsAnyFault : Refusal → Type 0
IsAnyFault = IsFault (λ f. Unit {0})

-- the refusals of a file that is looked at: a fault, or a note that is one
abbrev pub IsLookingRefusal : Refusal → Type 0
IsLookingRefusal (refusal.Fault f) = Unit {0}
IsLookingRefusal refusal.OneFile = ⊥
IsLookingRefusal refusal.Exists = ⊥
IsLookingRefusal (refusal.Differs frame) = ⊥
IsLookingRefusal (refusal.List line) = ⊥
IsLookingRefusal (refusal.Judged f notes) = Unit {0}
IsLookingRefusal (refusal.Notes notes) = Unit {0}

-- the refusals of an order that makes a file: its files are one; one is there, which the order is
-- to keep; or a fault, or a note that is one
abbrev pub IsMakingRefusal : Bool → Refusal → Type 0
IsMakingRefusal no_clobber (refusal.Fault f) = Unit {0}
IsMakingRefusal no_clobber refusal.OneFile = Unit {0}
IsMakingRefusal no_clobber refusal.Exists = no_clobber ≡ true
IsMakingRefusal no_clobber (refusal.Differs frame) = ⊥
IsMakingRefusal no_clobber (refusal.List line) = ⊥
IsMakingRefusal no_clobber (refusal.Judged f notes) = Unit {0}
IsMakingRefusal no_clobber (refusal.Notes notes) = Unit {0}

-- the refusals of a file that is compared with a list: a fault, a frame or a line of the list, or a
-- note that is a fault
abbrev pub IsComparingRefusal : Refusal → Type 0
IsComparingRefusal (refusal.Fault f) = Unit {0}
IsComparingRefusal refusal.OneFile = ⊥
IsComparingRefusal refusal.Exists = ⊥
IsComparingRefusal (refusal.Differs frame) = Unit {0}
IsComparingRefusal (refusal.List line) = Unit {0}
IsComparingRefusal (refusal.Judged f notes) = ⊥
IsComparingRefusal (refusal.Notes notes) = Unit {0}

-- whether an order makes a file
abbrev pub makes_file : Order → Bool
makes_file (order.Pack input output choice container no_clobber progress) = true
makes_file (order.Unpack input output no_clobber progress range all noted) = true
makes_file o = false

-- the exit status of an order: 2 is one for orders that make a file alone
abbrev pub IsStatus : Bool → ℕ → Type 0
IsStatus makes status = (status ≤ 1) ⊎ ((makes ≡ true) × (status ≡ 2))
