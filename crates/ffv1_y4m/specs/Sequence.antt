-- Readings of a text, one after the other.
use Rattle.std.specs.Prelude.{ℕ, Bool, true, false, List, Option, Some, None, Result, Ok, Err}
use Rattle.ffv1_y4m.specs.declared.fault.Fault.{Fault}

infixl 10 ◌>>=◌
abbrev pub ◌>>=◌ : {X Y E : Type 0} → Result X E → (X → Result Y E) → Result Y E
(Ok x) >>= next = next x
(Err f) >>= next = Err f

-- what a text reads as: a value, or the first fault from the left; and what is left of the text
abbrev pub Outcome : Type 0 → Type 0
Outcome X = Result (X × List ℕ) (Fault × List ℕ)

abbrev pub Reading : Type 0 → Type 0
Reading X = List ℕ → Outcome X

-- an answer that is given of no byte
abbrev pub judge : {X : Type 0} → Result X Fault → Reading X
judge (Ok x) text = Ok (x, text)
judge (Err f) text = Err (f, text)

-- a value that is read of no byte
abbrev pub give : {X : Type 0} → X → Reading X
give x text = Ok (x, text)

-- a fault of any text
abbrev pub refuse : {X : Type 0} → Fault → Reading X
refuse f text = Err (f, text)

-- what is left of the text, after a value as after a fault
abbrev pub left : {X : Type 0} → Outcome X → List ℕ
left (Ok p) = p.1
left (Err f) = f.1

-- one reading and then the next, which the first one's value names
infixr 8 ◌then◌
abbrev pub ◌then◌ : {X Y : Type 0} → Reading X → (X → Reading Y) → Reading Y
(first then next) text = first text >>= λ p. next p.0 p.1

-- a reading if something begins, and else none
abbrev pub where_begun : {X : Type 0} → Reading X → Bool → Reading (Option X)
where_begun reading false = give None
where_begun reading true = reading then λ x. give (Some x)
