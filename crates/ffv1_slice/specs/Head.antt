-- The key and the head of a slice (RFC 9043, 4.4 and 4.6). Of the slots of a slice 0 is the key's,
-- and 1 to 32 are the head's.
use Rattle.std.specs.Prelude.{◌≡◌, ◌⊎◌, ℕ, ◌/◌, ◌%◌, ◌^◌, ◌<◌, ◌==◌, nat_lt, Bool}
use Rattle.std.specs.Prelude.{true, false, ◌&&◌, if◌then◌else◌, Option, Some, None, is_some}
use Rattle.std.specs.Prelude.{List, [], ◌∷◌, ◌++◌, length, slice_index}
use Rattle.std.proofs.Common.{zero, suc}
use Rattle.ffv1_range.specs.Table.{Table}
use Rattle.ffv1_range.specs.Codes.{Codes}
use Rattle.ffv1_range.specs.Symbols.{Step, unsigned_steps, shifted, too_long}
use Rattle.ffv1_range.specs.History.{decisions_after}
use Rattle.ffv1_record.specs.declared.config.Profile.{Profile}
use Rattle.ffv1_record.specs.declared.config.Profile.TheVariants as profile
use Rattle.ffv1_record.specs.Configuration.{Configuration}
use Rattle.ffv1_slice.specs.declared.head.SliceHead.{SliceHead}
use Rattle.ffv1_slice.specs.declared.fault.SliceFault.{SliceFault}
use Rattle.ffv1_slice.specs.declared.fault.SliceFault.TheVariants as fault

-- the first slice begins with a keyframe of 1
abbrev pub key_steps : ℕ → List Step
key_steps zero = record { slot = 0; bit = true } ∷ []
key_steps (suc n) = []

-- numbers, one symbol after the other
abbrev pub values_steps : List ℕ → List Step
values_steps [] = []
values_steps (v ∷ vs) = unsigned_steps v ++ values_steps vs

-- the set indexes of a head: two, or three with an extra plane
abbrev pub indexes_of : Bool → List ℕ → List ℕ
indexes_of false xs = slice_index xs 0 ∷ slice_index xs 1 ∷ []
indexes_of true xs = slice_index xs 0 ∷ slice_index xs 1 ∷ slice_index xs 2 ∷ []

-- slice_x, slice_y, slice_width - 1 and slice_height - 1 of a slice of one cell
abbrev pub place_of : Configuration → ℕ → List ℕ
place_of c n = (n % c.columns) ∷ (n / c.columns) ∷ 0 ∷ 0 ∷ []

-- picture_structure, sar_num and sar_den
abbrev pub info_of : SliceHead → List ℕ
info_of h = h.structure ∷ h.sar_num ∷ h.sar_den ∷ []

-- the values of the head of slice n
abbrev pub head_values : Configuration → ℕ → SliceHead → List ℕ
head_values c n h = place_of c n ++ (indexes_of c.extra_plane h.indexes ++ info_of h)

-- the steps of a head
abbrev pub head_steps : Configuration → ℕ → SliceHead → List Step
head_steps c n h = shifted 1 (values_steps (head_values c n h))

-- both below 65536, and both zero or neither
abbrev pub is_aspect : ℕ → ℕ → Bool
is_aspect num den =
    (nat_lt num 65536 && nat_lt den 65536) && (if num == 0 then den == 0 else nat_lt 0 den)

-- what two numbers say that are no aspect: none; but if both are below 65536, just one of them
-- is 0, and at Wide they say what 0 and 0 say, that the aspect is unknown
abbrev pub half_aspect : Profile → ℕ → ℕ → Option (ℕ × ℕ)
half_aspect profile.Strict num den = None
half_aspect profile.Wide num den =
    if nat_lt num 65536 && nat_lt den 65536 then Some (0, 0) else None

-- the aspect that the two numbers of a head say, if they say one
abbrev pub aspect_of : Profile → ℕ → ℕ → Option (ℕ × ℕ)
aspect_of p num den = if is_aspect num den then Some (num, den) else half_aspect p num den

abbrev pub has_aspect : Profile → ℕ → ℕ → Bool
has_aspect p num den = is_some (aspect_of p num den)

-- the third index is that of a set with an extra plane, and else 0
abbrev pub IsThird : Bool → ℕ → ℕ → Type 0
IsThird false index count = index ≡ 0
IsThird true index count = index < count

-- a head of a profile
pub record IsHead (p : Profile) (c : Configuration) (h : SliceHead) : Type 0 where
  pub long : length h.indexes ≡ 3
  pub first : slice_index h.indexes 0 < length c.sets
  pub second : slice_index h.indexes 1 < length c.sets
  pub third : IsThird c.extra_plane (slice_index h.indexes 2) (length c.sets)
  pub structure : h.structure < 4
  pub aspect : has_aspect p h.sar_num h.sar_den ≡ true

-- what a value must meet, by the value before it and itself, and the fault if it does not
pub record Rule : Type 0 where
  pub passes : ℕ → ℕ → Bool
  pub fault : SliceFault

abbrev pub placed : ℕ → Rule
placed k = record { passes = λ before v. v == k; fault = fault.Place }

abbrev pub indexed : ℕ → Rule
indexed count = record { passes = λ before v. nat_lt v count; fault = fault.SetIndex }

abbrev pub structured : Rule
structured = record { passes = λ before v. nat_lt v 4; fault = fault.Structure }

-- the first number of the aspect is judged with the second
abbrev pub unjudged : Rule
unjudged = record { passes = λ before v. true; fault = fault.Aspect }

abbrev pub proportioned : Profile → Rule
proportioned p = record { passes = λ before v. has_aspect p before v; fault = fault.Aspect }

abbrev pub place_rules : Configuration → ℕ → List Rule
place_rules c n = placed (n % c.columns) ∷ placed (n / c.columns) ∷ placed 0 ∷ placed 0 ∷ []

abbrev pub index_rules : Bool → ℕ → List Rule
index_rules false count = indexed count ∷ indexed count ∷ []
index_rules true count = indexed count ∷ indexed count ∷ indexed count ∷ []

abbrev pub info_rules : Profile → List Rule
info_rules p = structured ∷ unjudged ∷ proportioned p ∷ []

-- the rules of the head of slice n, in the order of its values
abbrev pub head_rules : Profile → Configuration → ℕ → List Rule
head_rules p c n =
    place_rules c n ++ (index_rules c.extra_plane (length c.sets) ++ info_rules p)

-- values that meet rules, each its own
unfoldable pub Meets : List Rule → ℕ → List ℕ → Type 0
Meets [] before [] = Unit {0}
Meets [] before (v ∷ vs) = ⊥
Meets (r ∷ rs) before [] = ⊥
Meets (r ∷ rs) before (v ∷ vs) =
    (v < 2 ^ 31) × (r.passes before v ≡ true) × Meets rs v vs

-- symbols that meet rules, up to one that is refused: it is too long, or its value does not meet
-- its rule
unfoldable pub Stops : List Rule → ℕ → SliceFault → List Step → Type 0
Stops [] before f steps = ⊥
Stops (r ∷ rs) before f steps =
    ((f ≡ fault.SymbolTooLong) × (steps ≡ too_long))
    ⊎ ((v : ℕ) × (v < 2 ^ 31) × (r.passes before v ≡ false) × (f ≡ r.fault)
    × (steps ≡ unsigned_steps v))
    ⊎ ((v : ℕ) × (more : List Step) × (v < 2 ^ 31) × (r.passes before v ≡ true)
    × Stops rs v f more × (steps ≡ unsigned_steps v ++ more))

-- after its key the bytes code a head of slice n
pub record CodesHead (bytes : List ℕ) (t : Table) (p : Profile) (c : Configuration) (n : ℕ)
    (h : SliceHead) : Type 0 where
  pub head : IsHead p c h
  pub codes : Codes bytes (decisions_after t [] (key_steps n ++ head_steps c n h))

-- after its key the bytes code steps of a head that is refused with them
pub record RefusesHead (bytes : List ℕ) (t : Table) (p : Profile) (c : Configuration) (n : ℕ)
    (f : SliceFault) (steps : List Step) : Type 0 where
  pub stops : Stops (head_rules p c n) 0 f steps
  pub codes : Codes bytes (decisions_after t [] (key_steps n ++ shifted 1 steps))

-- a keyframe of 0
abbrev pub no_key : List Step
no_key = record { slot = 0; bit = false } ∷ []

-- the bytes code the key of slice n, or a keyframe of 0 in the place of the first slice's
abbrev pub CodesKey : List ℕ → Table → ℕ → Type 0
CodesKey bytes t n = Codes bytes (decisions_after t [] (key_steps n))

pub record RefusesKey (bytes : List ℕ) (t : Table) (n : ℕ) : Type 0 where
  pub first : n ≡ 0
  pub codes : Codes bytes (decisions_after t [] no_key)
