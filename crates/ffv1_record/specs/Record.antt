-- The configuration record as a list of decisions (RFC 9043, 4.2 and 4.3). The parameters share 32
-- states, at slots 0 to 31; each quantisation table has 32 of its own, those of table k (all tables
-- of all sets counted, from 0) at the slots from 32 * (k + 1) on.
use Rattle.std.specs.Prelude.{◌≡◌, ◌⊎◌, ℕ, ◌+◌, ◌-◌, ◌≤◌, Bool, false, List, [], ◌∷◌, ◌++◌, length}
use Rattle.std.specs.Prelude.{take, ℤ}
use Rattle.std.proofs.Common.{zero, suc}
use Rattle.ffv1_range.specs.Interval.{Decision, interval_of}
use Rattle.ffv1_range.specs.Codes.{Codes, digits, full_of}
use Rattle.ffv1_range.specs.Symbols.{Step, shifted, unsigned_steps, signed_steps}
use Rattle.ffv1_range.specs.History.{decisions_after}
use Rattle.ffv1_range.specs.Standard.{standard}
use Rattle.ffv1_range.specs.Weight.{one_if}
use Rattle.ffv1_plane.specs.Quantisation.{Set}
use Rattle.ffv1_record.specs.declared.config.Coder.{Coder}
use Rattle.ffv1_record.specs.declared.config.Coder.TheVariants as coder
use Rattle.ffv1_record.specs.Configuration.{Configuration, is_rct}
use Rattle.ffv1_record.specs.Parity.{remainder_of, parity_of}

-- the symbol of a number, by the states at these slots
abbrev pub number_steps : ℕ → ℕ → List Step
number_steps base n = shifted base (unsigned_steps n)

-- the symbol of a signed number among the parameters
abbrev pub signed_number_steps : ℤ → List Step
signed_number_steps v = shifted 0 (signed_steps v)

-- a truth value among the parameters
abbrev pub truth_steps : Bool → List Step
truth_steps b = shifted 0 (record { slot = 0; bit = b } ∷ [])

abbrev pub deltas_steps : List ℤ → List Step
deltas_steps [] = []
deltas_steps (d ∷ ds) = signed_number_steps d ++ deltas_steps ds

-- coder_type, and the deltas of the state transition table
abbrev pub coder_steps : Coder → List Step
coder_steps coder.Rice = number_steps 0 0
coder_steps coder.One = number_steps 0 1
coder_steps (coder.Two deltas) = number_steps 0 2 ++ deltas_steps deltas

-- each run less 1
abbrev pub runs_steps : ℕ → List ℕ → List Step
runs_steps base [] = []
runs_steps base (r ∷ rs) = number_steps base (r - 1) ++ runs_steps base rs

-- the tables of a set
abbrev pub set_steps : ℕ → Set → List Step
set_steps base [] = []
set_steps base (runs ∷ more) = runs_steps base runs ++ set_steps (base + 32) more

abbrev pub sets_steps : ℕ → List Set → List Step
sets_steps base [] = []
sets_steps base (s ∷ ss) = set_steps base s ++ sets_steps (base + 160) ss

-- states_coded of so many sets
abbrev pub uncoded_steps : ℕ → List Step
uncoded_steps zero = []
uncoded_steps (suc k) = truth_steps false ++ uncoded_steps k

-- version, micro_version and coder
abbrev pub opening_steps : Configuration → List Step
opening_steps c = number_steps 0 3 ++ number_steps 0 4 ++ coder_steps c.coder

-- colorspace_type, bits_per_raw_sample, chroma_planes, log2_h_chroma_subsample,
-- log2_v_chroma_subsample, extra_plane
abbrev pub planes_steps : ℕ → Configuration → List Step
planes_steps bits c =
    number_steps 0 (one_if (is_rct c.colour)) ++ number_steps 0 bits ++ truth_steps c.chroma_planes
    ++ number_steps 0 c.log2_h ++ number_steps 0 c.log2_v ++ truth_steps c.extra_plane

-- num_h_slices and num_v_slices, each less 1
abbrev pub grid_steps : Configuration → List Step
grid_steps c = number_steps 0 (c.columns - 1) ++ number_steps 0 (c.rows - 1)

-- quant_table_set_count, the sets, and a states_coded for each
abbrev pub tables_steps : Configuration → List Step
tables_steps c = number_steps 0 (length c.sets) ++ sets_steps 32 c.sets
    ++ uncoded_steps (length c.sets)

-- ec and intra
abbrev pub closing_steps : Configuration → List Step
closing_steps c = number_steps 0 (one_if c.ec) ++ number_steps 0 (one_if c.intra)

-- the parameters, with bits_per_raw_sample
abbrev pub record_steps : ℕ → Configuration → List Step
record_steps bits c = opening_steps c ++ planes_steps bits c ++ grid_steps c ++ tables_steps c
    ++ closing_steps c

abbrev pub record_decisions : ℕ → Configuration → List Decision
record_decisions bits c = decisions_after standard [] (record_steps bits c)

-- the parameters by the full ending
abbrev pub coded_of : Configuration → List ℕ
coded_of c = full_of (interval_of (record_decisions c.depth c))

-- RFC 9043, 4.3: and the parity of them
abbrev pub record_of : Configuration → List ℕ
record_of c = coded_of c ++ digits 4 (parity_of (coded_of c))

-- a record without its parity
abbrev pub body_of : List ℕ → List ℕ
body_of bytes = take (length bytes - 4) bytes

-- the bytes code steps
abbrev pub IsCoded : List ℕ → List Step → Type 0
IsCoded bytes steps = Codes bytes (decisions_after standard [] steps)

-- the depth of a bits_per_raw_sample: 0 means 8
abbrev pub depth_of : ℕ → ℕ
depth_of zero = 8
depth_of (suc n) = suc n

-- the bytes are a record of the configuration: a bits_per_raw_sample of 0 means 8, and bytes
-- between the parameters and the parity count for nothing
pub record IsRecord (bytes : List ℕ) (c : Configuration) : Type 0 where
  pub long : 5 ≤ length bytes
  pub whole : remainder_of bytes ≡ 0
  pub bits : ℕ
  pub known : (bits ≡ c.depth) ⊎ ((bits ≡ 0) × (c.depth ≡ 8))
  pub coded : IsCoded (body_of bytes) (record_steps bits c)
