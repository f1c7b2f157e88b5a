-- The parameters of a record, read in their order (RFC 9043, 4.2), each check made when its symbol
-- has been read.
use Rattle.std.specs.Prelude.{◌≡◌, ◌≢◌, ◌⊎◌, ℕ, ◌+◌, ◌-◌, ◌≤◌, ◌<◌, ◌==◌, nat_le, ◌||◌, not, Bool}
use Rattle.std.specs.Prelude.{true, List, [], ◌∷◌, ◌++◌, length, ℤ, Ok, Err}
use Rattle.std.proofs.Common.{zero, suc}
use Rattle.ffv1_range.specs.Codes.{value}
use Rattle.ffv1_plane.specs.Quantisation.{Set, contexts_of}
use Rattle.ffv1_record.specs.declared.fault.RecordFault.{RecordFault}
use Rattle.ffv1_record.specs.declared.fault.RecordFault.TheVariants as fault
use Rattle.ffv1_record.specs.declared.config.Coder.{Coder}
use Rattle.ffv1_record.specs.declared.config.Coder.TheVariants as coder
use Rattle.ffv1_record.specs.declared.config.Colour.{Colour}
use Rattle.ffv1_record.specs.declared.config.Colour.TheVariants as colour
use Rattle.ffv1_record.specs.declared.planes.Planes.{Planes}
use Rattle.ffv1_record.specs.Parity.{remainder_of}
use Rattle.ffv1_record.specs.Configuration.{Configuration}
use Rattle.ffv1_record.specs.declared.config.Profile.{Profile}
use Rattle.ffv1_record.specs.Accepted.{IsFirstIn, checks, is_depth, least_coder}
use Rattle.ffv1_record.specs.Record.{body_of, depth_of}
use Rattle.ffv1_record.specs.Reader.{Reader, Spot, ◌>>=◌, done, require, next_table, number}
use Rattle.ffv1_record.specs.Reader.{signed_number, truth, number_within, makes_table}

-- so many deltas, after some
unfoldable pub deltas_onto : ℕ → List ℤ → Reader (List ℤ)
deltas_onto zero ds = done ds
deltas_onto (suc k) ds = do
  d ← signed_number
  deltas_onto k (ds ++ (d ∷ []))

-- the deltas of coder_type 2, judged after the last
abbrev pub coder_of : ℕ → Reader Coder
coder_of zero = done coder.Rice
coder_of (suc zero) = done coder.One
coder_of kind = do
  ds ← deltas_onto 255 []
  _ ← makes_table ds
  done (coder.Two ds)

-- version, micro_version and coder, of which the least type is given
abbrev pub opening : ℕ → Reader Coder
opening least = do
  _ ← number_within 0 3 3 fault.Version
  _ ← number_within 0 4 4 fault.MicroVersion
  kind ← number_within 0 least 2 fault.Coder
  coder_of kind

abbrev pub colour_of : ℕ → Colour
colour_of zero = colour.YCbCr
colour_of (suc n) = colour.Rct

-- bits_per_raw_sample: a depth up to a greatest one
abbrev pub depth : ℕ → Reader ℕ
depth most = do
  n ← number 0
  _ ← require (is_depth most (depth_of n)) fault.Depth
  done (depth_of n)

abbrev pub planes : ℕ → Reader Planes
planes most = do
  kind ← number_within 0 0 1 fault.ColourSpace
  bits ← depth most
  chroma ← truth
  log2_h ← number 0
  log2_v ← number 0
  extra ← truth
  _ ← require (chroma || not extra) fault.ExtraPlane
  done (record {
    colour = colour_of kind;
    depth = bits;
    chroma_planes = chroma;
    extra_plane = extra;
    log2_h =
        log2_h;
    log2_v = log2_v;
  })

-- a count, coded less 1
abbrev pub count_of : Reader ℕ
count_of = do
  n ← number 0
  done (n + 1)

-- the runs of a table after some, with so many entries left to fill; each run fills at least one,
-- so that many steps suffice
unfoldable pub runs_onto : ℕ → ℕ → ℕ → List ℕ → Reader (List ℕ)
runs_onto base steps zero runs = done runs
runs_onto base zero (suc left) runs = done runs
runs_onto base (suc steps) (suc left) runs = do
  n ← number_within base 0 left fault.Runs
  runs_onto base steps (left - n) (runs ++ ((n + 1) ∷ []))

-- a table with states of its own
abbrev pub table : Reader (List ℕ)
table = do
  base ← next_table
  runs_onto base 128 128 []

-- a set, and its contexts after its last run
abbrev pub set : Reader Set
set = do
  first ← table
  second ← table
  third ← table
  fourth ← table
  fifth ← table
  _ ← require (nat_le (contexts_of (first ∷ second ∷ third ∷ fourth ∷ fifth
      ∷ [])) 32768) fault.Contexts
  done (first ∷ second ∷ third ∷ fourth ∷ fifth ∷ [])

-- so many sets, after some
unfoldable pub sets_onto : ℕ → List Set → Reader (List Set)
sets_onto zero ss = done ss
sets_onto (suc k) ss = do
  s ← set
  sets_onto k (ss ++ (s ∷ []))

-- states_coded of so many sets
unfoldable pub uncoded : ℕ → Reader Bool
uncoded zero = done true
uncoded (suc k) = do
  b ← truth
  _ ← require (not b) fault.CodedStates
  uncoded k

abbrev pub tables : Reader (List Set)
tables = do
  count ← number_within 0 1 8 fault.Sets
  ss ← sets_onto count []
  _ ← uncoded count
  done ss

-- the parameters before the first set, of which the last says how many sets there are
abbrev pub before_sets : ℕ → ℕ → Reader ℕ
before_sets least most = do
  _ ← opening least
  _ ← planes most
  _ ← count_of
  _ ← count_of
  number_within 0 1 8 fault.Sets

-- the first run of the first table of a set, less 1
abbrev pub first_run : Reader ℕ
first_run = do
  base ← next_table
  number_within base 0 127 fault.Runs

-- the same with the number of sets before it, and with all parameters up to there
abbrev pub first_sets_run : Reader ℕ
first_sets_run = do
  _ ← number_within 0 1 8 fault.Sets
  first_run

abbrev pub up_to_run : ℕ → ℕ → Reader ℕ
up_to_run least most = do
  _ ← opening least
  _ ← planes most
  _ ← count_of
  _ ← count_of
  first_sets_run

-- a truth value that is coded as a number
abbrev pub flag : RecordFault → Reader Bool
flag f = do
  n ← number_within 0 0 1 f
  done (n == 1)

-- all parameters, with a coder_type from `least` on and a depth up to `most`, of pictures of a size
abbrev pub parameters : ℕ → ℕ → ℕ → ℕ → Reader Configuration
parameters least most width height = do
  coder ← opening least
  p ← planes most
  columns ← count_of
  rows ← count_of
  ss ← tables
  ec ← flag fault.Ec
  intra ← flag fault.Intra
  done (record {
    width = width;
    height = height;
    depth = p.depth;
    coder = coder;
    colour = p.colour;
    chroma_planes = p.chroma_planes;
    extra_plane = p.extra_plane;
    log2_h = p.log2_h;
    log2_v = p.log2_v;
    columns = columns;
    rows = rows;
    sets = ss;
    ec = ec;
    intra = intra;
  })

-- where the reading of a record begins
abbrev pub beginning : Spot
beginning = record { past = []; fresh = 32 }

-- what is read of a record of at least 5 bytes and remainder 0
abbrev pub IsMet : Profile → ℕ → List ℕ → ℕ → ℕ → RecordFault → Type 0
IsMet p most bytes width height f =
    ((65280 ≤ value (body_of bytes) 2) × (f ≡ fault.BadStart))
    ⊎ parameters (least_coder p) most width height (body_of bytes) beginning (Err f)
    ⊎ ((c : Configuration) × (t : Spot)
    × parameters (least_coder p) most width height (body_of bytes) beginning (Ok (c, t))
    × IsFirstIn p checks c f)

-- the bytes are no record of a configuration of this size, in a profile, with a depth up to `most`,
-- and this is the first fault
abbrev pub IsRefused : Profile → ℕ → List ℕ → ℕ → ℕ → RecordFault → Type 0
IsRefused p most bytes width height f =
    ((length bytes < 5) × (f ≡ fault.Short))
    ⊎ ((5 ≤ length bytes) × (remainder_of bytes ≢ 0) × (f ≡ fault.Parity))
    ⊎ ((5 ≤ length bytes) × (remainder_of bytes ≡ 0) × IsMet p most bytes width height f)

-- the bytes are no record in a profile with a depth up to `most`, and this fault stands before the
-- first set: it is answered whatever memory there is
abbrev pub IsRefusedBeforeSets : Profile → ℕ → List ℕ → RecordFault → Type 0
IsRefusedBeforeSets p most bytes f =
    ((length bytes < 5) × (f ≡ fault.Short))
    ⊎ ((5 ≤ length bytes) × (remainder_of bytes ≢ 0) × (f ≡ fault.Parity))
    ⊎ ((5 ≤ length bytes) × (remainder_of bytes ≡ 0) × (65280 ≤ value (body_of bytes) 2)
    × (f ≡ fault.BadStart))
    ⊎ ((5 ≤ length bytes) × (remainder_of bytes ≡ 0)
    × before_sets (least_coder p) most (body_of bytes) beginning (Err f))

-- no fault stands before the first set: from there on memory is taken
pub record ReachesSets (p : Profile) (most : ℕ) (bytes : List ℕ) : Type 0 where
  pub long : 5 ≤ length bytes
  pub whole : remainder_of bytes ≡ 0
  pub start : value (body_of bytes) 2 < 65280
  pub count : ℕ
  pub behind : Spot
  pub read : before_sets (least_coder p) most (body_of bytes) beginning (Ok (count, behind))

-- no fault stands before the first set, nor at the first run of it: from there on memory is taken
pub record ReachesRun (p : Profile) (most : ℕ) (bytes : List ℕ) : Type 0 where
  pub long : 5 ≤ length bytes
  pub whole : remainder_of bytes ≡ 0
  pub start : value (body_of bytes) 2 < 65280
  pub run : ℕ
  pub behind : Spot
  pub read : up_to_run (least_coder p) most (body_of bytes) beginning (Ok (run, behind))
