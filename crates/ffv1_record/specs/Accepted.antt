-- Which configurations are accepted (RFC 9043, 4.2 and 4.3, and this project's profile), and why
-- one is refused.
use Rattle.std.specs.Prelude.{◌≡◌, ◌⊎◌, ℕ, ◌+◌, ◌-◌, ◌*◌, ◌/◌, ◌%◌, ◌^◌, ◌<◌, nat_le, Bool, ◌&&◌}
use Rattle.std.specs.Prelude.{◌||◌, not, ◌==◌, IsTrue, true, false, List, [], ◌∷◌, length}
use Rattle.std.specs.List.{list_all, range_with_len}
use Rattle.ffv1_range.specs.Table.{Table, IsTable}
use Rattle.ffv1_range.specs.Standard.{standard}
use Rattle.ffv1_range.specs.Deltas.{IsTableOf}
use Rattle.ffv1_record.specs.Sets.{AreSets}
use Rattle.ffv1_record.specs.Writable.{IsWritable}
use Rattle.ffv1_record.specs.declared.config.Coder.{Coder}
use Rattle.ffv1_record.specs.declared.config.Coder.TheVariants as coder
use Rattle.ffv1_record.specs.declared.config.Profile.{Profile}
use Rattle.ffv1_record.specs.declared.config.Profile.TheVariants as profile
use Rattle.ffv1_record.specs.declared.fault.RecordFault.{RecordFault}
use Rattle.ffv1_record.specs.declared.fault.RecordFault.TheVariants as fault
use Rattle.ffv1_record.specs.Configuration.{Configuration, is_rct}

-- width and height are from 1 to 8192
abbrev pub is_sized : Configuration → Bool
is_sized c = (nat_le 1 c.width && nat_le c.width 8192)
    && (nat_le 1 c.height && nat_le c.height 8192)

-- RFC 9043, 4.2.7: the depths up to `most`, in bits a sample
abbrev pub is_depth : ℕ → ℕ → Bool
is_depth most depth =
    nat_le depth most
    && ((depth == 8) || (depth == 9) || (depth == 10) || (depth == 12) || (depth == 14)
    || (depth == 16))

-- a configuration has one of them
abbrev pub has_depth : ℕ → Configuration → Bool
has_depth most c = is_depth most c.depth

-- the greatest depth of a profile, if `Wide` goes up to `most`
abbrev pub deepest : Profile → ℕ → ℕ
deepest profile.Strict most = 8
deepest profile.Wide most = most

-- RFC 9043, 4.2.5 to 4.2.9: RCT has chroma planes; chroma of another size than the picture's is of
-- YCbCr alone, and at most a quarter as wide or high
abbrev pub is_subsampled : Configuration → Bool
is_subsampled c =
    (nat_le c.log2_h 2 && nat_le c.log2_v 2)
    && ((c.chroma_planes || not (is_rct c.colour))
    && ((c.chroma_planes && not (is_rct c.colour)) || (c.log2_h == 0 && c.log2_v == 0)))

-- RFC 9043, 4.2.10: an extra plane comes with chroma planes alone
abbrev pub is_transparent : Configuration → Bool
is_transparent c = c.chroma_planes || not c.extra_plane

-- RFC 9043, 4.2.13: there are 1 to 8 sets
abbrev pub are_counted : Configuration → Bool
are_counted c = nat_le 1 (length c.sets) && nat_le (length c.sets) 8

-- RFC 9043, 4.2.3: coder_type
abbrev pub type_of : Coder → ℕ
type_of coder.Rice = 0
type_of coder.One = 1
type_of (coder.Two deltas) = 2

-- samples are Golomb-Rice coded, and not range coded
abbrev pub is_rice : Coder → Bool
is_rice coder.Rice = true
is_rice coder.One = false
is_rice (coder.Two deltas) = false

-- the least coder_type of a profile: samples are Golomb-Rice coded in `Wide` alone
abbrev pub least_coder : Profile → ℕ
least_coder profile.Strict = 1
least_coder profile.Wide = 0

-- RFC 9043, 4.2.3: Golomb-Rice coded samples have 8 bits
abbrev pub suits_depth : Coder → ℕ → Bool
suits_depth coder.Rice depth = depth == 8
suits_depth other depth = true

-- a profile has the coder, for samples of its depth
abbrev pub has_coder : Profile → Configuration → Bool
has_coder p c = nat_le (least_coder p) (type_of c.coder) && suits_depth c.coder c.depth

-- RFC 9043, 4.2.3 and 4.2.4: the state transition table of a coder; beside Golomb-Rice coded
-- samples it is that of keys, heads and records
abbrev pub IsTableFor : Coder → Table → Type 0
IsTableFor coder.Rice t = t ≡ standard
IsTableFor coder.One t = t ≡ standard
IsTableFor (coder.Two deltas) t = IsTableOf deltas t

-- RFC 9043, 4.2.11 and 4.2.12: columns and rows are from 1 to 32, and each has a sample
abbrev pub is_divided : Configuration → Bool
is_divided c = (nat_le 1 c.columns && (nat_le c.columns 32 && nat_le c.columns c.width))
    && (nat_le 1 c.rows && (nat_le c.rows 32 && nat_le c.rows c.height))

-- RFC 9043, 4.7.4 and 4.8.3: where part k of a size begins that is divided into count parts
abbrev pub edge : ℕ → ℕ → ℕ → ℕ
edge k size count = k * size / count

-- each inner edge is a multiple of the chroma factor
abbrev pub AreMultiples : ℕ → ℕ → ℕ → Type 0
AreMultiples size count log2 = (k : ℕ) → 0 < k → k < count → edge k size count % 2 ^ log2 ≡ 0

-- whether each is
unfoldable pub are_multiples : ℕ → ℕ → ℕ → Bool
are_multiples size count log2 =
    list_all (λ k. edge k size count % 2 ^ log2 == 0) (range_with_len 1 (count - 1))

-- RFC 9043, 4.7.2 and 4.8.1: a size over a factor, rounded up
unfoldable pub reduced : ℕ → ℕ → ℕ
reduced log2 n = (n + (2 ^ log2 - 1)) / 2 ^ log2

-- each column of chroma, or each line, lies in a part: the last part, which begins at its edge over
-- the factor, rounded down, and is its own size over the factor long, rounded up, ends where the
-- plane does
abbrev pub AreReached : ℕ → ℕ → ℕ → Type 0
AreReached size count log2 =
    edge (count - 1) size count / 2 ^ log2 + reduced log2 (size - edge (count - 1) size count)
    ≡ reduced log2 size

-- what a configuration must meet in the profile `Strict`, by the fault if it does not
abbrev pub Passes : RecordFault → Configuration → Type 0
Passes fault.Size c = IsTrue (is_sized c)
Passes fault.Subsampling c = IsTrue (is_subsampled c)
Passes fault.ExtraPlane c = IsTrue (is_transparent c)
Passes fault.Sets c = IsTrue (are_counted c)
Passes fault.StateTable c = (t : Table) × IsTableFor c.coder t
Passes fault.Grid c = IsTrue (is_divided c)
Passes fault.ChromaEdge c = AreMultiples c.width c.columns c.log2_h
    × AreMultiples c.height c.rows c.log2_v
Passes other c = Unit {0}

-- what the edges of slices must meet in a profile: in `Wide` slices may share a column or a line of
-- chroma, but none is left out
abbrev pub PassesEdges : Profile → Configuration → Type 0
PassesEdges profile.Strict c = Passes fault.ChromaEdge c
PassesEdges profile.Wide c = AreReached c.width c.columns c.log2_h
    × AreReached c.height c.rows c.log2_v

-- what a configuration must meet in a profile
abbrev pub PassesIn : Profile → RecordFault → Configuration → Type 0
PassesIn p fault.ChromaEdge c = PassesEdges p c
PassesIn p fault.Coder c = IsTrue (has_coder p c)
PassesIn p other c = Passes other c

-- the faults in the order in which they are looked for
abbrev pub checks : List RecordFault
checks =
    fault.Size ∷ fault.Subsampling ∷ fault.ExtraPlane ∷ fault.Sets ∷ fault.StateTable ∷ fault.Grid
    ∷ fault.ChromaEdge ∷ fault.Coder ∷ []

abbrev pub PassesAll : Profile → List RecordFault → Configuration → Type 0
PassesAll p [] c = Unit {0}
PassesAll p (f ∷ fs) c = PassesIn p f c × PassesAll p fs c

-- of these faults this is the first that stands in a profile
abbrev pub IsFirstIn : Profile → List RecordFault → Configuration → RecordFault → Type 0
IsFirstIn p [] c found = ⊥
IsFirstIn p (f ∷ fs) c found =
    ((PassesIn p f c → ⊥) × (found ≡ f)) ⊎ (PassesIn p f c × IsFirstIn p fs c found)

-- in the profile `Strict`
abbrev pub IsFirst : List RecordFault → Configuration → RecordFault → Type 0
IsFirst fs c found = IsFirstIn profile.Strict fs c found

-- the first if a depth is judged after the size, and this says whether it is accepted
abbrev pub IsFirstWhere : Profile → Bool → Configuration → RecordFault → Type 0
IsFirstWhere p true c found = IsFirstIn p checks c found
IsFirstWhere p false c found =
    ((Passes fault.Size c → ⊥) × (found ≡ fault.Size))
    ⊎ (Passes fault.Size c × (found ≡ fault.Depth))

-- why a configuration is refused in a profile, if depths up to this one are accepted
abbrev pub IsFirstUpTo : Profile → ℕ → Configuration → RecordFault → Type 0
IsFirstUpTo p most c found = IsFirstWhere p (has_depth most c) c found

-- a configuration that was checked, its state transition table, and the profile that it was checked
-- in
pub record Accepted : Type 0 where
  pub configuration : Configuration
  pub table : Table
  pub profile : Profile

-- what holds of each configuration that was checked, in whichever profile: what passes the checks
-- of `Strict` passes those of `Wide`
pub record IsAccepted (c : Configuration) (t : Table) : Type 0 where
  pub depth : IsTrue (has_depth 16 c)
  pub passes : PassesAll profile.Wide checks c
  pub table : IsTableFor c.coder t
  pub closed : IsTable t.floor t.one
  pub writable : IsWritable c.coder
  pub sets : AreSets c.sets
