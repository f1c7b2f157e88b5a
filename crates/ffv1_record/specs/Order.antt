-- The parameters of a record in their order (RFC 9043, 4.2), each with the symbols of its good
-- values, and with the symbols that in its place are a fault. A record's fault is that of its first
-- parameter that is not good.
use Rattle.std.specs.Prelude.{◌≡◌, ◌≢◌, ◌⊎◌, ℕ, ◌+◌, ◌-◌, ◌*◌, ◌^◌, ◌<◌, ◌≤◌, nat_lt, ◌||◌, not}
use Rattle.std.specs.Prelude.{false, IsTrue, List, [], ◌∷◌, ◌++◌, length, sum, ℤ, true, Ok}
use Rattle.std.specs.List.{list_all}
use Rattle.std.proofs.Common.{suc}
use Rattle.ffv1_range.specs.Codes.{value}
use Rattle.ffv1_range.specs.Table.{Table}
use Rattle.ffv1_range.specs.Deltas.{IsTableOf}
use Rattle.ffv1_range.specs.Symbols.{Step, shifted, too_long}
use Rattle.ffv1_range.specs.Weight.{one_if}
use Rattle.ffv1_plane.specs.Quantisation.{Set, are_filled, contexts_of}
use Rattle.ffv1_record.specs.declared.fault.RecordFault.{RecordFault}
use Rattle.ffv1_record.specs.declared.fault.RecordFault.TheVariants as fault
use Rattle.ffv1_record.specs.Configuration.{Configuration, is_rct}
use Rattle.ffv1_record.specs.Sets.{AreSets}
use Rattle.ffv1_record.specs.Writable.{AreDeltas, IsWritable}
use Rattle.ffv1_record.specs.Parity.{remainder_of}
use Rattle.ffv1_record.specs.declared.config.Profile.{Profile}
use Rattle.ffv1_record.specs.Accepted.{IsFirstIn, IsTableFor, checks, is_depth, least_coder}
use Rattle.ffv1_record.specs.Accepted.{type_of}
use Rattle.ffv1_record.specs.Reader.{Spot}
use Rattle.ffv1_record.specs.Reading.{beginning, parameters}
use Rattle.ffv1_record.specs.Record.{IsCoded, number_steps, truth_steps, deltas_steps, coder_steps}
use Rattle.ffv1_record.specs.Record.{body_of, runs_steps, set_steps, sets_steps, uncoded_steps}
use Rattle.ffv1_record.specs.Record.{depth_of}

-- a symbol without an end, by the states at these slots
abbrev pub IsTooLong : ℕ → List Step → RecordFault → Type 0
IsTooLong base steps f = (steps ≡ shifted base too_long) × (f ≡ fault.SymbolTooLong)

-- a number that is not good, which is this fault; or a symbol without an end
abbrev pub IsBadNumber : ℕ → (ℕ → Type 0) → RecordFault → List Step → RecordFault → Type 0
IsBadNumber base IsGood wrong steps f =
    ((n : ℕ) × (n < 2 ^ 31) × (IsGood n → ⊥) × (steps ≡ number_steps base n) × (f ≡ wrong))
    ⊎ IsTooLong base steps f

-- a parameter: which of its values are good, the symbols of its value, and the symbols that are a
-- fault in its place
pub record Parameter : Type 1 where
  pub IsGood : ℕ → Configuration → Type 0
  pub steps : ℕ → Configuration → List Step
  pub Fails : Configuration → List Step → RecordFault → Type 0

-- version 3
abbrev pub version : Parameter
version = record {
  IsGood = λ bits c. Unit {0};
  steps = λ bits c. number_steps 0 3;
  Fails = λ c. IsBadNumber 0 (λ n. (3 ≤ n) × (n ≤ 3)) fault.Version;
}

-- micro_version 4
abbrev pub micro_version : Parameter
micro_version = record {
  IsGood = λ bits c. Unit {0};
  steps = λ bits c. number_steps 0 4;
  Fails = λ c. IsBadNumber 0 (λ n. (4 ≤ n) × (n ≤ 4)) fault.MicroVersion;
}

-- the symbol of coder_type 2, and deltas of which one is without an end, or which make no table
abbrev pub AreBadDeltas : List Step → RecordFault → Type 0
AreBadDeltas steps f =
    (ds : List ℤ) × AreDeltas ds × (
    ((length ds < 255) × (steps ≡ number_steps 0 2 ++ (deltas_steps ds ++ shifted 0 too_long))
    × (f ≡ fault.SymbolTooLong))
    ⊎ ((length ds ≡ 255) × ((t : Table) → IsTableOf ds t → ⊥)
    × (steps ≡ number_steps 0 2 ++ deltas_steps ds) × (f ≡ fault.StateTable))
    )

-- coder_type from `least` to 2, and the deltas
abbrev pub coder_type : ℕ → Parameter
coder_type least = record {
  IsGood = λ bits c. ((t : Table) × IsTableFor c.coder t) × IsWritable c.coder
      × (least ≤ type_of c.coder);
  steps = λ bits c. coder_steps c.coder;
  Fails = λ c steps f. IsBadNumber 0 (λ n. (least ≤ n) × (n ≤ 2)) fault.Coder steps f
      ⊎ AreBadDeltas steps f;
}

-- colorspace_type 0 or 1
abbrev pub colorspace_type : Parameter
colorspace_type = record {
  IsGood = λ bits c. Unit {0};
  steps = λ bits c. number_steps 0 (one_if (is_rct c.colour));
  Fails = λ c. IsBadNumber 0 (λ n. (0 ≤ n) × (n ≤ 1)) fault.ColourSpace;
}

-- bits_per_raw_sample, which is a depth up to `most`, or 0 for 8
abbrev pub bits_per_raw_sample : ℕ → Parameter
bits_per_raw_sample most = record {
  IsGood = λ bits c. IsTrue (is_depth most (depth_of bits));
  steps = λ bits c. number_steps 0 bits;
  Fails = λ c.
      IsBadNumber 0 (λ n. IsTrue (is_depth most (depth_of n))) fault.Depth;
}

-- chroma_planes, any truth value
abbrev pub chroma_planes : Parameter
chroma_planes = record {
  IsGood = λ bits c. Unit {0};
  steps = λ bits c. truth_steps c.chroma_planes;
  Fails = λ c steps f. ⊥;
}

-- log2_h_chroma_subsample and log2_v_chroma_subsample, any number here
abbrev pub log2_h_chroma_subsample : Parameter
log2_h_chroma_subsample = record {
  IsGood = λ bits c. c.log2_h < 2 ^ 31;
  steps = λ bits c. number_steps 0 c.log2_h;
  Fails = λ c. IsTooLong 0;
}

abbrev pub log2_v_chroma_subsample : Parameter
log2_v_chroma_subsample = record {
  IsGood = λ bits c. c.log2_v < 2 ^ 31;
  steps = λ bits c. number_steps 0 c.log2_v;
  Fails = λ c. IsTooLong 0;
}

-- extra_plane, which comes with chroma planes alone
abbrev pub extra_plane : Parameter
extra_plane = record {
  IsGood = λ bits c. IsTrue (c.chroma_planes || not c.extra_plane);
  steps = λ bits c. truth_steps c.extra_plane;
  Fails = λ c steps f. (c.chroma_planes ≡ false) × (steps ≡ truth_steps true)
      × (f ≡ fault.ExtraPlane);
}

-- num_h_slices and num_v_slices, each less 1, any number here
abbrev pub num_h_slices : Parameter
num_h_slices = record {
  IsGood = λ bits c. c.columns - 1 < 2 ^ 31;
  steps = λ bits c. number_steps 0 (c.columns - 1);
  Fails = λ c. IsTooLong 0;
}

abbrev pub num_v_slices : Parameter
num_v_slices = record {
  IsGood = λ bits c. c.rows - 1 < 2 ^ 31;
  steps = λ bits c. number_steps 0 (c.rows - 1);
  Fails = λ c. IsTooLong 0;
}

-- quant_table_set_count 1 to 8
abbrev pub quant_table_set_count : Parameter
quant_table_set_count = record {
  IsGood = λ bits c. (1 ≤ length c.sets) × (length c.sets ≤ 8);
  steps = λ bits c. number_steps 0 (length c.sets);
  Fails = λ c. IsBadNumber 0 (λ n. (1 ≤ n) × (n ≤ 8)) fault.Sets;
}

-- some runs, and one that passes the 128 entries
abbrev pub IsBadTable : ℕ → List Step → RecordFault → Type 0
IsBadTable base steps f =
    (runs : List ℕ) × (tail : List Step) × IsTrue (list_all (λ r. nat_lt 0 r) runs) × (left : ℕ)
    × (sum runs + suc left ≡ 128)
    × (steps ≡ runs_steps base runs ++ tail)
    × IsBadNumber base (λ n. (0 ≤ n) × (n ≤ left)) fault.Runs tail f

-- some filled tables, and one that is not; or five of too many contexts
abbrev pub IsBadSet : ℕ → List Step → RecordFault → Type 0
IsBadSet base steps f =
    ((tables : Set) × (tail : List Step) × IsTrue (are_filled tables) × (length tables < 5)
    × (steps ≡ set_steps base tables ++ tail) × IsBadTable (base + 32 * length tables) tail f)
    ⊎ ((tables : Set) × IsTrue (are_filled tables) × (length tables ≡ 5)
    × (32768 < contexts_of tables) × (steps ≡ set_steps base tables) × (f ≡ fault.Contexts))

-- the quantisation table sets
abbrev pub quant_table_sets : Parameter
quant_table_sets = record {
  IsGood = λ bits c. AreSets c.sets;
  steps = λ bits c. sets_steps 32 c.sets;
  Fails = λ c steps f.
      (sets : List Set) × (tail : List Step) × AreSets sets × (length sets < length c.sets)
      × (steps ≡ sets_steps 32 sets ++ tail) × IsBadSet (32 + 160 * length sets) tail f;
}

-- states_coded of each set, which is false
abbrev pub states_coded : Parameter
states_coded = record {
  IsGood = λ bits c. Unit {0};
  steps = λ bits c. uncoded_steps (length c.sets);
  Fails = λ c steps f. (k : ℕ) × (k < length c.sets) × (steps ≡ uncoded_steps k ++ truth_steps true)
      × (f ≡ fault.CodedStates);
}

-- ec and intra, each 0 or 1
abbrev pub ec : Parameter
ec = record {
  IsGood = λ bits c. Unit {0};
  steps = λ bits c. number_steps 0 (one_if c.ec);
  Fails = λ c. IsBadNumber 0 (λ n. (0 ≤ n) × (n ≤ 1)) fault.Ec;
}

abbrev pub intra : Parameter
intra = record {
  IsGood = λ bits c. Unit {0};
  steps = λ bits c. number_steps 0 (one_if c.intra);
  Fails = λ c. IsBadNumber 0 (λ n. (0 ≤ n) × (n ≤ 1)) fault.Intra;
}

-- all of them, in the order of the record
abbrev pub in_order : ℕ → ℕ → List Parameter
in_order least most =
    version ∷ micro_version ∷ coder_type least ∷ colorspace_type ∷ bits_per_raw_sample most
    ∷ chroma_planes ∷ log2_h_chroma_subsample ∷ log2_v_chroma_subsample ∷ extra_plane ∷ num_h_slices
    ∷ num_v_slices ∷ quant_table_set_count ∷ quant_table_sets ∷ states_coded ∷ ec ∷ intra ∷ []

-- of parameters after some symbols the bytes code good ones, and then this fault
abbrev pub FirstBad : List Parameter → List ℕ → List Step → ℕ → Configuration → RecordFault → Type 0
FirstBad [] bytes past bits c f = ⊥
FirstBad (p ∷ ps) bytes past bits c f =
    ((steps : List Step) × p.Fails c steps f × IsCoded bytes (past ++ steps))
    ⊎ (p.IsGood bits c × FirstBad ps bytes (past ++ p.steps bits c) bits c f)

-- why bytes are refused as a record: they are too few, or their remainder is not 0, or their first
-- two are no beginning of coded bytes; or else by their first parameter that is not good; or all
-- are good, and the configuration that they say has this first fault in the profile
abbrev pub IsRefusedBy : Profile → ℕ → List ℕ → ℕ → ℕ → RecordFault → Type 0
IsRefusedBy p most bytes width height f =
    ((length bytes < 5) × (f ≡ fault.Short))
    ⊎ ((remainder_of bytes ≢ 0) × (f ≡ fault.Parity))
    ⊎ ((65280 ≤ value (body_of bytes) 2) × (f ≡ fault.BadStart))
    ⊎ ((bits : ℕ) × (c : Configuration)
    × FirstBad (in_order (least_coder p) most) (body_of bytes) [] bits c f)
    ⊎ ((c : Configuration) × (t : Spot)
    × parameters (least_coder p) most width height (body_of bytes) beginning (Ok (c, t))
    × IsFirstIn p checks c f)
