-- What is told of a Matroska file before its frames says what it opens as.
use Rattle.std.proofs.Common.{◌≡◌, ◌∙◌, ◌+◌, ◌-◌, ◌^◌, ◌∷◌, [], ℕ, min, List, map, Option, Some, None, Err, true, refl, sym, ap, subst, arith}
use Rattle.ffv1_reads.specs.Items.{Given, Tells}
use Rattle.ffv1_reads.specs.Offsets.{FaultAt, offset_after}
use Rattle.ffv1_reads.specs.Reads.{Met, read_on}
use Rattle.ffv1_reads.specs.declared.fault.FileFault.{FileFault}
use Rattle.ffv1_matroska.specs.Offsets.{Start, spot_taken}
use Rattle.ffv1_matroska.specs.Opened.{open_read}
use Rattle.ffv1_matroska.specs.SalvageTold.{StandsAfter, plainly, told_before}
use Rattle.ffv1_matroska.specs.Salvaged.{data_at, salvage_read}
use Rattle.ffv1_matroska.specs.declared.told.ToldFault.{ToldFault}
use Rattle.ffv1_files.specs.Files.{is_matroska, matroska_begun, once_read}
use Rattle.ffv1_files.specs.Salvaged.{data_offset, given_told, told_of, told_offset}
use Rattle.ffv1_files.specs.declared.container.Scope.TheVariants as scope

pub once_is : (file : List ℕ) → is_matroska file ≡ true → once_read scope.Whole file ≡ read_on (open_read file) matroska_begun
unfolding once_read
once_is file is = rw is refl

-- nothing is told
none_of : (start : ℕ) (faults : List ToldFault) → map (given_told start) faults ≡ [] → faults ≡ []
none_of start [] none = refl
none_of start (t ∷ ts) none = absurd (cc (none))

pub opens_same : (file : List ℕ) → (told_before file ≡ [] → open_read file ≡ plainly (salvage_read file)) → is_matroska file ≡ true → told_of file ≡ [] → once_read scope.Whole file ≡ read_on (plainly (salvage_read file)) matroska_begun
opens_same file law is none = once_is file is ∙ ap (λ z. read_on z matroska_begun) (law (none_of (data_offset file) (told_before file) none))

-- an offset in the Segment, and in the file
in_file : (d a most : ℕ) → min (min (0 + d) most + min a most) most ≡ min (0 + (d + a)) most
in_file d a most = grind arith

at_start : (n most : ℕ) → n ≡ 0 → 0 ≡ min (0 + n) most
at_start n most none = grind (arith, none)

stands_at : (file : List ℕ) (position : Option ℕ) (count : ℕ) → StandsAfter file position count → told_offset (data_offset file) position ≡ offset_after 0 count
stands_at file None count none = at_start count (2 ^ 64 - 1) none
stands_at file (Some position) count (after, counted, is) = rw (is, counted) (in_file (data_at file) after (2 ^ 64 - 1))

-- the first that is told
record FirstOf (start : ℕ) (faults : List ToldFault) (f : FileFault) (offset : ℕ) : Type 0 where
  t : ToldFault
  others : List ToldFault
  told : faults ≡ t ∷ others
  fault : t.fault ≡ f
  at : told_offset start t.position ≡ offset

first_of : (start : ℕ) (faults : List ToldFault) (f : FileFault) (offset : ℕ) (others : List Given) → map (given_told start) faults ≡ Tells f offset ∷ others → FirstOf start faults f offset
first_of start [] f offset others is = absurd (cc (is))
first_of start (t ∷ ts) f offset others is =
    let same : given_told start t ≡ Tells f offset = cc (is) in
    record { t = t; others = ts; told = refl; fault = cc (same); at = cc (same) }

pub opens_not : (file : List ℕ) (f : FileFault) (offset : ℕ) (others : List Given) → ((t : ToldFault) (more : List ToldFault) → told_before file ≡ t ∷ more → (rest : List ℕ) × (open_read file ≡ Err (Met t.fault rest))) →
    ((t : ToldFault) (more : List ToldFault) → told_before file ≡ t ∷ more → (count : ℕ) × FaultAt spot_taken Start file t.fault count × StandsAfter file t.position count) → is_matroska file ≡ true → told_of file ≡ Tells f offset ∷ others →
    (rest : List ℕ) × (once_read scope.Whole file ≡ Err (Met f rest)) × (count : ℕ) × FaultAt spot_taken Start file f count × (offset ≡ offset_after 0 count)
opens_not file f offset others law place is told =
    let first = first_of (data_offset file) (told_before file) f offset others told in
    let refused = law first.t first.others first.told in
    let stands = place first.t first.others first.told in
    let P : FileFault → Type 0 = λ g. (rest : List ℕ) × (once_read scope.Whole file ≡ Err (Met g rest)) × (count : ℕ) × FaultAt spot_taken Start file g count × (offset ≡ offset_after 0 count) in
    let plain : once_read scope.Whole file ≡ Err (Met first.t.fault refused.0) = once_is file is ∙ ap (λ z. read_on z matroska_begun) refused.1 in
    subst P first.fault (refused.0, plain, stands.0, stands.1, sym first.at ∙ stands_at file first.t.position stands.0 stands.2)
