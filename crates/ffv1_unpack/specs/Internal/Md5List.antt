-- A list of MD5s, as far as it was read.
use Rattle.std.specs.Prelude.{◌≡◌, ℕ, List, [], Result}
use Rattle.ffv1_wire.specs.Passage.{Passage}
use Rattle.ffv1_reads.specs.Known.{Known}
use Rattle.ffv1_unpack.specs.Md5List.{Listed, lines_from, md5s_in}
use Rattle.ffv1_unpack.specs.declared.md5_list.Lines.{Lines}
use Rattle.ffv1_unpack.specs.declared.md5_list.ListFault.{ListFault}
use Rattle.ffv1_unpack.specs.declared.md5_list.ListFault.TheVariants as list_fault

-- what its lines said
abbrev pub listed : {A : Type 0} → Lines A → Listed
listed l = record { number = l.number; stream = l.stream; md5s = l.md5s.items }

-- what it says if these bytes follow
abbrev pub md5s_with : {A : Type 0} → Lines A → List ℕ → Result (List ℕ) ℕ
md5s_with l rest = md5s_in (listed l) (lines_from l.line.items rest)

-- it is refused at a line, for which this stands, or memory was refused
abbrev pub RefusesLine : (ℕ → Type 0) → ListFault → Type 0
RefusesLine At list_fault.Read = ⊥
RefusesLine At list_fault.OutOfMemory = Unit {0}
RefusesLine At (list_fault.Line number) = At number

-- all bytes of it were read, and this is it then
pub record TakesAll {A : Type 0} (old new : Lines A) (input : Passage) : Type 0 where
  pub known : Known input.old input.new (λ text rest.
      (rest ≡ []) × (md5s_with old text ≡ md5s_with new []))
  pub kept : input.after ≡ input.before
