-- What is found in memory, apart from where it lies.
use Rattle.std.specs.Prelude.{ℕ, List, Option, Some, None, Result, Ok, Err}
use Rattle.std.specs.Borrow.{Bor}
use Rattle.ffv1_reads.specs.declared.fault.FileFault.{FileFault}
use Rattle.ffv1_ebml.specs.declared.content.Child.{Child}
use Rattle.ffv1_ebml.specs.Contents.{Found, Part}

abbrev pub part_of : Child → Part
part_of c = record { ident = c.ident; content = c.content.now; rest = c.rest.now }

abbrev pub parts : Result (Option Child) FileFault → Result (Option Part) FileFault
parts (Ok (Some c)) = Ok (Some (part_of c))
parts (Ok None) = Ok None
parts (Err f) = Err f

abbrev pub slices : Result (Option (Bor (List ℕ))) FileFault → Found
slices (Ok (Some s)) = Ok (Some s.now)
slices (Ok None) = Ok None
slices (Err f) = Err f
