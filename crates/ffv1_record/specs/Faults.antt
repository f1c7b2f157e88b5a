-- What a fault of a crate below is here.
use Rattle.ffv1_range.specs.declared.fault.Fault.{Fault as RangeFault}
use Rattle.ffv1_range.specs.declared.fault.Fault.TheVariants as range_fault
use Rattle.ffv1_plane.specs.declared.fault.Fault.{Fault as PlaneFault}
use Rattle.ffv1_plane.specs.declared.fault.Fault.TheVariants as plane_fault
use Rattle.ffv1_record.specs.declared.fault.RecordFault.{RecordFault}
use Rattle.ffv1_record.specs.declared.fault.RecordFault.TheVariants as fault

abbrev pub of_range : RangeFault → RecordFault
of_range range_fault.StateTable = fault.StateTable
of_range range_fault.OutOfMemory = fault.OutOfMemory
of_range range_fault.BadStart = fault.BadStart
of_range range_fault.SymbolTooLong = fault.SymbolTooLong

abbrev pub of_plane : PlaneFault → RecordFault
of_plane plane_fault.OutOfMemory = fault.OutOfMemory
of_plane plane_fault.Runs = fault.Runs
of_plane plane_fault.Contexts = fault.Contexts
