-- The faults that decoding answers, whatever the payload: those of cutting it, of a slice's start,
-- key and head, of a symbol, of a slice that is read too far or does not end, of a colour, and the
-- sink's. A want of memory is none, and a slice that is too long is the encoder's.
use Rattle.std.specs.Prelude.{Bool, true, false}
use Rattle.ffv1_frame.specs.declared.fault.CodecFault.{CodecFault}
use Rattle.ffv1_frame.specs.declared.fault.CodecFault.TheVariants as fault

abbrev pub is_decode_fault : CodecFault → Bool
is_decode_fault fault.OutOfMemory = false
is_decode_fault fault.BadStart = true
is_decode_fault fault.SymbolTooLong = true
is_decode_fault fault.Colour = true
is_decode_fault fault.Overread = true
is_decode_fault fault.Ending = true
is_decode_fault fault.BitsEnd = true
is_decode_fault fault.BadCode = true
is_decode_fault fault.Padding = true
is_decode_fault fault.NotKey = true
is_decode_fault fault.Place = true
is_decode_fault fault.SetIndex = true
is_decode_fault fault.Structure = true
is_decode_fault fault.Aspect = true
is_decode_fault fault.Footer = true
is_decode_fault fault.Leftover = true
is_decode_fault fault.SliceParity = true
is_decode_fault fault.SliceStatus = true
is_decode_fault fault.Overlap = true
is_decode_fault fault.SliceTooLong = false
is_decode_fault fault.InfoDiffers = true
is_decode_fault fault.Sink = true
