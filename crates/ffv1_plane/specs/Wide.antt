-- The samples around a sample, of more than 16 bits.
use Rattle.ffv1_plane.specs.declared.prediction.Around.{Around}
use Rattle.ffv1_plane.specs.declared.wide.WideAround.{WideAround}

-- the same numbers
abbrev pub around_of : WideAround → Around
around_of a = record { l = a.l; t = a.t; tl = a.tl; tr = a.tr; ll = a.ll; tt = a.tt }
