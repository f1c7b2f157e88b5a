-- Steps through what lists the tracks, and chunks, apart from where they lie.
use Rattle.std.specs.Prelude.{ℕ, List, Option, Some, None}
use Rattle.std.specs.Borrow.{Bor}
use Rattle.ffv1_outline.specs.declared.avi_outline.Chunk.{Chunk}
use Rattle.ffv1_outline.specs.declared.tracks.Step.{Step}
use Rattle.ffv1_outline.specs.AviOutline as avi
use Rattle.ffv1_outline.specs.Tracks as tracks

abbrev pub slices : Option (Bor (List ℕ)) → Option (List ℕ)
slices (Some s) = Some s.now
slices None = None

abbrev pub steps : Option Step → Option tracks.Step
steps (Some s) = Some (record { track = slices s.track; rest = s.rest.now })
steps None = None

abbrev pub chunks : Option Chunk → Option avi.Chunk
chunks (Some c) =
    Some (record { name = c.name.now; content = c.content.now; rest = c.rest.now })
chunks None = None
