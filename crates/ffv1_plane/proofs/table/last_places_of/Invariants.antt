use Rattle.std.proofs.Common.{◌≡◌, take, sum}
use Rattle.ffv1_plane.proofs.LastPlaces.{AreLastPlacesBelow}
use Rattle.ffv1_plane.proofs.table.last_places_of.Given as goal

abbrev pub invariant-loop-k : goal.invariant-loop-k
invariant-loop-k l = record {
  ends : l.end ≡ sum (take l.k l.fn.runs);
  so_far : AreLastPlacesBelow l.fn.runs l.last_places l.k;
}
