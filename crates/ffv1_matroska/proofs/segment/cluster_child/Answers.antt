-- An element of a Cluster, of so many bytes, after its header.
use Rattle.std.proofs.Common.{◌≡◌, ◌∙◌, true, nat_le, sym}
use Rattle.std.proofs.lemmas.Bool.{leb-true}
use Rattle.ffv1_matroska.specs.Segments.{is_beside}
use Rattle.ffv1_matroska.proofs.segment.cluster_child.Goals as goal

pub read_timestamp-requires : goal.read_timestamp-requires
unfolding is_beside
read_timestamp-requires g c =
    let beside : is_beside c.args.element.0 c.args.element.1 ≡ true =
    sym c.is_beside.ensures ∙ c.if-not-is_beside.false in
    let few : nat_le c.args.element.1 8 ≡ true = rw c.if-ident-eq-TIMESTAMP.true at beside in
    leb-true _ _ few
