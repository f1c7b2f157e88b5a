-- Colour, bits and chroma.
use Rattle.std.proofs.Common.{sym}
use Rattle.ffv1_record.proofs.CallsGive.{and_then, handed, stop, gives_required, gives_refused}
use Rattle.ffv1_record.proofs.CallsGive.{gives_done}
use Rattle.ffv1_record.proofs.read.read_planes.Goals as goal

pub returns-in_err-kind-clause-gives : goal.returns-in_err-kind-clause-gives
returns-in_err-kind-clause-gives c = handed c.from_residual.result c.from_residual.ensures.1
    (stop c.in_err-kind.ensures.gives)

pub returns-in_err-depth-clause-gives : goal.returns-in_err-depth-clause-gives
returns-in_err-depth-clause-gives c = handed c.from_residual-in_err-depth.result
    c.from_residual-in_err-depth.ensures.1 (and_then c.in_ok-kind.ensures.gives
    (stop c.in_err-depth.ensures.gives))

pub returns-in_err-log2_h-clause-gives : goal.returns-in_err-log2_h-clause-gives
returns-in_err-log2_h-clause-gives c =
    handed c.from_residual-in_err-log2_h.result c.from_residual-in_err-log2_h.ensures.1
    (and_then c.in_ok-kind.ensures.gives (and_then c.in_ok-depth.ensures.gives
    (and_then c.truth-chroma_planes.ensures (stop c.in_err-log2_h.ensures.gives))))

pub returns-in_err-log2_v-clause-gives : goal.returns-in_err-log2_v-clause-gives
returns-in_err-log2_v-clause-gives c =
    handed c.from_residual-in_err-log2_v.result c.from_residual-in_err-log2_v.ensures.1
    (and_then c.in_ok-kind.ensures.gives (and_then c.in_ok-depth.ensures.gives
    (and_then c.truth-chroma_planes.ensures
    (and_then c.in_ok-log2_h.ensures.gives (stop c.in_err-log2_v.ensures.gives)))))

pub returns-then-not-suits-clause-gives : goal.returns-then-not-suits-clause-gives
returns-then-not-suits-clause-gives c =
    and_then c.in_ok-kind.ensures.gives (and_then c.in_ok-depth.ensures.gives
    (and_then c.truth-chroma_planes.ensures
    (and_then c.in_ok-log2_h.ensures.gives (and_then c.in_ok-log2_v.ensures.gives
    (and_then c.truth-extra_plane.ensures (gives_refused _ _ _ _ _ _
    (sym c.if-not-suits.ensures)))))))

pub returns-clause-gives : goal.returns-clause-gives
returns-clause-gives c =
    and_then c.in_ok-kind.ensures.gives (and_then c.in_ok-depth.ensures.gives
    (and_then c.truth-chroma_planes.ensures
    (and_then c.in_ok-log2_h.ensures.gives (and_then c.in_ok-log2_v.ensures.gives
    (and_then c.truth-extra_plane.ensures (gives_required _ _ _ _ _ _ _ (sym c.if-not-suits.ensures)
    (rw c.colour_of-colour.ensures (gives_done _ _ _))))))))
