-- A chunk of a stream's list.
use Rattle.std.proofs.Common.{◌≡◌, true, codes, sym, []}
use Rattle.ffv1_avi.specs.Streams.{visit_field}
use Rattle.ffv1_avi.specs.Walk.{is_name}
use Rattle.ffv1_reads.proofs.Rooms.{room_answered}
use Rattle.ffv1_avi.specs.declared.stream.Fields.{Fields}
use Rattle.ffv1_avi.specs.Internal.Views.{known_next}
use Rattle.ffv1_avi.proofs.stream.visit_field.Goals as goal

pub returns-then-is_name-clause-answer : goal.returns-then-is_name-clause-answer
unfolding visit_field
returns-then-is_name-clause-answer g c =
    let named : is_name c.args.entry.name (codes "strh") ≡ true = sym c.if-is_name.ensures in
    rw named (c.visit_rates.ensures c.args.config.now.items)

pub returns-then-is_name-clause-grown : goal.returns-then-is_name-clause-grown
returns-then-is_name-clause-grown g c = room_answered (λ (k : Fields). known_next k []) _ _ _
    c.visit_rates.result (c.visit_rates.ensures [])
