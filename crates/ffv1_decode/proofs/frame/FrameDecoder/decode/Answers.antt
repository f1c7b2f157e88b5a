-- Decodes a frame (RFC 9043, 4.4 to 4.9), and answers what its slices say of the picture.
use Rattle.std.proofs.Common.{arith, ◌∙◌, ap, subst}
use Rattle.ffv1_record.specs.Accepted.{Accepted, IsAccepted}
use Rattle.ffv1_record.specs.Held.{held_of}
use Rattle.ffv1_frame.specs.Answer.{Decoder}
use Rattle.ffv1_decode.proofs.frame.FrameDecoder.decode.Given.{Over}
use Rattle.ffv1_decode.proofs.frame.FrameDecoder.decode.Goals.{After-table-table}
use Rattle.ffv1_decode.proofs.frame.FrameDecoder.decode.Goals as goal

-- the configuration that is held is accepted
accepted : (g : Over) (c : After-table-table g) → IsAccepted
    c.args.self.now.accepted.configuration c.args.self.now.accepted.table
accepted g c = subst (λ (x : Accepted). IsAccepted x.configuration x.table)
    (ap (λ (x : Decoder). x.accepted) c.self.view_is) c.table-table.ensures.accepted

pub returns-clause-headline : goal.returns-clause-headline
returns-clause-headline g c =
    let a = c.args.self.now.accepted in
    let accepted = accepted g (goal.at.returns-clause-headline g c).After-table-table in
    let holds = c.decode_held.ensures.holds ∙ ap (λ (x : Decoder). held_of x.accepted.configuration)
    c.decode_held.ensures.same in
    c.headline_holds_for_each_answer.ensures a c.args.payload.now c.args.sink.now
    c.decode_held.new.sink c.decode_held.result c.decode_held.new.self.tally
    c.decode_held.new.self.held
    accepted (λ k. omega (arith, c.type_inv.payload k))
    (λ planes info picture said. c.frame_length_follows_from_residuals.ensures.most a planes
    info accepted said) c.decode_held.ensures.exact holds

pub returns-clause-damaged : goal.returns-clause-damaged
returns-clause-damaged g c sent spans slice is =
    c.damage_is_found_by_parity.ensures c.args.self.now.accepted sent c.args.payload.now spans slice
    c.args.sink.now c.decode_held.new.sink c.decode_held.new.self.tally c.decode_held.result
    is.bytes (λ k. omega (arith, c.type_inv.payload k)) is.good is.burst c.decode_held.ensures.exact

pub returns-clause-burst : goal.returns-clause-burst
returns-clause-burst g c sent is =
    c.damage_anywhere_is_refused.ensures c.args.self.now.accepted sent c.args.payload.now
    c.args.sink.now c.decode_held.new.sink c.decode_held.new.self.tally c.decode_held.result
    (λ k. omega (arith, c.type_inv.payload k)) is c.decode_held.ensures.exact

pub returns-clause-cost : goal.returns-clause-cost
returns-clause-cost g c =
    c.frame_cost_is_near_its_weight.ensures.answer c.args.self.now.accepted c.args.payload.now
    c.args.sink.now c.decode_held.new.sink c.decode_held.new.self.tally c.decode_held.result
    (accepted g (goal.at.returns-clause-cost g c).After-table-table) c.decode_held.ensures.exact

pub returns-clause-handed : goal.returns-clause-handed
returns-clause-handed g c =
    c.sink_is_handed_only_coded_lines.ensures c.args.self.now.accepted c.args.payload.now
    c.args.sink.now c.decode_held.new.sink c.decode_held.new.self.tally c.decode_held.result
    (accepted g (goal.at.returns-clause-handed g c).After-table-table) c.decode_held.ensures.exact
