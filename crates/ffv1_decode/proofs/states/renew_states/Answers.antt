-- Makes the states of a row of slices fresh.
use Rattle.std.proofs.Common.{◌≡◌, ◌*◌, sym, ◌∙◌, arith, length}
use Rattle.std.proofs.lemmas.Grind.{common_steps}
use Rattle.ffv1_record.specs.Held.{classes_of}
use Rattle.ffv1_record.specs.Sets.{most_contexts}
use Rattle.ffv1_frame.specs.SliceList.{bits_of}
use Rattle.ffv1_frame.proofs.lemmas.Coders.{by_range, by_rice, not_both_coders}
use Rattle.ffv1_decode.proofs.lemmas.states.LeftStates.{all_of, bits_least}
use Rattle.ffv1_decode.proofs.states.renew_states.Goals as goal

pub returns-then-is_rice-clause-range : goal.returns-then-is_rice-clause-range
returns-then-is_rice-clause-range g c = λ range.
    absurd (not_both_coders (sym c.if-is_rice.ensures) range)

pub returns-then-is_rice-clause-rice : goal.returns-then-is_rice-clause-rice
returns-then-is_rice-clause-rice g c = λ rice. record { each = c.reset.ensures.fresh }

pub returns-then-is_rice-clause-kept : goal.returns-then-is_rice-clause-kept
returns-then-is_rice-clause-kept g c =
    let conf = c.args.frame.now.checked.now.configuration in
    let is = sym c.if-is_rice.ensures in
    let contexts = conf.columns * (classes_of conf.chroma_planes conf.extra_plane
    * most_contexts conf.sets) in
    let room : length c.reset.new.states ≡ contexts * 32 =
    c.reset.auto.states ∙ c.requires.room ∙ omega arith in
    let least = bits_least conf (c.accepted_configuration_has_sound_parts.ensures.rice conf
    c.args.frame.now.checked.now.table c.requires.frame.accepted) is in
    by_rice is (all_of (bits_of conf) contexts c.reset.new.states room
    (c.reset.ensures.states (bits_of conf) contexts least room))

pub returns-clause-rice : goal.returns-clause-rice
returns-clause-rice g c = λ rice.
    absurd (not_both_coders rice (sym c.if-is_rice.ensures))

pub returns-clause-kept : goal.returns-clause-kept
returns-clause-kept g c =
    by_range (sym c.if-is_rice.ensures) (grind (arith, common_steps))
