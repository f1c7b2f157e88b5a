-- With parity, a payload that differs from a good one within 32 neighbouring bits, wherever these
-- lie, is refused when it is cut into slices, before any line and any decision.
use Rattle.std.proofs.Common.{◌≡◌, ℕ, List, Result, Ok, Err, true, sym, ◌∙◌}
use Rattle.ffv1_range.specs.Codes.{AreBytes}
use Rattle.ffv1_record.specs.Accepted.{Accepted}
use Rattle.ffv1_record.specs.Configuration.{Configuration}
use Rattle.ffv1_record.specs.Parity.{remainder_of}
use Rattle.ffv1_slice.specs.Cutting.{Cuts, CutsTo, IsRefused}
use Rattle.ffv1_slice.specs.declared.cutting.CutFault.{CutFault}
use Rattle.ffv1_range.specs.declared.tally.Tally.{Tally}
use Rattle.ffv1_wire.specs.Runs.{LineStep}
use Rattle.ffv1_frame.specs.declared.fault.FrameFault.{FrameFault}
use Rattle.ffv1_frame.specs.Answer.{AnswersCut, cut_fault, no_tally}
use Rattle.ffv1_frame.specs.SliceList.{Said}
use Rattle.ffv1_frame.specs.Damage.{HasBurst}
use Rattle.ffv1_frame.proofs.lemmas.laws.answer.Damaged.{Burst}
use Rattle.ffv1_frame.proofs.laws.answer.damage_anywhere_is_refused.Goals as goal

abbrev SoundWhole : Type 0
SoundWhole = (c : Configuration) (payload : List ℕ) (spans : ℕ → ℕ) → AreBytes payload → c.ec ≡ true
    → Cuts c payload spans → remainder_of payload ≡ 0

not_cut : Burst → SoundWhole → (a : Accepted) (sent payload : List ℕ) (os : List ℕ) →
    AreBytes payload → HasBurst a sent payload → CutsTo a.configuration payload (Ok os) → ⊥
not_cut burst sound a sent payload os are damage cut =
    let of_sent = sound a.configuration sent damage.spans damage.bytes damage.guarded damage.good in
    let of_payload = sound a.configuration payload _ are damage.guarded cut.1 in
    burst sent payload damage.bits damage.place damage.bytes are (sym damage.long) damage.some
    damage.few damage.differs (of_sent ∙ sym of_payload)

told : Burst → SoundWhole → {S : Type 0} (takes refuses : LineStep S) (a : Accepted)
    (sent payload : List ℕ) (old new : S) (tally : Tally) (result : Result Said FrameFault) →
    AreBytes payload → HasBurst a sent payload → (cut : Result (List ℕ) CutFault) →
    CutsTo a.configuration payload cut →
    AnswersCut takes refuses a payload old new tally result cut →
    (f : CutFault) × IsRefused a.configuration payload f × (result ≡ Err (cut_fault f))
    × (tally ≡ no_tally) × (new ≡ old)
told burst sound takes refuses a sent payload old new tally result are damage (Ok os) cut answer =
    absurd (not_cut burst sound a sent payload os are damage cut)
told burst sound takes refuses a sent payload old new tally result are damage (Err f) cut answer =
    (f, cut, answer.0, answer.1, answer.2)

pub returns : goal.returns
returns g c = λ a sent payload old new tally result are damage answer.
    told c.bursts_change_the_remainder.ensures
    c.payload_of_sound_slices_has_remainder_zero.ensures g.S.LineSink.takes g.S.LineSink.refuses a
    sent payload old new tally result are damage answer.cut answer.cuts answer.answer
