-- Which faults are the decoder's own, and how often a sink refused a line.
use Rattle.std.specs.Prelude.{◌≡◌, ◌≢◌, ◌⊎◌, ℕ, MatchResult, Result}
use Rattle.ffv1_wire.specs.Failures.{one_more}
use Rattle.ffv1_frame.specs.declared.fault.CodecFault.TheVariants as fault
use Rattle.ffv1_frame.specs.declared.fault.FrameFault.{FrameFault}

-- a fault that is not the sink's
abbrev pub IsOwn : FrameFault → Type 0
IsOwn f = f.fault ≢ fault.Sink

-- the sink counted a refusal exactly if the answer is its fault
abbrev pub CountsSink : {A : Type 0} → ℕ → ℕ → Result A FrameFault → Type 0
CountsSink old new result =
    MatchResult result (λ _. new ≡ old)
    (λ f. ((f.fault ≡ fault.Sink) × (new ≡ one_more old)) ⊎ (IsOwn f × (new ≡ old)))
