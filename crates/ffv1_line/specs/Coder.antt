-- A range coder with the states that it codes by.
use Rattle.std.specs.Prelude.{ℕ, List}
use Rattle.ffv1_range.specs.Reading.{Reading}
use Rattle.ffv1_range.specs.Writing.{Writing}

-- a decoder and its states
pub record Decoder : Type 0 where
  pub reading : Reading
  pub states : List ℕ

-- an encoder and its states
pub record Encoder : Type 0 where
  pub writing : Writing
  pub states : List ℕ

abbrev pub decoder_by : Reading → List ℕ → Decoder
decoder_by reading states = record { reading = reading; states = states }

abbrev pub encoder_by : Writing → List ℕ → Encoder
encoder_by writing states = record { writing = writing; states = states }
