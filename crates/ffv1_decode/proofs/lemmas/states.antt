pub mod LeftStates
