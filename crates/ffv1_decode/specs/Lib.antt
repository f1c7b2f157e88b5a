pub mod OwnFaults
pub mod Filled
pub mod Internal
