pub mod Names
pub mod Contexts
pub mod StreamFacts
pub mod StreamInfo
pub mod Info
pub mod Internal
