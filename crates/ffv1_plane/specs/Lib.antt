pub mod Context
pub mod Early
pub mod Lanes
pub mod Prediction
pub mod Quantisation
pub mod Raised
pub mod Residual
pub mod Wide
