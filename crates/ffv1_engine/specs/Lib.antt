pub mod RoundTrip
pub mod MatroskaRoundTrip
