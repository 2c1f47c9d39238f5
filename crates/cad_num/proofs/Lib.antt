pub mod KindRanges
pub mod Outcomes
pub mod ReadTexts
pub mod RoundTrip
pub mod Signs
pub mod Wrapping
pub mod WriteTexts
