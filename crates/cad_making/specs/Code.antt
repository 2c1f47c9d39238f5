pub mod Calls
pub mod Cases
pub mod Ends
pub mod Events
pub mod Fields
pub mod Results
