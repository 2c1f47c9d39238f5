pub mod Results
pub mod Holding
pub mod Standings
pub mod PartLaws
pub mod LeftWorlds
pub mod Numerals
