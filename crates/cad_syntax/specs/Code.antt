pub mod TypeIds
