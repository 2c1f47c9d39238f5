pub mod WholePaths
