mod DeploymentParts
pub mod Entering
pub mod Keeping
pub mod ScriptRuns
pub mod Staging
pub mod ToldValues
