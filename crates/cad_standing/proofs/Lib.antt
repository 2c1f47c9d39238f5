pub mod CastLabels
pub mod CastLaws
mod CastSteps
mod Composing
mod ElementLaws
mod FieldLaws
mod NilLaws
mod Owned
mod ReceiverLaws
mod ReferenceLaws
mod Settled
mod TakeLaws
