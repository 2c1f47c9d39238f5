mod Places
mod Parts
mod Stripped
pub mod CopyLaws
mod TransferLaws
mod WayLaws
mod ExchangeLaws
mod OnlyOne
mod FarLaws
