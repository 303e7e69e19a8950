pub mod Parts
pub mod RowSound
pub mod RowExact
pub mod RowCopied
