pub mod Ring
pub mod Roundings
pub mod Machine
