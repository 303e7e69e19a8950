pub mod Tables
pub mod Comparing
