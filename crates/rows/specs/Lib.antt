pub mod Sums
pub mod Copies
pub mod Claims
pub mod Numbers
pub mod Reading
