pub mod Digits
pub mod Numbers
