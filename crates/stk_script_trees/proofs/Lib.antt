pub mod Digits
pub mod Words
pub mod Printed
pub mod Small
pub mod ReadBack
pub mod Rows
pub mod Parsed
