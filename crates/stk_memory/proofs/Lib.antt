pub mod Cells
pub mod KindNumbers
pub mod SeenAddresses
