mod Ordered
mod Searching
mod Covering
