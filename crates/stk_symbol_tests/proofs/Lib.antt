mod Chained
mod Rooms
