-- From stores (Stretches, Segments) to rows (Carrying, Sweeping, Ladders, Windows, Passes), and one interval of a cell (Raising, Turning).
pub mod Stretches
pub mod Segments
pub mod Raising
pub mod Turning
pub mod Ladders
pub mod Carrying
pub mod Sweeping
pub mod Windows
pub mod Passes
