-- Turns: one interval from a cell. Ladders: its outputs. Stretches: what a pass over a stretch makes of it.
pub mod Turns
pub mod Ladders
pub mod Stretches
