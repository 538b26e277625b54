-- Picking: outputs picked one after another. Steps: what is gained from step to step. Storing: pairs of value and mark, place by place. Climbing,
-- Descending: up and down the sources of a line. Chunks: a piece of it.
pub mod Picking
pub mod Steps
pub mod Storing
pub mod Climbing
pub mod Descending
pub mod Chunks
