-- Tasks: prices, a cell to start from and an end, and what solving them gives. Reaching: plans up to a layer that stands.
pub mod Types
pub mod Tasks
pub mod Reaching
