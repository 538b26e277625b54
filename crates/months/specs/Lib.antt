-- Capping: what a month may spend, and what lies above it. Chaining: the layer of a month by that of the next. Annual: all months of a horizon.
-- Planning: the plan of a year, month by month. Ending: the layer of a month by the states at its end.
pub mod Capping
pub mod Chaining
pub mod Annual
pub mod Planning
pub mod Ending
