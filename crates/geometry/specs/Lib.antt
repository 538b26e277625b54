-- Geometry: where a cell stands. Layers: what its number says, and when a table is filled.
pub mod Geometry
pub mod Layers
