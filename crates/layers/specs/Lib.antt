-- Filling: the last layer, and the layers before it.
pub mod Filling
