-- Pairs: values with their marks. Picking: the first of the best outputs, with its mark. Images: an interval on, for the places of a line.
pub mod Pairs
pub mod Picking
pub mod Images
