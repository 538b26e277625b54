-- Places: the numbers of the cells. Sizes: how many there can be. Widths: they are the specification's. Holding and Telling: what a number says.
pub mod Places
pub mod Sizes
pub mod Widths
pub mod Holding
pub mod Telling
