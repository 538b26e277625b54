-- Maximum: the larger of two integers. Capped: a size that is given up beyond a most.
pub mod Maximum
pub mod Capped
