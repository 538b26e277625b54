-- Linear: linear facts by omega. Order: the tests of order. Maximum: the larger of two. Ranges: sums that stay within bounds. BelowZero: how
-- large a number below zero is. Capped: products of sizes that may be given up.
pub mod Linear
pub mod Order
pub mod Maximum
pub mod Ranges
pub mod BelowZero
pub mod Capped
