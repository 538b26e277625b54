-- What is answered. Lists: the lists of outputs, by their numbers. Dates: the days on which time changes. Draws and Cases: what is generated. Lengths and
-- Fillings: the scratch lent. Expecting: what the enumerator's answers mean. Counting: the tally. Limits: a value for each limitation. Refusals: their
-- numbers.
pub mod Lists
pub mod Dates
pub mod Draws
pub mod Cases
pub mod Lengths
pub mod Fillings
pub mod Limits
pub mod Refusals
pub mod Expecting
pub mod Counting
