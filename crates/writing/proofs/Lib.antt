-- What is read is what is written: Places (the value under a name), Sequences and Groups (names in any sequence, groups whole or not at all),
-- Permits (the permit that they tell), AsWritten (a text that is read).
-- What is written is read: Numbers and Pieces (numbers, fields and lines back), Back (the whole text). Examples: C1, and damaged texts.
pub mod Places
pub mod Sequences
pub mod Groups
pub mod Permits
pub mod AsWritten
pub mod Pieces
pub mod Numbers
pub mod Back
pub mod Examples
