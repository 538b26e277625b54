-- The text of a table, one topic a file: Bytes, Pieces (lines and fields), Values (what a field holds), Tables (lines and names).
-- Places holds what the walking code goes by, and is no part of the format.
pub mod Bytes
pub mod Pieces
pub mod Values
pub mod Tables
pub mod Places
