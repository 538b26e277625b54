-- Writing: a text put into a buffer. Numbers and Signed: decimal text. Words: the hour word. Lines: a schedule's lines.
-- Lengths and Fitting: whether a listing fits.
pub mod Writing
pub mod Numbers
pub mod Signed
pub mod Words
pub mod Lines
pub mod Lengths
pub mod Fitting
