-- The listing: Numbers (decimal text), Writing (a text in a buffer), Listing (the lines, their headings and words).
pub mod Types
pub mod Numbers
pub mod Writing
pub mod Listing
