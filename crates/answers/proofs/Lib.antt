-- Found: what is found of a text, in turn, and what it says that a text passed. Printing: what the parts of an answer print, put together.
pub mod Found
pub mod Printing
