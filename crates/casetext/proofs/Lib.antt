-- Laws: Ends, the last byte of a text and a line of it.
pub mod Ends
