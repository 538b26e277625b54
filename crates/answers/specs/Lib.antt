-- Sizes: what the program has room for. Answering: what is answered and printed for the text of a case.
pub mod Sizes
pub mod Answering
