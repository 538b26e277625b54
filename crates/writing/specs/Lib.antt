-- Writing: the text that a writer of the format makes. AsWritten: what it is that a text is read as the figures written in it.
pub mod Writing
pub mod AsWritten
