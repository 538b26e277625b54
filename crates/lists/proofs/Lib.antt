-- Laws: Conjunctions (of booleans), Every (a test of every element, and a loop that makes it), Fills (slices filled or lent in part).
pub mod Conjunctions
pub mod Every
pub mod Fills
