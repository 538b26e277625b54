-- Laws: Checking (the causes, the answer and the slice).
pub mod Checking
