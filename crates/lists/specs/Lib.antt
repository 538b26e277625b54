-- What is said of lists: Every, a test of each element; Text, a quoted text as its bytes.
pub mod Every
pub mod Text
