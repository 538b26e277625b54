-- What is read off the layers.
pub mod Reading
