-- The layer behind, one interval earlier, and from there to the front.
pub mod Rolling
