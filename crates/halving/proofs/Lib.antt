-- Ends: the layer after the last interval. Parts: some of the quarters, and a part of the schedule. Boxes: a cell's own budgets. Joining: both halves. Reaching: a plan up to a layer that stands.
pub mod Ends
pub mod Parts
pub mod Boxes
pub mod Joining
pub mod Reaching
