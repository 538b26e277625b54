-- Ranges: what the check says. Sizes: how large the products get. Steps: an open segment and the next. Curve: the laws of the final curve.
-- Answers: where they hold of what was answered. Passes: the pass that makes it. Cases: the request's examples.
pub mod Ranges
pub mod Sizes
pub mod Steps
pub mod Curve
pub mod Answers
pub mod Passes
pub mod Cases
