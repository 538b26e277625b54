-- Rolling: what two layers of scratch hold on the way to the first interval.
pub mod Rolling
