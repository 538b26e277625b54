-- Clock: the clock hour of an interval and those of the first intervals, as calls of their own.
pub mod Types
pub mod Clock
