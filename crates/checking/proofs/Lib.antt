-- Laws: Clocks (what it says that a date and an interval pass, an hour for each of so many intervals, and that each is what the call for
-- its interval answers).
pub mod Clocks
