-- Laws: Checks (a test computed for every number below a bound), Tables (the tables of days before each month are right, and dates exist by
-- them), Dates (a date that exists, the days after it, the number of a day), Changes (the days on which time changes, by their numbers), Days (the
-- clock hours of a day, and the day and its hour when so many hours have passed), Running (the clock runs as the days do), Months (an interval's
-- month, and where months begin), Words (the count of ones of a word of permitted hours), Cases (worked cases, computed).
pub mod Checks
pub mod Tables
pub mod Dates
pub mod Changes
pub mod Days
pub mod Running
pub mod Months
pub mod Words
pub mod Cases
