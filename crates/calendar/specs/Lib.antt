-- Dates: which dates exist, the day after one, the day of the week. Tables: the days before each month, written out. Clock: the clock hours
-- of a day, and of the hours from a date's midnight on. Months: the month of an interval, and where a month begins. Words: a word of permitted hours.
pub mod Dates
pub mod Tables
pub mod Clock
pub mod Months
pub mod Words
