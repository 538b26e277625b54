-- The text of a case, before its values: Names, the names of its two tables; Form, its lines and the first two causes.
pub mod Names
pub mod Form
