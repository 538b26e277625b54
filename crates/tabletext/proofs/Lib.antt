-- Laws: Classes (when two are one), Alike (strings of bytes), Digits (numerals), Ends (where a piece ends), Cuts (the first piece, and the others),
-- Chains (walks as chains of iterators), Walks (what a walk finds), Groups (a table of names).
pub mod Classes
pub mod Chains
pub mod Alike
pub mod Ends
pub mod Digits
pub mod Cuts
pub mod Walks
pub mod Groups
