-- Planning, Valuing and Reporting: the answer of each call and what it leaves. Models: what the functions behind them ask.
pub mod Types
pub mod Planning
pub mod Valuing
pub mod Reporting
pub mod Models
