-- Making: a layer from the next one. Filling and Lending: the table. Between: some of the quarters.
pub mod Making
pub mod Filling
pub mod Between
mod Lending
