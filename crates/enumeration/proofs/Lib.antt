-- Lists: outputs by their numbers. Fillings: cells by their places. Lengths: as many as there is space for.
pub mod Lists
pub mod Fillings
pub mod Lengths
