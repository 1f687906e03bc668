-- Lemmas.
pub mod Plain
pub mod Leaves
pub mod Spelling
