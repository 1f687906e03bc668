-- Lemmas.
mod Kept
