pub mod Laws
mod Pairs
mod Progress
mod Taken
