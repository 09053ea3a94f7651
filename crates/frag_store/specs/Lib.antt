pub mod Spools
