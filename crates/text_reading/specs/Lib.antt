pub mod Order
pub mod Checks
pub mod Faults
pub mod Runs
pub mod Quoted
pub mod Lexing
pub mod Grammars
pub mod Machines
