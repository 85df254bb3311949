pub mod Words
pub mod Sets
pub mod Numbers
pub mod Zero
pub mod Lift
pub mod Facts
pub mod Runs
