pub mod Unpruned
