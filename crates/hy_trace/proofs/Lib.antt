mod Taken
mod Lasting
mod Shown
mod Written
mod Ahead
mod Loops
mod Examples
