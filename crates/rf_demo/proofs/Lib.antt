mod Counts
mod Draws
