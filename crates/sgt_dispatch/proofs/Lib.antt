mod Subsequences
mod Sums
mod Steps
