mod Steps
mod Stepping
mod TailLines
