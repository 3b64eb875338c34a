mod Showing
mod Outcomes
