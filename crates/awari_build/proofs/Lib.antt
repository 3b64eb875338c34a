mod Gains
mod OnePart
