mod Grows
mod Serves
mod Longer
