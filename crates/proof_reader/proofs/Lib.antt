mod Ascending
mod Moved
