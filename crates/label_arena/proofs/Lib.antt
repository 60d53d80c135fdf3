pub mod Lists
pub mod Numbers
pub mod Grouping
pub mod Ending
pub mod Sorting
pub mod Inserting
pub mod Keeping
pub mod Nearest
