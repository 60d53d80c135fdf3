pub mod Bag
