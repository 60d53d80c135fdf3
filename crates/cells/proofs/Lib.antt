pub mod FirstLemmas
pub mod KeyLemmas
pub mod Lists
pub mod Placing
pub mod ShapeLemmas
