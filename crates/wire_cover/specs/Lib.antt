pub mod GoodStrokes
