pub mod Standing
pub mod Near
pub mod Lists
pub mod Technology
pub mod Strokes
pub mod Stating
pub mod Again
