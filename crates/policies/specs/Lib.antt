pub mod Shown
pub mod Numbers
pub mod Forests
pub mod Drawings
pub mod Layered
pub mod Relations
