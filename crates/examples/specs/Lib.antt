pub mod Notation
pub mod Worked
pub mod Mistaken
pub mod Telling
