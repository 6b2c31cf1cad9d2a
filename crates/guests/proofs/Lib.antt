pub mod Questions  -- what a row of every column answers
pub mod Hearing  -- the bytes heard, handed to a block one after another
pub mod Fitting  -- from the promise over all histories to the answer
pub mod Lost  -- one byte that is lost is the sum of the others
