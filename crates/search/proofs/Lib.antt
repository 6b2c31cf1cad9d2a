pub mod Built  -- a set built by a loop over its numbers
pub mod Added  -- a row added to the rows of a set one after another
pub mod Lowering  -- a tally lowered at the rows of a set one after another
pub mod Rowsets  -- the words of a row and a set: what they share
pub mod Wiped  -- a list whose first elements become zero
pub mod Lines  -- the rows that words and right sides stand for
pub mod Tallies  -- the tally of the rows, where a column leaves the active ones
pub mod Rooms  -- the room of a search, where a column leaves the active ones
pub mod Keeping  -- the rows kept for each column from loading on
pub mod Stepping  -- one step, and steps to the end
pub mod Lowest  -- the lowest place that passes a test, as a loop finds it
pub mod Placing  -- the row used for each column
pub mod Loading  -- a row of a code read column by column
pub mod Filling  -- a table filled place by place
pub mod Beginning  -- a search whose rows are loaded: the method's start
pub mod Ending  -- the state at the end of a search, and what is told of it
pub mod Memory  -- a search in memory that is longer than it needs
pub mod Telling  -- what a whole search leaves, and what its answer tells
