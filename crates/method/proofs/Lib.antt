pub mod Marks  -- sets as marks: what is in them
pub mod Sums  -- sums of symbols over sets and over listed places
pub mod Counts  -- how many are marked, how often a number is listed, how many rows are used for it
pub mod Rows  -- what using a row does to the rows, and what every search keeps
pub mod Loop  -- one step more, a search that has ended, one pivot more
pub mod Run  -- a search keeps it, step by step and to its end
pub mod Codes  -- a code's rows and the rows of a start have the same solutions
pub mod Final  -- what a search has come to at its end, and its solutions
pub mod Tells  -- the answer tells exactly how many codewords agree
pub mod Peeling  -- the pivots are columns named in turn, each where peeling stalls
pub mod Shape  -- symbols steer nothing
pub mod Listings  -- lists of different elements
pub mod Doubling  -- of symbols with two values, the codewords that agree double with each free pivot
pub mod Shortfall  -- the shortfall goes by the missing places alone, and no answer by the policy
pub mod Tops  -- the heaviest active column, and that what the policies name is active
