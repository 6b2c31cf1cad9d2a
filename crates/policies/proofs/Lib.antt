pub mod Marks  -- a number put into a set, or taken out; the lowest one
pub mod Taking  -- the numbers of a set taken out one after another
pub mod Tops  -- the heaviest active column below n
pub mod Folded  -- the heaviest of the active columns, by a fold over the numbers below the width
pub mod Weights  -- the weights of the columns, counted row by row and column by column
pub mod Trees  -- forests: a column pointed further up, and two roots joined
pub mod Labels  -- the labels that pairs give to columns, and the pairs that rows give
pub mod Sizes  -- the active columns of each label, counted as the forest is flattened
pub mod Edges  -- the pairs that rows give are the edges
pub mod Components  -- columns have one label exactly where edges join them
pub mod Leading  -- what the policies name is heavy, and leads a component
pub mod Firsts  -- the pair of a list, read off the first items of an iterator
