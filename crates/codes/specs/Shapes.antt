-- The sizes of a code, as one value.
--
--   shape_of      the numbers of rows, columns and ones of a matrix
use Rattle.codes.specs.Matrix.{Matrix, height, ones}
use Rattle.codes.specs.declared.shape.Shape.{Shape}

abbrev pub shape_of : Matrix → Shape
shape_of k = record { rows = height k; columns = k.width; ones = ones k }
