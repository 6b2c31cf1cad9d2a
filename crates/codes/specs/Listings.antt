-- What a listed code means.
--
--   listed_matrix    the matrix that its records give
use Rattle.codes.specs.Matrix.{Matrix}
use Rattle.codes.specs.Records.{listed}
use Rattle.codes.specs.declared.listed.Listed.{Listed}

abbrev pub listed_matrix : Listed → Matrix
listed_matrix k = listed k.m k.n k.records.now
