-- What a quasi-cyclic code means, and what is known of the entries that give one of its rows.
--
--   circulant_matrix   the matrix that its base entries give
use Rattle.codes.specs.Matrix.{Matrix}
use Rattle.quasi_cyclic.specs.Entries.{quasi_cyclic}
use Rattle.quasi_cyclic.specs.declared.circulant.QuasiCyclic.{QuasiCyclic}

abbrev pub circulant_matrix : QuasiCyclic → Matrix
circulant_matrix k = quasi_cyclic k.squares.a k.squares.b k.squares.z k.entries.now
