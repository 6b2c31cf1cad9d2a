use Rattle.piles.specs.Readings.{interleaved_word}
use Rattle.piles.proofs.reading.is_interleaved.Goals as goal

pub returns : goal.returns
unfolding interleaved_word
returns c = c.is_word.ensures
