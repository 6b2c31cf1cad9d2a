use Rattle.bits.proofs.Held.{flip_if_word}
use Rattle.bits.proofs.set.flip_if.Goals as goal

pub returns-then-c-words : goal.returns-then-c-words
returns-then-c-words c = flip_if_word c.args.words.now c.args.c c.if-c-words.true c.args.on c.from.result c.from.ensures
