use Rattle.bits.proofs.Held.{put_word}
use Rattle.bits.proofs.set.put.Goals as goal

pub returns-then-c-words : goal.returns-then-c-words
returns-then-c-words c = put_word c.args.words.now c.args.c c.if-c-words.true
