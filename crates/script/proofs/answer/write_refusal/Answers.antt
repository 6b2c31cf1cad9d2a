use Rattle.std.proofs.Common.{◌≡◌, ◌++◌, codes, decimal, append-nil, rules}
use Rattle.refusals.specs.Refusals.{value_of}
use Rattle.packets.specs.Faults.{meaning}
use Rattle.packets.specs.declared.fault.HeaderFault.{HeaderFault}
use Rattle.packets.specs.declared.fault.HeaderFault.TheVariants.{Length, Block, Number}
use Rattle.script.specs.Answers.{refused_text}
use Rattle.script.proofs.answer.write_refusal.Goals as goal

-- each fault of a packet has one value
one_value : (f : HeaderFault) → refused_text (meaning f) ≡ codes " refused " ++ (decimal (meaning f).number ++ (codes " " ++ decimal (value_of (meaning f))))
one_value (Length n) = simp append-nil
one_value (Block b) = simp append-nil
one_value (Number p) = simp append-nil

pub returns : goal.returns
returns g c = rw (one_value c.args.fault) (search rules)
