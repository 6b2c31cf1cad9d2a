use Rattle.std.proofs.Common.{◌+◌, length, arith}
use Rattle.bits.specs.Sets.{holds}
use Rattle.bits.proofs.Ones.{map_like}
use Rattle.search.specs.Rows.{holding}
use Rattle.search.proofs.elimination.Elimination.holders.Goals as goal

pub returns : goal.returns
returns g c =
    let e = c.args.self.now in
    map_like (holds c.holders.result) (holding e.words.now c.args.c) 0 0 (length e.sides.now) (λ r h. c.holders.ensures (0 + r) (omega (arith, e.few)))
