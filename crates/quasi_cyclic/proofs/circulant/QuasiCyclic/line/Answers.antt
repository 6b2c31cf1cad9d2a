use Rattle.std.proofs.Common.{arith}
use Rattle.quasi_cyclic.proofs.LineLaws.{within, no_line, the_line}
use Rattle.quasi_cyclic.proofs.circulant.QuasiCyclic.line.Goals as goal

pub returns-then-r-a : goal.returns-then-r-a
returns-then-r-a c = no_line c.args.self.now c.args.r c.if-r-a.true

pub overflow_mul-first : goal.overflow_mul-first
overflow_mul-first c = let w = within c.args.self.now c.args.r c.if-r-a.false in omega (arith, w.0, w.1)

pub overflow_add-end : goal.overflow_add-end
overflow_add-end c = let w = within c.args.self.now c.args.r c.if-r-a.false in omega (arith, w.0, w.1)

pub offset_bounds-self-first : goal.offset_bounds-self-first
offset_bounds-self-first c = let w = within c.args.self.now c.args.r c.if-r-a.false in omega (arith, w.0, w.1)

pub slice_bounds-result-end-2 : goal.slice_bounds-result-end-2
slice_bounds-result-end-2 c = let w = within c.args.self.now c.args.r c.if-r-a.false in omega (arith, w.0, w.1)

pub returns : goal.returns
returns c = the_line c.args.self.now c.args.r _ (omega arith) c.if-r-a.false
