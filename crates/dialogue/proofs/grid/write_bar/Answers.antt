use Rattle.std.proofs.Common.{◌≡◌, ℕ, ◌+◌, ◌-◌, ◌≤◌, ◌∷◌, [], ◌++◌, replicate, arith, rules}
use Rattle.std.proofs.Output.{has_written_append, has_written_of_eq}
use Rattle.std.proofs.lemmas.Grind.{common_steps}
use Rattle.dialogue.proofs.grid.write_bar.Goals as goal

one_more : (full k : ℕ) → full ≤ k → ◌++◌ {A = ℕ} (◌++◌ {A = ℕ} (replicate full 35) (replicate (k - full) 46)) (46 ∷ []) ≡ ◌++◌ {A = ℕ} (replicate full 35) (replicate (k + 1 - full) 46)
one_more full k at = let more : k + 1 - full ≡ k - full + 1 = omega arith in grind (arith, common_steps)

pub loop-2-preserved : goal.loop-2-preserved
loop-2-preserved g c =
    let next = one_more c.args.full c.loop-2.counter c.loop-2.auto.counter in
    record {
      no_more = omega arith;
      written = λ plain. has_written_of_eq _ _ _ _ _ next (has_written_append _ _ _ _ _ _ (c.loop-2.invariant.written plain) (search rules));
    }
