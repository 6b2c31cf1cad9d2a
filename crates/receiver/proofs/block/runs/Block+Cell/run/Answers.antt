use Rattle.std.proofs.Common.{◌≡◌, ◌*◌, min, length, Ok, Err, Result, sym, ap, ◌∙◌, subst, arith, length-append, rules}
use Rattle.std.specs.Iterator.Adapters.{enumerate_source}
use Rattle.std.specs.Slice.Iter.{chunks_rest}
use Rattle.receiver.specs.declared.run.Layer.{Layer}
use Rattle.receiver.specs.declared.run.Stopped.{Stopped}
use Rattle.receiver.specs.Runs.{PacketStep, packets_in, stopped_at, Runs}
use Rattle.receiver.specs.View.{model}
use Rattle.receiver.proofs.Running.{run_over, run_took, run_stopped, run_goes_on}
use Rattle.receiver.proofs.block.runs.Block+Cell.run.Goals as goal

pub returns-in_err-map_err : goal.returns-in_err-map_err
returns-in_err-map_err c =
    let left = chunks_rest (enumerate_source c.loop-taken.taken-iterator) in
    let steps = c.in-Some.ensures.steps in
    let cut = steps.0.1 in
    let whole : length c.in-Some.packet.now ≡ min 68 (length left) = cut.1 ∙ ap (λ n. min n (length left)) c.loop-taken.invariant.sized in
    let which : (f : Layer) × ◌≡◌ {A = Result (Unit {0}) Layer} c.packet.result (Err f) × ◌≡◌ {A = Result _ Stopped} c.from_residual.result (Err (stopped_at (c.in-Some.taken * 68) f)) = search rules in
    let step = subst (λ r. PacketStep (model c.loop-taken.self) c.args.stamp c.in-Some.packet.now r (model c.packet.new.self)) which.1 c.packet.ensures.step in
    let answer = which.2 ∙ ap (λ n. Err (stopped_at (n * 68) which.0)) steps.1 in
    let runs = c.loop-taken.invariant.runs _ _ (run_stopped _ _ _ left c.in-Some.packet.now _ _ _ which.0 cut.0 whole cut.2 step) in
    let step = subst (λ r. Runs c.args.stamp (model c.args.self.now) (packets_in c.args.bytes.now) 0 0 r (model c.packet.new.self)) (sym answer) runs in
    record {
      lent = c.packet.ensures.lent ∙ c.loop-taken.invariant.lent;
      step = step;
      history = run_goes_on _ _ _ _ 0 0 _ c.args.self.now.marks.few step;
    }

pub returns : goal.returns
returns c =
    let none = c.in-None.ensures.steps.0.1.0 in
    let count = c.len.ensures.value ∙ c.chunks-2.ensures.count ∙ c.loop-taken.invariant.counted none in
    let runs = c.loop-taken.invariant.runs _ _ (run_over _ _ (chunks_rest (enumerate_source c.loop-taken.taken-iterator)) _ _ c.len.result none count) in
    record {
      lent = c.loop-taken.invariant.lent;
      step = runs;
      history = run_goes_on _ _ _ _ 0 0 _ c.args.self.now.marks.few runs;
    }

pub loop-taken-preserved : goal.loop-taken-preserved
loop-taken-preserved c =
    let left = chunks_rest (enumerate_source c.loop-taken.taken-iterator) in
    let rest = chunks_rest (enumerate_source c.next.new.self) in
    let steps = c.in-Some.ensures.steps in
    let cut = steps.0.1 in
    let whole : length c.in-Some.packet.now ≡ min 68 (length left) = cut.1 ∙ ap (λ n. min n (length left)) c.loop-taken.invariant.sized in
    let split = length-append c.in-Some.packet.now rest in
    let granted : ◌≡◌ {A = Result (Unit {0}) Layer} c.packet.result (Ok tt) = search rules in
    let step = subst (λ r. PacketStep (model c.loop-taken.self) c.args.stamp c.in-Some.packet.now r (model c.packet.new.self)) granted c.packet.ensures.step in
    record {
      sized = steps.0.0 ∙ c.loop-taken.invariant.sized;
      even = λ some. omega (arith, ap length cut.0, split, c.loop-taken.invariant.even cut.2, steps.2);
      counted = λ none. omega (arith, ap length cut.0, split, c.loop-taken.invariant.even cut.2, steps.2);
      lent = c.packet.ensures.lent ∙ c.loop-taken.invariant.lent;
      runs = λ r m runs. c.loop-taken.invariant.runs r m (run_took _ _ _ m left c.in-Some.packet.now rest _ r cut.0 whole cut.2 step
          (subst (λ n. Runs c.args.stamp (model c.packet.new.self) (packets_in rest) n (n * 68) r m) steps.2 runs));
    }
