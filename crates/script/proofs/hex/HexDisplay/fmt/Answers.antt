use Rattle.std.proofs.Common.{◌++◌, ap, sym, ◌∙◌, append_assoc, append-nil, rules, arith}
use Rattle.std.proofs.Output.{has_written_append, has_written_of_eq}
use Rattle.std.proofs.lemmas.List.{nil_from_length}
use Rattle.std.specs.Slice.Iter.{chunks_rest}
use Rattle.script.specs.Hex.{mark, digits_of}
use Rattle.script.proofs.Hexes.{digits_append}
use Rattle.script.proofs.hex.HexDisplay.fmt.Goals as goal

pub loop-few-init : goal.loop-few-init
loop-few-init g c = record {
  sized = search rules;
  written = λ plain. (mark c.args.self.now.0.now, search rules, search rules);
}

pub loop-few-preserved : goal.loop-few-preserved
loop-few-preserved g c = record {
  sized = search rules;
  written = λ plain.
      let now = c.loop-few.invariant.written plain in
      let few = c.in-Some.few.now in
      let rest = chunks_rest c.next.new.self in (
        now.0 ++ digits_of few,
        has_written_append _ _ _ _ _ _ now.1 (search rules),
        append_assoc now.0 (digits_of few) (digits_of rest) ∙ ap (λ l. now.0 ++ l) (sym (digits_append few rest)) ∙ ap (λ l. now.0 ++ digits_of l) (sym c.in-Some.ensures.steps.1.0) ∙ now.2,
      );
}

pub write_few-requires : goal.write_few-requires
write_few-requires g c = omega (arith, c.in-Some.ensures.steps.1.1, c.loop-few.invariant.sized)

pub returns-clause-writes : goal.returns-clause-writes
returns-clause-writes g c = λ plain _.
    let now = c.loop-few.invariant.written plain in
    let none = nil_from_length (chunks_rest c.loop-few.few-iterator) c.in-None.ensures.steps.1.0 in
    has_written_of_eq _ _ _ _ _ (sym (append-nil now.0) ∙ ap (λ l. now.0 ++ digits_of l) (sym none) ∙ now.2) now.1
