use Rattle.std.proofs.Common.{◌≡◌, length, rules, subst, string_bytes}
use Rattle.std.proofs.lemmas.Result.{IfOk-weaker}
use Rattle.session.specs.Sides.{memory_of}
use Rattle.dialogue.specs.Scores.{part}
use Rattle.dialogue.specs.Scripts.{places_asked, words_asked, symbols_asked, Performed}
use Rattle.dialogue.proofs.whole.answer_in.Goals as goal

pub returns : goal.returns
returns g c =
    let score = part c.in_ok-score.score in
    let words : length c.as_mut_slice-2.result.now ≡ words_asked score.calls = search rules in
    let sides : length c.as_mut_slice-3.result.now ≡ symbols_asked score.calls = search rules in
    let tables : length c.as_mut_slice.result.now ≡ places_asked score.calls = search rules in
    let memory : memory_of c.as_mut_slice-2.result.now c.as_mut_slice-3.result.now ≡ record { words = words_asked score.calls; symbols = symbols_asked score.calls } =
    λ i. record { words = words i; symbols = sides i } in
    IfOk-weaker c.perform.result _ _
    (λ s done. record {
      score = score;
      read = c.in_ok-score.ensures;
      performed =
          subst (λ r. Performed g.S.Symbol.kind g.S.Carried.carriage g.S.Spelled.spelling score r (record { words = words_asked score.calls; symbols = symbols_asked score.calls }) (string_bytes s)) tables
          (subst (λ m. Performed g.S.Symbol.kind g.S.Carried.carriage g.S.Spelled.spelling score (length c.as_mut_slice.result.now) m (string_bytes s)) memory done);
    })
    c.perform.ensures
