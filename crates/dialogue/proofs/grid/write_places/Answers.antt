use Rattle.std.proofs.Common.{◌≡◌, ℕ, ◌+◌, ◌-◌, ◌≤◌, Bool, List, [], ◌∷◌, ◌++◌, length, get_or, take, drop, Some, codes, decimal, ap, sym, ◌∙◌, refl, append_assoc, length-drop, arith, rules}
use Rattle.std.specs.Fmt.{HasWritten}
use Rattle.std.proofs.Output.{has_written_append}
use Rattle.std.proofs.lemmas.Grind.{common_steps}
use Rattle.session.specs.declared.order.Entry.{Entry}
use Rattle.session.specs.declared.order.Entry.TheVariants.{Marked}
use Rattle.dialogue.specs.Symbols.{Spelling}
use Rattle.dialogue.specs.Tellings.{place_rest, places_text}
use Rattle.dialogue.proofs.grid.write_places.Goals as goal

module _ {S : Type 0} (sp : Spelling S) where
  -- the text of the first place stands before that of the others
  more : (p : ℕ) (heard : Bool) (es : List (Entry S)) (m e : Entry S) → 2 ≤ length es → m ≡ get_or es 0 m → e ≡ get_or es 1 e → m ≡ Marked (Some heard)
      → places_text sp p es ≡ (codes "\n  " ++ (decimal p ++ place_rest sp heard e)) ++ places_text sp (p + 1) (drop 2 es)
  more p heard [] m e long first second mark = grind (arith, common_steps)
  more p heard (a ∷ []) m e long first second mark = grind (arith, common_steps)
  more p heard (a ∷ b ∷ es) m e long first second mark =
      rw (sym first ∙ mark) (rw (sym second) (ap (λ l. codes "\n  " ++ l) (sym (append_assoc (decimal p) (place_rest sp heard e) (places_text sp (p + 1) es)))))

pub loop-place-preserved : goal.loop-place-preserved
loop-place-preserved g c =
    let sp = g.S.Spelled.spelling in
    let rest = c.loop-place.rest.now in
    let p = c.loop-place.place-counter in
    let left : take (length rest - 2) (drop 2 rest) ≡ drop 2 rest = grind (arith, common_steps) in
    let mark : c.mark-item.result ≡ Marked (Some c.in-Marked-Some.heard) = search rules in
    let told = place_rest sp c.in-Marked-Some.heard c.shown-item.result in
    let text = codes "\n  " ++ (decimal p ++ told) in
    let step = more sp p c.in-Marked-Some.heard rest _ _ c.in-len2-up.len_at_least c.mark-item.is c.shown-item.is mark in
    record {
      left = rw left (omega (arith, length-drop 2 rest));
      written = λ plain.
          let now = c.loop-place.invariant.written plain in
          let number : HasWritten g.W.Write.write_str_gives c.loop-place.f (codes "\n  " ++ decimal p) c.write.new.self = search rules in (
            now.0 ++ text,
            has_written_append _ _ now.0 _ text _ now.1 (has_written_append _ _ _ _ told _ number (c.in_ok-write_place.ensures number.plain refl)),
            append_assoc now.0 text _ ∙ ap (λ l. now.0 ++ l) (ap (λ r. text ++ places_text sp (p + 1) r) left ∙ sym step) ∙ now.2,
          );
    }
