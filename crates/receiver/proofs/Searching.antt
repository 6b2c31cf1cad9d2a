-- A search on a block that a history stands of answers as its packets taken say.
use Rattle.std.proofs.Common.{◌≡◌, ℕ, ◌<◌, Bool, true, false, not, ◌&&◌, ltb, leb, ◌↔◌, List, ◌++◌, length, get_or, take, drop, None, sym, refl, ap, ◌∙◌, subst, append-nil, arith, length-take, length-take-le, le-ltb, lt-ltb, eqb-true, leb-false, leb-true}
use lib.ListN.{length-map}
use borrow.Author.Tests.{not-false, both_ways}
use Rattle.std.proofs.lemmas.List.{get_or-take, get_or_past, get_or-map, drop_all}
use Rattle.symbols.specs.Kinds.{Kind}
use Rattle.codes.specs.Matrix.{Matrix}
use Rattle.method.specs.Sets.{has}
use Rattle.method.specs.Method.{Outcome, missing}
use Rattle.method.specs.Method.Outcome.{none, one, several}
use Rattle.method.specs.Fillings.{Agreeing, No, Only, Exactly}
use Rattle.method.specs.Stopping.{Stopping, NamedInTurn}
use Rattle.receiver.specs.Calls.{Search, refusal}
use Rattle.receiver.specs.Calls.Call.{solve}
use Rattle.receiver.specs.History.{Opened, Event, Told, after, told, borne, view, Agrees, Found, Bears, Searched, answer, pivots}
use Rattle.receiver.specs.History as history
use Rattle.receiver.specs.History.Event.{refused, searched}
use Rattle.receiver.specs.Blocks.{Block, seen}
use Rattle.receiver.specs.Solves.{found_of, after_search}
use Rattle.receiver.specs.Stands.{Tied}
use Rattle.receiver.proofs.Counting.{Right, no_same, only_same, two_same, none_right, one_right, several_right}
use Rattle.receiver.proofs.Refusing.{no_cause}
use Rattle.receiver.proofs.Packets.{all_both, all_borne, some_bears}
use Rattle.receiver.proofs.Stalls.{stopping_on, stopping_back, named_on}
use Rattle.receiver.proofs.Law.{by_table, under}

-- the marks of the first n places, and none beyond them
pub marks_below : (n : ℕ) (rs : List Bool) (c : ℕ) → c < n → has (take n rs) c ≡ get_or rs c false
marks_below n rs c lt = get_or-take n rs c false lt

pub marks_within : (n : ℕ) (rs : List Bool) (c : ℕ) → has (take n rs) c ≡ true → c < n
marks_within n rs c is = go (leb n c) refl
  where
    go : (b : Bool) → leb n c ≡ b → c < n
    go true e = absurd (both_ways (has (take n rs) c) (get_or_past (take n rs) c false (omega (arith, leb-true _ _ e, length-take n rs))) is)
    go false e = leb-false _ _ e

module _ {S : Type 0} (K : Kind S) {o : Opened} {t : Told S} {m : Block S} (d : Tied K o t m) where
  -- missing in the block's marks and missing by the calls and answers
  missing_same : (c : ℕ) → has (missing (take m.n m.received)) c ≡ history.missing o t c
  missing_same c = go (leb m.n c) refl
    where
      sized : length (take m.n m.received) ≡ m.n
      sized = length-take-le m.n m.received d.room

      go : (b : Bool) → leb m.n c ≡ b → has (missing (take m.n m.received)) c ≡ (ltb c o.places && not (borne t.packets c))
      go false e =
          let lt : c < m.n = leb-false _ _ e in
          get_or-map not (take m.n m.received) c false false (omega (arith, lt, sized))
          ∙ ap not (marks_below m.n m.received c lt ∙ d.marked c lt)
          ∙ sym (ap (λ b. b && not (borne t.packets c)) (lt-ltb c o.places (omega (arith, lt, d.places))))
      go true e =
          get_or_past (missing (take m.n m.received)) c false (omega (arith, leb-true _ _ e, sized, length-map (take m.n m.received) not))
          ∙ sym (ap (λ b. b && not (borne t.packets c)) (le-ltb c o.places (omega (arith, leb-true _ _ e, d.places))))

  module _ (k : Matrix) where
    agrees : (w : List S) → Agreeing K k (take m.n m.received) (take m.n m.table) w → Agrees K t.packets k w
    agrees w a = record {
      codeword = a.codeword;
      has_each = all_both (λ q u b.
          a.agrees q.place (marks_below m.n m.received q.place u.below ∙ d.marked q.place u.below ∙ b)
          ∙ get_or-take m.n m.table q.place K.zero u.below ∙ u.symbol_is) t.packets d.kept (all_borne t.packets);
    }

    agreeing : (w : List S) → Agrees K t.packets k w → Agreeing K k (take m.n m.received) (take m.n m.table) w
    agreeing w f = record {
      codeword = f.codeword;
      agrees = λ c is.
          let lt = marks_within m.n m.received c is in
          some_bears t.packets c (sym (d.marked c lt) ∙ sym (marks_below m.n m.received c lt) ∙ is)
          (all_both (λ q u e at. subst (λ p. get_or w p K.zero ≡ get_or (take m.n m.table) p K.zero) at
          (e ∙ sym u.symbol_is ∙ sym (get_or-take m.n m.table q.place K.zero u.below))) t.packets d.kept f.has_each);
    }

    -- an answer that tells exactly what agrees with the block tells exactly what agrees with the packets taken
    found_right : (x : Outcome S) → Exactly (Agreeing K k (take m.n m.received) (take m.n m.table)) x → Right (Agrees K t.packets k) (answer (found_of m x)) × Bears K o t (found_of m x)
    found_right (none p a) e = (none_right (no_same agrees agreeing (e.none_when.0 refl)), tt)
    found_right (one p a w) e = (one_right (w, only_same agrees agreeing w (e.filling p a w refl)), (d.number, d.stamp))
    found_right (several p a f) e = (several_right (two_same agrees agreeing (e.several_when.0 refl)), tt)

    search_tied : (s : Search) (cs : List ℕ) (x : Outcome S) → s.code ≡ k → k.width ≡ m.n → Exactly (Agreeing K k (take m.n m.received) (take m.n m.table)) x → Tied K o (after (searched s cs (found_of m x)) t) (after_search m x)
    search_tied s cs (none p a) is wide e = d
    search_tied s cs (several p a f) is wide e = d
    search_tied s cs (one p a w) is wide e =
        let u = only_same agrees agreeing w (e.filling p a w refl) in
        let long : length w ≡ m.n = u.0.codeword.wide ∙ wide in
        let whole : w ++ drop m.n m.table ≡ w = ap (λ r. w ++ r) (drop_all m.n m.table (omega (arith, d.whole))) ∙ append-nil w in
        record {
          number = d.number;
          stamp = d.stamp;
          places = d.places;
          out = refl;
          whole = ap length whole ∙ long;
          room = d.room;
          kept = all_both (λ q v e. record { stamp_is = v.stamp_is; below = v.below; symbol_is = ap (λ l. get_or l q.place K.zero) whole ∙ e }) t.packets d.kept u.0.has_each;
          marked = d.marked;
          found = λ yes. subst (Only (Agrees K t.packets s.code)) (sym whole) (subst (λ c. Only (Agrees K t.packets c) w) (sym is) u);
        }

  pub search_true : (s : Search) (cs : List ℕ) (x : Outcome S) → refusal K (seen m) (solve s) ≡ None
      → Exactly (Agreeing K s.code (take m.n m.received) (take m.n m.table)) x
      → pivots (found_of m x) ≡ length cs → NamedInTurn s.code (has (missing (take m.n m.received))) cs
      → (pivots (found_of m x) ≡ 0) ↔ No (Stopping s.code (has (missing (take m.n m.received))))
      → Searched K o t s cs (found_of m x) × Tied K o (after (searched s cs (found_of m x)) t) (after_search m x)
  search_true s cs x reached exact counted turn stop =
      let a = no_cause _ _ _ reached in
      let wide = eqb-true _ _ (not-false _ (no_cause _ _ _ a.1).0) in
      let how = found_right s.code x exact in (
        record {
          reached = sym (by_table K d (solve s)) ∙ reached;
          under = under K d;
          none_when = how.0.0;
          one_when = how.0.1;
          several_when = how.0.2;
          bears = how.1;
          pivots_named = counted;
          named_in_turn = named_on s.code _ _ missing_same cs turn;
          pivots_none = (
            λ e. no_same (stopping_on s.code _ _ missing_same) (stopping_back s.code _ _ missing_same) (stop.0 e),
            λ g. stop.1 (no_same (stopping_back s.code _ _ missing_same) (stopping_on s.code _ _ missing_same) g),
          );
        },
        search_tied s.code s cs x refl wide exact,
      )
