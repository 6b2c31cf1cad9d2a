-- A block that is handed the bytes heard, one after another.
use Rattle.std.proofs.Common.{◌≡◌, ℕ, ◌+◌, ◌<◌, ◌≤◌, ◌||◌, List, [], ◌∷◌, length, get_or, Some, None, Ok, Option, sym, refl, ap, ◌∙◌, ⊎_elim, arith}
use Rattle.std.proofs.lemmas.Bool.{cases_lt, ne_eqb}
use Rattle.std.proofs.lemmas.Option.{same_Some}
use Rattle.receiver.specs.History.{Opened, Told, told, borne}
use Rattle.receiver.specs.Blocks.{Block}
use Rattle.receiver.specs.Steps.{receive_event}
use Rattle.receiver.specs.Stands.{Stands, GoesOn, opening}
use Rattle.guests.specs.Bytes.{byte_of, byte_kind}
use Rattle.guests.specs.Hearing.{Heard}
use Rattle.guests.specs.declared.byte.Byte.{Byte}

module _ (heard : List (Option Byte)) where
  abbrev pub o : Opened
  o = opening 0 1 (length heard)

  pub heard_none : (m : Block Byte) → Stands byte_kind o [] m → Heard heard 0 m
  heard_none m s = record {
    history = [];
    stands = s;
    taken = record { none_out = refl; stamp = refl; none_ahead = λ p l. refl; same = λ w. (λ _ c x l. absurd (omega arith), λ _. tt) };
  }

  module _ (i : ℕ) (m : Block Byte) (h : Heard heard i m) where
    abbrev t : Told Byte
    t = told o h.history

    -- a place where nothing was heard
    pub heard_lost : ((x : Byte) → get_or heard i None ≡ Some x → ⊥) → Heard heard (i + 1) m
    heard_lost lost = record {
      history = h.history;
      stands = h.stands;
      taken = record {
        none_out = h.taken.none_out;
        stamp = h.taken.stamp;
        none_ahead = λ p l. h.taken.none_ahead p (omega arith);
        same = λ w. (
          λ a c x l is. ⊎_elim (λ (q : c < i). (h.taken.same w).0 a c x q is) (λ (q : i ≤ c). let z : i ≡ c = omega arith in absurd (lost x (ap (λ k. get_or heard k None) z ∙ is))) (cases_lt c i),
          λ a. (h.taken.same w).1 (λ c x l. a c x (omega arith)),
        );
      };
    }

    -- a byte that was heard is one more
    pub heard_more : (y : Byte) (m' : Block Byte) → get_or heard i None ≡ Some y → GoesOn byte_kind m (receive_event {U = Unit {0}} 0 1 i y (Ok tt) ∷ []) m' → Heard heard (i + 1) m'
    heard_more y m' e goes = record {
      history = receive_event {U = Unit {0}} 0 1 i y (Ok tt) ∷ h.history;
      stands = goes o h.history h.stands;
      taken = record {
        none_out = h.taken.none_out;
        stamp = h.taken.stamp;
        none_ahead = λ p l. ap (λ b. b || borne t.packets p) (ne_eqb i p (λ q. omega arith)) ∙ h.taken.none_ahead p (omega arith);
        same = λ w. (
          λ a c x l is. ⊎_elim (λ (q : c < i). (h.taken.same w).0 a.1 c x q is) (λ (q : i ≤ c). let z : c ≡ i = omega arith in ap (λ k. get_or w k (byte_of 0)) z ∙ a.0 ∙ here c x z is) (cases_lt c i),
          λ a. (a i y (omega arith) e, (h.taken.same w).1 (λ c x l. a c x (omega arith))),
        );
      };
    }
      where
        here : (c : ℕ) (x : Byte) → c ≡ i → get_or heard c None ≡ Some x → y ≡ x
        here c x z is = same_Some y x (sym e ∙ ap (λ k. get_or heard k None) (sym z) ∙ is)
