-- A session call by call: one more call with its entry, and what is true at the end.
use Rattle.std.proofs.Common.{◌≡◌, ℕ, min, List, [], ◌∷◌, ◌++◌, length, drop, replicate, is_some, None, sym, refl, ap, ◌∙◌, subst, append-nil, arith}
use Rattle.std.proofs.lemmas.List.{drop_all}
use Rattle.search.specs.Found.{wiped}
use Rattle.session.specs.Obeying.{Setting}
use Rattle.session.specs.Sessions.{Now, On, Obeys, Plays, Good, Turned, TurnedBy, Going, Session, Unopened, beginning, seat_side}
use Rattle.session.specs.Sides.{side}
use Rattle.session.specs.declared.order.Call.{Call}
use Rattle.session.specs.declared.order.Entry.{Entry}
use Rattle.session.specs.declared.order.Which.{Which}
use Rattle.session.specs.declared.order.Which.TheVariants.{First, Second}
use Rattle.session.specs.declared.whole.Seat.{Seat}
use Rattle.session.specs.declared.whole.Left.{Left}
use Rattle.session.proofs.Asks.{retired_true}

module _ {S : Type 0} (g : Setting S) where
  pub plays_more : (x y z : Now S) (cs : List (Call S)) (es : List (Entry S)) (c : Call S) (e : Entry S) → Plays g x cs es y → On g y c.block c.order e z → Plays g x (cs ++ c ∷ []) (es ++ e ∷ []) z
  plays_more x y z [] [] c e p on = (z, subst (λ t. On g t c.block c.order e z) p on, refl)
  plays_more x y z [] (f ∷ es) c e p on = absurd p
  plays_more x y z (d ∷ cs) [] c e p on = absurd p
  plays_more x y z (d ∷ cs) (f ∷ es) c e p on = (p.0, p.1, plays_more p.0 y z cs es c e p.2 on)

  -- nothing is opened yet
  pub going_none : (room : ℕ) (x y : Seat S) → Unopened g.kind x → Unopened g.kind y → Going g room [] [] x y room
  going_none room x y first second = record {
    now = beginning g room;
    plays = refl;
    first = λ i. side (sym first.begun i) (sym first.block i) (sym first.held i) None [] [];
    second = λ i. side (sym second.begun i) (sym second.block i) (sym second.held i) None [] [];
    left = refl;
    good_first = record { standing = tt; holding = refl; past = tt };
    good_second = record { standing = tt; holding = refl; past = tt };
  }

  module _ (room : ℕ) (cs : List (Call S)) (es : List (Entry S)) (x x' y y' : Seat S) (r r' : ℕ) (c : Call S) (e : Entry S) (w : Going g room cs es x y r) where
    on_first : c.block ≡ First → TurnedBy g First c e x x' y y' r r' → Going g room (cs ++ c ∷ []) (es ++ e ∷ []) x' y' r'
    on_first is t =
        let s = w.now in
        let a = t.0 s.first.opened s.first.history s.first.past in
        let z = seat_side x' a.opened_with a.history a.past in
        let n : Now S = record { first = z; second = s.second; room = r' } in
        let obeys : Obeys g s.second.held s.first s.room c.order e z r' =
        subst (λ o. Obeys g o s.first s.room c.order e z r') (sym (ap (λ k. k.held) w.second))
        (subst (λ k. Obeys g y.desk.held k s.room c.order e z r') (sym w.first)
        (subst (λ k. Obeys g y.desk.held (seat_side x s.first.opened s.first.history s.first.past) k c.order e z r') (sym w.left) a.obeys)) in
        record {
          now = n;
          plays = plays_more (beginning g room) s n cs es c e w.plays (subst (λ k. On g s k c.order e n) (sym is) (obeys, refl));
          first = refl;
          second = w.second ∙ (λ i. side (sym t.1.begun i) (sym t.1.block i) (sym t.1.held i) s.second.opened s.second.history s.second.past);
          left = refl;
          good_first = a.good (subst (Good g) w.first w.good_first);
          good_second = w.good_second;
        }

    on_second : c.block ≡ Second → TurnedBy g Second c e x x' y y' r r' → Going g room (cs ++ c ∷ []) (es ++ e ∷ []) x' y' r'
    on_second is t =
        let s = w.now in
        let a = t.0 s.second.opened s.second.history s.second.past in
        let z = seat_side y' a.opened_with a.history a.past in
        let n : Now S = record { first = s.first; second = z; room = r' } in
        let obeys : Obeys g s.first.held s.second s.room c.order e z r' =
        subst (λ o. Obeys g o s.second s.room c.order e z r') (sym (ap (λ k. k.held) w.first))
        (subst (λ k. Obeys g x.desk.held k s.room c.order e z r') (sym w.second)
        (subst (λ k. Obeys g x.desk.held (seat_side y s.second.opened s.second.history s.second.past) k c.order e z r') (sym w.left) a.obeys)) in
        record {
          now = n;
          plays = plays_more (beginning g room) s n cs es c e w.plays (subst (λ k. On g s k c.order e n) (sym is) (obeys, refl));
          first = w.first ∙ (λ i. side (sym t.1.begun i) (sym t.1.block i) (sym t.1.held i) s.first.opened s.first.history s.first.past);
          second = refl;
          left = refl;
          good_first = w.good_first;
          good_second = a.good (subst (Good g) w.second w.good_second);
        }

    pub going_on : Turned g c e x x' y y' r r' → Going g room (cs ++ c ∷ []) (es ++ e ∷ []) x' y' r'
    going_on t = go c.block refl t.turned
      where
        go : (k : Which) → c.block ≡ k → TurnedBy g k c e x x' y y' r r' → Going g room (cs ++ c ∷ []) (es ++ e ∷ []) x' y' r'
        go First is t = on_first is t
        go Second is t = on_second is t

  module _ (c : Call S) (e : Entry S) (x x' y y' : Seat S) (r r' : ℕ) where
    pub turned_first : c.block ≡ First → TurnedBy g First c e x x' y y' r r' → Turned g c e x x' y y' r r'
    turned_first is t = record { turned = subst (λ k. TurnedBy g k c e x x' y y' r r') (sym is) t }

    pub turned_second : c.block ≡ Second → TurnedBy g Second c e x x' y y' r r' → Turned g c e x x' y y' r r'
    turned_second is t = record { turned = subst (λ k. TurnedBy g k c e x x' y y' r r') (sym is) t }

  -- at the end every event of every block was true
  pub going_ended : (room : ℕ) (cs : List (Call S)) (es : List (Entry S)) (x y : Seat S) (r : ℕ) (left : Left) → Going g room cs es x y r → left.first ≡ is_some x.desk.held → left.second ≡ is_some y.desk.held → Session g room cs es left
  going_ended room cs es x y r left w first second = record {
    end = w.now;
    plays = w.plays;
    true_all = record { first = retired_true g w.now.first w.good_first; second = retired_true g w.now.second w.good_second };
    left_first = first ∙ sym (ap (λ s. is_some s.held) w.first);
    left_second = second ∙ sym (ap (λ s. is_some s.held) w.second);
  }

-- all of a memory is wiped
pub wiped_all : {X : Type 0} (z : X) (xs : List X) → wiped z (length xs) xs ≡ replicate (length xs) z
wiped_all z xs =
    let least : min (length xs) (length xs) ≡ length xs = omega arith in
    let rest : drop (length xs) xs ≡ [] = drop_all (length xs) xs (omega arith) in
    (λ i. replicate (least i) z ++ rest i) ∙ append-nil (replicate (length xs) z)
