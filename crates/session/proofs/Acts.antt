-- Each call with its entry: what it makes of a side, from what the block's call ensures.
use Rattle.std.proofs.Common.{◌≡◌, ℕ, Bool, true, false, List, [], ◌∷◌, is_some, Some, None, Ok, vec_items, MatchBool, MatchOption, Option, Result, sym, refl, ap, subst}
use Rattle.packets.specs.Figure.{percent}
use Rattle.receiver.specs.declared.fault.Fault.{Fault}
use Rattle.receiver.specs.declared.fault.Fault.TheVariants.{NotItsPermit}
use Rattle.receiver.specs.declared.permit.Permit.{Permit}
use Rattle.receiver.specs.declared.run.Layer.{Layer}
use Rattle.receiver.specs.declared.run.Stopped.{Stopped}
use Rattle.receiver.specs.Blocks.{Block, received_count, mark_at}
use Rattle.receiver.specs.Calls.Call.{close}
use Rattle.receiver.specs.History.{Event, Opened}
use Rattle.receiver.specs.History.Event.{refused, closed}
use Rattle.receiver.specs.Stands.{Stands, GoesOn}
use Rattle.receiver.specs.Steps.{Step, receive_event, shown_event, renew_event}
use Rattle.receiver.specs.Holding.{Holding, ClosedUnder}
use Rattle.session.specs.Obeying.{Setting, Acts, Acted, Shows, alike, in_which, or_not, ClosesOther, RefusesClose, ShownUnder, ShownIn, CloseRefused}
use Rattle.session.specs.Sides.{Day, Side, side}
use Rattle.session.specs.declared.order.Hand.{Hand}
use Rattle.session.specs.declared.order.Hand.TheVariants.{Own, Other}
use Rattle.session.specs.declared.order.Order.{Order}
use Rattle.session.specs.declared.order.Order.TheVariants as order
use Rattle.session.specs.declared.order.Entry.{Entry}
use Rattle.session.specs.declared.order.Entry.TheVariants as entry
use Rattle.session.proofs.Holds.{receive_held, renew_held}

module _ {S : Type 0} (g : Setting S) where
  -- nothing is done and nothing told
  pub idle : (m : Block S) (q other : Option Permit) (o : Order S) (e : Entry S)
      → ((b : Bool) (p : Option Opened) (h : List (Event S)) (ds : List (Day S)) → Acts g other (side b m q p h ds) o e (side b m q p h ds)) → Acted g m m q q other o e
  idle m q other o e acts = record { tells = λ h. h; acts = acts; history = λ p h s. s; holding = λ h. h }

  pub received : (m m' : Block S) (b s p : ℕ) (x : S) (r : Result (Unit {0}) Fault) (q other : Option Permit) → Step g.kind m (receive_event b s p x r) m'
      → GoesOn g.kind m (receive_event b s p x r ∷ []) m' → Acted g m m' q q other (order.Receive b s p x) (entry.Received r)
  received m m' b s p x r q other step goes = record {
    tells = λ h. receive_event b s p x r ∷ h;
    acts = λ c o h ds. (r, m', refl, step, refl);
    history = goes;
    holding = receive_held g.kind m m' b s p x r step q;
  }

  pub renewed : (m m' : Block S) (s : ℕ) (r : Result (Unit {0}) Fault) (q other : Option Permit) → Step g.kind m (renew_event s r) m'
      → GoesOn g.kind m (renew_event s r ∷ []) m' → Acted g m m' q q other (order.Renew s) (entry.Renewed r)
  renewed m m' s r q other step goes = record {
    tells = λ h. renew_event s r ∷ h;
    acts = λ c o h ds. (r, m', refl, step, refl);
    history = goes;
    holding = renew_held g.kind m m' s r step q;
  }

  pub packed : (m m' : Block S) (s : ℕ) (v : _) (bs : List ℕ) (r a : Option (Result (Unit {0}) Layer)) (q other : Option Permit) → bs ≡ vec_items v → r ≡ a
      → g.carriage.packs m s bs r m'
      → ((p : Opened) (h : List (Event S)) → Stands g.kind p h m → Stands g.kind p (g.carriage.packet s bs r h) m')
      → ((q : Option Permit) → Holding m q → Holding m' q)
      → Acted g m m' q q other (order.Packet s v) (or_not entry.Packed a)
  packed m m' s v bs r a q other same is does goes held =
      let does' = subst (λ t. g.carriage.packs m s t a m') same (subst (λ t. g.carriage.packs m s bs t m') is does) in
      record {
        tells = g.carriage.packet s (vec_items v) a;
        acts = λ c o h ds. (a, m', refl, does', refl);
        history = λ p h st. subst (λ t. Stands g.kind p (g.carriage.packet s t a h) m') same (subst (λ t. Stands g.kind p (g.carriage.packet s bs t h) m') is (goes p h st));
        holding = held q;
      }

  pub ran : (m m' : Block S) (s : ℕ) (v : _) (bs : List ℕ) (r a : Option (Result ℕ Stopped)) (q other : Option Permit) → bs ≡ vec_items v → r ≡ a
      → g.carriage.runs m s bs r m'
      → ((p : Opened) (h : List (Event S)) → Stands g.kind p h m → Stands g.kind p (g.carriage.run s bs r h) m')
      → ((q : Option Permit) → Holding m q → Holding m' q)
      → Acted g m m' q q other (order.Run s v) (or_not entry.Ran a)
  ran m m' s v bs r a q other same is does goes held =
      let does' = subst (λ t. g.carriage.runs m s t a m') same (subst (λ t. g.carriage.runs m s bs t m') is does) in
      record {
        tells = g.carriage.run s (vec_items v) a;
        acts = λ c o h ds. (a, m', refl, does', refl);
        history = λ p h st. subst (λ t. Stands g.kind p (g.carriage.run s t a h) m') same (subst (λ t. Stands g.kind p (g.carriage.run s bs t h) m') is (goes p h st));
        holding = held q;
      }

  pub figured : (m : Block S) (n : ℕ) (q other : Option Permit) → n ≡ percent (received_count m) m.n → Acted g m m q q other order.Figure (entry.Figured n)
  figured m n q other is = idle m q other order.Figure (entry.Figured n) (λ c o h ds. (ap entry.Figured is, refl))

  pub marked : (m : Block S) (p : ℕ) (r : Option Bool) (q other : Option Permit) → r ≡ mark_at m p → Acted g m m q q other (order.Mark p) (entry.Marked r)
  marked m p r q other is = idle m q other (order.Mark p) (entry.Marked r) (λ c o h ds. (ap entry.Marked is, refl))

  -- under a permit, the block's own or the other's
  shown_by : (m : Block S) (q other : Option Permit) (a : Permit) (p : ℕ) (hand : Hand) (e : Entry S) → in_which hand q other ≡ Some a → ShownUnder g.kind m a p e → Acted g m m q q other (order.Show p hand) e
  shown_by m q other a p hand e is w = record {
    tells = λ h. shown_event a p w.answer ∷ h;
    acts = λ c o h ds. subst (λ t. ActsShow t c o h ds) (sym is) (w.answer, m, w.entered, w.step, refl);
    history = w.history;
    holding = λ h. h;
  }
    where
      ActsShow : Option Permit → Bool → Option Opened → List (Event S) → List (Day S) → Type 0
      ActsShow t c o h ds = Shows g.kind t p (side c m q o h ds) e (side c m q o (shown_event a p w.answer ∷ h) ds)

  pub shown : (m : Block S) (q other hand_held : Option Permit) (p : ℕ) (hand : Hand) (e : Entry S) → in_which hand q other ≡ hand_held → ShownIn g.kind m hand_held p e → Acted g m m q q other (order.Show p hand) e
  shown m q other (Some a) p hand e is w = shown_by m q other a p hand e is w
  shown m q other None p hand e is w = idle m q other (order.Show p hand) e (λ c o h ds. subst (λ t. Shows g.kind t p (side c m q o h ds) e (side c m q o h ds)) (sym is) (w, refl))

  -- a close under the permit in its own hand, and where none is
  pub closed_own : (m m' : Block S) (q other : Option Permit) → is_some q ≡ true → ClosedUnder g.kind m q m' → Acted g m m' q None other (order.Close Own) (entry.Closed (Ok tt))
  closed_own m m' None other some done = cc
  closed_own m m' (Some a) other some done = record {
    tells = λ h. closed a ∷ h;
    acts = λ c o h ds. (m', refl, done.0, refl);
    history = done.1;
    holding = λ h. ap (λ n. n.out) done.0.1;
  }

  pub not_closed : (m m' : Block S) (q other : Option Permit) → is_some q ≡ false → ClosedUnder g.kind m q m' → Acted g m m' q None other (order.Close Own) entry.NoPermit
  not_closed m m' None other some same = subst (λ n. Acted g m n None None other (order.Close Own) entry.NoPermit) (sym same) (idle m None other (order.Close Own) entry.NoPermit (λ c o h ds. (refl, refl)))
  not_closed m m' (Some a) other some done = cc

  pub no_other : (m : Block S) (q other : Option Permit) → other ≡ None → Acted g m m q q other (order.Close Other) entry.NoPermit
  no_other m q other is = subst (λ t. Acted g m m q q t (order.Close Other) entry.NoPermit) (sym is) (idle m q None (order.Close Other) entry.NoPermit (λ c o h ds. (refl, refl)))

  kept_back : (a : Permit) (x z : Side S) (e : Entry S) → true ≡ alike x.held a → e ≡ entry.OtherBlocks → z ≡ x → ClosesOther g.kind (Some a) x e z
  kept_back a x z e same is eq = subst (λ t. MatchBool t ((e ≡ entry.OtherBlocks) × (z ≡ x)) (RefusesClose g.kind a x e z)) same (is, eq)

  handed : (a : Permit) (x z : Side S) (e : Entry S) → false ≡ alike x.held a → RefusesClose g.kind a x e z → ClosesOther g.kind (Some a) x e z
  handed a x z e apart w = subst (λ t. MatchBool t ((e ≡ entry.OtherBlocks) × (z ≡ x)) (RefusesClose g.kind a x e z)) apart w

  pub not_handed : (m : Block S) (q other : Option Permit) (a : Permit) → other ≡ Some a → true ≡ alike q a → Acted g m m q q other (order.Close Other) entry.OtherBlocks
  not_handed m q other a is same = subst (λ t. Acted g m m q q t (order.Close Other) entry.OtherBlocks) (sym is) (idle m q (Some a) (order.Close Other) entry.OtherBlocks (λ c o h ds. kept_back a (side c m q o h ds) (side c m q o h ds) entry.OtherBlocks same refl refl))

  pub closed_other : (m m' : Block S) (q other : Option Permit) (a b : Permit) (e : Entry S) → other ≡ Some a → false ≡ alike q a → CloseRefused g.kind m a m' e b → Acted g m m' q q other (order.Close Other) e
  closed_other m m' q other a b e is apart w = subst (λ t. Acted g m m' q q t (order.Close Other) e) (sym is) (record {
    tells = λ h. refused (close a) (NotItsPermit m.stamp) ∷ h;
    acts = λ c o h ds. handed a (side c m q o h ds) (side c m' q o (refused (close a) (NotItsPermit m.stamp) ∷ h) ds) e apart (m', w.entered, w.step, refl);
    history = w.history;
    holding = λ h. subst (λ n. Holding n q) (sym w.step.1) h;
  })

-- an answer of packets as bytes, as `map_or` enters it
pub entered_or_not : {S A : Type 0} (make : A → Entry S) (o : Option A) (e : Entry S) (Q : A → Type 0) → MatchOption o (e ≡ entry.NotCells) Q → ((x : A) → Q x → e ≡ make x) → e ≡ or_not make o
entered_or_not make (Some x) e Q h k = k x h
entered_or_not make None e Q h k = h
