-- The law behind every promise over histories: a call that does its step goes on with whatever history stood before it.
use Rattle.std.proofs.Common.{◌≡◌, ℕ, ◌<◌, ◌≤◌, Bool, true, false, ◌||◌, eqb, ltb, ◌≢◌, List, [], ◌∷◌, length, get_or, take, set, replicate, Some, None, Option, sym, refl, ap, ◌∙◌, subst, arith, length-set, get_or-set_other, get_or-set_same, ltb-false, eqb-true, leb-false}
use lib.ListN.{length-replicate, get_or-replicate}
use borrow.Author.Tests.{eqb-false, not-false, both_ways}
use Rattle.std.specs.List.{AllByRecursion}
use Rattle.std.proofs.ByRecursion.{All-weaker}
use Rattle.symbols.specs.Kinds.{Kind}
use Rattle.receiver.specs.declared.block.Out.TheVariants.{Nothing}
use Rattle.receiver.specs.declared.fault.Fault.TheVariants.{BlockNumber, NoStamp, TableLength}
use Rattle.receiver.specs.Calls.{Call, refusal, open_refusal}
use Rattle.receiver.specs.Calls.Call.{receive, show, close, renew}
use Rattle.receiver.specs.History.{Opened, Event, Packet, Solved, Told, after, told, borne, view, Under, InFound, Truth}
use Rattle.receiver.specs.History.Event.{refused, unread, received, searched, shown, closed, renewed}
use Rattle.receiver.specs.Blocks.{Block, seen, closed_block, renewed_block, opened, opened_by}
use Rattle.receiver.specs.Steps.{Step}
use Rattle.receiver.specs.Stands.{opening, Kept, IsFound, Tied, Stands, GoesOn}
use Rattle.receiver.proofs.Refusing.{no_cause, refusal_same, owned, not_out}
use Rattle.receiver.proofs.Packets.{all_both, all_borne}
use Rattle.receiver.proofs.Zeroing.{get_or_zero_missing, length_zero_missing, length_zeroed}

module _ {S : Type 0} (K : Kind S) where
  module _ {o : Opened} {t : Told S} {m : Block S} (d : Tied K o t m) where
    -- the block and the history refuse alike
    pub by_table : (c : Call S) → refusal K (seen m) c ≡ refusal K (view o t) c
    by_table = refusal_same (seen m) (view o t) d.number d.stamp d.places d.out (λ p lt. d.marked p (omega (arith, d.places))) K

    pub under : Under K t
    under = All-weaker _ _ (λ k u. u.stamp_is ∙ d.stamp) t.packets d.kept

  in_found : (l : Option (Solved S)) (w : List S) (p : ℕ) (x : S) → IsFound K l w → p < length w → x ≡ get_or w p K.zero → InFound K l p x
  in_found None w p x h lt e = h
  in_found (Some d) w p x h lt e = (w, h, lt, e)

  -- a block that is tied stays tied to the events that leave it and what is told alone
  same_tied : (o : Opened) (t : Told S) (m m' : Block S) → m' ≡ m → Tied K o t m → Tied K o t m'
  same_tied o t m m' e d = subst (Tied K o t) (sym e) d

  received_tied : (o : Opened) (t : Told S) (m m' : Block S) (b s p : ℕ) (x : S) → Tied K o t m → Step K m (received b s p x) m' → Tied K o (after (received b s p x) t) m'
  received_tied o t m m' b s p x d r =
      let a = no_cause _ _ _ r.0 in
      let b' = no_cause _ _ _ a.1 in
      let c = no_cause _ _ _ b'.1 in
      let e = no_cause _ _ _ c.1 in
      let below : p < m.n = leb-false _ _ e.0 in
      let inside : p < length m.table = omega (arith, below, d.whole) in
      let unmarked : get_or m.received p false ≡ false = (no_cause _ _ _ e.1).0 in
      subst (Tied K o _) (sym r.1) (record {
        number = d.number;
        stamp = d.stamp;
        places = d.places;
        out = d.out;
        whole = length-set m.table p x ∙ d.whole;
        room = simp length-set d.room;
        kept = (
          record { stamp_is = eqb-true _ _ (not-false _ c.0); below = below; symbol_is = get_or-set_same m.table p x K.zero inside },
          all_both (λ k u e. record { stamp_is = u.stamp_is; below = u.below; symbol_is = get_or-set_other m.table p k.place x K.zero (apart unmarked k u e) ∙ u.symbol_is }) t.packets d.kept (all_borne t.packets),
        );
        marked = λ q lt. mark below q lt (eqb p q) refl;
        found = λ is. let off = not_out m.out a.0 in cc;
      })
    where
      apart : get_or m.received p false ≡ false → (k : Packet S) → Kept K m k → borne t.packets k.place ≡ true → k.place ≢ p
      apart unmarked k u e at =
          both_ways (get_or m.received p false) unmarked (subst (λ q. get_or m.received q false ≡ true) at (d.marked k.place u.below ∙ e))

      mark : p < m.n → (q : ℕ) → q < m.n → (c : Bool) → eqb p q ≡ c → get_or (set m.received p true) q false ≡ (c || borne t.packets q)
      mark below q lt true is =
          subst (λ j. get_or (set m.received p true) j false ≡ true) (eqb-true p q is) (get_or-set_same m.received p true false (omega (arith, d.room)))
      mark below q lt false is = get_or-set_other m.received p q true false (λ e. eqb-false p q is (sym e)) ∙ d.marked q lt

  closed_tied : (o : Opened) (t : Told S) (m : Block S) → Tied K o t m → Tied K o (record { stamp = t.stamp; packets = t.packets; out = Nothing; last = t.last }) (closed_block K m)
  closed_tied o t m d = record {
    number = d.number;
    stamp = d.stamp;
    places = d.places;
    out = refl;
    whole = length_zero_missing K.zero (take m.n m.received) m.table ∙ d.whole;
    room = d.room;
    kept = all_both (λ k u e. record {
      stamp_is = u.stamp_is;
      below = u.below;
      symbol_is = get_or_zero_missing K.zero m.received m.table m.n k.place u.below (d.marked k.place u.below ∙ e) ∙ u.symbol_is;
    }) t.packets d.kept (all_borne t.packets);
    marked = d.marked;
    found = λ is. cc;
  }

  -- a block begun afresh is tied to a history that took no packet since
  pub fresh_tied : (o : Opened) (t : Told S) (m : Block S) → m.number ≡ o.number → m.stamp ≡ t.stamp → m.n ≡ o.places → m.out ≡ t.out → m.out ≡ Nothing → length m.table ≡ m.n → m.n ≤ 512 → m.received ≡ replicate 512 false → t.packets ≡ [] → Tied K o t m
  fresh_tied o t m number stamp places out off whole few flags none = record {
    number = number;
    stamp = stamp;
    places = places;
    out = out;
    whole = whole;
    room = omega (arith, few, ap length flags ∙ length-replicate {A = Bool} 512 false);
    kept = subst (AllByRecursion (Kept K m)) (sym none) tt;
    marked = λ p lt. ap (λ l. get_or l p false) flags ∙ get_or-replicate {A = Bool} 512 p false false (omega (arith, few, lt)) ∙ sym (ap (λ ks. borne ks p) none);
    found = λ is. cc;
  }

  -- what is true of an event, and the block that it leaves
  pub step_true : (o : Opened) (t : Told S) (m m' : Block S) → m.n ≤ 512 → Tied K o t m → (e : Event S) → Step K m e m' → Truth K o t e × Tied K o (after e t) m'
  step_true o t m m' few d (refused c f) u = (sym (by_table d c) ∙ u.0, same_tied o t m m' u.1 d)
  step_true o t m m' few d (unread s n) u = (u.0, same_tied o t m m' u.1 d)
  step_true o t m m' few d (received b s p x) u = (sym (by_table d (receive b s p x)) ∙ u.0, received_tied o t m m' b s p x d u)
  step_true o t m m' few d (searched s cs r) u = absurd u
  step_true o t m m' few d (shown q p x) u =
      let a = no_cause _ _ _ u.0 in
      let own = owned (seen m) q (not-false _ a.0) in
      let below : p < m.n = leb-false _ _ (no_cause _ _ _ a.1).0 in (
        record {
          granted = sym (by_table d (show q p)) ∙ u.0;
          in_found = in_found t.last m.table p x (d.found own.0) (omega (arith, below, d.whole)) u.1;
          stamp_borne = own.1 ∙ d.stamp;
          under = under d;
        },
        same_tied o t m m' u.2 d,
      )
  step_true o t m m' few d (closed q) u = (sym (by_table d (close q)) ∙ u.0, subst (Tied K o _) (sym u.1) (closed_tied o t m d))
  step_true o t m m' few d (renewed s) u =
      let off = not_out m.out (no_cause _ _ _ u.0).0 in (
        sym (by_table d (renew s)) ∙ u.0,
        subst (Tied K o _) (sym u.1) (fresh_tied o (after (renewed s) t) (renewed_block K s m) d.number refl d.places d.out off
            (length_zeroed K.zero m.n m.table d.whole) few refl refl),
      )

  -- a step goes on with any history
  pub goes_on : (m m' : Block S) (e : Event S) → m.n ≤ 512 → Step K m e m' → GoesOn K m (e ∷ []) m'
  goes_on m m' e few f o h s =
      let r = step_true o (told o h) m m' few s.tied e f in
      record { truths = (r.0, s.truths); tied = r.1 }

  -- a granted open starts a history
  pub starts : (o : Opened) (m : Block S) → m.number ≡ o.number → m.stamp ≡ o.stamp → m.n ≡ o.places → m.out ≡ Nothing → length m.table ≡ m.n → m.n ≤ 512 → m.received ≡ replicate 512 false → Stands K o [] m
  starts o m number stamp places off whole few flags =
      record { truths = tt; tied = fresh_tied o (told o []) m number stamp places off off whole few flags refl }

  pub opens : (b s : ℕ) (xs : List S) (m : Block S) → m ≡ opened K b s xs → open_refusal b s (length xs) ≡ None → Stands K (opening b s (length xs)) [] m
  opens b s xs m is granted =
      let a = no_cause (ltb 4095 b) (BlockNumber b) _ granted in
      let c = no_cause (eqb s 0) NoStamp _ a.1 in
      let e = no_cause _ (TableLength (length xs)) None c.1 in
      subst (Stands K (opening b s (length xs)) []) (sym (is ∙ ap (λ r. opened_by K r b s xs) granted))
      (starts (opening b s (length xs)) (opened_by K None b s xs) refl refl refl refl (length_zeroed K.zero (length xs) xs refl) (few (length xs) e.0) refl)
    where
      few : (n : ℕ) → (eqb n 0 || ltb 512 n) ≡ false → n ≤ 512
      few n e = go (eqb n 0) e
        where
          go : (b : Bool) → (b || ltb 512 n) ≡ false → n ≤ 512
          go true f = cc
          go false f = ltb-false 512 n f
