-- One call on the side that it goes to: an open, a call on a block that was never opened, and any other.
use Rattle.std.proofs.Common.{◌≡◌, ℕ, ◌+◌, Bool, true, false, cond, eqb, ltb, List, [], length, is_some, Some, None, Ok, MatchBool, Option, sym, refl, ap, ◌∙◌, subst}
use Rattle.std.specs.List.{AllByRecursion}
use Rattle.symbols.specs.Kinds.{Kind}
use Rattle.receiver.specs.declared.block.Out.TheVariants.{Nothing}
use Rattle.receiver.specs.declared.fault.Fault.{Fault}
use Rattle.receiver.specs.declared.permit.Permit.{Permit}
use Rattle.receiver.specs.Blocks.{Block, opened, opened_by}
use Rattle.receiver.specs.Calls.{open_refusal}
use Rattle.receiver.specs.History.{Event, Opened}
use Rattle.receiver.specs.Stands.{Stands, opening}
use Rattle.session.specs.Obeying.{Setting, Acts, Acted, is_open}
use Rattle.session.specs.Sessions.{Obeys, Asks, OpensBy, Opens, Good, Asked, DayTrue, OpenMade, OpenMadeBy, retired, retired_with}
use Rattle.session.specs.Sides.{Day, Side, side, Standing}
use Rattle.session.specs.declared.order.Order.{Order}
use Rattle.session.specs.declared.order.Order.TheVariants as order
use Rattle.session.specs.declared.order.Entry.{Entry}
use Rattle.session.specs.declared.order.Entry.TheVariants as entry

-- a call is no open
abbrev pub NotOpen : {S : Type 0} → Order S → Type 0
NotOpen o = (b s n : ℕ) → o ≡ order.Open b s n → ⊥

pub not_open : {S : Type 0} (o : Order S) → NotOpen o → is_open o ≡ false
not_open (order.Open b s n) un = absurd (un b s n refl)
not_open (order.Receive b s p y) un = refl
not_open (order.Packet s bs) un = refl
not_open (order.Run s bs) un = refl
not_open (order.Solve c p ws ss) un = refl
not_open (order.Show p hand) un = refl
not_open (order.Close hand) un = refl
not_open (order.Renew s) un = refl
not_open order.Figure un = refl
not_open (order.Mark p) un = refl

module _ {S : Type 0} (g : Setting S) where
  as_asked : (other : Option Permit) (x z : Side S) (room room' : ℕ) (o : Order S) (e : Entry S) → NotOpen o → Asks g other x room o e z room' → Obeys g other x room o e z room'
  as_asked other x z room room' (order.Open b s n) e un w = absurd (un b s n refl)
  as_asked other x z room room' (order.Receive b s p y) e un w = w
  as_asked other x z room room' (order.Packet s bs) e un w = w
  as_asked other x z room room' (order.Run s bs) e un w = w
  as_asked other x z room room' (order.Solve c p ws ss) e un w = w
  as_asked other x z room room' (order.Show p hand) e un w = w
  as_asked other x z room room' (order.Close hand) e un w = w
  as_asked other x z room room' (order.Renew s) e un w = w
  as_asked other x z room room' order.Figure e un w = w
  as_asked other x z room room' (order.Mark p) e un w = w

  unopened_so : (other : Option Permit) (x z : Side S) (room : ℕ) (o : Order S) (e : Entry S) → x.begun ≡ false → e ≡ entry.NoBlock → z ≡ x → Asks g other x room o e z room
  unopened_so other x z room o e b is eq = (subst (λ t. MatchBool t (Acts g other x o e z) ((e ≡ entry.NoBlock) × (z ≡ x))) (sym b) (is, eq), refl)

  acted_so : (other : Option Permit) (x z : Side S) (room : ℕ) (o : Order S) (e : Entry S) → x.begun ≡ true → Acts g other x o e z → Asks g other x room o e z room
  acted_so other x z room o e b w = (subst (λ t. MatchBool t (Acts g other x o e z) ((e ≡ entry.NoBlock) × (z ≡ x))) (sym b) w, refl)

  module _ (other : Option Permit) (begun : Bool) (m : Block S) (q : Option Permit) (o : Option Opened) (h : List (Event S)) (ds : List (Day S)) (room : ℕ) (c : Order S) where
    pub asked_unopened : NotOpen c → begun ≡ false → Asked g other (side begun m q o h ds) room c entry.NoBlock begun m q room
    asked_unopened un b = record {
      opened_with = o;
      history = h;
      past = ds;
      obeys = as_asked other (side begun m q o h ds) (side begun m q o h ds) room room c entry.NoBlock un (unopened_so other (side begun m q o h ds) (side begun m q o h ds) room c entry.NoBlock b refl refl);
      good = λ w. w;
    }

    pub asked_acted : (m' : Block S) (q' : Option Permit) (e : Entry S) → NotOpen c → begun ≡ true → Acted g m m' q q' other c e → Asked g other (side begun m q o h ds) room c e begun m' q' room
    asked_acted m' q' e un b w = record {
      opened_with = o;
      history = w.tells h;
      past = ds;
      obeys = as_asked other (side begun m q o h ds) (side begun m' q' o (w.tells h) ds) room room c e un (acted_so other (side begun m q o h ds) (side begun m' q' o (w.tells h) ds) room c e b (w.acts begun o h ds));
      good = λ x. record { standing = on o x.standing; holding = w.holding x.holding; past = x.past };
    }
      where
        on : (o : Option Opened) → Standing g.kind o h m → Standing g.kind o (w.tells h) m'
        on None s = tt
        on (Some p) s = w.history p h s

    pub asked_held : (a : Permit) (b s n : ℕ) → q ≡ Some a → c ≡ order.Open b s n → Asked g other (side begun m q o h ds) room c entry.PermitInHand begun m q room
    asked_held a b s n is opens = record {
      opened_with = o;
      history = h;
      past = ds;
      obeys = subst (λ t. Obeys g other (side begun m q o h ds) room t entry.PermitInHand (side begun m q o h ds) room) (sym opens)
          (subst (λ t. Opens g t b s n (side begun m q o h ds) room entry.PermitInHand (side begun m q o h ds) room) (sym is) (refl, refl, refl));
      good = λ w. w;
    }

  -- every event of a side's blocks was true
  all_true : (o : Option Opened) (h : List (Event S)) (ds : List (Day S)) (m : Block S) → Standing g.kind o h m → AllByRecursion (DayTrue g) ds → AllByRecursion (DayTrue g) (retired_with o h ds)
  all_true None h ds m s w = w
  all_true (Some p) h ds m s w = (s.truths, w)

  pub retired_true : (x : Side S) → Good g x → AllByRecursion (DayTrue g) (retired x)
  retired_true x w = all_true x.opened x.history x.past x.block w.standing w.past

opened_out : {S : Type 0} (K : Kind S) (f : Option Fault) (b s : ℕ) (xs : List S) → (opened_by K f b s xs).out ≡ Nothing
opened_out K None b s xs = refl
opened_out K (Some f) b s xs = refl

-- an open over no table is refused
pub none_refused : (b s : ℕ) → is_some (open_refusal b s 0) ≡ true
none_refused b s = go (ltb 4095 b) (eqb s 0)
  where
    use_first : {F : Type 0} (f : F) (r : Option F) (b : Bool) → is_some r ≡ true → is_some (cond b (Some f) r) ≡ true
    use_first f r true w = refl
    use_first f r false w = w

    go : (p q : Bool) → is_some (open_refusal b s 0) ≡ true
    go p q = use_first _ _ (ltb 4095 b) (use_first _ _ (eqb s 0) refl)

module _ {S : Type 0} (g : Setting S) (other : Option Permit) (begun begun' : Bool) (m m' : Block S) (o : Option Opened) (h : List (Event S)) (ds : List (Day S)) (room room' b s n : ℕ) (e : Entry S) where
  -- the side before
  was : Side S
  was = side begun m None o h ds

  opened_none : OpenMade g.kind b s n begun m room e begun' m' room' → Asked g other (side begun m None o h ds) room (order.Open b s n) e begun' m' None room'
  opened_none made = go (open_refusal b s n) refl made
    where
      go : (f : Option Fault) → open_refusal b s n ≡ f → OpenMadeBy g.kind f b s n begun m room e begun' m' room' → Asked g other (side begun m None o h ds) room (order.Open b s n) e begun' m' None room'
      go (Some f) is w = record {
        opened_with = None;
        history = [];
        past = retired (side begun m None o h ds);
        obeys = subst (λ t. OpensBy g t b s n (side begun m None o h ds) room e (side begun' m' None None [] (retired (side begun m None o h ds))) room') (sym is)
            ([], w.0, none_refused b s, w.3, λ i. side (w.1 i) (w.2 i) None None [] (retired (side begun m None o h ds)));
        good = λ x. record {
          standing = tt;
          holding = ap (λ t. t.out) w.2 ∙ opened_out g.kind (open_refusal b s 0) b s [];
          past = retired_true g (side begun m None o h ds) x;
        };
      }
      go None is w = by (ltb room n) refl w
        where
          by : (t : Bool) → ltb room n ≡ t
              → MatchBool t ((e ≡ entry.NoMemory) × (begun' ≡ begun) × (m' ≡ m) × (room' ≡ room)) ((table : List S) × (e ≡ entry.Opened (Ok tt)) × (begun' ≡ true) × (length table ≡ n) × (m' ≡ opened g.kind b s table) × (room' + n ≡ room) × Stands g.kind (opening b s n) [] m')
              → Asked g other (side begun m None o h ds) room (order.Open b s n) e begun' m' None room'
          by true less v = record {
            opened_with = o;
            history = h;
            past = ds;
            obeys = subst (λ t. OpensBy g t b s n (side begun m None o h ds) room e (side begun' m' None o h ds) room') (sym is)
                (short e (side begun m None o h ds) (side begun' m' None o h ds) less v.0 (λ i. side (v.1 i) (v.2 i) None o h ds) v.3);
            good = λ x. subst (λ t. Good g (side t m' None o h ds)) (sym v.1) (subst (λ t. Good g (side begun t None o h ds)) (sym v.2) x);
          }
            where
              short : (e : Entry S) (x z : Side S) → ltb room n ≡ true → e ≡ entry.NoMemory → z ≡ x → room' ≡ room → OpensBy g None b s n x room e z room'
              short e x z l p q r = subst (λ t. MatchBool t ((e ≡ entry.NoMemory) × (z ≡ x) × (room' ≡ room)) ((table : List S) × (e ≡ entry.Opened (Ok tt)) × (length table ≡ n) × (room' + n ≡ room) × (z ≡ side true (opened g.kind b s table) None (Some (opening b s n)) [] (retired x)))) (sym l) (p, q, r)
          by false less v = record {
            opened_with = Some (opening b s n);
            history = [];
            past = retired (side begun m None o h ds);
            obeys = subst (λ t. OpensBy g t b s n (side begun m None o h ds) room e (side begun' m' None (Some (opening b s n)) [] (retired (side begun m None o h ds))) room') (sym is)
                (enough e (side begun m None o h ds) (side begun' m' None (Some (opening b s n)) [] (retired (side begun m None o h ds))) less v.0 v.1 v.3 v.5 (λ i. side (v.2 i) (v.4 i) None (Some (opening b s n)) [] (retired (side begun m None o h ds))));
            good = λ x. record {
              standing = v.6;
              holding = ap (λ t. t.out) v.4 ∙ opened_out g.kind (open_refusal b s (length v.0)) b s v.0;
              past = retired_true g (side begun m None o h ds) x;
            };
          }
            where
              enough : (e : Entry S) (x z : Side S) → ltb room n ≡ false → (table : List S) → e ≡ entry.Opened (Ok tt) → length table ≡ n → room' + n ≡ room → z ≡ side true (opened g.kind b s table) None (Some (opening b s n)) [] (retired x) → OpensBy g None b s n x room e z room'
              enough e x z l table p q r w = subst (λ t. MatchBool t ((e ≡ entry.NoMemory) × (z ≡ x) × (room' ≡ room)) ((table : List S) × (e ≡ entry.Opened (Ok tt)) × (length table ≡ n) × (room' + n ≡ room) × (z ≡ side true (opened g.kind b s table) None (Some (opening b s n)) [] (retired x)))) (sym l) (table, p, q, r, w)

  pub asked_opened : (q : Option Permit) (c : Order S) → q ≡ None → c ≡ order.Open b s n → OpenMade g.kind b s n begun m room e begun' m' room' → Asked g other (side begun m q o h ds) room c e begun' m' None room'
  asked_opened q c is opens made =
      subst (λ t. Asked g other (side begun m t o h ds) room c e begun' m' None room') (sym is)
      (subst (λ t. Asked g other (side begun m None o h ds) room t e begun' m' None room') (sym opens) (opened_none made))
