-- Solving in a session: what the block's solve ensures, as a session tells it.
use Rattle.std.proofs.Common.{◌≡◌, ℕ, true, false, ◌||◌, ltb, [], ◌∷◌, length, Some, None, Ok, Err, MatchBool, Option, Result, sym, refl, ap, ◌∙◌, subst}
use Rattle.std.proofs.Math.Logic.{∥∥₁_elim}
use mathlib.Core.HLevel.{⊥_prop}
use Rattle.symbols.specs.Kinds.{Kind}
use Rattle.codes.specs.Matrix.{Matrix}
use Rattle.method.specs.Method.{Outcome}
use Rattle.method.specs.Method.Outcome.{none, one, several}
use Rattle.codes.specs.Refusals.{Cause}
use Rattle.codes.specs.declared.refusal.Refusal.{Refusal}
use Rattle.piles.specs.Piles.{pile_code, Done}
use Rattle.piles.specs.declared.pile.Pile.{Pile}
use Rattle.piles.specs.declared.policy.PolicyName.{PolicyName}
use Rattle.receiver.specs.declared.fault.Fault.{Fault}
use Rattle.receiver.specs.declared.fault.Unsolved.{Unsolved}
use Rattle.receiver.specs.declared.permit.Permit.{Permit}
use borrow.Author.Tests.{clash}
use Rattle.receiver.proofs.Refusing.{no_cause}
use Rattle.receiver.specs.Calls.{refusal, is_out}
use Rattle.receiver.specs.Calls.Call.{solve}
use Rattle.receiver.specs.Blocks.{Block, seen}
use Rattle.receiver.specs.Solves.{search_of, found_of, after_search, answer_of, solve_event, outcome, solved_by}
use Rattle.receiver.specs.View.{model}
use Rattle.receiver.specs.Holding.{Holding}
use Rattle.session.specs.Naming.{named_choice}
use Rattle.session.specs.Obeying.{permit_of, Setting, Acted, Solves, SolvesWith, FreeFor, solved_entry, hand_after}
use Rattle.session.specs.Sides.{Side, side, Solved, PileSolved, solve_by, coded, pile_at, pile_in, code_in}
use Rattle.session.specs.Tasks.{SolvedStill}
use Rattle.session.specs.declared.solving.SolveTask.{SolveTask}
use Rattle.session.specs.declared.named.Named.{Named}
use Rattle.session.specs.declared.order.Order.TheVariants as order
use Rattle.session.specs.declared.order.Entry.{Entry}
use Rattle.session.specs.declared.order.Entry.TheVariants as entry
use Rattle.session.proofs.Acts.{idle}

module _ {S : Type 0} (K : Kind S) (k : Matrix) (m : Block S) (p : Named) where
  -- a permit bears the block's numbers, and is out
  permitted : (o : Option Fault) (q : Permit) → (solved_by K named_choice k m p o [] []).answer ≡ Ok q
      → (q ≡ permit_of m q.report) × Holding (solved_by K named_choice k m p o [] []).block (Some q)
  permitted (Some f) q e = cc
  permitted None q e = go (outcome K named_choice k m p) e
    where
      go : (o : Outcome S) → answer_of (found_of m o) ≡ Ok q → (q ≡ permit_of m q.report) × Holding (after_search m o) (Some q)
      go (none v a) e = cc
      go (one v a w) e =
          let same : q ≡ permit_of m _ = sym (ap (λ r. elim r [ Ok a ↦ a | Err u ↦ q ]) e) in
          (same ∙ sym (ap (λ a. permit_of m a.report) same), (refl, ap (λ a. a.number) same, ap (λ a. a.stamp) same))
      go (several v a f) e = cc

  -- without a permit the block is as it was
  unpermitted : (o : Option Fault) (u : Unsolved) → (solved_by K named_choice k m p o [] []).answer ≡ Err u → (solved_by K named_choice k m p o [] []).block ≡ m
  unpermitted (Some f) u e = refl
  unpermitted None u e = go (outcome K named_choice k m p) e
    where
      go : (o : Outcome S) → answer_of (found_of m o) ≡ Err u → after_search m o ≡ m
      go (none v a) e = refl
      go (one v a w) e = cc
      go (several v a f) e = refl

module _ {S : Type 0} (K : Kind S) (k : Matrix) (p : PolicyName) (ws ss : ℕ) (m m' : Block S) where
  pub permit_told : (q : Permit) → Solved K k p ws ss m (Ok q) m' → (q ≡ permit_of m q.report) × Holding m' (Some q)
  permit_told q s =
      let t = permitted K k m (record { name = p }) (refusal K (seen m) (solve (search_of k ws ss))) q s.answer in
      (t.0, subst (λ n. Holding n (Some q)) s.block t.1)

  pub none_told : (u : Unsolved) → Solved K k p ws ss m (Err u) m' → m' ≡ m
  none_told u s = sym s.block ∙ unpermitted K k m (record { name = p }) (refusal K (seen m) (solve (search_of k ws ss))) u s.answer

  -- a solve gives no permit while one is out
  none_while_out : (a q : Permit) → Holding m (Some a) → Solved K k p ws ss m (Ok q) m' → ⊥
  none_while_out a q h s = go (refusal K (seen m) (solve (search_of k ws ss))) refl s.answer
    where
      go : (o : Option Fault) → refusal K (seen m) (solve (search_of k ws ss)) ≡ o → (solved_by K named_choice k m (record { name = p }) o [] []).answer ≡ Ok q → ⊥
      go (Some f) is e = cc
      go None is e = clash (sym (no_cause _ _ _ is).0 ∙ ap is_out h.0)

pub free_for : {S : Type 0} (K : Kind S) (k : Result Matrix Cause) (p : PolicyName) (ws ss : ℕ) (m m' : Block S) (q : Option Permit) (r : Result Permit Unsolved) → ∥ Holding m q ∥₁ → PileSolved K k p ws ss m (Ok r) m' → FreeFor q r
free_for K (Err c) p ws ss m m' q r h s = absurd s
free_for K (Ok k) p ws ss m m' None (Ok a) h s = refl
free_for K (Ok k) p ws ss m m' (Some b) (Ok a) h s = absurd (∥∥₁_elim h ⊥_prop (λ held. none_while_out K k p ws ss m m' b a held s))
free_for K (Ok k) p ws ss m m' q (Err u) h s = tt

-- a solve with the code of a pile, from what its task did; the block is still the one that was lent
pub pile_told : {S : Type 0} (K : Kind S) (k : Result Matrix Cause) (s t : SolveTask S) (r : Result (Result Permit Unsolved) Refusal)
    → Done (λ s k r t. SolvedStill K k s r t) s t k r
    → PileSolved K k s.name (length s.words.now) (length s.sides.now) (model s.block.now) r (model t.block.now) × (t.block.ghost_name ≡ s.block.ghost_name)
pile_told K (Ok k) s t (Ok r) d = (d.solved, d.lent)
pile_told K (Ok k) s t (Err e) d = absurd d
pile_told K (Err c) s t (Ok r) d = absurd d
pile_told K (Err c) s t (Err e) d = (ap (λ t. model t.block.now) d.1, ap (λ t. t.block.ghost_name) d.1)

module _ {S : Type 0} (g : Setting S) (m m' : Block S) (c : Option ℕ) (p : PolicyName) (ws ss : ℕ) (q other : Option Permit) where
  abbrev Enough : Type 0
  Enough = false ≡ (ltb g.memory.words ws || ltb g.memory.symbols ss)

  -- one of the session's codes, by its pile
  found_code : (pile : Pile) (k : Matrix) → pile_at g.codes c ≡ Some pile → pile_code pile ≡ Ok k → coded g.codes c ≡ Some k
  found_code pile k at is = ap pile_in at ∙ ap code_in is

  -- with memory enough, a solve is what it made of the block with the code, or without one
  with_code : (k : Option Matrix) → Enough → coded g.codes c ≡ k → (e : Entry S) (x z : Side S) → SolvesWith g.kind k p ws ss x e z → Solves g.kind g.memory (coded g.codes c) p ws ss x e z
  with_code k enough is e x z w = subst (λ t. MatchBool t ((e ≡ entry.NoMemory) × (z ≡ x)) (SolvesWith g.kind (coded g.codes c) p ws ss x e z)) enough (subst (λ t. SolvesWith g.kind t p ws ss x e z) (sym is) w)

  solved_with : (pile : Pile) (a : Permit) → Enough → pile_at g.codes c ≡ Some pile → PileSolved g.kind (pile_code pile) p ws ss m (Ok (Ok a)) m' → Acted g m m' q (Some a) other (order.Solve c p ws ss) (entry.Solved (Ok a.report))
  solved_with pile a enough at made = go (pile_code pile) refl made
    where
      go : (r : Result Matrix Cause) → pile_code pile ≡ r → PileSolved g.kind r p ws ss m (Ok (Ok a)) m' → Acted g m m' q (Some a) other (order.Solve c p ws ss) (entry.Solved (Ok a.report))
      go (Err e) is s = absurd s
      go (Ok k) is s =
          let t = permit_told g.kind k p ws ss m m' a s in
          record {
            tells = λ h. solve_event (search_of k ws ss) (solve_by g.kind k p ws ss m).named (Ok a) ∷ h;
            acts = λ b o h ds. with_code (Some k) enough (found_code pile k at is) _ _ _ (
              Ok a.report,
              m',
              refl,
              s.answer ∙ ap Ok t.0,
              s.block,
              λ i. side b m' (Some (t.0 i)) o (solve_event (search_of k ws ss) (solve_by g.kind k p ws ss m).named (Ok (t.0 i)) ∷ h) ds,
            );
            history = s.history;
            holding = λ h. t.1;
          }

  solved_without : (pile : Pile) (u : Unsolved) → Enough → pile_at g.codes c ≡ Some pile → PileSolved g.kind (pile_code pile) p ws ss m (Ok (Err u)) m' → Acted g m m' q q other (order.Solve c p ws ss) (entry.Solved (Err u))
  solved_without pile u enough at made = go (pile_code pile) refl made
    where
      go : (r : Result Matrix Cause) → pile_code pile ≡ r → PileSolved g.kind r p ws ss m (Ok (Err u)) m' → Acted g m m' q q other (order.Solve c p ws ss) (entry.Solved (Err u))
      go (Err e) is s = absurd s
      go (Ok k) is s = record {
        tells = λ h. solve_event (search_of k ws ss) (solve_by g.kind k p ws ss m).named (Err u) ∷ h;
        acts = λ b o h ds. with_code (Some k) enough (found_code pile k at is) _ _ _ (Err u, m', refl, s.answer, s.block, refl);
        history = s.history;
        holding = λ h. subst (λ n. Holding n q) (sym (none_told g.kind k p ws ss m m' u s)) h;
      }

  pub solved_so : (pile : Pile) (r : Result Permit Unsolved) (e : Entry S) (q' : Option Permit) → Enough → pile_at g.codes c ≡ Some pile → PileSolved g.kind (pile_code pile) p ws ss m (Ok r) m' → e ≡ solved_entry r → q' ≡ hand_after q r
      → Acted g m m' q q' other (order.Solve c p ws ss) e
  solved_so pile (Ok a) e q' enough at made is hand = subst (λ t. Acted g m m' q q' other (order.Solve c p ws ss) t) (sym is) (subst (λ t. Acted g m m' q t other (order.Solve c p ws ss) (entry.Solved (Ok a.report))) (sym hand) (solved_with pile a enough at made))
  solved_so pile (Err u) e q' enough at made is hand = subst (λ t. Acted g m m' q q' other (order.Solve c p ws ss) t) (sym is) (subst (λ t. Acted g m m' q t other (order.Solve c p ws ss) (entry.Solved (Err u))) (sym hand) (solved_without pile u enough at made))

  no_code : coded g.codes c ≡ None → Enough → m' ≡ m → Acted g m m' q q other (order.Solve c p ws ss) entry.NoCode
  no_code is enough same = subst (λ n. Acted g m n q q other (order.Solve c p ws ss) entry.NoCode) (sym same)
      (idle g m q other (order.Solve c p ws ss) entry.NoCode (λ b o h ds. with_code None enough is entry.NoCode (side b m q o h ds) (side b m q o h ds) (refl, refl)))

  pub without_pile : Enough → pile_at g.codes c ≡ None → m' ≡ m → Acted g m m' q q other (order.Solve c p ws ss) entry.NoCode
  without_pile enough at same = no_code (ap pile_in at) enough same

  pub with_no_code : (pile : Pile) (e : Refusal) → Enough → pile_at g.codes c ≡ Some pile → PileSolved g.kind (pile_code pile) p ws ss m (Err e) m' → Acted g m m' q q other (order.Solve c p ws ss) entry.NoCode
  with_no_code pile e enough at made = go (pile_code pile) refl made
    where
      go : (r : Result Matrix Cause) → pile_code pile ≡ r → PileSolved g.kind r p ws ss m (Err e) m' → Acted g m m' q q other (order.Solve c p ws ss) entry.NoCode
      go (Ok k) is s = absurd s
      go (Err f) is s = no_code (ap pile_in at ∙ ap code_in is) enough s

module _ {S : Type 0} (g : Setting S) (m : Block S) (c : Option ℕ) (p : PolicyName) (ws ss : ℕ) (q other : Option Permit) where
  short_so : true ≡ (ltb g.memory.words ws || ltb g.memory.symbols ss) → (e : Entry S) (x z : Side S) → e ≡ entry.NoMemory → z ≡ x → Solves g.kind g.memory (coded g.codes c) p ws ss x e z
  short_so short e x z is eq = subst (λ t. MatchBool t ((e ≡ entry.NoMemory) × (z ≡ x)) (SolvesWith g.kind (coded g.codes c) p ws ss x e z)) short (is, eq)

  pub too_little : true ≡ (ltb g.memory.words ws || ltb g.memory.symbols ss) → Acted g m m q q other (order.Solve c p ws ss) entry.NoMemory
  too_little short = idle g m q other (order.Solve c p ws ss) entry.NoMemory (λ b o h ds. short_so short entry.NoMemory (side b m q o h ds) (side b m q o h ds) refl refl)
