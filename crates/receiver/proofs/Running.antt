-- Runs of packets: how one packet more, or the refused one, makes a run; and that a run goes on with any history.
use Rattle.std.proofs.Common.{◌≡◌, ℕ, ◌+◌, ◌*◌, ◌<◌, ◌≤◌, min, Bool, true, false, cond, eqb, List, [], ◌∷◌, ◌++◌, length, Ok, Err, Result, sym, refl, ap, subst, inl, inr, arith, eq-eqb, eqb-true}
use Rattle.symbols.specs.Cells.{cell_kind}
use Rattle.symbols.specs.declared.kinds.Cell.{Cell}
use Rattle.receiver.specs.declared.run.Layer.{Layer}
use Rattle.receiver.specs.declared.run.Stopped.{Stopped}
use Rattle.receiver.specs.History.{Event, Opened}
use Rattle.receiver.specs.Blocks.{Block}
use Rattle.receiver.specs.Stands.{Stands, GoesOn}
use Rattle.receiver.specs.Runs.{PacketStep, packet_event, packets_in, stopped_at, Runs, with_run}
use Rattle.receiver.proofs.Bytes.{packets_front}
use Rattle.receiver.proofs.Law.{goes_on}

-- a packet more at the front, where n packets were taken before it
pub run_took : (s : ℕ) (m mid m' : Block Cell) (bs p rest : List ℕ) (n : ℕ) (r : Result ℕ Stopped) → bs ≡ p ++ rest → length p ≡ min 68 (length bs) → 0 < length bs → PacketStep m s p (Ok (tt {0})) mid
    → Runs s mid (packets_in rest) (n + 1) ((n + 1) * 68) r m' → Runs s m (packets_in bs) n (n * 68) r m'
run_took s m mid m' bs p rest n r e l some step runs =
    let at : (n + 1) * 68 ≡ n * 68 + 68 = omega arith in
    subst (λ ps. Runs s m ps n (n * 68) r m') (sym (packets_front bs p rest e l some)) (inl (mid, step, subst (λ k. Runs s mid (packets_in rest) (n + 1) k r m') at runs))

pub run_stopped : (s : ℕ) (m m' : Block Cell) (bs p rest : List ℕ) (n at : ℕ) (f : Layer) → bs ≡ p ++ rest → length p ≡ min 68 (length bs) → 0 < length bs → PacketStep {U = Unit {0}} m s p (Err f) m' → Runs s m (packets_in bs) n at (Err (stopped_at at f)) m'
run_stopped s m m' bs p rest n at f e l some step = subst (λ ps. Runs s m ps n at (Err (stopped_at at f)) m') (sym (packets_front bs p rest e l some)) (inr (f, step, refl))

-- with no bytes left a run is over, and has taken as many as were taken before
pub run_over : (s : ℕ) (m : Block Cell) (bs : List ℕ) (n at k : ℕ) → length bs ≡ 0 → k ≡ n → Runs s m (packets_in bs) n at (Ok k) m
run_over s m [] n at k none same = (ap (λ j. Ok j) same, refl)
run_over s m (b ∷ bs) n at k none same = absurd (omega (arith, none))

-- where a refused run stopped
abbrev stopped_of : Stopped → Result ℕ Stopped → Stopped
stopped_of d (Ok n) = d
stopped_of d (Err e) = e

-- a run stops at the place where it is, or later
stops_later : (s : ℕ) (ps : List (List ℕ)) (m m' : Block Cell) (n at : ℕ) (e : Stopped) → Runs s m ps n at (Err e) m' → at ≤ e.at
stops_later s [] m m' n at e u = let f = u.0 in cc
stops_later s (p ∷ ps) m m' n at e (inl u) = let l = stops_later s ps u.0 m' (n + 1) (at + 68) e u.2 in omega arith
stops_later s (p ∷ ps) m m' n at e (inr u) = let z = ap (λ d. d.at) (ap (stopped_of e) u.2) in omega arith

module _ (s : ℕ) where
  -- the block after one packet, and a history that stands of it
  packet_goes_on : {U : Type 0} (m m' : Block Cell) (p : List ℕ) (r : Result U Layer) → m.n ≤ 512 → PacketStep m s p r m' → GoesOn cell_kind m (packet_event s p r ∷ []) m'
  packet_goes_on m m' p r few u = goes_on cell_kind m m' (packet_event s p r) few u.step

  same_places : (m mid : Block Cell) (p : List ℕ) → PacketStep m s p (Ok (tt {0})) mid → mid.n ≡ m.n
  same_places m mid p u = ap (λ b. b.n) u.step.1

  pub run_goes_on : (ps : List (List ℕ)) (m m' : Block Cell) (n at : ℕ) (r : Result ℕ Stopped) → m.n ≤ 512 → Runs s m ps n at r m'
      → (o : Opened) (h : List (Event Cell)) → Stands cell_kind o h m → Stands cell_kind o (with_run s ps at r h) m'
  run_goes_on [] m m' n at r few u o h t = subst (Stands cell_kind o h) (sym u.1) t
  run_goes_on (p ∷ ps) m m' n at (Ok k) few (inl u) o h t =
      run_goes_on ps u.0 m' (n + 1) (at + 68) (Ok k) (omega (arith, same_places m u.0 p u.1)) u.2 o _ (packet_goes_on m u.0 p (Ok (tt {0})) few u.1 o h t)
  run_goes_on (p ∷ ps) m m' n at (Ok k) few (inr u) o h t = let f = u.2 in cc
  run_goes_on (p ∷ ps) m m' n at (Err e) few (inl u) o h t =
      let later = stops_later s ps u.0 m' (n + 1) (at + 68) e u.2 in
      go (eqb e.at at) refl later (run_goes_on ps u.0 m' (n + 1) (at + 68) (Err e) (omega (arith, same_places m u.0 p u.1)) u.2 o _ (packet_goes_on m u.0 p (Ok (tt {0})) few u.1 o h t))
    where
      go : (b : Bool) → eqb e.at at ≡ b → at + 68 ≤ e.at → Stands cell_kind o (with_run s ps (at + 68) (Err e) (packet_event s p (Ok (tt {0})) ∷ h)) m'
          → Stands cell_kind o (cond b (packet_event {U = Unit {0}} s p (Err e.fault) ∷ h) (with_run s ps (at + 68) (Err e) (packet_event s p (Ok (tt {0})) ∷ h))) m'
      go true is later v = absurd (omega (arith, eqb-true _ _ is))
      go false is later v = v
  run_goes_on (p ∷ ps) m m' n at (Err e) few (inr u) o h t =
      subst (λ d. Stands cell_kind o (with_run s (p ∷ ps) at (Err d) h) m') (sym (ap (stopped_of e) u.2)) (stops (eqb at at) (eq-eqb at at refl))
    where
      stops : (b : Bool) → b ≡ true → Stands cell_kind o (cond b (packet_event {U = Unit {0}} s p (Err u.0) ∷ h) (with_run s ps (at + 68) (Err (stopped_at at u.0)) (packet_event s p (Ok (tt {0})) ∷ h))) m'
      stops true is = packet_goes_on m m' p (Err u.0) few u.1 o h t
      stops false is = cc
