-- Where rows begin: one list of numbers for all rows, read and made place by place.
use Rattle.std.proofs.Common.{◌≡◌, ℕ, zero, suc, ◌+◌, ◌<◌, ◌≤◌, true, eqb, List, [], ◌∷◌, length, get_or, take, drop, ltb, cond, ⊎_elim, add-one, sym, refl, ap, ◌∙◌, subst, arith}
use Rattle.std.proofs.lemmas.Bool.{and_parts, and_from, eq-eqb, eqb-true, cond-true, cond-false, lt-ltb, le-ltb, cases_lt}
use Rattle.std.specs.List.{prefix_len}
use Rattle.std.proofs.lemmas.List.Folds.{length-prefix_len}
use Rattle.codes.specs.declared.record.Record.{Record}
use Rattle.codes.specs.RecordLaws.{Rising}
use Rattle.codes.specs.Records.{row_of, lower, begins_at, Parts}
use Rattle.codes.proofs.Segments.{parted, rows_below}

-- the records of rows below r at the front of a list, counted
lower_len : (rs : List Record) (r : ℕ) → prefix_len (λ k. ltb k.row r) rs ≡ lower rs r
lower_len [] r = refl
lower_len (k ∷ ks) r = ap (λ n. cond (ltb k.row r) n 0) (ap (λ n. 1 + n) (lower_len ks r) ∙ omega arith)

pub lower_prefix : (rs : List Record) (r : ℕ) → length (take (prefix_len (λ k. ltb k.row r) rs) rs) ≡ lower rs r
lower_prefix rs r = length-prefix_len (λ k. ltb k.row r) rs ∙ lower_len rs r

-- where those of a row before are counted already, the others are counted from there on
pub lower_more : (rs : List Record) (q r : ℕ) → q ≤ r → lower rs q + lower (drop (lower rs q) rs) r ≡ lower rs r
lower_more [] q r h = refl
lower_more (k ∷ ks) q r h =
    ⊎_elim
    (λ (l : k.row < q).
    let t = cond-true {A = ℕ} (ltb k.row q) (lower ks q + 1) 0 (lt-ltb _ _ l) in
    let u = cond-true {A = ℕ} (ltb k.row r) (lower ks r + 1) 0 (lt-ltb _ _ (omega arith)) in
    ap (λ n. n + lower (drop n (k ∷ ks)) r) t ∙ ap (λ n. lower ks q + 1 + lower (drop n (k ∷ ks)) r) (add-one (lower ks q)) ∙ omega (arith, lower_more ks q r h, u))
    (λ (l : q ≤ k.row). ap (λ n. n + lower (drop n (k ∷ ks)) r) (cond-false {A = ℕ} (ltb k.row q) (lower ks q + 1) 0 (le-ltb _ _ l)) ∙ omega arith)
    (cases_lt k.row q)

pub lower_most : (rs : List Record) (r : ℕ) → lower rs r ≤ length rs
lower_most [] r = omega arith
lower_most (k ∷ ks) r =
    ⊎_elim
    (λ (l : k.row < r). omega (arith, cond-true {A = ℕ} (ltb k.row r) (lower ks r + 1) 0 (lt-ltb _ _ l), lower_most ks r))
    (λ (l : r ≤ k.row). omega (arith, cond-false {A = ℕ} (ltb k.row r) (lower ks r + 1) 0 (le-ltb _ _ l)))
    (cases_lt k.row r)

pub lower_zero : (rs : List Record) → lower rs 0 ≡ 0
lower_zero [] = refl
lower_zero (k ∷ ks) = cond-false _ _ _ (le-ltb k.row 0 (omega arith))

-- records of lower rows up to place q, and none at q
pub lower_is : (rs : List Record) (r q : ℕ) → q ≤ length rs → ((k : ℕ) → k < q → row_of rs k < r) → (q < length rs → r ≤ row_of rs q) → q ≡ lower rs r
lower_is [] r q w b a = omega arith
lower_is (x ∷ xs) r zero w b a = sym (cond-false _ _ _ (le-ltb x.row r (a (omega arith))))
lower_is (x ∷ xs) r (suc q) w b a =
    let next : suc q ≡ q + 1 = omega arith in
    next ∙ ap (λ v. v + 1) (lower_is xs r q (omega arith) (λ k h. b (suc k) (omega arith)) (λ h. a (omega arith))) ∙ sym (cond-true _ _ _ (lt-ltb x.row r (b 0 (omega arith))))

pub lower_parts : (m n : ℕ) (rs : List Record) → n ≤ 512 → Rising m n 0 rs → (r p : ℕ) → p ≡ lower rs r → Parts rs r p
lower_parts m n rs small h r p e =
    let t = parted m n 0 rs small h r in
    let same : t.0 ≡ lower rs r = lower_is rs r t.0 t.1.within t.1.before (λ u. t.1.after t.0 (omega arith) u) in
    subst (Parts rs r) (same ∙ sym e) t.1

-- past the last row
pub all_lower : (m n : ℕ) (rs : List Record) → Rising m n 0 rs → (r : ℕ) → m ≤ r → Parts rs r (length rs)
all_lower m n rs h r l = record {
  within = omega arith;
  before = λ k u. omega (arith, rows_below m n 0 rs h k u);
  after = λ k v u. absurd (omega arith);
}

pub begins : (rs : List Record) (r : ℕ) (ps : List ℕ) (k : ℕ) → begins_at rs r ps ≡ true → k < length ps → get_or ps k 0 ≡ lower rs (r + k)
begins rs r [] k b h = absurd (omega arith)
begins rs r (p ∷ ps) zero b h =
    let here : r ≡ r + zero = omega arith in
    eqb-true _ _ (and_parts (eqb p (lower rs r)) (begins_at rs (r + 1) ps) b).0 ∙ ap (lower rs) here
begins rs r (p ∷ ps) (suc k) b h =
    let next : r + 1 + k ≡ r + suc k = omega arith in
    begins rs (r + 1) ps k (and_parts (eqb p (lower rs r)) (begins_at rs (r + 1) ps) b).1 (omega arith) ∙ ap (lower rs) next

pub begun : (rs : List Record) (r : ℕ) (ps : List ℕ) → ((k : ℕ) → k < length ps → get_or ps k 0 ≡ lower rs (r + k)) → begins_at rs r ps ≡ true
begun rs r [] h = refl
begun rs r (p ∷ ps) h =
    let here : r + 0 ≡ r = omega arith in
    and_from _ _ (eq-eqb p (lower rs r) (h 0 (omega arith) ∙ ap (lower rs) here))
    (begun rs (r + 1) ps (λ k l. let next : r + suc k ≡ r + 1 + k = omega arith in h (suc k) (omega arith) ∙ ap (lower rs) next))
