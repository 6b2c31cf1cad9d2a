-- What a packet's bytes are read as, and bytes cut into packets.
use Rattle.std.proofs.Common.{◌≡◌, ℕ, zero, suc, ◌<◌, ◌≤◌, min, Bool, true, false, cond, not, eqb, List, [], ◌∷◌, ◌++◌, length, take, drop, Ok, Err, Result, refl, ap, ◌∙◌, append-nil, arith, length-append, length-drop, take_all, eqb-true}
use Rattle.std.proofs.lemmas.List.{drop_all}
use Rattle.std.proofs.Math.Seq.{take-append_seam, drop-append_seam}
use Rattle.refusals.specs.Refusals.{Refusal, refusal}
use Rattle.packets.specs.Packets.{block_of, number_of, cell_of, read_header, read_cell}
use Rattle.receiver.specs.Runs.{cut, packets_in}

-- an answer that was granted passed its test
granted : {X F : Type 0} (b : Bool) (f : F) (x y : X) → ◌≡◌ {A = Result X F} (Ok x) (cond (not b) (Err f) (Ok y)) → (b ≡ true) × (x ≡ y)
granted true f x y e = (refl, cc)
granted false f x y e = cc

-- a header that is read has the length of a packet, and its two numbers
pub header_read : (bs : List ℕ) (b n : ℕ) → ◌≡◌ {A = Result (ℕ × ℕ) Refusal} (Ok (b, n)) (read_header bs) → (length bs ≡ 68) × (b ≡ block_of bs) × (n ≡ number_of bs)
header_read bs b n e =
    let g = granted (eqb (length bs) 68) (refusal 1 (length bs ∷ [])) (b, n) (block_of bs, number_of bs) e in
    (eqb-true _ _ g.0, ap (λ t. t.0) g.1, ap (λ t. t.1) g.1)

pub cell_read : (bs cs : List ℕ) → ◌≡◌ {A = Result (List ℕ) Refusal} (Ok cs) (read_cell bs) → cs ≡ cell_of bs
cell_read bs cs e = (granted (eqb (length bs) 68) (refusal 1 (length bs ∷ [])) cs (cell_of bs) e).1

-- enough is enough, however much
cut_enough : (j k : ℕ) (bs : List ℕ) → length bs ≤ j → length bs ≤ k → cut j bs ≡ cut k bs
cut_enough zero zero bs p q = refl
cut_enough zero (suc k) [] p q = refl
cut_enough zero (suc k) (b ∷ bs) p q = absurd (omega arith)
cut_enough (suc j) zero [] p q = refl
cut_enough (suc j) zero (b ∷ bs) p q = absurd (omega arith)
cut_enough (suc j) (suc k) [] p q = refl
cut_enough (suc j) (suc k) (b ∷ bs) p q =
    let l = length-drop 68 (b ∷ bs) in
    ap (λ ps. take 68 (b ∷ bs) ∷ ps) (cut_enough j k (drop 68 (b ∷ bs)) (omega (arith, l)) (omega (arith, l)))

-- the first packet, and those of the bytes behind it
packets_more : (bs : List ℕ) → 0 < length bs → packets_in bs ≡ take 68 bs ∷ packets_in (drop 68 bs)
packets_more [] some = absurd (omega arith)
packets_more (b ∷ bs) some =
    let l = length-drop 68 (b ∷ bs) in
    ap (λ ps. take 68 (b ∷ bs) ∷ ps) (cut_enough (length bs) (length (drop 68 (b ∷ bs))) (drop 68 (b ∷ bs)) (omega (arith, l)) (omega arith))

-- what a chunk is cut off: the first packet, and the bytes behind it
cut_off : (bs p rest : List ℕ) → bs ≡ p ++ rest → length p ≡ min 68 (length bs) → (take 68 bs ≡ p) × (drop 68 bs ≡ rest)
cut_off bs p [] e l =
    let short : length (p ++ []) ≤ 68 = omega (arith, l, ap length e, length-append p []) in
    (ap (take 68) e ∙ take_all 68 (p ++ []) short ∙ append-nil p, ap (drop 68) e ∙ drop_all 68 (p ++ []) short)
cut_off bs p (x ∷ rest) e l =
    let full : 68 ≡ length p = omega (arith, l, ap length e, length-append p (x ∷ rest)) in (
      ap (take 68) e ∙ ap (λ n. take n (p ++ x ∷ rest)) full ∙ take-append_seam p (x ∷ rest),
      ap (drop 68) e ∙ ap (λ n. drop n (p ++ x ∷ rest)) full ∙ drop-append_seam p (x ∷ rest),
    )

pub packets_front : (bs p rest : List ℕ) → bs ≡ p ++ rest → length p ≡ min 68 (length bs) → 0 < length bs → packets_in bs ≡ p ∷ packets_in rest
packets_front bs p rest e l some =
    let c = cut_off bs p rest e l in
    packets_more bs some ∙ (λ i. c.0 i ∷ packets_in (c.1 i))
