-- The laws of the cell, from those of exclusive or on bytes. (Lemmas: nothing here is to be believed.)
--
--   same_cell     cells of the same bytes are equal
--   fitted_is     64 bytes fit as they are
--   sum_bytes     the bytes of a sum
--   xors_assoc, xors_comm, xors_zero, xors_self    exclusive or, byte by byte: associative, commutative, with zeros and with itself
--   cell_laws     the five laws of the cell
use Rattle.std.specs.Prelude.{◌≡◌, ℕ, List, [], ◌∷◌, length, replicate, bit_xor, refl, slice_index}
use Rattle.std.proofs.Common.{sym, ap, ap₂, ◌∙◌, arith}
use mathlib.Core.HLevel.{is_prop→PathP}
use Rattle.std.proofs.Math.Nat.{ℕ_set}
use Rattle.std.specs.Int.Bits.{xor_assoc, xor_self}
use Rattle.std.proofs.lemmas.Nat.{xor_comm}
use Rattle.std.specs.Simd.Lanes.{zip2}
use Rattle.std.proofs.lemmas.Simd.{length-zip2}
use Rattle.std.proofs.lemmas.List.{take_at}
use Rattle.std.proofs.lemmas.Bool.Decides.{Decides-like}
use Rattle.std.proofs.lemmas.Slice.Eq.{bytes_eq-Decides}
use Rattle.symbols.specs.Kinds.{Laws}
use Rattle.symbols.specs.declared.kinds.Cell.{Cell}
use Rattle.symbols.specs.Cells.{cell_of, cell_kind, fitted}

-- two cells of the same bytes are equal: a length is proved in one way at most
pub same_cell : (x y : Cell) → x.bytes ≡ y.bytes → x ≡ y
same_cell x y p = λ i. record {
  bytes = p i;
  full = is_prop→PathP (λ j. length (p j) ≡ 64) (λ j. ℕ_set (length (p j)) 64) x.full y.full i;
}

-- 64 bytes fit as they are
pub fitted_is : (bs : List ℕ) → length bs ≡ 64 → fitted bs ≡ bs
fitted_is bs e = take_at bs (replicate 64 0) 64 e

-- the bytes of a sum
pub sum_bytes : (x y : Cell) → fitted (zip2 bit_xor x.bytes y.bytes) ≡ zip2 bit_xor x.bytes y.bytes
sum_bytes x y = fitted_is _ (length-zip2 bit_xor x.bytes y.bytes (x.full ∙ sym y.full) ∙ x.full)

pub xors_assoc : (xs ys zs : List ℕ) → zip2 bit_xor (zip2 bit_xor xs ys) zs ≡ zip2 bit_xor xs (zip2 bit_xor ys zs)
xors_assoc [] ys zs = refl
xors_assoc (x ∷ xs) [] zs = refl
xors_assoc (x ∷ xs) (y ∷ ys) [] = refl
xors_assoc (x ∷ xs) (y ∷ ys) (z ∷ zs) = ap₂ ◌∷◌ (xor_assoc x y z) (xors_assoc xs ys zs)

pub xors_comm : (xs ys : List ℕ) → zip2 bit_xor xs ys ≡ zip2 bit_xor ys xs
xors_comm [] [] = refl
xors_comm [] (y ∷ ys) = refl
xors_comm (x ∷ xs) [] = refl
xors_comm (x ∷ xs) (y ∷ ys) = ap₂ ◌∷◌ (xor_comm x y) (xors_comm xs ys)

pub xors_zero : (xs : List ℕ) → zip2 bit_xor (replicate (length xs) 0) xs ≡ xs
xors_zero [] = refl
xors_zero (x ∷ xs) = ap (λ ys. x ∷ ys) (xors_zero xs)

pub xors_self : (xs : List ℕ) → zip2 bit_xor xs xs ≡ replicate (length xs) 0
xors_self [] = refl
xors_self (x ∷ xs) = ap₂ ◌∷◌ (xor_self x) (xors_self xs)

pub cell_laws : Laws cell_kind
cell_laws = record {
  sums = record {
    associative = λ x y z.
        ap cell_of (ap (λ l. zip2 bit_xor l z.bytes) (sum_bytes x y) ∙ xors_assoc x.bytes y.bytes z.bytes ∙ ap (zip2 bit_xor x.bytes) (sym (sum_bytes y z)));
    commutative = λ x y. ap cell_of (xors_comm x.bytes y.bytes);
    identity = λ x. same_cell _ _ (ap fitted (ap (λ n. zip2 bit_xor (replicate n 0) x.bytes) (sym x.full) ∙ xors_zero x.bytes) ∙ fitted_is x.bytes x.full);
  };
  cancels = λ x. ap cell_of (xors_self x.bytes ∙ ap (λ n. replicate n 0) x.full);
  distinct = λ e. let z : ◌≡◌ {A = ℕ} 1 0 = ap (λ (c : Cell). slice_index c.bytes 0) e in omega arith;
  tells_zero = λ x. Decides-like _ (same_cell _ _) (ap (λ (c : Cell). c.bytes)) (bytes_eq-Decides x.bytes (replicate 64 0));
}
