-- Which pile gives which code, and what is done with it.
--
--   turned         the interleaved code, or why there is none
--   joined         the stacked code, or why there is none
--   pile_code      the code that a pile gives, or why it gives none: the innermost, leftmost refusal comes first
--   Done           a task was done with the code, where there is one; where there is none, the refusal has its cause and the task is as it was
--   shape_told     the sizes of that code, or why there is none
--   Told           an answer tells this of the code, where there is one, and else the cause
use Rattle.std.specs.Prelude.{◌≡◌, cond, Ok, Err, Result}
use Rattle.codes.specs.Matrix.{Matrix}
use Rattle.codes.specs.Refusals.{Cause, meaning, bad_shape}
use Rattle.codes.specs.Shapes.{shape_of}
use Rattle.codes.specs.declared.refusal.Refusal.{Refusal}
use Rattle.codes.specs.declared.shape.Shape.{Shape}
use Rattle.codes.specs.declared.squares.Squares.{Squares}
use Rattle.layers.specs.Layers.{squares_fit, interleaved, stack_fits, stacked}
use Rattle.piles.specs.Bases.{base_code}
use Rattle.piles.specs.declared.pile.Pile.{Pile}
use Rattle.piles.specs.declared.pile.Pile.TheVariants.{Single, Interleaved, Stacked, InterleavedInStack, InterleavedStack}

abbrev pub turned : Squares → Result Matrix Cause → Result Matrix Cause
turned s (Err c) = Err c
turned s (Ok k) = cond (squares_fit s.a s.b s.z (shape_of k)) (Ok (interleaved s.a s.b s.z k)) (Err bad_shape)

abbrev pub joined : Result Matrix Cause → Result Matrix Cause → Result Matrix Cause
joined (Err c) l = Err c
joined (Ok k) (Err c) = Err c
joined (Ok k) (Ok l) = cond (stack_fits k l) (Ok (stacked k l)) (Err bad_shape)

abbrev pub pile_code : Pile → Result Matrix Cause
pile_code (Single p) = base_code p
pile_code (Interleaved s p) = turned s (base_code p)
pile_code (Stacked p q) = joined (base_code p) (base_code q)
pile_code (InterleavedInStack s p q) = joined (turned s (base_code p)) (base_code q)
pile_code (InterleavedStack s p q) = turned s (joined (base_code p) (base_code q))

abbrev pub Done : {S O : Type 0} → (S → Matrix → O → S → Type 0) → S → S → Result Matrix Cause → Result O Refusal → Type 0
Done does s t (Ok k) (Ok x) = does s k x t
Done does s t (Ok k) (Err e) = ⊥
Done does s t (Err c) (Ok x) = ⊥
Done does s t (Err c) (Err e) = (meaning e ≡ c) × (t ≡ s)

abbrev pub shape_told : Result Matrix Cause → Result Shape Cause
shape_told (Ok k) = Ok (shape_of k)
shape_told (Err c) = Err c

abbrev pub Told : {O : Type 0} → (Matrix → O → Type 0) → Result Matrix Cause → Result O Refusal → Type 0
Told P (Ok k) (Ok x) = P k x
Told P (Ok k) (Err e) = ⊥
Told P (Err c) (Ok x) = ⊥
Told P (Err c) (Err e) = meaning e ≡ c
