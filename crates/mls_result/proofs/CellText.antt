-- What is said of a cell, from the rows that a rank keeps sums of.
use Rattle.std.proofs.Common.{◌≡◌, List, ℕ, Bool, true, cond, [], ◌∷◌, ◌+◌, ◌-◌, ◌<◌, ◌≤◌, map, refl, ◌∙◌, ap, arith}
use Rattle.std.specs.Prelude.{nat_lt}
use Rattle.std.proofs.lemmas.Bool.Decides.{nat_tests}
use Rattle.mls_model.specs.Studies.{Sizes}
use Rattle.mls_model.specs.Blocks.{block, width}
use Rattle.mls_model.specs.Samples.{shifted, unshifted, value}
use Rattle.mls_model.specs.Frames.{Piece}
use Rattle.mls_model.specs.AcceptedRows.{sample_rows, shifted_rows, rows}
use Rattle.mls_model.specs.Standing.{rank_table}

-- values of shifted values are values
map-map : {A B C : Type 0} (f : B → C) (g : A → B) (xs : List A) → map f (map g xs) ≡ map (λ x. f (g x)) xs
map-map f g [] = refl
map-map f g (x ∷ xs) = ap (λ ys. f (g x) ∷ ys) (map-map f g xs)

unshifted_rows : (signed : Bool) (xs : List (List ℕ)) → map (map (unshifted signed)) (map (map (shifted signed)) xs) ≡ map (map (value signed)) xs
unshifted_rows signed [] = refl
unshifted_rows signed (x ∷ xs) = ap (λ y. y ∷ map (map (unshifted signed)) (map (map (shifted signed)) xs)) (map-map (unshifted signed) (shifted signed) x) ∙ ap (λ ys. map (value signed) x ∷ ys) (unshifted_rows signed xs)

-- the rows of a cell of a rank's block are those of its place in the rank's table
pub rows_at : (s : Sizes) (rank plane cell : ℕ) (pieces : List Piece) → (block s rank).first ≤ cell → cell < (block s rank).end → map (map (unshifted s.signed)) (rank_table s rank pieces plane (cell - (block s rank).first)) ≡ rows s rank plane cell pieces
rows_at s rank plane cell pieces low high =
    let first = (block s rank).first in
    let inside : cell - first < width (block s rank) = omega arith in
    let passes : nat_lt (cell - first) (width (block s rank)) ≡ true = grind (arith, nat_tests) in
    let back : first + (cell - first) ≡ cell = omega arith in
    ap (λ b. map (map (unshifted s.signed)) (cond b (shifted_rows s rank plane (first + (cell - first)) pieces) [])) passes
    ∙ ap (λ x. map (map (unshifted s.signed)) (shifted_rows s rank plane x pieces)) back
    ∙ unshifted_rows s.signed (sample_rows s rank plane cell pieces)
