-- Where the cells of planes lie, and a table with one more row at each place of a plane.
use Rattle.std.proofs.Common.{◌≡◌, ◌≢◌, ℕ, ◌+◌, ◌*◌, ◌<◌, ◌≤◌, eqb, ltb, List, [], ◌∷◌, ◌++◌, refl, arith}
use Rattle.std.proofs.lemmas.Nat.{mul-le}
use Rattle.std.proofs.lemmas.Bool.{eq-eqb, ne_eqb, lt-ltb, and_from, and_left, cond-true, cond-false}
use Rattle.mls_model.specs.Standing.{Table, with_block}

-- a plane ends where the next begins, or before
pub plane_before : (p q w : ℕ) → p < q → p * w + w ≤ q * w
plane_before p q w h = omega (arith, mul-le (p + 1) w q w (omega arith) (omega arith))

pub cell_fits : (p w place planes : ℕ) → p < planes → place < w → p * w + place + 1 ≤ planes * w
cell_fits p w place planes h k = omega (arith, plane_before p planes w h)

pub with_block_there : (t : Table) (plane places : ℕ) (row : ℕ → List ℕ) (place : ℕ) → place < places → with_block t plane places row plane place ≡ t plane place ++ row place ∷ []
with_block_there t plane places row place h = cond-true _ _ _ (and_from (eqb plane plane) (ltb place places) (eq-eqb plane plane refl) (lt-ltb place places h))

pub with_block_elsewhere : (t : Table) (plane places : ℕ) (row : ℕ → List ℕ) (p place : ℕ) → p ≢ plane → with_block t plane places row p place ≡ t p place
with_block_elsewhere t plane places row p place h = cond-false _ _ _ (and_left (eqb p plane) (ltb place places) (ne_eqb p plane h))
