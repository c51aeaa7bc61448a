-- The places behind the thresholds are 0 exactly where what is kept is the padded list.
use Rattle.std.proofs.Common.{◌≡◌, ℕ, zero, suc, ◌+◌, ◌-◌, ◌≤◌, Bool, true, ◌&&◌, eqb, List, [], ◌∷◌, ◌++◌, length, take, drop, replicate, refl, sym, ◌∙◌, ap, arith, length-take, length-drop, false}
use Rattle.std.specs.List.{list_all}
use Rattle.std.proofs.lemmas.List.{take-append-drop, take-replicate}
use Rattle.std.proofs.Math.Seq.{take-append-add, drop-append_seam}
use Rattle.std.proofs.lemmas.Bool.{false≢true, eqb-true}
use Rattle.mls_base.specs.Shapes.{padded}

padded-is : (t : List ℕ) (m : ℕ) → length t + m ≡ 8 → padded t ≡ t ++ replicate m 0
padded-is t m eight =
    let few : m ≤ 8 = omega arith in
    ap (λ k. take k (t ++ replicate 8 0)) (sym eight) ∙ take-append-add t (replicate 8 0) m ∙ ap (λ r. t ++ r) (take-replicate m 8 0 few)

both : (a b : Bool) → (a && b) ≡ true → (a ≡ true) × (b ≡ true)
both true b h = (refl, h)
both false b h = absurd (false≢true h)

zeros-are : (xs : List ℕ) → list_all (λ x. eqb x 0) xs ≡ true → xs ≡ replicate (length xs) 0
zeros-are [] all = refl
zeros-are (x ∷ xs) all =
    let parts = both (eqb x 0) (list_all (λ y. eqb y 0) xs) all in
    let first : x ≡ 0 = eqb-true x 0 parts.0 in
    ap (λ y. y ∷ xs) first ∙ ap (λ ys. 0 ∷ ys) (zeros-are xs parts.1)

are-zeros : (n : ℕ) → list_all (λ x. eqb x 0) (replicate n 0) ≡ true
are-zeros zero = refl
are-zeros (suc n) = are-zeros n

pub padded-from_zeros : (n : ℕ) (kept : List ℕ) → length kept ≡ 8 → n ≤ 8 → list_all (λ x. eqb x 0) (drop n kept) ≡ true → kept ≡ padded (take n kept)
padded-from_zeros n kept eight few all =
    let m : ℕ = length (drop n kept) in
    let parts : length (take n kept) + length (drop n kept) ≡ 8 = omega (arith, length-take n kept, length-drop n kept) in
    sym (take-append-drop n kept) ∙ ap (λ r. take n kept ++ r) (zeros-are (drop n kept) all) ∙ sym (padded-is (take n kept) (length (drop n kept)) parts)

pub zeros-from_padded : (n : ℕ) (kept : List ℕ) → length kept ≡ 8 → n ≤ 8 → kept ≡ padded (take n kept) → list_all (λ x. eqb x 0) (drop n kept) ≡ true
zeros-from_padded n kept eight few same =
    let front : length (take n kept) ≡ n = omega (arith, length-take n kept) in
    let parts : length (take n kept) + (8 - n) ≡ 8 = omega (arith, length-take n kept) in
    let all : kept ≡ take n kept ++ replicate (8 - n) 0 = same ∙ padded-is (take n kept) (8 - n) parts in
    let behind : drop n kept ≡ replicate (8 - n) 0 = ap (λ k. drop n k) all ∙ ap (λ k. drop k (take n kept ++ replicate (8 - n) 0)) (sym front) ∙ drop-append_seam (take n kept) (replicate (8 - n) 0) in
    rw behind (are-zeros (8 - n))
