-- A list of numbers that are all less by the same number: its total is less by so much, its deviations are the same.
use Rattle.std.proofs.Common.{◌≡◌, ℕ, ◌+◌, ◌-◌, ◌*◌, ◌≤◌, List, [], ◌∷◌, length, map, Bool, true, false, ℤ, pos, ◌-ℤ◌, ◌*ℤ◌, ap, ◌∙◌, refl, sym, subst, arith}
use Rattle.std.specs.List.{sum_by}
use Rattle.std.specs.Int.RustNames.{int_div}
use Rattle.std.proofs.lemmas.Int.{ints}
use Rattle.std.proofs.lemmas.List.{length-map}
use Rattle.std.proofs.lemmas.List.Sums.{sum_by-cons}
use borrow.Author.Differences.{up, down, same_in}
use Rattle.mls_model.specs.Numbers.{sum_ints, square, cube}
use Rattle.mls_model.specs.Samples.{unshifted}
use Rattle.mls_model.specs.Statistics.{size, total, deviation, variance_top, third_top}
use Rattle.mls_power.proofs.Differences.{IsDifference, natural, minus, product, one_number, sum_difference, sum_same}
use Rattle.mls_power.proofs.Deviations.{total-pos, squares-pos, cubes-pos, variance-pos, third-pos}

-- k less
abbrev pub lower : ℕ → ℕ → ℤ
lower k x = pos x -ℤ pos k

pub lower_by : (k x : ℕ) → IsDifference (lower k x) x k
lower_by k x = record { balance = omega (arith, ints) }

sum_of_same : (k : ℕ) (ns : List ℕ) → sum_by (λ x. k) ns ≡ length ns * k
sum_of_same k [] = omega arith
sum_of_same k (x ∷ ns) = rw (sum_by-cons (λ y. k) x ns) (omega (arith, sum_of_same k ns))

pub total_lower : (k : ℕ) (ns : List ℕ) → IsDifference (total (map (lower k) ns)) (sum_by (λ x. x) ns) (length ns * k)
total_lower k ns =
    let whole = sum_difference (λ w. w) (lower k) (λ x. x) (λ x. k) (lower_by k) ns in
    record { balance = omega (arith, whole.balance, sum_of_same k ns) }

size_lower : (k : ℕ) (ns : List ℕ) → size (map (lower k) ns) ≡ size (map pos ns)
size_lower k ns = ap pos (length-map ns (lower k) ∙ sym (length-map ns pos))

deviation_lower : (k : ℕ) (ns : List ℕ) (x : ℕ) → deviation (map (lower k) ns) (lower k x) ≡ deviation (map pos ns) (pos x)
deviation_lower k ns x =
    let n = length (map (lower k) ns) in
    let m = length (map pos ns) in
    let p1 = sum_by (λ y. y) ns in
    let low = minus (pos n *ℤ lower k x) (total (map (lower k) ns)) (n * x + 0 * k) (n * k + 0 * x) p1 (length ns * k) (product (pos n) (lower k x) n 0 x k (natural n) (lower_by k x)) (total_lower k ns) in
    let plain : IsDifference ((pos m *ℤ pos x) -ℤ total (map pos ns)) (m * x) p1 = subst (λ (t : ℤ). IsDifference ((pos m *ℤ pos x) -ℤ t) (m * x) p1) (sym (total-pos ns)) (record { balance = omega (arith, ints) }) in
    one_number _ _ _ _ _ _ low plain (omega (arith, ap (λ j. j * x) (length-map ns (lower k)), ap (λ j. j * k) (length-map ns (lower k)), ap (λ j. j * x) (length-map ns pos)))

pub squares_lower : (k : ℕ) (ns : List ℕ) → sum_ints (λ w. square (deviation (map (lower k) ns) w)) (map (lower k) ns) ≡ sum_ints (λ w. square (deviation (map pos ns) w)) (map pos ns)
squares_lower k ns = sum_same (λ w. square (deviation (map (lower k) ns) w)) (λ w. square (deviation (map pos ns) w)) (lower k) pos (λ x. ap square (deviation_lower k ns x)) ns

pub cubes_lower : (k : ℕ) (ns : List ℕ) → sum_ints (λ w. cube (deviation (map (lower k) ns) w)) (map (lower k) ns) ≡ sum_ints (λ w. cube (deviation (map pos ns) w)) (map pos ns)
cubes_lower k ns = sum_same (λ w. cube (deviation (map (lower k) ns) w)) (λ w. cube (deviation (map pos ns) w)) (lower k) pos (λ x. ap cube (deviation_lower k ns x)) ns

pub variance_lower : (k : ℕ) (ns : List ℕ) → variance_top (map (lower k) ns) ≡ variance_top (map pos ns)
unfolding variance_top
variance_lower k ns = ap (λ (z : ℤ). int_div z (size (map (lower k) ns))) (squares_lower k ns) ∙ ap (λ (s : ℤ). int_div (sum_ints (λ w. square (deviation (map pos ns) w)) (map pos ns)) s) (size_lower k ns)

pub third_lower : (k : ℕ) (ns : List ℕ) → third_top (map (lower k) ns) ≡ third_top (map pos ns)
unfolding third_top
third_lower k ns = ap (λ (z : ℤ). int_div z (size (map (lower k) ns))) (cubes_lower k ns) ∙ ap (λ (s : ℤ). int_div (sum_ints (λ w. cube (deviation (map pos ns) w)) (map pos ns)) s) (size_lower k ns)

-- V and U are the same over shifted values and over values
pub variance_shifted : (signed : Bool) (ns : List ℕ) → variance_top (map (unshifted signed) ns) ≡ variance_top (map pos ns)
variance_shifted false ns = refl
variance_shifted true ns = variance_lower 32768 ns

pub third_shifted : (signed : Bool) (ns : List ℕ) → third_top (map (unshifted signed) ns) ≡ third_top (map pos ns)
third_shifted false ns = refl
third_shifted true ns = third_lower 32768 ns

-- every list of integers is a list of natural numbers that are less by one number
raised : ℕ → List ℤ → List ℕ
raised k [] = []
raised k (w ∷ ws) = (up w + k - down w) ∷ raised k ws

lower-raised : (k : ℕ) (w : ℤ) → down w ≤ k → lower k (up w + k - down w) ≡ w
lower-raised k w h = same_in (lower k (up w + k - down w)) w (omega (arith, (lower_by k (up w + k - down w)).balance))

lowered_again : (k : ℕ) (ws : List ℤ) → sum_by down ws ≤ k → map (lower k) (raised k ws) ≡ ws
unfolding raised
lowered_again k [] h = refl
lowered_again k (w ∷ ws) h =
    let e = sum_by-cons down w ws in
    ap (λ (v : ℤ). v ∷ map (lower k) (raised k ws)) (lower-raised k w (omega (arith, e))) ∙ ap (λ (vs : List ℤ). w ∷ vs) (lowered_again k ws (omega (arith, e)))

-- what holds of all such lists holds of every list
pub of_every_list : (P : List ℤ → Type 0) → ((k : ℕ) (ns : List ℕ) → P (map (lower k) ns)) → (ws : List ℤ) → P ws
of_every_list P each ws = subst P (lowered_again (sum_by down ws) ws (omega arith)) (each (sum_by down ws) (raised (sum_by down ws) ws))

-- the divisions in V and U leave no rest
pub variance_whole : (ws : List ℤ) → size ws *ℤ variance_top ws ≡ sum_ints (λ w. square (deviation ws w)) ws
variance_whole ws = of_every_list (λ ws. size ws *ℤ variance_top ws ≡ sum_ints (λ w. square (deviation ws w)) ws)
    (λ k ns. ap (λ (s : ℤ). s *ℤ variance_top (map (lower k) ns)) (size_lower k ns) ∙ (ap (λ (v : ℤ). size (map pos ns) *ℤ v) (variance_lower k ns ∙ variance-pos ns) ∙ (sym (squares-pos ns) ∙ sym (squares_lower k ns)))) ws

pub third_whole : (ws : List ℤ) → size ws *ℤ third_top ws ≡ sum_ints (λ w. cube (deviation ws w)) ws
third_whole ws = of_every_list (λ ws. size ws *ℤ third_top ws ≡ sum_ints (λ w. cube (deviation ws w)) ws)
    (λ k ns. ap (λ (s : ℤ). s *ℤ third_top (map (lower k) ns)) (size_lower k ns) ∙ (ap (λ (v : ℤ). size (map pos ns) *ℤ v) (third_lower k ns ∙ third-pos ns) ∙ (sym (cubes-pos ns) ∙ sym (cubes_lower k ns)))) ws
