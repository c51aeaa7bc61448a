-- A simulation's inputs, and what the solver makes of them.
use Rattle.std.proofs.Common.{◌≡◌, ℕ, zero, suc, ◌+◌, ◌-◌, ◌*◌, ◌/◌, ◌%◌, ◌^◌, ◌<◌, ◌≤◌, cond, List, [], ◌∷◌, length, get_or, drop, map, refl, sym, ◌∙◌, ap, arith}
use Rattle.std.specs.Prelude.{sum_by}
use Rattle.std.specs.List.{enumerate_from, AllByRecursion}
use Rattle.std.proofs.lemmas.List.{length-map, drop_all}
use Rattle.std.proofs.lemmas.List.FromFn.{length-enumerate_from, get_or-enumerate_from}
use Rattle.std.proofs.lemmas.List.Sums.{sum_by-cons, sum_by-drop_more}
use Rattle.std.proofs.lemmas.Nat.{div_below}
use Rattle.std.proofs.Math.Nat.{mul-le-mul_right, mod-lt}
use Rattle.mls_model.specs.Studies.{Study, Parameter}
use Rattle.mls_model.specs.Designs.{word_of, takes_b, place_of_a, place_of_b, value_of, scaled, inputs, response, solve}
use Rattle.mls_design.proofs.Bounds.{word_small, input_small}

-- an input with its weight
abbrev pub weighted_by : ℕ → ℕ × ℕ → ℕ
weighted_by shift x = (1 + (x.0 + shift) % 4) * x.1

-- the inputs before a place are added
pub record Summed (shift : ℕ) (ss : List ℕ) (place sum : ℕ) : Type 0 where
  pub so_far : sum + sum_by (weighted_by shift) (drop place (enumerate_from 0 ss)) ≡ sum_by (weighted_by shift) (enumerate_from 0 ss)
  pub small : sum ≤ 262140 * place

pub summed_none : (shift : ℕ) (ss : List ℕ) → Summed shift ss 0 0
summed_none shift ss = record { so_far = omega arith; small = omega arith }

pub summed_more : (shift : ℕ) (ss : List ℕ) (place sum term : ℕ) → Summed shift ss place sum → place < length ss → term ≡ (1 + (place + shift) % 4) * get_or ss place 0 → term ≤ 262140 → Summed shift ss (place + 1) (sum + term)
summed_more shift ss place sum term s here is small =
    let E : List (ℕ × ℕ) = enumerate_from 0 ss in
    let d : ℕ × ℕ = (0, 0) in
    let there : ◌≡◌ {A = ℕ × ℕ} (get_or E place d) (0 + place, get_or ss place 0) = get_or-enumerate_from 0 ss place d here in
    let more : sum_by (weighted_by shift) (drop place E) ≡ weighted_by shift (get_or E place d) + sum_by (weighted_by shift) (drop (place + 1) E) = sum_by-drop_more (weighted_by shift) E place d (omega (arith, here, length-enumerate_from 0 ss)) in
    let at : 0 + place ≡ place = omega arith in
    let same : weighted_by shift (get_or E place d) ≡ term = ap (weighted_by shift) there ∙ ap (λ j. (1 + (j + shift) % 4) * get_or ss place 0) at ∙ sym is in
    let so_far : sum + sum_by (weighted_by shift) (drop place E) ≡ sum_by (weighted_by shift) E = s.so_far in
    record { so_far = omega (arith, more, same, so_far); small = omega (arith, s.small) }

pub summed_all : (shift : ℕ) (ss : List ℕ) (place sum : ℕ) → Summed shift ss place sum → length ss ≤ place → sum ≡ sum_by (weighted_by shift) (enumerate_from 0 ss)
summed_all shift ss place sum s past =
    let none : drop place (enumerate_from 0 ss) ≡ [] = drop_all place (enumerate_from 0 ss) (omega (arith, past, length-enumerate_from 0 ss)) in
    let empty : sum_by (weighted_by shift) (drop place (enumerate_from 0 ss)) ≡ 0 = ap (sum_by (weighted_by shift)) none in
    omega (arith, empty, s.so_far)

-- each input is at most 1023
abbrev pub AreInputs : List ℕ → Type 0
AreInputs ss = AllByRecursion (λ s. s ≤ 1023) ss

sum_small : (shift n : ℕ) (ss : List ℕ) → AreInputs ss → sum_by (weighted_by shift) (enumerate_from n ss) ≤ 4092 * length ss
sum_small shift n [] h = omega arith
sum_small shift n (s ∷ ss) h =
    let four : (n + shift) % 4 < 4 = mod-lt (n + shift) (omega arith) in
    let fewer : 1 + (n + shift) % 4 ≤ 4 = omega arith in
    let most : (1 + (n + shift) % 4) * s ≤ 4 * s = mul-le-mul_right s fewer in
    let d : ℕ × ℕ = (n, s) in
    let more : sum_by (weighted_by shift) (enumerate_from n (s ∷ ss)) ≡ (1 + (n + shift) % 4) * s + sum_by (weighted_by shift) (enumerate_from (n + 1) ss) = sum_by-cons (weighted_by shift) d (enumerate_from (n + 1) ss) in
    omega (arith, most, more, h.0, sum_small shift (n + 1) ss h.1)

read_small : (ss : List ℕ) (i : ℕ) → AreInputs ss → get_or ss i 0 ≤ 1023
read_small [] zero h = omega arith
read_small [] (suc i) h = omega arith
read_small (s ∷ ss) zero h = h.0
read_small (s ∷ ss) (suc i) h = read_small ss i h.1

pub response_small : (shift : ℕ) (ss : List ℕ) → length ss ≤ 16 → AreInputs ss → response shift ss ≤ 65535
response_small shift ss few h =
    let a : ℕ = get_or ss 0 0 in
    let b : ℕ = get_or ss (length ss - 1) 0 in
    let most : a * b ≤ 1023 * b = mul-le-mul_right b (read_small ss 0 h) in
    let last : (a * b) / 16384 < 64 = div_below (a * b) 16384 64 (omega arith) (omega (arith, most, read_small ss (length ss - 1) h)) in
    omega (arith, last, sum_small shift 0 ss h)

are_inputs : (f : ℕ × Parameter → ℕ) → ((x : ℕ × Parameter) → f x ≤ 1023) → (xs : List (ℕ × Parameter)) → AreInputs (map f xs)
are_inputs f small [] = tt
are_inputs f small (x ∷ xs) = (small x, are_inputs f small xs)

pub word_of_small : (study : Study) (group sim k : ℕ) → word_of study group sim k < 2 ^ 32
unfolding word_of
word_of_small study group sim k = word_small study.seed (cond (takes_b sim k) (place_of_b study.sizes group k) (place_of_a study.sizes group k))

pub inputs_small : (study : Study) (group sim : ℕ) → AreInputs (inputs study group sim)
unfolding inputs
inputs_small study group sim = are_inputs (λ (x : ℕ × Parameter). scaled x.1 (value_of x.1 (word_of study group sim x.0))) (λ x. input_small x.1 (word_of study group sim x.0) (word_of_small study group sim x.0)) (enumerate_from 0 study.parameters)

pub length-inputs : (study : Study) (group sim : ℕ) → length (inputs study group sim) ≡ length study.parameters
unfolding inputs
length-inputs study group sim = length-map (enumerate_from 0 study.parameters) (λ (x : ℕ × Parameter). scaled x.1 (value_of x.1 (word_of study group sim x.0))) ∙ length-enumerate_from 0 study.parameters

-- a sample has 16 bits
pub response_of_inputs : (study : Study) (group sim shift : ℕ) → length study.parameters ≤ 16 → response shift (inputs study group sim) ≤ 65535
response_of_inputs study group sim shift few = response_small shift (inputs study group sim) (omega (arith, few, length-inputs study group sim)) (inputs_small study group sim)

pub solve_small : (study : Study) (group sim step field cell : ℕ) → length study.parameters ≤ 16 → solve study group sim step field cell ≤ 65535
unfolding solve
solve_small study group sim step field cell few = response_of_inputs study group sim (cell + step + field) few

-- ---- weights go by the shift modulo 4

mod_same : (n a b : ℕ) → a % 4 ≡ b % 4 → (n + a) % 4 ≡ (n + b) % 4
mod_same n a b e = omega (arith, e)

same_weights : (a b : ℕ) (xs : List (ℕ × ℕ)) → a % 4 ≡ b % 4 → sum_by (weighted_by a) xs ≡ sum_by (weighted_by b) xs
same_weights a b [] e = refl
same_weights a b (x ∷ xs) e =
    omega (arith, sum_by-cons (weighted_by a) x xs, sum_by-cons (weighted_by b) x xs, same_weights a b xs e, ap (λ m. (1 + m) * x.1) (mod_same x.0 a b e))

pub same_response : (a b : ℕ) (ss : List ℕ) → a % 4 ≡ b % 4 → response a ss ≡ response b ss
same_response a b ss e = ap (λ m. m + (get_or ss 0 0 * get_or ss (length ss - 1) 0) / 16384) (same_weights a b (enumerate_from 0 ss) e)

pub turn_of : (first place step field : ℕ) → ((first + step + field) + place % 4) % 4 ≡ (first + place + step + field) % 4
turn_of first place step field = omega arith
