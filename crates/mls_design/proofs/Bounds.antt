-- How large words, inputs and samples are.
use Rattle.std.proofs.Common.{◌≡◌, ℕ, ◌+◌, ◌-◌, ◌*◌, ◌/◌, ◌%◌, ◌^◌, ◌<◌, ◌≤◌, ℤ, pos, ◌+ℤ◌, ◌-ℤ◌, ◌≤ℤ◌, bit_xor, sym, ap, subst, arith, mod-lt, pow_pos}
use Rattle.std.specs.Prelude.{unsigned_abs}
use Rattle.std.proofs.lemmas.Int.{ints}
use Rattle.std.proofs.lemmas.Nat.{or_lt, shr_le, div_below}
use Rattle.std.proofs.Math.Nat.{mul-le-mul_right, mul_comm, mul-lt-mul_of_pos_right}
use Rattle.rand_pcg.specs.Pcg.{output_xsh_rr}
use Rattle.mls_model.specs.Studies.{Parameter}
use Rattle.mls_model.specs.Designs.{generator, drawn, word, choices, value_of, scaled}

pub distance : (low : ℤ) (q : ℕ) → unsigned_abs ((low +ℤ pos q) -ℤ low) ≡ q
distance low q = let e : (low +ℤ pos q) -ℤ low ≡ pos q = omega (arith, ints) in ap unsigned_abs e

pub scaled_small : (q c : ℕ) → q < c → q * 1024 / c ≤ 1023
scaled_small q c h =
    let below : q * 1024 / c < 1024 = div_below (q * 1024) c 1024 (omega arith) (omega arith) in
    omega arith

pub weight_small : (m s : ℕ) → s ≤ 65535 → (1 + m % 4) * s ≤ 262140
weight_small m s h =
    let four : m % 4 < 4 = mod-lt m (omega arith) in
    let few : 1 + m % 4 ≤ 4 = omega arith in
    let most : (1 + m % 4) * s ≤ 4 * s = mul-le-mul_right s few in
    omega arith

pub product_small : (a b : ℕ) → a ≤ 65535 → b ≤ 65535 → a * b ≤ 4294836225
product_small a b h k =
    let most : a * b ≤ 65535 * b = mul-le-mul_right b h in
    omega arith

-- a word has 32 bits
pub output_small : (state : ℕ) → output_xsh_rr state < 2 ^ 32
output_small state =
    let n : ℕ = bit_xor (state / 2 ^ 18) state / 2 ^ 27 % 2 ^ 32 in
    let by : ℕ = (state / 2 ^ 59) % 32 in
    let fits : n < 2 ^ 32 = mod-lt (bit_xor (state / 2 ^ 18) state / 2 ^ 27) (pow_pos 32) in
    let most : n / 2 ^ by ≤ n = shr_le n by in
    or_lt 32 (n / 2 ^ by) ((n * 2 ^ ((32 - by) % 32)) % 2 ^ 32) (omega arith) (mod-lt (n * 2 ^ ((32 - by) % 32)) (pow_pos 32))

pub word_small : (number n : ℕ) → word number n < 2 ^ 32
unfolding word
word_small number n = output_small (drawn (generator number) n).state

-- the steps of a word are fewer than the choices
pub steps_below : (w c : ℕ) → w < 2 ^ 32 → 0 < c → (w * c) / 2 ^ 32 < c
steps_below w c h some = div_below (w * c) (2 ^ 32) c (pow_pos 32) (let most : w * c < 2 ^ 32 * c = mul-lt-mul_of_pos_right h some in subst (λ m. w * c < m) (mul_comm (2 ^ 32) c) most)

pub input_small : (p : Parameter) (w : ℕ) → w < 2 ^ 32 → scaled p (value_of p w) ≤ 1023
input_small p w h =
    let c : ℕ = choices p in
    let q : ℕ = (w * c) / 2 ^ 32 in
    let few : q < c = steps_below w c h (omega arith) in
    subst (λ m. (m * 1024) / c ≤ 1023) (sym (distance p.low q)) (scaled_small q c few)

-- a value is from the least to the greatest
pub value_between : (p : Parameter) (w : ℕ) → p.low ≤ℤ p.high → w < 2 ^ 32 → (p.low ≤ℤ value_of p w) × (value_of p w ≤ℤ p.high)
value_between p w ordered h =
    let c : ℕ = choices p in
    let q : ℕ = (w * c) / 2 ^ 32 in
    let few : q < c = steps_below w c h (omega arith) in
    let span : pos (unsigned_abs (p.high -ℤ p.low)) ≡ p.high -ℤ p.low = omega (arith, ints) in
    let fewer : q ≤ unsigned_abs (p.high -ℤ p.low) = omega arith in
    (omega (arith, ints), omega (arith, ints))
