-- Bytes that say nothing yet are fewer than those of the longest frame.
use Rattle.std.proofs.Common.{◌≡◌, ℕ, ◌+◌, ◌*◌, ◌%◌, ◌<◌, ◌≤◌, Bool, true, false, not, ◌||◌, cond, List, [], ◌∷◌, length, drop, nat_lt, ◌==◌, refl, arith, length-drop}
use Rattle.std.proofs.lemmas.Bool.{ltb-true}
use Rattle.std.proofs.lemmas.Bool.Decides.{nat_tests}
use Rattle.std.specs.Int.{w16, w32}
use Rattle.mls_model.specs.declared.lanes.FrameFault.TheVariants.{BadKind, BadLength}
use Rattle.mls_model.specs.Frames.{piece, Sight, whole, more, bad, sight, sized_sight, piece_sight, fixed_sight, fixed_length, fixed_frame, piece_in, is_no_length, number}

-- it is too little to tell
abbrev pub IsMore : Sight → Type 0
IsMore (whole frame used) = ⊥
IsMore more = Unit {0}
IsMore (bad fault) = ⊥

by_cond : (P : Type 0) (b : Bool) (x y : Sight) → IsMore (cond b x y) → (b ≡ true → IsMore x → P) → (b ≡ false → IsMore y → P) → P
by_cond P true x y h first second = first refl h
by_cond P false x y h first second = second refl h

is_length : (size : ℕ) → is_no_length size ≡ false → size ≤ 67108864
is_length size e = grind (arith, nat_tests)

fixed_short : (size kind : ℕ) (fields : List ℕ) → size ≤ 67108864 → IsMore (fixed_sight size kind fields) → 1 + length fields < 67108864
unfolding fixed_sight
fixed_short size kind fields small h =
    let P : Type 0 = 1 + length fields < 67108864 in
    let w : Sight = whole (fixed_frame kind fields) (4 + size) in
    let m : Sight = cond (nat_lt (1 + length fields) size) more w in
    by_cond P (not (size == fixed_length kind)) (bad BadLength) m h (λ t e. absurd e)
    (λ f h2. by_cond P (nat_lt (1 + length fields) size) more w h2
    (λ t e. let less : 1 + length fields < size = ltb-true (1 + length fields) size t in omega arith)
    (λ g e. absurd e))

piece_short : (size : ℕ) (fields : List ℕ) → size ≤ 67108864 → IsMore (piece_sight size fields) → 1 + length fields < 67108864
unfolding piece_sight
piece_short size fields small h =
    let P : Type 0 = 1 + length fields < 67108864 in
    let w : Sight = whole (piece (piece_in fields)) (4 + size) in
    let c : Sight = cond (nat_lt (1 + length fields) size) more w in
    let b : Sight = cond (not (size == 25 + 2 * (number w16 14 fields * number w32 20 fields))) (bad BadLength) c in
    let a : Sight = cond (nat_lt (length fields) 24) more b in
    by_cond P (nat_lt size 25 || (size % 2 == 0)) (bad BadLength) a h (λ t e. absurd e)
    (λ f h2. by_cond P (nat_lt (length fields) 24) more b h2
    (λ t e. let less : length fields < 24 = ltb-true (length fields) 24 t in omega arith)
    (λ g h3. by_cond P (not (size == 25 + 2 * (number w16 14 fields * number w32 20 fields))) (bad BadLength) c h3 (λ t e. absurd e)
    (λ i h4. by_cond P (nat_lt (1 + length fields) size) more w h4
    (λ t e. let less : 1 + length fields < size = ltb-true (1 + length fields) size t in omega arith)
    (λ j e. absurd e))))

sized_short : (size : ℕ) (rest : List ℕ) → IsMore (sized_sight size rest) → length rest < 67108864
unfolding sized_sight
sized_short size [] h = omega arith
sized_short size (kind ∷ fields) h =
    let P : Type 0 = length (kind ∷ fields) < 67108864 in
    let c : Sight = cond (kind == 1) (piece_sight size fields) (fixed_sight size kind fields) in
    let b : Sight = cond (nat_lt kind 1 || nat_lt 8 kind) (bad BadKind) c in
    by_cond P (is_no_length size) (bad BadLength) b h (λ t e. absurd e)
    (λ f h2. by_cond P (nat_lt kind 1 || nat_lt 8 kind) (bad BadKind) c h2 (λ t e. absurd e)
    (λ g h3. by_cond P (kind == 1) (piece_sight size fields) (fixed_sight size kind fields) h3
    (λ t e. let less = piece_short size fields (is_length size f) e in omega (arith, less))
    (λ i e. let less = fixed_short size kind fields (is_length size f) e in omega (arith, less))))

pub short : (bytes : List ℕ) → IsMore (sight bytes) → length bytes < 67108868
unfolding sight
short bytes h =
    let P : Type 0 = length bytes < 67108868 in
    by_cond P (nat_lt (length bytes) 4) more (sized_sight (number w32 0 bytes) (drop 4 bytes)) h
    (λ t e. let less : length bytes < 4 = ltb-true (length bytes) 4 t in omega arith)
    (λ f e. let less = sized_short (number w32 0 bytes) (drop 4 bytes) e in omega (arith, less, length-drop 4 bytes))
