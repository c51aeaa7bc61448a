-- Marks as bits: the bytes of tests are valid, each bit is its test, and valid bytes are those of their bits.
use Rattle.std.proofs.Common.{◌≡◌, ℕ, zero, suc, ◌+◌, ◌*◌, ◌-◌, ◌/◌, ◌%◌, ◌^◌, ◌<◌, ◌≤◌, ◌==◌, ◌&&◌, true, false, Bool, cond, List, [], ◌∷◌, ◌++◌, length, map, slice_index, get_or, nat_le, nat_lt, refl, sym, ap, subst, ◌∙◌, arith, zero-add, ⊎_elim, length-append}
use Rattle.std.proofs.Math.Nat.{pow-suc}
use Rattle.std.proofs.lemmas.List.{get_or-append-add, get_or_append_left, get_or_past, map-append, length-map, ext_get_or}
use Rattle.std.proofs.lemmas.Bool.{cases_lt, lt-ltb, le-ltb}
use Rattle.std.proofs.lemmas.Bool.Decides.{nat_tests}
use Rattle.std.proofs.lemmas.Nat.Bits.{bit_at-zero, bit_at-suc, bit_at_lowest, bit_at_above, bit_at-lt, same_from_bits_below}
use Rattle.std.specs.Int.{bit_at}
use Rattle.mls_model.specs.Numbers.{below}
use Rattle.mls_model.specs.Studies.{Sizes, planes}
use Rattle.mls_model.specs.Completion.{Key}
use Rattle.mls_ckpt.specs.Reading.{AllFrom}
use Rattle.mls_ckpt.specs.States.{row_len, most_of_byte, is_set, is_marked, after_one, IsMarksRow, AreMarks}
use Rattle.mls_ckpt.specs.Histories.{byte_of, row_of, marks_of}
use Rattle.mls_ckpt.proofs.Passing.{of_le}
use Rattle.mls_ckpt.proofs.StateLaws.{most_fits}

-- lists of what f gives below a number

pub length_below : (n : ℕ) → length (below n) ≡ n
length_below zero = refl
length_below (suc n) = length-append (below n) (n ∷ []) ∙ omega (arith, length_below n)

length_made : {A : Type 0} (f : ℕ → A) (n : ℕ) → length (map f (below n)) ≡ n
length_made f n = length-map (below n) f ∙ length_below n

at_made : {A : Type 0} (f : ℕ → A) (n i : ℕ) (d : A) → i < n → get_or (map f (below n)) i d ≡ f i
at_made f zero i d h = absurd (omega arith)
at_made {A = A} f (suc n) i d h =
    let split : map f (below n ++ n ∷ []) ≡ map f (below n) ++ f n ∷ [] = map-append f (below n) (n ∷ []) in
    let size : length (map f (below n)) ≡ n = length_made f n in
    ap (λ (l : List A). get_or l i d) split ∙ ⊎_elim
    (λ (less : i < n). get_or_append_left (map f (below n)) (f n ∷ []) d i (omega arith) ∙ at_made f n i d less)
    (λ (last : n ≤ i). let same : i ≡ n = omega arith in
    ap (λ (j : ℕ). get_or (map f (below n) ++ f n ∷ []) j d) (let place : i ≡ length (map f (below n)) + 0 = omega arith in place)
    ∙ get_or-append-add (map f (below n)) (f n ∷ []) 0 d ∙ ap f (sym same))
    (cases_lt i n)

all_append : {A : Type 0} (P : ℕ → A → Type 0) (xs : List A) (y : A) (start : ℕ) → AllFrom P after_one start xs → P (start + length xs) y → AllFrom P after_one start (xs ++ y ∷ [])
all_append P [] y start each last = (subst (λ i. P i y) (let same : start + 0 ≡ start = omega arith in same) last, tt)
all_append P (x ∷ xs) y start each last =
    (each.0, all_append P xs y (start + 1) each.1 (subst (λ i. P i y) (let same : start + suc (length xs) ≡ start + 1 + length xs = omega arith in same) last))

all_made : {A : Type 0} (P : ℕ → A → Type 0) (f : ℕ → A) (n : ℕ) → ((i : ℕ) → i < n → P i (f i)) → AllFrom P after_one 0 (map f (below n))
all_made P f zero each = tt
all_made {A = A} P f (suc n) each =
    let before = all_made P f n (λ i h. each i (omega arith)) in
    let here : P (0 + length (map f (below n))) (f n) = subst (λ i. P i (f n)) (let same : n ≡ 0 + length (map f (below n)) = omega (arith, length_made f n) in same) (each n (omega arith)) in
    subst (λ (l : List A). AllFrom P after_one 0 l) (sym (map-append f (below n) (n ∷ []))) (all_append P (map f (below n)) (f n) 0 before here)

all_at : {A : Type 0} (P : ℕ → A → Type 0) (xs : List A) (start i : ℕ) (d : A) → AllFrom P after_one start xs → i < length xs → P (start + i) (get_or xs i d)
all_at P [] start i d each h = absurd (omega arith)
all_at P (x ∷ xs) start zero d each h = subst (λ k. P k x) (let same : start ≡ start + 0 = omega arith in same) each.0
all_at P (x ∷ xs) start (suc i) d each h =
    subst (λ k. P k (get_or xs i d)) (let same : start + 1 + i ≡ start + suc i = omega arith in same) (all_at P xs (start + 1) i d each.1 (omega arith))

-- the number of which these are the bits, the lowest first

abbrev number_of : List Bool → ℕ
number_of [] = 0
number_of (b ∷ bs) = cond b 1 0 + 2 * number_of bs

low_bit : (b : Bool) (m : ℕ) → (cond b 1 0 + 2 * m) % 2 ≡ cond b 1 0
low_bit true m = omega arith
low_bit false m = omega arith

high_bits : (b : Bool) (m : ℕ) → (cond b 1 0 + 2 * m) / 2 ≡ m
high_bits true m = omega arith
high_bits false m = omega arith

bit_of : (bs : List Bool) (i : ℕ) → bit_at (number_of bs) i ≡ cond (get_or bs i false) 1 0
bit_of [] i = bit_at-zero i
bit_of (b ∷ bs) zero = bit_at_lowest (cond b 1 0 + 2 * number_of bs) ∙ low_bit b (number_of bs)
bit_of (b ∷ bs) (suc i) = bit_at-suc (cond b 1 0 + 2 * number_of bs) i ∙ ap (λ m. bit_at m i) (high_bits b (number_of bs)) ∙ bit_of bs i

bit_test : (b : Bool) → (cond b 1 0 == 1) ≡ b
bit_test true = refl
bit_test false = refl

digit_none : (b : Bool) → b ≡ false → ◌≡◌ {A = ℕ} (cond b 1 0) 0
digit_none true off = absurd (let clash : ⊥ = cc in clash)
digit_none false off = refl

-- where no bit stands from k on, the number is below 2 ^ k
number_small : (bs : List Bool) (k : ℕ) → ((i : ℕ) → k ≤ i → get_or bs i false ≡ false) → number_of bs < 2 ^ k
number_small [] k none = one_power k
  where
    one_power : (k : ℕ) → 0 < 2 ^ k
    one_power zero = omega arith
    one_power (suc k) = rw (pow-suc 2 k) (let h = one_power k in omega arith)
number_small (b ∷ bs) zero none =
    let first : b ≡ false = none 0 (omega arith) in
    let rest = number_small bs zero (λ i h. none (suc i) (omega arith)) in
    omega (arith, digit_none b first, rest)
number_small (b ∷ bs) (suc k) none =
    let rest = number_small bs k (λ i h. none (suc i) (omega arith)) in
    let digit = digit_small b in
    rw (pow-suc 2 k) (omega arith)
  where
    digit_small : (b : Bool) → cond b 1 0 ≤ 1
    digit_small true = omega arith
    digit_small false = omega arith

weigh : (b : Bool) (w : ℕ) → cond b w 0 ≡ w * cond b 1 0
weigh true w = omega arith
weigh false w = omega arith

byte_is : (bits : ℕ → Bool) → byte_of bits ≡ number_of (map bits (below 8))
byte_is bits = omega (arith, weigh (bits 1) 2, weigh (bits 2) 4, weigh (bits 3) 8, weigh (bits 4) 16, weigh (bits 5) 32, weigh (bits 6) 64, weigh (bits 7) 128)

byte_bit : (bits : ℕ → Bool) (i : ℕ) → i < 8 → (bit_at (byte_of bits) i == 1) ≡ bits i
byte_bit bits i h =
    ap (λ n. bit_at n i == 1) (byte_is bits) ∙ ap (λ n. n == 1) (bit_of (map bits (below 8)) i) ∙ bit_test (get_or (map bits (below 8)) i false) ∙ at_made bits 8 i false h

-- the bytes of a plane

abbrev made_bits : ℕ → (ℕ → Bool) → ℕ → ℕ → Bool
made_bits groups test i bit = nat_lt (8 * i + bit) groups && test (8 * i + bit)

past : (groups i bit : ℕ) (test : ℕ → Bool) → groups ≤ 8 * i + bit → made_bits groups test i bit ≡ false
past groups i bit test h = ap (λ b. b && test (8 * i + bit)) (le-ltb (8 * i + bit) groups h)

inside : (groups i bit : ℕ) (test : ℕ → Bool) → 8 * i + bit < groups → made_bits groups test i bit ≡ test (8 * i + bit)
inside groups i bit test h = ap (λ b. b && test (8 * i + bit)) (lt-ltb (8 * i + bit) groups h)

-- of a byte that is not whole, no bit stands from the rest of the groups on
bits_behind : (groups i k : ℕ) (test : ℕ → Bool) → groups ≤ 8 * i + k → (bit : ℕ) → k ≤ bit → get_or (map (made_bits groups test i) (below 8)) bit false ≡ false
bits_behind groups i k test h bit above = ⊎_elim
    (λ (within : bit < 8). at_made (made_bits groups test i) 8 bit false within ∙ past groups i bit test (omega arith))
    (λ (none : 8 ≤ bit). get_or_past (map (made_bits groups test i) (below 8)) bit false (omega (arith, length_made (made_bits groups test i) 8)))
    (cases_lt bit 8)

byte_small : (groups i k : ℕ) (test : ℕ → Bool) → groups ≤ 8 * i + k → byte_of (made_bits groups test i) < 2 ^ k
byte_small groups i k test h = subst (λ n. n < 2 ^ k) (sym (byte_is (made_bits groups test i))) (number_small (map (made_bits groups test i) (below 8)) k (bits_behind groups i k test h))

any_byte_small : (bits : ℕ → Bool) → byte_of bits < 256
any_byte_small bits = subst (λ n. n < 256) (sym (byte_is bits)) (number_small (map bits (below 8)) 8 (λ bit above. get_or_past (map bits (below 8)) bit false (omega (arith, length_made bits 8))))

byte_most : (groups i : ℕ) (test : ℕ → Bool) → i < row_len groups → byte_of (made_bits groups test i) ≤ most_of_byte groups i
byte_most groups i test within = ⊎_elim
    (λ (part : groups < 8 * (i + 1)).
    let small = byte_small groups i (groups % 8) test (omega arith) in
    subst (λ b. byte_of (made_bits groups test i) ≤ cond b 255 (2 ^ (groups % 8) - 1)) (sym (lt_not_le groups (8 * (i + 1)) part)) (omega arith))
    (λ (whole : 8 * (i + 1) ≤ groups).
    let small = any_byte_small (made_bits groups test i) in
    subst (λ b. byte_of (made_bits groups test i) ≤ cond b 255 (2 ^ (groups % 8) - 1)) (sym (of_le (8 * (i + 1)) groups whole)) (omega arith))
    (cases_lt groups (8 * (i + 1)))
  where
    lt_not_le : (a b : ℕ) → a < b → nat_le b a ≡ false
    lt_not_le a b h = grind (arith, nat_tests)

row_valid : (groups : ℕ) (test : ℕ → Bool) → IsMarksRow groups (row_of groups test)
unfolding row_of
row_valid groups test = record {
  size = length_made (λ i. byte_of (made_bits groups test i)) (row_len groups);
  bits = all_made (λ i byte. byte ≤ most_of_byte groups i) (λ i. byte_of (made_bits groups test i)) (row_len groups) (λ i h. byte_most groups i test h);
}

row_bit : (groups : ℕ) (test : ℕ → Bool) (group : ℕ) → group < groups → is_set (row_of groups test) group ≡ test group
unfolding row_of
row_bit groups test group h =
    let bits = λ (i : ℕ). byte_of (made_bits groups test i) in
    let place : 8 * (group / 8) + group % 8 ≡ group = omega arith in
    ap (λ n. bit_at n (group % 8) == 1) (at_made bits (row_len groups) (group / 8) 0 (omega arith))
    ∙ byte_bit (made_bits groups test (group / 8)) (group % 8) (omega arith)
    ∙ inside groups (group / 8) (group % 8) test (omega arith)
    ∙ ap test place

pub marks_valid : (s : Sizes) (test : Key → Bool) → AreMarks s (marks_of s test)
unfolding marks_of
marks_valid s test = record {
  size = length_made (λ plane. row_of s.groups (λ group. test (record { group = group; plane = plane }))) (planes s);
  rows = all_made (λ i row. IsMarksRow s.groups row) (λ plane. row_of s.groups (λ group. test (record { group = group; plane = plane }))) (planes s) (λ plane h. row_valid s.groups (λ group. test (record { group = group; plane = plane })));
}

pub marks_bit : (s : Sizes) (test : Key → Bool) (key : Key) → key.group < s.groups → key.plane < planes s → is_marked (marks_of s test) key ≡ test key
unfolding marks_of
marks_bit s test key group plane =
    ap (λ row. is_set row key.group) (at_made (λ plane. row_of s.groups (λ group. test (record { group = group; plane = plane }))) (planes s) key.plane [] plane)
    ∙ row_bit s.groups (λ group. test (record { group = group; plane = key.plane })) key.group group

same_test : (m n i : ℕ) → (bit_at m i == 1) ≡ (bit_at n i == 1) → bit_at m i ≡ bit_at n i
same_test m n i same = by_tests (bit_at m i) (bit_at n i) (bit_at-lt m i) (bit_at-lt n i) same
  where
    by_tests : (a b : ℕ) → a < 2 → b < 2 → (a == 1) ≡ (b == 1) → a ≡ b
    by_tests zero zero a_in b_in e = refl
    by_tests zero (suc zero) a_in b_in e = absurd (let clash : ⊥ = cc in clash)
    by_tests zero (suc (suc b)) a_in b_in e = absurd (omega arith)
    by_tests (suc zero) zero a_in b_in e = absurd (let clash : ⊥ = cc in clash)
    by_tests (suc zero) (suc zero) a_in b_in e = refl
    by_tests (suc zero) (suc (suc b)) a_in b_in e = absurd (omega arith)
    by_tests (suc (suc a)) b a_in b_in e = absurd (omega arith)

-- a bit of a valid byte is set only for a group
bit_in_range : (groups i bit byte : ℕ) → byte ≤ most_of_byte groups i → i < row_len groups → groups ≤ 8 * i + bit → bit < 8 → (bit_at byte bit == 1) ≡ false
bit_in_range groups i bit byte few within past small =
    let part : groups < 8 * (i + 1) = omega arith in
    let most : byte ≤ 2 ^ (groups % 8) - 1 = subst (λ b. byte ≤ cond b 255 (2 ^ (groups % 8) - 1)) (not_whole groups (8 * (i + 1)) part) few in
    let some : 0 < 2 ^ (groups % 8) = some_power (groups % 8) in
    ap (λ n. n == 1) (bit_at_above byte (groups % 8) bit (omega arith) (omega arith))
  where
    not_whole : (a b : ℕ) → a < b → nat_le b a ≡ false
    not_whole a b h = grind (arith, nat_tests)

    some_power : (k : ℕ) → 0 < 2 ^ k
    some_power zero = omega arith
    some_power (suc k) = rw (pow-suc 2 k) (let h = some_power k in omega arith)

byte_same : (groups i : ℕ) (row : List ℕ) (test : ℕ → Bool) → IsMarksRow groups row → ((group : ℕ) → group < groups → is_set row group ≡ test group) → i < row_len groups → slice_index row i ≡ byte_of (made_bits groups test i)
byte_same groups i row test valid same within =
    let byte = slice_index row i in
    let made = byte_of (made_bits groups test i) in
    let size : length row ≡ row_len groups = valid.size in
    let few : byte ≤ most_of_byte groups i = subst (λ j. byte ≤ most_of_byte groups j) (zero-add i) (all_at (λ j b. b ≤ most_of_byte groups j) row 0 i 0 valid.bits (omega arith)) in
    let most = most_fits groups i in
    same_from_bits_below 8 byte made (omega arith) (any_byte_small (made_bits groups test i)) (λ bit h.
    same_test byte made bit (⊎_elim
    (λ (of_group : 8 * i + bit < groups).
    let here : (bit_at (slice_index row ((8 * i + bit) / 8)) ((8 * i + bit) % 8) == 1) ≡ (bit_at byte bit == 1) =
    ap (λ k. bit_at (slice_index row k) ((8 * i + bit) % 8) == 1) (let k : (8 * i + bit) / 8 ≡ i = omega arith in k)
    ∙ ap (λ k. bit_at byte k == 1) (let k : (8 * i + bit) % 8 ≡ bit = omega arith in k) in
    sym here ∙ same (8 * i + bit) of_group ∙ sym (inside groups i bit test of_group) ∙ sym (byte_bit (made_bits groups test i) bit h))
    (λ (of_none : groups ≤ 8 * i + bit).
    bit_in_range groups i bit byte few within of_none h ∙ sym (past groups i bit test of_none) ∙ sym (byte_bit (made_bits groups test i) bit h))
    (cases_lt (8 * i + bit) groups)))

row_same : (groups : ℕ) (row : List ℕ) (test : ℕ → Bool) → IsMarksRow groups row → ((group : ℕ) → group < groups → is_set row group ≡ test group) → row ≡ row_of groups test
unfolding row_of
row_same groups row test valid same =
    let size : length row ≡ row_len groups = valid.size in
    ext_get_or 0 row (map (λ i. byte_of (made_bits groups test i)) (below (row_len groups)))
    (size ∙ sym (length_made (λ i. byte_of (made_bits groups test i)) (row_len groups)))
    (λ i h. byte_same groups i row test valid same (omega arith) ∙ sym (at_made (λ i. byte_of (made_bits groups test i)) (row_len groups) i 0 (omega arith)))

pub marks_same : (s : Sizes) (marks : List (List ℕ)) (test : Key → Bool) → AreMarks s marks → ((key : Key) → key.group < s.groups → key.plane < planes s → is_marked marks key ≡ test key) → marks ≡ marks_of s test
unfolding marks_of
marks_same s marks test valid same =
    let rows = λ (plane : ℕ). row_of s.groups (λ group. test (record { group = group; plane = plane })) in
    let size : length marks ≡ planes s = valid.size in
    ext_get_or [] marks (map rows (below (planes s)))
    (size ∙ sym (length_made rows (planes s)))
    (λ plane h.
    row_same s.groups (get_or marks plane []) (λ group. test (record { group = group; plane = plane }))
    (all_at (λ i row. IsMarksRow s.groups row) marks 0 plane [] valid.rows h)
    (λ group within. same (record { group = group; plane = plane }) within (omega arith))
    ∙ sym (at_made rows (planes s) plane [] (omega arith)))
