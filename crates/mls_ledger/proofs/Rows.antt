-- The bytes of marks cut into the rows of planes.
use Rattle.std.proofs.Common.{◌≡◌, ℕ, zero, suc, ◌+◌, ◌-◌, ◌*◌, ◌/◌, ◌%◌, ◌^◌, ◌<◌, ◌≤◌, true, false, Bool, ◌&&◌, cond, nat_le, List, [], ◌∷◌, ◌++◌, length, map, get_or, take, drop, Ok, refl, ap, sym, ◌∙◌, ⊎_elim, subst, arith, append_assoc, length-drop, drop-cons}
use Rattle.std.specs.Prelude.{◌==◌, slice_index, nat_lt}
use Rattle.std.specs.Int.{bit_at, byte_len, w8}
use Rattle.std.proofs.lemmas.Bool.{cases_lt, lt-ltb, ltb-true, and_parts, cases_Bool}
use Rattle.std.proofs.lemmas.Bool.Decides.{nat_tests}
use Rattle.mls_ckpt.proofs.Passing.{of_le}
use Rattle.std.proofs.lemmas.List.{get_or-take, get_or-drop, get_or_past, take_all, take-append-le, drop-append-le, drop_all, take-append-drop, length-take-le, length-map, ext_get_or}
use Rattle.std.proofs.lemmas.Nat.Bits.{bit_at-zero, bit_at_above}
use Rattle.std.proofs.lemmas.Nat.{div-mul-add}
use Rattle.std.proofs.Math.Nat.{pow-suc}
use Rattle.mls_model.specs.Numbers.{below}
use Rattle.mls_model.specs.Studies.{Sizes, planes}
use Rattle.mls_model.specs.Completion.{Key}
use Rattle.mls_ckpt.specs.Checkpoints.{marks_row_at, marks_at}
use Rattle.mls_ckpt.specs.Reading.{Cursor, number_at, front, behind, spelled, text, texts, AllFrom}
use Rattle.mls_ckpt.specs.States.{row_len, most_of_byte, after_one, is_set, IsMarksRow, AreMarks}
use Rattle.mls_ckpt.specs.Spellings.{marks_text}
use Rattle.mls_ckpt.specs.States as states
use Rattle.mls_ckpt.proofs.Steps.{texts-append}
use Rattle.mls_ckpt.proofs.Numbers.{chosen, same_ok}
use Rattle.mls_ckpt.proofs.Loops.{many_valid}
use Rattle.mls_ledger.specs.MarkSets.{MarkSet, is_marked, marked, plane_counts, IsPadded, KeepsMarks}
use Rattle.mls_ledger.specs.MarkRows.{rows_in, rows_of, IsOf, AreRows}
use Rattle.mls_ledger.proofs.Bits.{length_made, made_at, count_same, marked_inside, unmarked_outside}

-- what is put in all is what was put with what is left
pub put_more : (out more whole items : List ℕ) (i : ℕ) → i < length items → more ≡ out ++ spelled w8 (slice_index items i) → out ++ texts (text w8) (drop i items) [] ≡ whole → more ++ texts (text w8) (drop (i + 1) items) [] ≡ whole
put_more out more whole items i within put so_far =
    let next : drop i items ≡ slice_index items i ∷ drop (i + 1) items = drop-cons items i 0 within ∙ ap (λ k. slice_index items i ∷ drop k items) (let same : suc i ≡ i + 1 = omega arith in same) in
    ap (λ l. l ++ texts (text w8) (drop (i + 1) items) []) put
    ∙ append_assoc out (spelled w8 (slice_index items i)) (texts (text w8) (drop (i + 1) items) [])
    ∙ ap (λ l. out ++ l) (sym (ap (λ l. texts (text w8) l []) next))
    ∙ so_far

append_none : {A : Type 0} (l : List A) → l ++ [] ≡ l
append_none [] = refl
append_none (a ∷ l) = ap (λ r. a ∷ r) (append_none l)

pub put_begins : (m v : MarkSet) (new old items : List ℕ) → m ≡ v → new ≡ old → items ≡ m.bytes → new ++ texts (text w8) (drop 0 items) [] ≡ old ++ texts (text w8) v.bytes []
put_begins m v new old items seen same are =
    ap (λ l. l ++ texts (text w8) items []) same ∙ ap (λ l. old ++ texts (text w8) l []) (are ∙ ap (λ (w : MarkSet). w.bytes) seen)

pub put_ends : (out whole items : List ℕ) (i : ℕ) → length items ≤ i → out ++ texts (text w8) (drop i items) [] ≡ whole → out ≡ whole
put_ends out whole items i past so_far =
    sym (append_none out) ∙ sym (ap (λ l. out ++ texts (text w8) l []) (drop_all i items past)) ∙ so_far

pub rows_length : (size n : ℕ) (bytes : List ℕ) → length (rows_in size n bytes) ≡ n
rows_length size zero bytes = refl
rows_length size (suc n) bytes = ap suc (rows_length size n (drop size bytes))

-- a row more
pub rows_more : (size n : ℕ) (bytes row : List ℕ) → length bytes ≡ n * size → length row ≡ size → rows_in size (suc n) (bytes ++ row) ≡ rows_in size n bytes ++ row ∷ []
rows_more size zero [] row long row_long = ap (λ r. r ∷ []) (take_all size row (omega arith))
rows_more size zero (b ∷ bytes) row long row_long = absurd (omega arith)
rows_more size (suc n) bytes row long row_long =
    let enough : size ≤ length bytes = omega arith in
    let left : length (drop size bytes) ≡ n * size = omega (arith, length-drop size bytes) in
    ap (λ r. r ∷ rows_in size (suc n) (drop size (bytes ++ row))) (take-append-le size bytes row enough)
    ∙ ap (λ r. take size bytes ∷ rows_in size (suc n) r) (drop-append-le size bytes row enough)
    ∙ ap (λ r. take size bytes ∷ r) (rows_more size n (drop size bytes) row left row_long)

-- the rows' texts are the bytes'
pub rows_text : (size n : ℕ) (bytes rest : List ℕ) → length bytes ≡ n * size → texts (texts (text w8)) (rows_in size n bytes) rest ≡ texts (text w8) bytes rest
rows_text size zero [] rest long = refl
rows_text size zero (b ∷ bytes) rest long = absurd (omega arith)
rows_text size (suc n) bytes rest long =
    let left : length (drop size bytes) ≡ n * size = omega (arith, length-drop size bytes) in
    ap (texts (text w8) (take size bytes)) (rows_text size n (drop size bytes) rest left)
    ∙ sym (texts-append (text w8) (take size bytes) (drop size bytes) rest)
    ∙ ap (λ l. texts (text w8) l rest) (take-append-drop size bytes)

pub whole_text : (m v : MarkSet) → m ≡ v → length m.bytes ≡ m.planes * row_len m.groups → texts (text w8) v.bytes [] ≡ marks_text (rows_of v) []
unfolding marks_text
whole_text m v seen long =
    let here : length v.bytes ≡ v.planes * row_len v.groups = subst (λ (w : MarkSet). length w.bytes ≡ w.planes * row_len w.groups) seen long in
    sym (rows_text (row_len v.groups) v.planes v.bytes [] here)

-- a row's size and its bytes
row_size : (size n p : ℕ) (bytes : List ℕ) → p < n → length bytes ≡ n * size → length (get_or (rows_in size n bytes) p []) ≡ size
row_size size zero p bytes within long = absurd (omega arith)
row_size size (suc n) zero bytes within long = length-take-le size bytes (omega arith)
row_size size (suc n) (suc p) bytes within long = row_size size n p (drop size bytes) (omega arith) (omega (arith, length-drop size bytes))

byte_at : (size n p i : ℕ) (bytes : List ℕ) → p < n → i < size → slice_index (get_or (rows_in size n bytes) p []) i ≡ slice_index bytes (p * size + i)
byte_at size zero p i bytes within inside = absurd (omega arith)
byte_at size (suc n) zero i bytes within inside = get_or-take size bytes i 0 inside ∙ ap (slice_index bytes) (let same : i ≡ 0 * size + i = omega arith in same)
byte_at size (suc n) (suc p) i bytes within inside =
    byte_at size n p i (drop size bytes) (omega arith) inside ∙ get_or-drop size bytes (p * size + i) 0 ∙ ap (slice_index bytes) (let same : size + (p * size + i) ≡ suc p * size + i = omega arith in same)

-- a bit of the rows is the set's, also where no key is
none_set : (byte k : ℕ) → byte ≡ 0 → (bit_at byte k == 1) ≡ false
none_set byte k is = ap (λ b. bit_at b k == 1) is ∙ ap (λ n. n == 1) (bit_at-zero k)

outside : (m : MarkSet) (key : Key) → length m.bytes ≡ m.planes * row_len m.groups → IsPadded m → (nat_lt key.group m.groups && nat_lt key.plane m.planes) ≡ false → states.is_marked (rows_of m) key ≡ false
outside m key long padded out = ⊎_elim
    (λ (plane_in : key.plane < m.planes). ⊎_elim
    (λ (group_in : key.group < m.groups). absurd (in_both out (rw (lt-ltb key.group m.groups group_in, lt-ltb key.plane m.planes plane_in) refl)))
    (λ (past : m.groups ≤ key.group). ⊎_elim
    (λ (row_in : key.group / 8 < row_len m.groups).
    ap (λ b. bit_at b (key.group % 8) == 1) (byte_at (row_len m.groups) m.planes key.plane (key.group / 8) m.bytes plane_in row_in)
    ∙ ap (λ n. n == 1) (padded key.group key.plane past row_in plane_in))
    (λ (row_out : row_len m.groups ≤ key.group / 8).
    none_set _ (key.group % 8) (get_or_past (get_or (rows_of m) key.plane []) (key.group / 8) 0 (omega (arith, row_size (row_len m.groups) m.planes key.plane m.bytes plane_in long))))
    (cases_lt (key.group / 8) (row_len m.groups)))
    (cases_lt key.group m.groups))
    (λ (plane_out : m.planes ≤ key.plane).
    none_set _ (key.group % 8) (ap (λ (row : List ℕ). slice_index row (key.group / 8)) (get_or_past (rows_of m) key.plane [] (omega (arith, rows_length (row_len m.groups) m.planes m.bytes)))))
    (cases_lt key.plane m.planes)
  where
    in_both : {b : Bool} → b ≡ false → b ≡ true → ⊥
    in_both f t = cc

pub marks_tie : (m : MarkSet) → length m.bytes ≡ m.planes * row_len m.groups → IsPadded m → (key : Key) → states.is_marked (rows_of m) key ≡ is_marked m key.group key.plane
marks_tie m long padded key = ⊎_elim
    (λ (t : (nat_lt key.group m.groups && nat_lt key.plane m.planes) ≡ true).
    let group_in : key.group < m.groups = lt_of key.group m.groups (and_first _ _ t) in
    let plane_in : key.plane < m.planes = lt_of key.plane m.planes (and_second _ _ t) in
    ap (λ b. bit_at b (key.group % 8) == 1) (byte_at (row_len m.groups) m.planes key.plane (key.group / 8) m.bytes plane_in (omega arith))
    ∙ sym (marked_inside m key.group key.plane group_in plane_in))
    (λ (f : (nat_lt key.group m.groups && nat_lt key.plane m.planes) ≡ false).
    outside m key long padded f ∙ sym (unmarked_outside m key.group key.plane f))
    (cases_Bool (nat_lt key.group m.groups && nat_lt key.plane m.planes))
  where
    lt_of : (a b : ℕ) → nat_lt a b ≡ true → a < b
    lt_of a b t = ltb-true a b t

    and_first : (a b : Bool) → (a && b) ≡ true → a ≡ true
    and_first a b t = (and_parts a b t).0

    and_second : (a b : Bool) → (a && b) ≡ true → b ≡ true
    and_second a b t = (and_parts a b t).1

-- as many keys
marked_tie : (m : MarkSet) → length m.bytes ≡ m.planes * row_len m.groups → IsPadded m → (plane : ℕ) → states.marked m.groups (get_or (rows_of m) plane []) ≡ marked m plane
unfolding states.marked marked
marked_tie m long padded plane =
    count_same (λ group. is_marked m group plane) (is_set (get_or (rows_of m) plane [])) (λ group. marks_tie m long padded (record { group = group; plane = plane })) (below m.groups)

map_at : (f : List ℕ → ℕ) (rows : List (List ℕ)) (i : ℕ) → i < length rows → get_or (map f rows) i 0 ≡ f (get_or rows i [])
map_at f [] i within = absurd (omega arith)
map_at f (row ∷ rows) zero within = refl
map_at f (row ∷ rows) (suc i) within = map_at f rows i (omega arith)

count_tie : (m : MarkSet) → length m.bytes ≡ m.planes * row_len m.groups → IsPadded m → (plane : ℕ) → plane < m.planes → get_or (map (states.marked m.groups) (rows_of m)) plane 0 ≡ marked m plane
count_tie m long padded plane within =
    map_at (states.marked m.groups) (rows_of m) plane (omega (arith, rows_length (row_len m.groups) m.planes m.bytes)) ∙ marked_tie m long padded plane

counts_length : (m : MarkSet) → length (map (states.marked m.groups) (rows_of m)) ≡ m.planes
counts_length m = length-map (rows_of m) (states.marked m.groups) ∙ rows_length (row_len m.groups) m.planes m.bytes

pub counts_tie : (m : MarkSet) → length m.bytes ≡ m.planes * row_len m.groups → IsPadded m → map (states.marked m.groups) (rows_of m) ≡ plane_counts m
counts_tie m long padded =
    ext_get_or 0 (map (states.marked m.groups) (rows_of m)) (map (marked m) (below m.planes)) (counts_length m ∙ sym (length_made (marked m) m.planes))
    (λ plane within. let here : plane < m.planes = omega (arith, counts_length m) in count_tie m long padded plane here ∙ sym (made_at (marked m) m.planes plane here))

-- bits of groups alone make a byte small

half : (byte j : ℕ) → byte < 2 ^ suc j → bit_at byte j ≡ 0 → byte < 2 ^ j
half byte j fits none = below_power (2 ^ j) byte (subst (λ n. byte < n) (pow-suc 2 j) fits) (power_some j) none
  where
    power_some : (k : ℕ) → 0 < 2 ^ k
    power_some zero = omega arith
    power_some (suc k) = rw (pow-suc 2 k) (let h = power_some k in omega arith)

    below_power : (w byte : ℕ) → byte < w * 2 → 0 < w → byte / w % 2 ≡ 0 → byte < w
    below_power w byte fits some none = ⊎_elim
        (λ (less : byte < w). less)
        (λ (more : w ≤ byte).
        let one : byte / w ≡ 1 = ap (λ n. n / w) (let same : byte ≡ 1 * w + (byte - w) = omega arith in same) ∙ div-mul-add 1 w (byte - w) (omega arith) in
        let digit : 1 ≡ 0 = sym (ap (λ n. n % 2) one) ∙ none in
        absurd (let clash : ⊥ = omega (arith, digit) in clash))
        (cases_lt byte w)

low : (d k byte : ℕ) → byte < 2 ^ (k + d) → ((b : ℕ) → k ≤ b → b < k + d → bit_at byte b ≡ 0) → byte < 2 ^ k
low zero k byte fits none = subst (λ n. byte < 2 ^ n) (let same : k + 0 ≡ k = omega arith in same) fits
low (suc d) k byte fits none =
    low d k byte (half byte (k + d) (subst (λ n. byte < 2 ^ n) (let same : k + suc d ≡ suc (k + d) = omega arith in same) fits) (none (k + d) (omega arith) (omega arith))) (λ b above inside. none b above (omega arith))

byte_few : (groups i byte : ℕ) → byte < 256 → i < row_len groups → ((bit : ℕ) → bit < 8 → groups ≤ 8 * i + bit → bit_at byte bit ≡ 0) → byte ≤ most_of_byte groups i
byte_few groups i byte fits within none = ⊎_elim
    (λ (part : groups < 8 * (i + 1)).
    let k = groups % 8 in
    let d = 8 - groups % 8 in
    let small : byte < 2 ^ (groups % 8) = low (8 - groups % 8) (groups % 8) byte (subst (λ n. byte < 2 ^ n) (let same : 8 ≡ groups % 8 + (8 - groups % 8) = omega arith in same) fits) (λ b above inside. none b (omega arith) (omega arith)) in
    subst (λ b. byte ≤ cond b 255 (2 ^ (groups % 8) - 1)) (sym (lt_not_le groups (8 * (i + 1)) part)) (omega arith))
    (λ (whole : 8 * (i + 1) ≤ groups).
    subst (λ b. byte ≤ cond b 255 (2 ^ (groups % 8) - 1)) (sym (of_le (8 * (i + 1)) groups whole)) (omega arith))
    (cases_lt groups (8 * (i + 1)))
  where
    lt_not_le : (a b : ℕ) → a < b → nat_le b a ≡ false
    lt_not_le a b h = grind (arith, nat_tests)

all_from_each : {A : Type 0} (P : ℕ → A → Type 0) (d : A) (xs : List A) (start : ℕ) → ((i : ℕ) → i < length xs → P (start + i) (get_or xs i d)) → AllFrom P after_one start xs
all_from_each P d [] start each = tt
all_from_each P d (x ∷ xs) start each = (
  subst (λ i. P i x) (let same : start + 0 ≡ start = omega arith in same) (each 0 (omega arith)),
  all_from_each P d xs (start + 1) (λ i within. subst (λ k. P k (get_or xs i d)) (let same : start + suc i ≡ start + 1 + i = omega arith in same) (each (suc i) (omega arith))),
)

row_valid : (m : MarkSet) → length m.bytes ≡ m.planes * row_len m.groups → IsPadded m → ((i : ℕ) → slice_index m.bytes i < 256) → (p : ℕ) → p < m.planes → IsMarksRow m.groups (get_or (rows_of m) p [])
row_valid m long padded bytes p within =
    let size = row_size (row_len m.groups) m.planes p m.bytes within long in
    record {
      size = size;
      bits = all_from_each (λ i byte. byte ≤ most_of_byte m.groups i) 0 (get_or (rows_of m) p []) 0 (λ i inside.
          let row_in : i < row_len m.groups = omega (arith, size) in
          let at = byte_at (row_len m.groups) m.planes p i m.bytes within row_in in
          subst (λ k. slice_index (get_or (rows_of m) p []) i ≤ most_of_byte m.groups k) (let same : i ≡ 0 + i = omega arith in same)
          (subst (λ b. b ≤ most_of_byte m.groups i) (sym at)
          (byte_few m.groups i (slice_index m.bytes (p * row_len m.groups + i)) (bytes (p * row_len m.groups + i)) row_in (λ bit bit_in past.
          subst (λ k. bit_at (slice_index m.bytes (p * row_len m.groups + k)) bit ≡ 0) (let same : (8 * i + bit) / 8 ≡ i = omega arith in same)
          (subst (λ k. bit_at (slice_index m.bytes (p * row_len m.groups + (8 * i + bit) / 8)) k ≡ 0) (let same : (8 * i + bit) % 8 ≡ bit = omega arith in same)
          (padded (8 * i + bit) p past (omega arith) within))))));
    }

pub rows_valid : (m : MarkSet) → length m.bytes ≡ m.planes * row_len m.groups → IsPadded m → ((i : ℕ) → slice_index m.bytes i < 256) → (s : Sizes) → IsOf s m → AreMarks s (rows_of m)
rows_valid m long padded bytes s of = record {
  size = rows_length (row_len m.groups) m.planes m.bytes ∙ of.planes;
  rows = subst (λ groups. AllFrom (λ i row. IsMarksRow groups row) after_one 0 (rows_of m)) of.groups
      (all_from_each (λ i row. IsMarksRow m.groups row) [] (rows_of m) 0 (λ i inside. row_valid m long padded bytes i (omega (arith, rows_length (row_len m.groups) m.planes m.bytes))));
}

pub are_rows : (m : MarkSet) (counts : List ℕ) → KeepsMarks m counts → ((i : ℕ) → slice_index m.bytes i < 256) → AreRows m
are_rows m counts kept bytes = record {
  valid = rows_valid m kept.size kept.padded bytes;
  marks = marks_tie m kept.size kept.padded;
  counts = counts_tie m kept.size kept.padded;
}

-- marks that were read are padded

number_few : (most : ℕ) (c : Cursor) (r : ℕ × Cursor) → number_at w8 most c ≡ Ok r → r.0 ≤ most
unfolding number_at
number_few most c r e =
    let outer = chosen (nat_lt (length c.left) (byte_len w8)) _ _ r e in
    let inner = chosen (nat_lt most (front w8 c.left)) _ _ r outer.1 in
    let within : front w8 c.left ≤ most = grind (arith, nat_tests, inner.0) in
    subst (λ (p : ℕ × Cursor). p.0 ≤ most) (same_ok (front w8 c.left, behind w8 c) r inner.1) within

row_read : (s : Sizes) (c : Cursor) (r : List ℕ × Cursor) → marks_row_at s c ≡ Ok r → IsMarksRow s.groups r.0
unfolding marks_row_at
row_read s c r e =
    let all = many_valid (λ i byte. byte ≤ most_of_byte s.groups i) (λ i from. number_at w8 (most_of_byte s.groups i) from) after_one (λ i c r e. number_few (most_of_byte s.groups i) c r e) (row_len s.groups) 0 c r e in
    record { size = all.0; bits = all.1 }

pub row_long : (s : Sizes) (c : Cursor) (r : List ℕ × Cursor) → marks_row_at s c ≡ Ok r → length r.0 ≡ row_len s.groups
row_long s c r e = (row_read s c r e).size

marks_read : (s : Sizes) (c : Cursor) (r : List (List ℕ) × Cursor) → marks_at s c ≡ Ok r → AllFrom (λ i row. IsMarksRow s.groups row) after_one 0 r.0
unfolding marks_at
marks_read s c r e = (many_valid (λ i row. IsMarksRow s.groups row) (λ i from. marks_row_at s from) after_one (λ i c r e. row_read s c r e) (planes s) 0 c r e).1

all_at : {A : Type 0} (P : ℕ → A → Type 0) (xs : List A) (start i : ℕ) (d : A) → AllFrom P after_one start xs → i < length xs → P (start + i) (get_or xs i d)
all_at P [] start i d each h = absurd (omega arith)
all_at P (x ∷ xs) start zero d each h = subst (λ k. P k x) (let same : start ≡ start + 0 = omega arith in same) each.0
all_at P (x ∷ xs) start (suc i) d each h =
    subst (λ k. P k (get_or xs i d)) (let same : start + 1 + i ≡ start + suc i = omega arith in same) (all_at P xs (start + 1) i d each.1 (omega arith))

few_bits : (groups i bit byte : ℕ) → byte ≤ most_of_byte groups i → groups ≤ 8 * i + bit → bit < 8 → i < row_len groups → bit_at byte bit ≡ 0
few_bits groups i bit byte few past bit_in within =
    let part : groups < 8 * (i + 1) = omega arith in
    let most : byte ≤ 2 ^ (groups % 8) - 1 = subst (λ b. byte ≤ cond b 255 (2 ^ (groups % 8) - 1)) (not_whole groups (8 * (i + 1)) part) few in
    let some : 0 < 2 ^ (groups % 8) = some_power (groups % 8) in
    bit_at_above byte (groups % 8) bit (omega arith) (omega arith)
  where
    not_whole : (a b : ℕ) → a < b → nat_le b a ≡ false
    not_whole a b h = grind (arith, nat_tests)

    some_power : (k : ℕ) → 0 < 2 ^ k
    some_power zero = omega arith
    some_power (suc k) = rw (pow-suc 2 k) (let h = some_power k in omega arith)

padded_read : (s : Sizes) (m : MarkSet) (old new : Cursor) → IsOf s m → length m.bytes ≡ m.planes * row_len m.groups → marks_at s old ≡ Ok (rows_of m, new) → IsPadded m
padded_read s m old new of long e group plane past row_in plane_in =
    let all = marks_read s old (rows_of m, new) e in
    let row : IsMarksRow m.groups (get_or (rows_of m) plane []) = subst (λ groups. IsMarksRow groups (get_or (rows_of m) plane [])) (sym of.groups) (all_at (λ i row. IsMarksRow s.groups row) (rows_of m) 0 plane [] all (omega (arith, rows_length (row_len m.groups) m.planes m.bytes))) in
    let size : length (get_or (rows_of m) plane []) ≡ row_len m.groups = row.size in
    let byte : slice_index (get_or (rows_of m) plane []) (group / 8) ≤ most_of_byte m.groups (group / 8) = subst (λ k. slice_index (get_or (rows_of m) plane []) (group / 8) ≤ most_of_byte m.groups k) (let same : 0 + group / 8 ≡ group / 8 = omega arith in same) (all_at (λ i byte. byte ≤ most_of_byte m.groups i) (get_or (rows_of m) plane []) 0 (group / 8) 0 row.bits (omega arith)) in
    let at = byte_at (row_len m.groups) m.planes plane (group / 8) m.bytes plane_in row_in in
    few_bits m.groups (group / 8) (group % 8) (slice_index m.bytes (plane * row_len m.groups + group / 8)) (subst (λ b. b ≤ most_of_byte m.groups (group / 8)) at byte) (omega arith) (omega arith) row_in

pub read_keeps : (s : Sizes) (m : MarkSet) (counts : List ℕ) (old new : Cursor) → IsOf s m → length m.bytes ≡ m.planes * row_len m.groups → marks_at s old ≡ Ok (rows_of m, new) → counts ≡ map (states.marked m.groups) (rows_of m) → KeepsMarks m counts
read_keeps s m counts old new of long e are =
    let padded = padded_read s m old new of long e in
    record {
      size = long;
      padded = padded;
      one_each = ap length are ∙ counts_length m;
      counted = λ plane within. ap (λ l. slice_index l plane) are ∙ count_tie m long padded plane within;
    }
