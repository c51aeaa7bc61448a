-- One bit more in a set of keys.
use Rattle.std.proofs.Common.{◌≡◌, ℕ, zero, suc, ◌+◌, ◌*◌, ◌/◌, ◌%◌, ◌^◌, ◌<◌, ◌≤◌, ◌≢◌, Bool, true, false, ◌&&◌, ◌||◌, cond, List, [], ◌∷◌, ◌++◌, length, map, get_or, set, replicate, refl, ap, sym, ◌∙◌, ⊎_elim, subst, arith, get_or-set_same, get_or-set_other, length-append}
use Rattle.std.specs.Prelude.{◌==◌, nat_lt, count_by, slice_index}
use Rattle.std.specs.Int.{bit_at, w8}
use Rattle.std.specs.Int.RustNames.{bit_or}
use Rattle.std.proofs.lemmas.Bool.{cases_Bool, cases_eq, cases_lt, eq-eqb, ne_eqb, eqb-true, lt-ltb, le-ltb, ltb-true, ltb-false, and_left, and_right, or_right, and_from, and_parts, both_ways}
use Rattle.std.proofs.lemmas.List.{get_or-replicate, get_or_past, get_or_push, map-append, length-map, ext_get_or}
use Rattle.std.proofs.lemmas.List.Sums.{sum_by-append, count_by-le-length}
use Rattle.std.proofs.lemmas.Nat.{div-mul-add}
use Rattle.std.proofs.lemmas.Nat.Bits.{bit_at_set_same, bit_at_set_other, bit_at-zero}
use Rattle.std.proofs.Math.Nat.{mul-le-mul_right}
use Rattle.std.proofs.Math.ListN.{length-set, length-replicate, get_or-append}
use Rattle.mls_model.specs.Numbers.{below}
use Rattle.mls_ckpt.specs.States.{row_len}
use Rattle.mls_ledger.specs.MarkSets.{MarkSet, is_marked, marked, plane_counts, IsPadded, KeepsMarks}

get_or-zeros : (n i : ℕ) → ◌≡◌ {A = ℕ} (get_or (replicate n 0) i 0) 0
get_or-zeros n i = ⊎_elim
    (λ (within : i < n). get_or-replicate {A = ℕ} n i 0 0 within)
    (λ (past : n ≤ i). let size = length-replicate {A = ℕ} n 0 in get_or_past (replicate n 0) i 0 (omega arith))
    (cases_lt i n)

pub length-below : (n : ℕ) → length (below n) ≡ n
length-below zero = refl
length-below (suc n) = omega (arith, length-append (below n) (n ∷ []), length-below n)

pub count_last : (p : ℕ → Bool) (n : ℕ) → count_by p (below (suc n)) ≡ count_by p (below n) + cond (p n) 1 0
count_last p n = omega (arith, sum_by-append (λ x. cond (p x) 1 0) (below n) (n ∷ []))

or_false : (b : Bool) → (b || false) ≡ b
or_false true = refl
or_false false = refl

-- two tests that differ at one number alone
pub count_one_more : (p q : ℕ → Bool) (g : ℕ) → p g ≡ false → ((k : ℕ) → q k ≡ (p k || (k == g))) → (n : ℕ) → count_by q (below n) ≡ cond (nat_lt g n) (count_by p (below n) + 1) (count_by p (below n))
count_one_more p q g absent more zero = rw (le-ltb g zero (omega arith)) refl
count_one_more p q g absent more (suc n) =
    let so_far = count_one_more p q g absent more n in
    let q_last = count_last q n in
    let p_last = count_last p n in
    ⊎_elim
    (λ (same : n ≡ g).
    let here : q n ≡ true = more n ∙ or_right (p n) (n == g) (eq-eqb n g same) in
    let before : p n ≡ false = ap p same ∙ absent in
    let q_here : count_by q (below (suc n)) ≡ count_by q (below n) + 1 = q_last ∙ ap (λ b. count_by q (below n) + cond b 1 0) here in
    let p_here : count_by p (below (suc n)) ≡ count_by p (below n) + 0 = p_last ∙ ap (λ b. count_by p (below n) + cond b 1 0) before in
    let old : count_by q (below n) ≡ count_by p (below n) = so_far ∙ ap (λ b. cond b (count_by p (below n) + 1) (count_by p (below n))) (le-ltb g n (omega arith)) in
    let sum : count_by q (below (suc n)) ≡ count_by p (below (suc n)) + 1 = omega arith in
    sum ∙ sym (ap (λ b. cond b (count_by p (below (suc n)) + 1) (count_by p (below (suc n)))) (lt-ltb g (suc n) (omega arith))))
    (λ (other : n ≡ g → ⊥).
    let same : q n ≡ p n = more n ∙ (ap (λ b. p n || b) (ne_eqb n g other) ∙ or_false (p n)) in
    let q_here : count_by q (below (suc n)) ≡ count_by q (below n) + cond (p n) 1 0 = q_last ∙ ap (λ b. count_by q (below n) + cond b 1 0) same in
    ⊎_elim
    (λ (t : nat_lt g n ≡ true).
    let old : count_by q (below n) ≡ count_by p (below n) + 1 = so_far ∙ ap (λ b. cond b (count_by p (below n) + 1) (count_by p (below n))) t in
    let sum : count_by q (below (suc n)) ≡ count_by p (below (suc n)) + 1 = omega arith in
    let less : g < n = ltb-true g n t in
    sum ∙ sym (ap (λ b. cond b (count_by p (below (suc n)) + 1) (count_by p (below (suc n)))) (lt-ltb g (suc n) (omega arith))))
    (λ (f : nat_lt g n ≡ false).
    let old : count_by q (below n) ≡ count_by p (below n) = so_far ∙ ap (λ b. cond b (count_by p (below n) + 1) (count_by p (below n))) f in
    let sum : count_by q (below (suc n)) ≡ count_by p (below (suc n)) = omega arith in
    let least : n ≤ g = ltb-false g n f in
    let more_than : suc n ≤ g = omega arith in
    sum ∙ sym (ap (λ b. cond b (count_by p (below (suc n)) + 1) (count_by p (below (suc n)))) (le-ltb g (suc n) more_than)))
    (cases_Bool (nat_lt g n)))
    (cases_eq n g)

pub count_same : (p q : ℕ → Bool) → ((k : ℕ) → q k ≡ p k) → (xs : List ℕ) → count_by q xs ≡ count_by p xs
count_same p q same xs = let both : q ≡ p = λ i k. same k i in ap (λ (r : ℕ → Bool). count_by r xs) both

pub place_in : (groups planes group plane : ℕ) → group < groups → plane < planes → plane * row_len groups + group / 8 < planes * row_len groups
place_in groups planes group plane g p =
    let up : (plane + 1) * row_len groups ≤ planes * row_len groups = mul-le-mul_right (row_len groups) (omega arith) in omega arith

same_place : (row p a q b : ℕ) → a < row → b < row → p * row + a ≡ q * row + b → p ≡ q
same_place row p a q b a_in b_in same = sym (div-mul-add p row a a_in) ∙ (ap (λ n. n / row) same ∙ div-mul-add q row b b_in)

-- a key that the study lacks is not in the set
pub unmarked_outside : (m : MarkSet) (group plane : ℕ) → (nat_lt group m.groups && nat_lt plane m.planes) ≡ false → is_marked m group plane ≡ false
unfolding is_marked
unmarked_outside m group plane h = and_left (nat_lt group m.groups && nat_lt plane m.planes) (bit_at (slice_index m.bytes (plane * row_len m.groups + group / 8)) (group % 8) == 1) h

pub marked_inside : (m : MarkSet) (group plane : ℕ) → group < m.groups → plane < m.planes → is_marked m group plane ≡ (bit_at (get_or m.bytes (plane * row_len m.groups + group / 8) 0) (group % 8) == 1)
unfolding is_marked
marked_inside m group plane g p = rw (lt-ltb group m.groups g, lt-ltb plane m.planes p) refl

-- the set with one bit more
abbrev pub with_mark : MarkSet → ℕ → ℕ → MarkSet
with_mark m group plane = record m { bytes = set m.bytes (plane * row_len m.groups + group / 8) (bit_or (get_or m.bytes (plane * row_len m.groups + group / 8) 0) (1 * 2 ^ (group % 8) % 2 ^ 8)) }

new_bit : (bytes : List ℕ) (i j k b : ℕ) → i < length bytes → b < 8 → k < 8 → (j ≡ i → k ≡ b → ⊥) → bit_at (get_or (set bytes i (bit_or (get_or bytes i 0) (1 * 2 ^ b % 2 ^ 8))) j 0) k ≡ bit_at (get_or bytes j 0) k
new_bit bytes i j k b within b_in k_in apart = ⊎_elim
    (λ (same : j ≡ i).
    let other : k ≢ b = apart same in
    rw (same, get_or-set_same) (bit_at_set_other w8 (get_or bytes i 0) b b_in k other))
    (λ (other : j ≡ i → ⊥). let ne : j ≢ i = other in rw get_or-set_other refl)
    (cases_eq j i)

same_key : (g group p plane : ℕ) → ((g == group) && (p == plane)) ≡ true → (g ≡ group) × (p ≡ plane)
same_key g group p plane h = let parts = and_parts (g == group) (p == plane) h in (eqb-true g group (parts.0), eqb-true p plane (parts.1))

own_bit : (bytes : List ℕ) (i b : ℕ) → i < length bytes → b < 8 → (bit_at (get_or (set bytes i (bit_or (get_or bytes i 0) (1 * 2 ^ b % 2 ^ 8))) i 0) b == 1) ≡ true
own_bit bytes i b within b_in = rw get_or-set_same (eq-eqb _ 1 (bit_at_set_same w8 (get_or bytes i 0) b b_in))

mark_inside : (m : MarkSet) (group plane : ℕ) → group < m.groups → plane < m.planes → length m.bytes ≡ m.planes * row_len m.groups
    → (g p : ℕ) → g < m.groups → p < m.planes → is_marked (with_mark m group plane) g p ≡ (is_marked m g p || ((g == group) && (p == plane)))
mark_inside m group plane group_in plane_in size g p g_in p_in =
    let within : plane * row_len m.groups + group / 8 < length m.bytes = subst (λ (n : ℕ). plane * row_len m.groups + group / 8 < n) (sym size) (place_in m.groups m.planes group plane group_in plane_in) in
    let b_in : group % 8 < 8 = omega arith in
    let k_in : g % 8 < 8 = omega arith in
    let a_row : group / 8 < row_len m.groups = omega arith in
    let g_row : g / 8 < row_len m.groups = omega arith in
    let new = marked_inside (with_mark m group plane) g p g_in p_in in
    let old = marked_inside m g p g_in p_in in
    ⊎_elim
    (λ (t : ((g == group) && (p == plane)) ≡ true).
    let same = same_key g group p plane t in
    let g_same : g ≡ group = same.0 in
    let p_same : p ≡ plane = same.1 in
    let own : (bit_at (get_or (with_mark m group plane).bytes (p * row_len m.groups + g / 8) 0) (g % 8) == 1) ≡ true
    = subst (λ (h : ℕ). (bit_at (get_or (with_mark m group plane).bytes (p * row_len m.groups + h / 8) 0) (h % 8) == 1) ≡ true) (sym g_same)
    (subst (λ (q : ℕ). (bit_at (get_or (with_mark m group plane).bytes (q * row_len m.groups + group / 8) 0) (group % 8) == 1) ≡ true) (sym p_same)
    (own_bit m.bytes (plane * row_len m.groups + group / 8) (group % 8) within b_in)) in
    new ∙ (own ∙ sym (or_right (is_marked m g p) ((g == group) && (p == plane)) t)))
    (λ (f : ((g == group) && (p == plane)) ≡ false).
    let apart : (p * row_len m.groups + g / 8) ≡ (plane * row_len m.groups + group / 8) → (g % 8) ≡ (group % 8) → ⊥
    = λ (e : (p * row_len m.groups + g / 8) ≡ (plane * row_len m.groups + group / 8)) (k : (g % 8) ≡ (group % 8)).
    let p_same : p ≡ plane = same_place (row_len m.groups) p (g / 8) plane (group / 8) g_row a_row e in
    let rows : p * row_len m.groups ≡ plane * row_len m.groups = ap (λ n. n * row_len m.groups) p_same in
    let byte : g / 8 ≡ group / 8 = omega arith in
    let g_same : g ≡ group = omega arith in
    both_ways _ f (and_from _ _ (eq-eqb g group g_same) (eq-eqb p plane p_same)) in
    let bit = new_bit m.bytes (plane * row_len m.groups + group / 8) (p * row_len m.groups + g / 8) (g % 8) (group % 8) within b_in k_in apart in
    new ∙ (ap (λ n. n == 1) bit ∙ (sym old ∙ (sym (or_false (is_marked m g p)) ∙ ap (λ b. is_marked m g p || b) (sym f)))))
    (cases_Bool ((g == group) && (p == plane)))

not_it : (m : MarkSet) (group plane : ℕ) → group < m.groups → plane < m.planes → (g p : ℕ) → (nat_lt g m.groups && nat_lt p m.planes) ≡ false → ((g == group) && (p == plane)) ≡ false
not_it m group plane group_in plane_in g p outside = ⊎_elim
    (λ t.
    let same = same_key g group p plane t in
    let g_same : g ≡ group = same.0 in
    let p_same : p ≡ plane = same.1 in
    absurd (both_ways _ outside (and_from _ _ (lt-ltb g m.groups (omega arith)) (lt-ltb p m.planes (omega arith)))))
    (λ f. f)
    (cases_Bool ((g == group) && (p == plane)))

mark_outside : (m : MarkSet) (group plane : ℕ) → group < m.groups → plane < m.planes → (g p : ℕ) → (nat_lt g m.groups && nat_lt p m.planes) ≡ false
    → is_marked (with_mark m group plane) g p ≡ (is_marked m g p || ((g == group) && (p == plane)))
mark_outside m group plane group_in plane_in g p outside =
    unmarked_outside (with_mark m group plane) g p outside
    ∙ sym (ap (λ b. b || ((g == group) && (p == plane))) (unmarked_outside m g p outside) ∙ not_it m group plane group_in plane_in g p outside)

and_true : (b : Bool) → (b && true) ≡ b
and_true true = refl
and_true false = refl

and_false : (b : Bool) → (b && false) ≡ false
and_false true = refl
and_false false = refl

-- one key more
pub with_mark_at : (m : MarkSet) (group plane : ℕ) → group < m.groups → plane < m.planes → length m.bytes ≡ m.planes * row_len m.groups
    → (g p : ℕ) → is_marked (with_mark m group plane) g p ≡ (is_marked m g p || ((g == group) && (p == plane)))
with_mark_at m group plane group_in plane_in size g p = ⊎_elim
    (λ t. let parts = and_parts (nat_lt g m.groups) (nat_lt p m.planes) t in mark_inside m group plane group_in plane_in size g p (ltb-true g m.groups (parts.0)) (ltb-true p m.planes (parts.1)))
    (λ f. mark_outside m group plane group_in plane_in g p f)
    (cases_Bool (nat_lt g m.groups && nat_lt p m.planes))

unfold_marked : (m : MarkSet) (plane : ℕ) → marked m plane ≡ count_by (λ group. is_marked m group plane) (below m.groups)
unfolding marked
unfold_marked m plane = refl

pub marked_more : (m : MarkSet) (group plane : ℕ) → group < m.groups → plane < m.planes → length m.bytes ≡ m.planes * row_len m.groups → is_marked m group plane ≡ false
    → (p : ℕ) → marked (with_mark m group plane) p ≡ cond (p == plane) (marked m p + 1) (marked m p)
unfolding marked
marked_more m group plane group_in plane_in size absent p = ⊎_elim
    (λ (same : p ≡ plane).
    let gone : is_marked m group p ≡ false = ap (is_marked m group) same ∙ absent in
    let each : (k : ℕ) → is_marked (with_mark m group plane) k p ≡ (is_marked m k p || (k == group))
    = λ k. with_mark_at m group plane group_in plane_in size k p ∙ ap (λ b. is_marked m k p || b) (ap (λ b. (k == group) && b) (eq-eqb p plane same) ∙ and_true (k == group)) in
    count_one_more (λ g. is_marked m g p) (λ g. is_marked (with_mark m group plane) g p) group gone each m.groups
    ∙ (ap (λ b. cond b (marked m p + 1) (marked m p)) (lt-ltb group m.groups group_in)
    ∙ sym (ap (λ b. cond b (marked m p + 1) (marked m p)) (eq-eqb p plane same))))
    (λ (other : p ≡ plane → ⊥).
    let each : (k : ℕ) → is_marked (with_mark m group plane) k p ≡ is_marked m k p
    = λ k. with_mark_at m group plane group_in plane_in size k p ∙ (ap (λ b. is_marked m k p || ((k == group) && b)) (ne_eqb p plane other) ∙ (ap (λ b. is_marked m k p || b) (and_false (k == group)) ∙ or_false (is_marked m k p))) in
    count_same (λ g. is_marked m g p) (λ g. is_marked (with_mark m group plane) g p) each (below m.groups)
    ∙ sym (ap (λ b. cond b (marked m p + 1) (marked m p)) (ne_eqb p plane other)))
    (cases_eq p plane)

pub marked_most : (m : MarkSet) (plane : ℕ) → marked m plane ≤ m.groups
unfolding marked
marked_most m plane = omega (arith, count_by-le-length (λ g. is_marked m g plane) (below m.groups), length-below m.groups)

-- a plane with a key that is not in the set has room
pub marked_room : (m : MarkSet) (group plane : ℕ) → group < m.groups → plane < m.planes → length m.bytes ≡ m.planes * row_len m.groups → is_marked m group plane ≡ false → marked m plane < m.groups
marked_room m group plane group_in plane_in size absent =
    let more : marked (with_mark m group plane) plane ≡ marked m plane + 1 = marked_more m group plane group_in plane_in size absent plane ∙ ap (λ b. cond b (marked m plane + 1) (marked m plane)) (eq-eqb plane plane refl) in
    omega (arith, marked_most (with_mark m group plane) plane)

counted_more : (m : MarkSet) (counts : List ℕ) (group plane : ℕ) → group < m.groups → plane < m.planes → KeepsMarks m counts → is_marked m group plane ≡ false
    → (p : ℕ) → p < m.planes → get_or (set counts plane (get_or counts plane 0 + 1)) p 0 ≡ marked (with_mark m group plane) p
counted_more m counts group plane group_in plane_in kept absent p p_in = ⊎_elim
    (λ (same : p ≡ plane).
    let within : plane < length counts = subst (λ (n : ℕ). plane < n) (sym kept.one_each) plane_in in
    let new : get_or (set counts plane (get_or counts plane 0 + 1)) plane 0 ≡ get_or counts plane 0 + 1 = rw get_or-set_same refl in
    ap (λ q. get_or (set counts plane (get_or counts plane 0 + 1)) q 0) same
    ∙ (new
    ∙ (ap (λ n. n + 1) (kept.counted plane plane_in)
    ∙ (ap (λ q. marked m q + 1) (sym same)
    ∙ sym (marked_more m group plane group_in plane_in kept.size absent p ∙ ap (λ b. cond b (marked m p + 1) (marked m p)) (eq-eqb p plane same))))))
    (λ (other : p ≡ plane → ⊥).
    let ne : p ≢ plane = other in
    let new : get_or (set counts plane (get_or counts plane 0 + 1)) p 0 ≡ get_or counts p 0 = rw get_or-set_other refl in
    new ∙ (kept.counted p p_in ∙ sym (marked_more m group plane group_in plane_in kept.size absent p ∙ ap (λ b. cond b (marked m p + 1) (marked m p)) (ne_eqb p plane other))))
    (cases_eq p plane)

-- a key that the study has takes no bit past the groups
padded_more : (m : MarkSet) (group plane : ℕ) → group < m.groups → plane < m.planes → length m.bytes ≡ m.planes * row_len m.groups → IsPadded m → IsPadded (with_mark m group plane)
padded_more m group plane group_in plane_in size padded g p past row_in p_in =
    let within : plane * row_len m.groups + group / 8 < length m.bytes = subst (λ (n : ℕ). plane * row_len m.groups + group / 8 < n) (sym size) (place_in m.groups m.planes group plane group_in plane_in) in
    let b_in : group % 8 < 8 = omega arith in
    let k_in : g % 8 < 8 = omega arith in
    let a_row : group / 8 < row_len m.groups = omega arith in
    let apart : (p * row_len m.groups + g / 8) ≡ (plane * row_len m.groups + group / 8) → (g % 8) ≡ (group % 8) → ⊥
    = λ (e : (p * row_len m.groups + g / 8) ≡ (plane * row_len m.groups + group / 8)) (k : (g % 8) ≡ (group % 8)).
    let p_same : p ≡ plane = same_place (row_len m.groups) p (g / 8) plane (group / 8) row_in a_row e in
    let rows : p * row_len m.groups ≡ plane * row_len m.groups = ap (λ n. n * row_len m.groups) p_same in
    let byte : g / 8 ≡ group / 8 = omega arith in
    let g_same : g ≡ group = omega arith in
    absurd (omega arith) in
    new_bit m.bytes (plane * row_len m.groups + group / 8) (p * row_len m.groups + g / 8) (g % 8) (group % 8) within b_in k_in apart ∙ padded g p past row_in p_in

-- the set with a key more and the counts with it
pub keeps_more : (m : MarkSet) (counts : List ℕ) (group plane : ℕ) → group < m.groups → plane < m.planes → KeepsMarks m counts → is_marked m group plane ≡ false
    → KeepsMarks (with_mark m group plane) (set counts plane (get_or counts plane 0 + 1))
keeps_more m counts group plane group_in plane_in kept absent = record {
  size = length-set m.bytes (plane * row_len m.groups + group / 8) (bit_or (get_or m.bytes (plane * row_len m.groups + group / 8) 0) (1 * 2 ^ (group % 8) % 2 ^ 8)) ∙ kept.size;
  padded = padded_more m group plane group_in plane_in kept.size kept.padded;
  one_each = length-set counts plane (get_or counts plane 0 + 1) ∙ kept.one_each;
  counted = counted_more m counts group plane group_in plane_in kept absent;
}

-- a set of bytes that are 0 is empty
zero_bit : (n i k : ℕ) → bit_at (get_or (replicate n 0) i 0) k ≡ 0
zero_bit n i k = ap (λ b. bit_at b k) (get_or-zeros n i) ∙ bit_at-zero k

pub zeros_unmarked : (groups planes n group plane : ℕ) → is_marked (record { groups = groups; planes = planes; bytes = replicate n 0 }) group plane ≡ false
unfolding is_marked
zeros_unmarked groups planes n group plane =
    and_right (nat_lt group groups && nat_lt plane planes) _ (ap (λ b. b == 1) (zero_bit n (plane * row_len groups + group / 8) (group % 8)))

none_counted : (xs : List ℕ) → count_by (λ _. false) xs ≡ 0
none_counted [] = refl
none_counted (x ∷ xs) = omega (arith, none_counted xs)

pub zeros_count : (groups planes n plane : ℕ) → marked (record { groups = groups; planes = planes; bytes = replicate n 0 }) plane ≡ 0
unfolding marked
zeros_count groups planes n plane =
    let m : MarkSet = record { groups = groups; planes = planes; bytes = replicate n 0 } in
    count_same (λ _. false) (λ g. is_marked m g plane) (λ g. zeros_unmarked groups planes n g plane) (below groups) ∙ none_counted (below groups)

pub keeps_zeros : (groups planes : ℕ) → KeepsMarks (record { groups = groups; planes = planes; bytes = replicate (planes * row_len groups) 0 }) (replicate planes 0)
keeps_zeros groups planes = record {
  size = length-replicate {A = ℕ} (planes * row_len groups) 0;
  padded = λ group plane past row_in plane_in. zero_bit (planes * row_len groups) (plane * row_len groups + group / 8) (group % 8);
  one_each = length-replicate {A = ℕ} planes 0;
  counted = λ plane within. get_or-zeros planes plane ∙ sym (zeros_count groups planes (planes * row_len groups) plane);
}

pub length_made : (f : ℕ → ℕ) (n : ℕ) → length (map f (below n)) ≡ n
length_made f n = length-map (below n) f ∙ length-below n

pub made_at : (f : ℕ → ℕ) (n k : ℕ) → k < n → get_or (map f (below n)) k 0 ≡ f k
made_at f zero k h = absurd (omega arith)
made_at f (suc n) k h =
    let parts : map f (below (suc n)) ≡ map f (below n) ++ f n ∷ [] = map-append f (below n) (n ∷ []) in
    ⊎_elim
    (λ (lt : k < n).
    let here : k < length (map f (below n)) = omega (arith, length_made f n) in
    ap (λ l. get_or l k 0) parts ∙ (get_or-append (map f (below n)) (f n ∷ []) 0 k here ∙ made_at f n k lt))
    (λ (le : n ≤ k).
    let is : n ≡ k = omega arith in
    ap (λ l. get_or l k 0) parts ∙ (get_or_push (map f (below n)) (f n) 0 k (length_made f n ∙ is) ∙ ap f is))
    (cases_lt k n)

-- the counts beside the bits are those of the planes
pub counts_are : (m v : MarkSet) (counts : List ℕ) → m ≡ v → KeepsMarks m counts → counts ≡ plane_counts v
counts_are m v counts seen kept =
    ext_get_or 0 counts (map (marked m) (below m.planes)) (kept.one_each ∙ sym (length_made (marked m) m.planes))
    (λ plane within.
    let here : plane < m.planes = omega (arith, kept.one_each, within) in
    kept.counted plane here ∙ sym (made_at (marked m) m.planes plane here))
    ∙ ap plane_counts seen
