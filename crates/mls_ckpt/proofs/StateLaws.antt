-- The head, the counts, the marks and the pending keys are read again, and what is read is valid and spelled.
use Rattle.std.proofs.Common.{◌≡◌, ℕ, zero, suc, ◌+◌, ◌*◌, ◌-◌, ◌%◌, ◌^◌, ◌<◌, ◌≤◌, ◌==◌, ◌||◌, ◌&&◌, not, true, false, Bool, cond, List, [], ◌∷◌, ◌++◌, length, map, count_by, slice_index, nat_le, Ok, refl, sym, ap, subst, ◌∙◌, arith, length-append}
use Rattle.std.proofs.Common.{lit<, inl, inr, ◌⊎◌, IsTrue}
use Rattle.std.proofs.Math.Nat.{pow-le-pow_right, mul-le-mul}
use Rattle.std.proofs.lemmas.List.Sums.{count_by-le-length}
use Rattle.std.specs.List.{list_all}
use Rattle.std.specs.Int.{Width, w8, w16, w32, w64, byte_len}
use Rattle.mls_model.specs.declared.outcomes.Counts.{Counts}
use Rattle.mls_model.specs.Numbers.{below}
use Rattle.mls_model.specs.Studies.{Sizes, AreSizes, planes}
use Rattle.mls_model.specs.Blocks.{overlaps}
use Rattle.mls_model.specs.Completion.{Key}
use Rattle.mls_model.specs.Outcomes.{total_count}
use Rattle.mls_ckpt.specs.declared.faults.CkptWhy.{CkptWhy}
use Rattle.mls_ckpt.specs.declared.faults.CkptWhy.TheVariants as why
use Rattle.mls_ckpt.specs.Reading.{Cursor, Read, ◌>>=◌, test, rule, fixed_at, end_at, number_at, many, text, texts, AllFrom, AreBytes}
use Rattle.mls_ckpt.specs.States.{PendingShare, PendingKey, row_len, most_of_byte, is_set, marked, is_marked, marks_of_planes, overlapping, after_one, IsMarksRow, AreMarks, client_after, key_after, is_from, key_of, first_key, sample_count, IsPendingShare, IsPendingKey, ArePending}
use Rattle.mls_ckpt.specs.Spellings.{magic, is_read, head_numbers, sized_text, head_text, counts_list, counts_text, marks_text, share_text, key_text, pending_text}
use Rattle.mls_ckpt.specs.Checkpoints.{all_fixed, head_at, counts_from, room_after, counts_at, marks_row_at, marks_at, share_at, key_at, pending_at}
use Rattle.mls_ckpt.proofs.Numbers.{Taken, IsRead, same_ok, number_again, number_taken}
use Rattle.mls_ckpt.proofs.Steps.{both, passed, many_again, many_taken, all_from, row_again, row_taken}
use Rattle.mls_ckpt.proofs.Passing.{le_of, of_le, same_of, of_same, both_of, of_both}

-- counts

-- numbers that add up to so much are each at most what is left of it
abbrev total : List ℕ → ℕ
total [] = 0
total (n ∷ ns) = n + total ns

counts_fit : (ns : List ℕ) (room : ℕ) → room < 18446744073709551616 → total ns ≤ room → AllFrom (λ r n. IsRead w64 r n) room_after room ns
counts_fit [] room few within = tt
counts_fit (n ∷ ns) room few within = (record { fits = omega arith; few = omega arith }, counts_fit ns (room - n) (omega arith) (omega arith))

counts_within : (ns : List ℕ) (room : ℕ) → AllFrom (λ r n. IsRead w64 r n) room_after room ns → total ns ≤ room
counts_within [] room each = omega arith
counts_within (n ∷ ns) room each =
    let here = each.0.few in
    let rest = counts_within ns (room - n) each.1 in
    omega arith

eleven : (ns : List ℕ) → length ns ≡ 11 → counts_list (counts_from ns) ≡ ns
eleven [] h = absurd (omega arith)
eleven (a ∷ []) h = absurd (omega arith)
eleven (a ∷ b ∷ []) h = absurd (omega arith)
eleven (a ∷ b ∷ c ∷ []) h = absurd (omega arith)
eleven (a ∷ b ∷ c ∷ d ∷ []) h = absurd (omega arith)
eleven (a ∷ b ∷ c ∷ d ∷ e ∷ []) h = absurd (omega arith)
eleven (a ∷ b ∷ c ∷ d ∷ e ∷ f ∷ []) h = absurd (omega arith)
eleven (a ∷ b ∷ c ∷ d ∷ e ∷ f ∷ g ∷ []) h = absurd (omega arith)
eleven (a ∷ b ∷ c ∷ d ∷ e ∷ f ∷ g ∷ i ∷ []) h = absurd (omega arith)
eleven (a ∷ b ∷ c ∷ d ∷ e ∷ f ∷ g ∷ i ∷ j ∷ []) h = absurd (omega arith)
eleven (a ∷ b ∷ c ∷ d ∷ e ∷ f ∷ g ∷ i ∷ j ∷ k ∷ []) h = absurd (omega arith)
eleven (a ∷ b ∷ c ∷ d ∷ e ∷ f ∷ g ∷ i ∷ j ∷ k ∷ l ∷ []) h = refl
eleven (a ∷ b ∷ c ∷ d ∷ e ∷ f ∷ g ∷ i ∷ j ∷ k ∷ l ∷ m ∷ ns) h = absurd (omega arith)

total_is : (c : Counts) → total (counts_list c) ≡ total_count c
total_is c = omega arith

pub counts_again : (c : Counts) → total_count c ≤ 2 ^ 62 → (at : ℕ) (rest : List ℕ) → (place : ℕ) × (counts_at (record { at = at; left = counts_text c rest }) ≡ Ok (c, record { at = place; left = rest }))
unfolding counts_at counts_text
counts_again c few at rest =
    let all = row_again w64 (λ room. room) room_after (counts_list c) (2 ^ 62) (counts_fit (counts_list c) (2 ^ 62) (omega arith) (omega (arith, total_is c))) at rest in
    (all.0, ap (λ (r : Read (List ℕ × Cursor)). r >>= (λ (p : List ℕ × Cursor). Ok (counts_from p.0, p.1))) all.1)

pub counts_taken : (c : Cursor) (r : Counts × Cursor) → AreBytes c.left → counts_at c ≡ Ok r → Taken (total_count r.0 ≤ 2 ^ 62) (counts_text r.0) c r.1
unfolding counts_at counts_text
counts_taken c r bytes e =
    let all = both (many (λ room from. number_at w64 room from) room_after 11 (2 ^ 62) c) (λ p. Ok (counts_from p.0, p.1)) r e in
    let read = row_taken w64 (λ room. room) room_after 11 (2 ^ 62) c all.0 bytes all.1 in
    let same = eleven all.0.0 read.valid.0 in
    let within = counts_within all.0.0 (2 ^ 62) read.valid.1 in
    let sum : total (counts_list (counts_from all.0.0)) ≡ total all.0.0 = ap total same in
    subst (λ (q : Counts × Cursor). Taken (total_count q.0 ≤ 2 ^ 62) (counts_text q.0) c q.1) (same_ok _ r all.2)
    (record { valid = omega (arith, total_is (counts_from all.0.0)); stands = read.stands ∙ ap (λ ns. texts (text w64) ns all.0.1.left) (sym same); bytes = read.bytes })

-- marks

length-below : (n : ℕ) → length (below n) ≡ n
length-below zero = refl
length-below (suc n) = length-append (below n) (n ∷ []) ∙ omega (arith, length-below n)

count_few : (p : ℕ → Bool) (n : ℕ) → count_by p (below n) ≤ n
count_few p n = omega (arith, count_by-le-length p (below n), length-below n)

small_power : (k : ℕ) → k < 8 → 2 ^ k - 1 < 256
small_power k h =
    let top : 2 ^ k ≤ 2 ^ 8 = pow-le-pow_right {n = 2} (lit< tt) {i = k} {j = 8} (omega arith) in
    omega arith

most_in : (b : Bool) (k : ℕ) → k < 8 → cond b 255 (2 ^ k - 1) < 256
most_in true k h = omega arith
most_in false k h = small_power k h

pub most_fits : (groups i : ℕ) → most_of_byte groups i < 256
most_fits groups i = most_in (nat_le (8 * (i + 1)) groups) (groups % 8) (omega arith)

bits_fit : (groups : ℕ) (i byte : ℕ) → byte ≤ most_of_byte groups i → IsRead w8 (most_of_byte groups i) byte
bits_fit groups i byte few = let fits = most_fits groups i in record { fits = omega arith; few = few }

row_again_marks : (s : Sizes) (row : List ℕ) → IsMarksRow s.groups row → (at : ℕ) (rest : List ℕ) → (place : ℕ) × (marks_row_at s (record { at = at; left = texts (text w8) row rest }) ≡ Ok (row, record { at = place; left = rest }))
unfolding marks_row_at
row_again_marks s row valid at rest =
    let all = row_again w8 (most_of_byte s.groups) after_one row 0 (all_from (λ i byte. byte ≤ most_of_byte s.groups i) (λ i byte. IsRead w8 (most_of_byte s.groups i) byte) after_one (bits_fit s.groups) row 0 valid.bits) at rest in
    (all.0, rw (sym valid.size) all.1)

row_taken_marks : (s : Sizes) (c : Cursor) (r : List ℕ × Cursor) → AreBytes c.left → marks_row_at s c ≡ Ok r → Taken (IsMarksRow s.groups r.0) (texts (text w8) r.0) c r.1
unfolding marks_row_at
row_taken_marks s c r bytes e =
    let all = row_taken w8 (most_of_byte s.groups) after_one (row_len s.groups) 0 c r bytes e in
    record { valid = record { size = all.valid.0; bits = all_from (λ i byte. IsRead w8 (most_of_byte s.groups i) byte) (λ i byte. byte ≤ most_of_byte s.groups i) after_one (λ i byte is. is.few) r.0 0 all.valid.1 }; stands = all.stands; bytes = all.bytes }

pub marks_again : (s : Sizes) (marks : List (List ℕ)) → AreMarks s marks → (at : ℕ) (rest : List ℕ) → (place : ℕ) × (marks_at s (record { at = at; left = marks_text marks rest }) ≡ Ok (marks, record { at = place; left = rest }))
unfolding marks_at marks_text
marks_again s marks valid at rest =
    let all = many_again (texts (text w8)) (λ i row. IsMarksRow s.groups row) (λ i from. marks_row_at s from) after_one (λ i row is. row_again_marks s row is) marks 0 valid.rows at rest in
    (all.0, rw (sym valid.size) all.1)

pub marks_taken : (s : Sizes) (c : Cursor) (r : List (List ℕ) × Cursor) → AreBytes c.left → marks_at s c ≡ Ok r → Taken (AreMarks s r.0) (marks_text r.0) c r.1
unfolding marks_at marks_text
marks_taken s c r bytes e =
    let all = many_taken (texts (text w8)) (λ i row. IsMarksRow s.groups row) (λ i from. marks_row_at s from) after_one (λ i c r bytes e. row_taken_marks s c r bytes e) (planes s) 0 c r bytes e in
    record { valid = record { size = all.valid.0; rows = all.valid.1 }; stands = all.stands; bytes = all.bytes }

-- no plane has more marks than groups
pub marks_few : (s : Sizes) (marks : List (List ℕ)) (i : ℕ) → slice_index (marks_of_planes s marks) i ≤ s.groups
unfolding marked
marks_few s [] i = omega arith
marks_few s (row ∷ marks) zero = count_few (is_set row) s.groups
marks_few s (row ∷ marks) (suc i) = marks_few s marks i

-- the head

abbrev AllFit : List (Width × ℕ) → Type 0
AllFit [] = Unit {0}
AllFit (number ∷ numbers) = (number.1 < 256 ^ byte_len number.0) × AllFit numbers

fit_append : (xs ys : List (Width × ℕ)) → AllFit xs → AllFit ys → AllFit (xs ++ ys)
fit_append [] ys fit_x fit_y = fit_y
fit_append (x ∷ xs) ys fit_x fit_y = (fit_x.0, fit_append xs ys fit_x.1 fit_y)

fixed_again : (why : CkptWhy) (w : Width) (n at : ℕ) (rest : List ℕ) → n < 256 ^ byte_len w → fixed_at why w n (record { at = at; left = text w n rest }) ≡ Ok (record { at = at + byte_len w; left = rest })
unfolding fixed_at
fixed_again why w n at rest fits =
    let read = number_again w (256 ^ byte_len w - 1) n at rest fits (omega arith) in
    let same = of_same n n refl in
    rw (read, same) refl

fixed_taken : (why : CkptWhy) (w : Width) (n : ℕ) (c r : Cursor) → AreBytes c.left → fixed_at why w n c ≡ Ok r → Taken (Unit {0}) (text w n) c r
unfolding fixed_at
fixed_taken why w n c r bytes e =
    let a = both (number_at w (256 ^ byte_len w - 1) c) _ r e in
    let read = number_taken w (256 ^ byte_len w - 1) c a.0 bytes a.1 in
    let t = both (test (a.0.0 == n) c.at why) _ r a.2 in
    let same = same_of a.0.0 n (passed _ _ _ t.0 t.1) in
    subst (λ (q : Cursor). Taken (Unit {0}) (text w n) c q) (same_ok a.0.1 r t.2)
    (record { valid = tt; stands = read.stands ∙ ap (λ m. text w m a.0.1.left) same; bytes = read.bytes })

fixed_all_again : (numbers : List (Width × ℕ)) → AllFit numbers → (at : ℕ) (rest : List ℕ) → (place : ℕ) × (all_fixed numbers (record { at = at; left = texts sized_text numbers rest }) ≡ Ok (record { at = place; left = rest }))
fixed_all_again [] fit at rest = (at, refl)
fixed_all_again (number ∷ numbers) fit at rest =
    let first = fixed_again why.Shape number.0 number.1 at (texts sized_text numbers rest) fit.0 in
    let others = fixed_all_again numbers fit.1 (at + byte_len number.0) rest in
    (others.0, rw first others.1)

fixed_all_taken : (numbers : List (Width × ℕ)) (c r : Cursor) → AreBytes c.left → all_fixed numbers c ≡ Ok r → Taken (Unit {0}) (texts sized_text numbers) c r
fixed_all_taken [] c r bytes e = subst (λ (q : Cursor). Taken (Unit {0}) (λ rest. rest) c q) (same_ok c r e) (record { valid = tt; stands = refl; bytes = bytes })
fixed_all_taken (number ∷ numbers) c r bytes e =
    let a = both (fixed_at why.Shape number.0 number.1 c) (all_fixed numbers) r e in
    let first = fixed_taken why.Shape number.0 number.1 c a.0 bytes a.1 in
    let others = fixed_all_taken numbers a.0 r first.bytes a.2 in
    record { valid = tt; stands = first.stands ∙ ap (text number.0 number.1) others.stands; bytes = others.bytes }

thresholds_fit : (ts : List ℕ) → IsTrue (list_all (λ t. nat_le t 65535) ts) → AllFit (map (λ t. (w16, t)) ts)
thresholds_fit [] h = tt
thresholds_fit (t ∷ ts) h =
    let parts = both_of (nat_le t 65535) (list_all (λ t. nat_le t 65535) ts) h in
    let here = le_of t 65535 parts.0 in
    (omega arith, thresholds_fit ts parts.1)

samples_fit : (none signed : Bool) → AllFit (cond none [] ((w8, cond signed 1 0) ∷ []))
samples_fit true signed = tt
samples_fit false true = (omega arith, tt)
samples_fit false false = (omega arith, tt)

fields_fit : (some : Bool) (fields : ℕ) → fields ≤ 4 → AllFit (cond some ((w32, fields) ∷ []) [])
fields_fit true fields few = (omega arith, tt)
fields_fit false fields few = tt

head_fits : (version : ℕ) (s : Sizes) (rank : ℕ) → AreSizes s → rank < s.ranks → AllFit (head_numbers version s rank)
unfolding head_numbers
head_fits version s rank sizes within =
    let cells : s.cells ≤ 1048576 = sizes.cells in
    let steps : s.steps ≤ 4096 = sizes.steps in
    let groups : s.groups ≤ 65535 = sizes.groups in
    let parameters : s.parameters ≤ 16 = sizes.parameters in
    let ranks : s.ranks ≤ 64 = sizes.ranks in
    let clients : s.clients ≤ 64 = sizes.clients in
    let thresholds : length s.thresholds ≤ 8 = sizes.thresholds in
    fit_append _ _ (samples_fit (version == 1) s.signed) (
      omega arith,
      (
        omega arith,
        fit_append _ _ (fields_fit (version == 3) s.fields sizes.fields)
            (omega arith, (omega arith, (omega arith, (omega arith, (omega arith, (omega arith, thresholds_fit s.thresholds sizes.thresholds_fit)))))),
      ),
    )

either_of : (a b : Bool) → (a || b) ≡ true → (a ≡ true) ⊎ (b ≡ true)
either_of true b h = inl refl
either_of false b h = inr h

version_small : (v : ℕ) (f g : Bool) → ((v == 3) || ((v == 2) && f) || ((v == 1) && f && g)) ≡ true → v ≤ 3
version_small v f g h =
    elim (either_of ((v == 3) || ((v == 2) && f)) ((v == 1) && f && g) h) [
      | inl first ↦ elim (either_of (v == 3) ((v == 2) && f) first) [
        | inl three ↦ (let is = same_of v 3 three in omega arith)
        | inr two ↦ (let is = same_of v 2 (both_of (v == 2) f two).0 in omega arith)
      ]
      | inr one ↦ (let is = same_of v 1 (both_of (v == 1) f (both_of ((v == 1) && f) g one).0).0 in omega arith)
    ]

pub head_again : (s : Sizes) (rank version : ℕ) → AreSizes s → rank < s.ranks → is_read s version ≡ true → (at : ℕ) (rest : List ℕ) → (place : ℕ) × (head_at s rank (record { at = at; left = head_text version s rank rest }) ≡ Ok (version, record { at = place; left = rest }))
unfolding head_at head_text
head_again s rank version sizes within known at rest =
    let numbers = texts sized_text (head_numbers version s rank) rest in
    let small = version_small version (s.fields == 1) (not s.signed) known in
    let e1 = fixed_again why.Magic w32 magic at (text w16 version numbers) (omega arith) in
    let e2 = number_again w16 65535 version (at + 4) numbers (omega arith) (omega arith) in
    let e3 = fixed_all_again (head_numbers version s rank) (head_fits version s rank sizes within) (at + 4 + 2) rest in
    (e3.0, rw (e1, e2, known, e3.1) refl)

pub record HeadIs (s : Sizes) (version : ℕ) : Type 0 where
  pub known : is_read s version ≡ true

pub head_taken : (s : Sizes) (rank : ℕ) (c : Cursor) (r : ℕ × Cursor) → AreBytes c.left → head_at s rank c ≡ Ok r → Taken (HeadIs s r.0) (head_text r.0 s rank) c r.1
unfolding head_at head_text
head_taken s rank c r bytes e =
    let m = both (fixed_at why.Magic w32 magic c) _ r e in
    let begun = fixed_taken why.Magic w32 magic c m.0 bytes m.1 in
    let v = both (number_at w16 65535 m.0) _ r m.2 in
    let version = number_taken w16 65535 m.0 v.0 begun.bytes v.1 in
    let t = both (test (is_read s v.0.0) m.0.at why.Version) _ r v.2 in
    let f = both (all_fixed (head_numbers v.0.0 s rank) v.0.1) _ r t.2 in
    let shaped = fixed_all_taken (head_numbers v.0.0 s rank) v.0.1 f.0 version.bytes f.1 in
    subst (λ (q : ℕ × Cursor). Taken (HeadIs s q.0) (head_text q.0 s rank) c q.1) (same_ok _ r f.2)
    (record { valid = record { known = passed _ _ _ t.0 t.1 }; stands = begun.stands ∙ ap (text w32 magic) (version.stands ∙ ap (text w16 v.0.0) shaped.stands); bytes = shaped.bytes })

-- pending keys

planes_few : (s : Sizes) → AreSizes s → planes s ≤ 16384
planes_few s sizes =
    let top : s.steps * s.fields ≤ 4096 * 4 = mul-le-mul sizes.steps sizes.fields in
    omega arith

overlapping_few : (s : Sizes) (rank : ℕ) → overlapping s rank ≤ s.clients
unfolding overlapping
overlapping_few s rank = count_few (overlaps s rank) s.clients

share_again : (s : Sizes) (rank least : ℕ) (share : PendingShare) → AreSizes s → IsPendingShare s rank least share → (at : ℕ) (rest : List ℕ) → (place : ℕ) × (share_at s rank least (record { at = at; left = share_text share rest }) ≡ Ok (share, record { at = place; left = rest }))
unfolding share_at share_text
share_again s rank least share sizes valid at rest =
    let clients : s.clients ≤ 64 = sizes.clients in
    let within : share.client < s.clients = valid.client in
    let few : share.client ≤ s.clients - 1 = omega arith in
    let e1 = number_again w16 (s.clients - 1) share.client at (texts (text w16) share.samples rest) (omega arith) few in
    let next = of_both (nat_le least share.client) (overlaps s rank share.client) (of_le least share.client valid.rises) valid.overlaps in
    let e2 = row_again w16 (λ (i : ℕ). 65535) after_one share.samples 0 (all_from (λ i x. x ≤ 65535) (λ i x. IsRead w16 65535 x) after_one (λ i x few. record { fits = omega arith; few = few }) share.samples 0 valid.samples) (at + 2) rest in
    (e2.0, rw (e1, next, sym valid.size, e2.1) refl)

share_taken : (s : Sizes) (rank least : ℕ) (c : Cursor) (r : PendingShare × Cursor) → AreSizes s → AreBytes c.left → share_at s rank least c ≡ Ok r → Taken (IsPendingShare s rank least r.0) (share_text r.0) c r.1
unfolding share_at share_text
share_taken s rank least c r sizes bytes e =
    let some : 1 ≤ s.clients = sizes.some_clients in
    let a = both (number_at w16 (s.clients - 1) c) _ r e in
    let client = number_taken w16 (s.clients - 1) c a.0 bytes a.1 in
    let few : a.0.0 ≤ s.clients - 1 = client.valid.few in
    let t = both (rule (nat_le least a.0.0 && overlaps s rank a.0.0) c.at) _ r a.2 in
    let next = both_of (nat_le least a.0.0) (overlaps s rank a.0.0) (passed _ _ _ t.0 t.1) in
    let m = both (many (λ i from. number_at w16 65535 from) after_one (sample_count s rank a.0.0) 0 a.0.1) _ r t.2 in
    let samples = row_taken w16 (λ (i : ℕ). 65535) after_one (sample_count s rank a.0.0) 0 a.0.1 m.0 client.bytes m.1 in
    subst (λ (q : PendingShare × Cursor). Taken (IsPendingShare s rank least q.0) (share_text q.0) c q.1) (same_ok _ r m.2)
    (record {
      valid = record { rises = le_of _ _ next.0; client = omega arith; overlaps = next.1; size = samples.valid.0; samples = all_from (λ i x. IsRead w16 65535 x) (λ i x. x ≤ 65535) after_one (λ i x is. is.few) m.0.0 0 samples.valid.1 };
      stands = client.stands ∙ ap (text w16 a.0.0) samples.stands;
      bytes = samples.bytes;
    })

not_of : (b : Bool) → not b ≡ true → b ≡ false
not_of true h = absurd (let clash : ⊥ = cc in clash)
not_of false h = refl

key_again : (s : Sizes) (rank : ℕ) (marks : List (List ℕ)) (least : Key) (key : PendingKey) → AreSizes s → IsPendingKey s rank marks least key → (at : ℕ) (rest : List ℕ) → (place : ℕ) × (key_at s rank marks least (record { at = at; left = key_text key rest }) ≡ Ok (key, record { at = place; left = rest }))
unfolding key_at key_text
key_again s rank marks least key sizes valid at rest =
    let groups : s.groups ≤ 65535 = sizes.groups in
    let clients : s.clients ≤ 64 = sizes.clients in
    let all_planes = planes_few s sizes in
    let some_clients = overlapping_few s rank in
    let group : key.group < s.groups = valid.group in
    let plane : key.plane < planes s = valid.plane in
    let life : key.life < 4294967296 = valid.life in
    let fewer : length key.shares < overlapping s rank = valid.fewer in
    let shares = texts share_text key.shares rest in
    let below_life = text w16 (length key.shares) shares in
    let below_plane = text w32 key.life below_life in
    let below_group = text w32 key.plane below_plane in
    let e1 = number_again w32 (s.groups - 1) key.group at below_group (omega arith) (omega arith) in
    let e2 = number_again w32 (planes s - 1) key.plane (at + 4) below_plane (omega arith) (omega arith) in
    let waits = of_both (is_from least (key_of key)) (not (is_marked marks (key_of key))) valid.rises (ap not valid.unmarked) in
    let e3 = number_again w32 4294967295 key.life (at + 4 + 4) below_life (omega arith) (omega arith) in
    let e4 = number_again w16 (overlapping s rank - 1) (length key.shares) (at + 4 + 4 + 4) shares (omega arith) (omega arith) in
    let some = of_le 1 (length key.shares) valid.some in
    let e5 = many_again share_text (IsPendingShare s rank) (share_at s rank) client_after (λ least share is. share_again s rank least share sizes is) key.shares 0 valid.shares (at + 4 + 4 + 4 + 2) rest in
    (e5.0, rw (e1, e2, waits, e3, e4, some, e5.1) refl)

key_taken : (s : Sizes) (rank : ℕ) (marks : List (List ℕ)) (least : Key) (c : Cursor) (r : PendingKey × Cursor) → AreSizes s → AreBytes c.left → key_at s rank marks least c ≡ Ok r → Taken (IsPendingKey s rank marks least r.0) (key_text r.0) c r.1
unfolding key_at key_text
key_taken s rank marks least c r sizes bytes e =
    let some_groups : 1 ≤ s.groups = sizes.some_groups in
    let some_planes : 1 * 1 ≤ s.steps * s.fields = mul-le-mul sizes.some_steps sizes.some_fields in
    let g = both (number_at w32 (s.groups - 1) c) _ r e in
    let group = number_taken w32 (s.groups - 1) c g.0 bytes g.1 in
    let group_few : g.0.0 ≤ s.groups - 1 = group.valid.few in
    let p = both (number_at w32 (planes s - 1) g.0.1) _ r g.2 in
    let plane = number_taken w32 (planes s - 1) g.0.1 p.0 group.bytes p.1 in
    let plane_few : p.0.0 ≤ planes s - 1 = plane.valid.few in
    let here : Key = record { group = g.0.0; plane = p.0.0 } in
    let t1 = both (rule (is_from least here && not (is_marked marks here)) g.0.1.at) _ r p.2 in
    let waits = both_of (is_from least here) (not (is_marked marks here)) (passed _ _ _ t1.0 t1.1) in
    let l = both (number_at w32 4294967295 p.0.1) _ r t1.2 in
    let life = number_taken w32 4294967295 p.0.1 l.0 plane.bytes l.1 in
    let life_few : l.0.0 ≤ 4294967295 = life.valid.few in
    let n = both (number_at w16 (overlapping s rank - 1) l.0.1) _ r l.2 in
    let count = number_taken w16 (overlapping s rank - 1) l.0.1 n.0 life.bytes n.1 in
    let count_few : n.0.0 ≤ overlapping s rank - 1 = count.valid.few in
    let t2 = both (rule (nat_le 1 n.0.0) l.0.1.at) _ r n.2 in
    let some : 1 ≤ n.0.0 = le_of _ _ (passed _ _ _ t2.0 t2.1) in
    let m = both (many (share_at s rank) client_after n.0.0 0 n.0.1) _ r t2.2 in
    let shares = many_taken share_text (IsPendingShare s rank) (share_at s rank) client_after (λ least c r bytes e. share_taken s rank least c r sizes bytes e) n.0.0 0 n.0.1 m.0 count.bytes m.1 in
    let size : length m.0.0 ≡ n.0.0 = shares.valid.0 in
    subst (λ (q : PendingKey × Cursor). Taken (IsPendingKey s rank marks least q.0) (key_text q.0) c q.1) (same_ok _ r m.2)
    (record {
      valid = record { group = omega arith; plane = omega arith; rises = waits.0; unmarked = not_of _ waits.1; life = omega arith; some = omega arith; fewer = omega arith; shares = shares.valid.1 };
      stands = group.stands ∙ ap (text w32 g.0.0) (plane.stands ∙ ap (text w32 p.0.0) (life.stands ∙ ap (text w32 l.0.0) (count.stands ∙ ap (text w16 n.0.0) (shares.stands) ∙ ap (λ k. text w16 k (texts share_text m.0.0 m.0.1.left)) (sym size))));
      bytes = shares.bytes;
    })

pub pending_again : (s : Sizes) (rank : ℕ) (marks : List (List ℕ)) (pending : List PendingKey) → AreSizes s → ArePending s rank marks pending → (at : ℕ) (rest : List ℕ) → (place : ℕ) × (pending_at s rank marks (record { at = at; left = pending_text pending rest }) ≡ Ok (pending, record { at = place; left = rest }))
unfolding pending_at pending_text
pending_again s rank marks pending sizes valid at rest =
    let few : length pending < 4294967296 = valid.few in
    let e1 = number_again w32 4294967295 (length pending) at (texts key_text pending rest) (omega arith) (omega arith) in
    let e2 = many_again key_text (IsPendingKey s rank marks) (key_at s rank marks) key_after (λ least key is. key_again s rank marks least key sizes is) pending first_key valid.keys (at + 4) rest in
    (e2.0, rw (e1, e2.1) refl)

pub pending_taken : (s : Sizes) (rank : ℕ) (marks : List (List ℕ)) (c : Cursor) (r : List PendingKey × Cursor) → AreSizes s → AreBytes c.left → pending_at s rank marks c ≡ Ok r → Taken (ArePending s rank marks r.0) (pending_text r.0) c r.1
unfolding pending_at pending_text
pending_taken s rank marks c r sizes bytes e =
    let n = both (number_at w32 4294967295 c) _ r e in
    let count = number_taken w32 4294967295 c n.0 bytes n.1 in
    let count_few : n.0.0 ≤ 4294967295 = count.valid.few in
    let keys = many_taken key_text (IsPendingKey s rank marks) (key_at s rank marks) key_after (λ least c r bytes e. key_taken s rank marks least c r sizes bytes e) n.0.0 first_key n.0.1 r count.bytes n.2 in
    let size : length r.0 ≡ n.0.0 = keys.valid.0 in
    record {
      valid = record { few = omega arith; keys = keys.valid.1 };
      stands = count.stands ∙ ap (text w32 n.0.0) keys.stands ∙ ap (λ k. text w32 k (texts key_text r.0 r.1.left)) (sym size);
      bytes = keys.bytes;
    }

-- the end

pub end_taken : (c : Cursor) (u : Unit {0}) → end_at c ≡ Ok u → c.left ≡ []
unfolding end_at
end_taken c u e = at_end c.at c.left e
  where
    at_end : (at : ℕ) (left : List ℕ) → end_at (record { at = at; left = left }) ≡ Ok u → left ≡ []
    at_end at [] e = refl
    at_end at (b ∷ rest) e = absurd (let clash : ⊥ = cc in clash)
