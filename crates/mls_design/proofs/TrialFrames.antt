-- How many frames are written of planned ones, and how many bytes they have.
use Rattle.std.proofs.Common.{◌≡◌, ℕ, zero, suc, ◌+◌, ◌-◌, ◌*◌, ◌/◌, ◌≤◌, Bool, true, false, cond, List, [], ◌∷◌, ◌++◌, length, map, replicate, refl, sym, ◌∙◌, ap, subst, inl, inr, arith, add-one, length-append}
use Rattle.std.specs.Prelude.{sum_by}
use Rattle.std.specs.List.{flat_map, AllByRecursion}
use Rattle.std.proofs.lemmas.Bool.{cases_Bool}
use Rattle.std.proofs.lemmas.List.{append-nil, map_push, map-append, length-replicate}
use Rattle.std.proofs.lemmas.List.Sums.{sum_by-append, sum_by-cons, count_by-le-length}
use Rattle.std.proofs.lemmas.Grind.{flat_map-append}
use Rattle.mls_model.specs.Numbers.{below, joined}
use Rattle.mls_model.specs.Places.{gathered}
use Rattle.mls_model.specs.Studies.{Study, planes}
use Rattle.mls_model.specs.Blocks.{overlap, width}
use Rattle.mls_model.specs.Frames.{Frame, piece, beat, spelling, body}
use Rattle.mls_model.specs.Designs.{word, solved_piece}
use Rattle.mls_laws.proofs.Places.{gathered_append}
use Rattle.mls_frame.proofs.Again.{spelling-length}
use Rattle.mls_frame.proofs.Pieces.{piece_body-length}
use Rattle.mls_design.specs.declared.trial.route.Route.{Route}
use Rattle.mls_design.specs.Trial.{is_restarted, life_pieces, life_frames, group_frames, planned, is_piece, piece_count, copies, written, sent, resent_frames, frame_bytes}
use Rattle.mls_design.specs.TrialSizes.{copies_from, beats_by, pieces_by, piece_bytes}
use Rattle.mls_design.proofs.Counting.{flat_map-below_more}
use Rattle.mls_design.proofs.Pieces.{length-rows}

-- ---- counts

pub pieces-append : (xs ys : List Frame) → piece_count (xs ++ ys) ≡ piece_count xs + piece_count ys
pieces-append xs ys = sum_by-append (λ f. cond (is_piece f) 1 0) xs ys

pub pieces-cons : (x : Frame) (xs : List Frame) → piece_count (x ∷ xs) ≡ cond (is_piece x) 1 0 + piece_count xs
pieces-cons x xs = sum_by-cons (λ f. cond (is_piece f) 1 0) x xs

-- ---- what is written, from a later word on

-- what each planned frame gives where the first piece takes word n
abbrev give : ℕ → ℕ → List Frame → Frame → List Frame
give number n before frame = written number (n + piece_count before) frame

sent_is : (number n : ℕ) (xs : List Frame) → sent number n xs ≡ gathered (give number n) [] xs
unfolding sent
sent_is number n xs = refl

pub sent_none : (number n : ℕ) → sent number n [] ≡ []
unfolding sent gathered
sent_none number n = refl

sent_from : (number n : ℕ) (before xs : List Frame) → gathered (give number n) before xs ≡ gathered (give number (n + piece_count before)) [] xs
unfolding gathered
sent_from number n before [] = refl
sent_from number n before (x ∷ xs) =
    let m : ℕ = n + piece_count before in
    let one : n + piece_count (before ++ x ∷ []) ≡ m + piece_count (x ∷ []) = omega (arith, pieces-append before (x ∷ [])) in
    let head : m ≡ m + 0 = omega arith in
    ap (λ r. written number m x ++ r) (sent_from number n (before ++ x ∷ []) xs ∙ ap (λ k. gathered (give number k) [] xs) one ∙ sym (sent_from number m (x ∷ []) xs))
    ∙ ap (λ k. written number k x ++ gathered (give number m) (x ∷ []) xs) head

pub sent_append : (number n : ℕ) (xs ys : List Frame) → sent number n (xs ++ ys) ≡ sent number n xs ++ sent number (n + piece_count xs) ys
sent_append number n xs ys =
    sent_is number n (xs ++ ys) ∙ gathered_append (give number n) [] xs ys
    ∙ ap (λ r. r ++ gathered (give number n) xs ys) (sym (sent_is number n xs))
    ∙ ap (λ r. sent number n xs ++ r) (sent_from number n xs ys ∙ sym (sent_is number (n + piece_count xs) ys))

pub sent_one : (number n : ℕ) (x : Frame) → sent number n (x ∷ []) ≡ written number n x
unfolding sent gathered
sent_one number n x = append-nil (written number (n + 0) x) ∙ ap (λ k. written number k x) (let same : n + 0 ≡ n = omega arith in same)

-- ---- how often pieces are written

pub copies_more : (number n k : ℕ) → copies_from number n (k + 1) ≡ copies_from number n k + copies (word number (n + k))
unfolding copies_from
copies_more number n k = ap (copies_from number n) (add-one k)

pub copies_none : (number n : ℕ) → copies_from number n 0 ≡ 0
unfolding copies_from
copies_none number n = refl

pub copies_first : (number n k : ℕ) → copies_from number n (1 + k) ≡ copies (word number n) + copies_from number (n + 1) k
copies_first number n zero =
    let same : n + 0 ≡ n = omega arith in
    ap (copies_from number n) (let e : 1 + 0 ≡ 0 + 1 = omega arith in e) ∙ copies_more number n 0
    ∙ omega (arith, copies_none number n, copies_none number (n + 1), ap (λ m. copies (word number m)) same)
copies_first number n (suc k) =
    let up : 1 + suc k ≡ (1 + k) + 1 = omega arith in
    let next : suc k ≡ k + 1 = omega arith in
    let place : n + (1 + k) ≡ (n + 1) + k = omega arith in
    ap (copies_from number n) up ∙ copies_more number n (1 + k)
    ∙ omega (arith, copies_first number n k, ap (copies_from number (n + 1)) next, copies_more number (n + 1) k, ap (λ m. copies (word number m)) place)

-- ---- bytes

pub bytes-append : (xs ys : List Frame) → frame_bytes (xs ++ ys) ≡ frame_bytes xs ++ frame_bytes ys
bytes-append xs ys = ap joined (map-append spelling xs ys) ∙ flat_map-append (λ (p : List ℕ). p) (map spelling xs) (map spelling ys)

bytes-length-append : (xs ys : List Frame) → length (frame_bytes (xs ++ ys)) ≡ length (frame_bytes xs) + length (frame_bytes ys)
bytes-length-append xs ys = ap length (bytes-append xs ys) ∙ length-append (frame_bytes xs) (frame_bytes ys)

bytes-one : (x : Frame) → length (frame_bytes (x ∷ [])) ≡ length (spelling x)
bytes-one x = ap length (append-nil (spelling x))

bytes-repeated : (k : ℕ) (x : Frame) → length (frame_bytes (replicate k x)) ≡ k * length (spelling x)
bytes-repeated zero x = omega arith
bytes-repeated (suc k) x = omega (arith, length-append (spelling x) (frame_bytes (replicate k x)), bytes-repeated k x)

-- ---- lists of beats and of pieces of one size

-- the spelling of a frame is that of a beat or of a piece of this size
abbrev pub Takes : ℕ → Frame → Type 0
Takes s f = length (spelling f) ≡ cond (is_piece f) s 13

-- so many pieces of this size, and so many beats
pub record AreSized (s : ℕ) (fs : List Frame) (beats pieces : ℕ) : Type 0 where
  pub each : AllByRecursion (Takes s) fs
  pub long : length fs ≡ beats + pieces
  pub count : piece_count fs ≡ pieces

all-append : (s : ℕ) (xs ys : List Frame) → AllByRecursion (Takes s) xs → AllByRecursion (Takes s) ys → AllByRecursion (Takes s) (xs ++ ys)
all-append s [] ys p q = q
all-append s (x ∷ xs) ys p q = (p.0, all-append s xs ys p.1 q)

pub sized_none : (s : ℕ) → AreSized s [] 0 0
sized_none s = record { each = tt; long = omega arith; count = refl }

pub sized_append : (s : ℕ) (xs ys : List Frame) (b c p q : ℕ) → AreSized s xs b p → AreSized s ys c q → AreSized s (xs ++ ys) (b + c) (p + q)
sized_append s xs ys b c p q x y = record {
  each = all-append s xs ys x.each y.each;
  long = omega (arith, length-append xs ys, x.long, y.long);
  count = omega (arith, pieces-append xs ys, x.count, y.count);
}

sized_beat : (s group life : ℕ) → AreSized s (beat group life ∷ []) 1 0
unfolding body
sized_beat s group life = record { each = (omega (arith, spelling-length (beat group life)), tt); long = omega arith; count = refl }

sized_pieces : (s : ℕ) (f : ℕ → Frame) → ((i : ℕ) → is_piece (f i) ≡ true) → ((i : ℕ) → length (spelling (f i)) ≡ s) → (n : ℕ) → AreSized s (map f (below n)) 0 n
sized_pieces s f is long zero = sized_none s
sized_pieces s f is long (suc n) =
    let one : AreSized s (f n ∷ []) 0 1 = record {
      each = (long n ∙ ap (λ b. cond b s 13) (sym (is n)), tt);
      long = omega arith;
      count = pieces-cons (f n) [] ∙ ap (λ b. cond b 1 0 + 0) (is n);
    } in
    let both : AreSized s (map f (below n) ++ f n ∷ []) 0 (n + 1) = sized_append s (map f (below n)) (f n ∷ []) 0 0 n 1 (sized_pieces s f is long n) one in
    subst (λ xs. AreSized s xs 0 (suc n)) (sym (map_push f (below n) n)) (subst (λ m. AreSized s (map f (below n) ++ f n ∷ []) 0 m) (add-one n) both)

-- the sum of what f gives of the numbers below one
pub sum-below_more : (f : ℕ → ℕ) (n : ℕ) → sum_by f (below (n + 1)) ≡ sum_by f (below n) + f n
sum-below_more f n = ap (λ m. sum_by f (below m)) (add-one n) ∙ sum_by-append f (below n) (n ∷ []) ∙ omega arith

pub sized_below : (s : ℕ) (f : ℕ → List Frame) (b p : ℕ → ℕ) → ((i : ℕ) → AreSized s (f i) (b i) (p i)) → (n : ℕ) → AreSized s (flat_map f (below n)) (sum_by b (below n)) (sum_by p (below n))
sized_below s f b p each zero = sized_none s
sized_below s f b p each (suc n) =
    let both = sized_append s (flat_map f (below n)) (f n) (sum_by b (below n)) (b n) (sum_by p (below n)) (p n) (sized_below s f b p each n) (each n) in
    let list : flat_map f (below n) ++ f n ≡ flat_map f (below (suc n)) = sym (flat_map-below_more f n) ∙ ap (λ m. flat_map f (below m)) (add-one n) in
    let beats : sum_by b (below n) + b n ≡ sum_by b (below (suc n)) = sym (sum-below_more b n) ∙ ap (λ m. sum_by b (below m)) (add-one n) in
    let pieces : sum_by p (below n) + p n ≡ sum_by p (below (suc n)) = sym (sum-below_more p n) ∙ ap (λ m. sum_by p (below m)) (add-one n) in
    subst (λ m. AreSized s (flat_map f (below (suc n))) (sum_by b (below (suc n))) m) pieces
    (subst (λ m. AreSized s (flat_map f (below (suc n))) m (sum_by p (below n) + p n)) beats
    (subst (λ xs. AreSized s xs (sum_by b (below n) + b n) (sum_by p (below n) + p n)) list both))

sum-same : (c n : ℕ) → sum_by (λ (i : ℕ). c) (below n) ≡ n * c
sum-same c zero = omega arith
sum-same c (suc n) = ap (λ m. sum_by (λ (i : ℕ). c) (below m)) (sym (add-one n)) ∙ sum-below_more (λ i. c) n ∙ omega (arith, sum-same c n)

sized_same : (s : ℕ) (f : ℕ → List Frame) (b p : ℕ) → ((i : ℕ) → AreSized s (f i) b p) → (n : ℕ) → AreSized s (flat_map f (below n)) (n * b) (n * p)
sized_same s f b p each n =
    subst (λ m. AreSized s (flat_map f (below n)) (n * b) m) (sum-same p n)
    (subst (λ m. AreSized s (flat_map f (below n)) m (sum_by (λ (i : ℕ). p) (below n))) (sum-same b n)
    (sized_below s f (λ i. b) (λ i. p) each n))

-- ---- what is sent on a route

solved-length : (study : Study) (r : Route) (group life step field : ℕ) → length (spelling (piece (solved_piece study group life step field r.rank r.client))) ≡ piece_bytes study r
unfolding solved_piece
solved-length study r group life step field =
    let cells = overlap study.sizes r.rank r.client in
    omega (arith, spelling-length (piece (solved_piece study group life step field r.rank r.client)), piece_body-length (solved_piece study group life step field r.rank r.client), length-rows study group step field cells.first (width cells) (2 + study.sizes.parameters))

pub life_pieces_sized : (study : Study) (r : Route) (group life steps : ℕ) → AreSized (piece_bytes study r) (life_pieces study r group life steps) 0 (steps * study.sizes.fields)
unfolding life_pieces
life_pieces_sized study r group life steps =
    let s : ℕ = piece_bytes study r in
    let of_step : ℕ → List Frame = λ step. map (λ field. piece (solved_piece study group life step field r.rank r.client)) (below study.sizes.fields) in
    let none : steps * 0 ≡ 0 = omega arith in
    subst (λ b. AreSized s (flat_map of_step (below steps)) b (steps * study.sizes.fields)) none
    (sized_same s of_step 0 study.sizes.fields
    (λ step. sized_pieces s (λ field. piece (solved_piece study group life step field r.rank r.client)) (λ i. refl) (λ i. solved-length study r group life step i) study.sizes.fields)
    steps)

life_sized : (study : Study) (r : Route) (group life steps : ℕ) → AreSized (piece_bytes study r) (life_frames study r group life steps) 1 (steps * study.sizes.fields)
unfolding life_frames
life_sized study r group life steps =
    let same : 0 + steps * study.sizes.fields ≡ steps * study.sizes.fields = omega arith in
    subst (λ m. AreSized (piece_bytes study r) (beat group life ∷ life_pieces study r group life steps) 1 m) same
    (sized_append (piece_bytes study r) (beat group life ∷ []) (life_pieces study r group life steps) 1 0 0 (steps * study.sizes.fields) (sized_beat (piece_bytes study r) group life) (life_pieces_sized study r group life steps))

by_restart : (study : Study) (r : Route) (group : ℕ) (again : Bool) → AreSized (piece_bytes study r) (cond again (life_frames study r group 1 (study.sizes.steps / 2) ++ life_frames study r group 2 study.sizes.steps) (life_frames study r group 1 study.sizes.steps)) (beats_by again) (pieces_by study again)
by_restart study r group true = sized_append (piece_bytes study r) (life_frames study r group 1 (study.sizes.steps / 2)) (life_frames study r group 2 study.sizes.steps) 1 1 ((study.sizes.steps / 2) * study.sizes.fields) (planes study.sizes) (life_sized study r group 1 (study.sizes.steps / 2)) (life_sized study r group 2 study.sizes.steps)
by_restart study r group false = life_sized study r group 1 study.sizes.steps

group_sized : (study : Study) (number : ℕ) (r : Route) (group : ℕ) → AreSized (piece_bytes study r) (group_frames study number r group) (beats_by (is_restarted number group)) (pieces_by study (is_restarted number group))
unfolding group_frames
group_sized study number r group = by_restart study r group (is_restarted number group)

pub planned_sized : (study : Study) (number : ℕ) (r : Route) → AreSized (piece_bytes study r) (planned study number r) (sum_by (λ group. beats_by (is_restarted number group)) (below study.sizes.groups)) (sum_by (λ group. pieces_by study (is_restarted number group)) (below study.sizes.groups))
unfolding planned
planned_sized study number r = sized_below (piece_bytes study r) (group_frames study number r) (λ group. beats_by (is_restarted number group)) (λ group. pieces_by study (is_restarted number group)) (group_sized study number r) study.sizes.groups

pub resent_sized : (study : Study) (r : Route) → AreSized (piece_bytes study r) (resent_frames study r) 0 (study.sizes.groups * planes study.sizes)
unfolding resent_frames
resent_sized study r =
    let none : study.sizes.groups * 0 ≡ 0 = omega arith in
    let of_group : ℕ → List Frame = λ group. life_pieces study r group 3 study.sizes.steps in
    subst (λ b. AreSized (piece_bytes study r) (flat_map of_group (below study.sizes.groups)) b (study.sizes.groups * planes study.sizes)) none
    (sized_same (piece_bytes study r) of_group 0 (planes study.sizes) (λ group. life_pieces_sized study r group 3 study.sizes.steps) study.sizes.groups)

-- ---- sizes

-- frames as they are: each piece once
pub as_they_are : (s : ℕ) (fs : List Frame) → AllByRecursion (Takes s) fs → length (frame_bytes fs) + 13 * piece_count fs ≡ 13 * length fs + s * piece_count fs
as_they_are s [] each = omega arith
as_they_are s (x ∷ xs) each =
    let rest = as_they_are s xs each.1 in
    let size = length-append (spelling x) (frame_bytes xs) in
    elim (cases_Bool (is_piece x)) [
      | inl t ↦ let long : length (spelling x) ≡ s = each.0 ∙ ap (λ b. cond b s 13) t in
          let count : piece_count (x ∷ xs) ≡ 1 + piece_count xs = pieces-cons x xs ∙ ap (λ b. cond b 1 0 + piece_count xs) t in
          omega (arith, rest, size, long, count, ap (λ m. s * m) count)
      | inr f ↦ let long : length (spelling x) ≡ 13 = each.0 ∙ ap (λ b. cond b s 13) f in
          let count : piece_count (x ∷ xs) ≡ 0 + piece_count xs = pieces-cons x xs ∙ ap (λ b. cond b 1 0 + piece_count xs) f in
          omega (arith, rest, size, long, count, ap (λ m. s * m) count)
    ]

-- what is written of frames of which beats are beats
pub record IsWritten (number n s beats : ℕ) (fs : List Frame) : Type 0 where
  pub events : length (sent number n fs) ≡ beats + copies_from number n (piece_count fs)
  pub bytes : length (frame_bytes (sent number n fs)) ≡ 13 * beats + s * copies_from number n (piece_count fs)

sent_cons : (number n : ℕ) (x : Frame) (xs : List Frame) → sent number n (x ∷ xs) ≡ written number n x ++ sent number (n + piece_count (x ∷ [])) xs
sent_cons number n x xs = sent_append number n (x ∷ []) xs ∙ ap (λ r. r ++ sent number (n + piece_count (x ∷ [])) xs) (sent_one number n x)

written_piece : (number n s beats : ℕ) (x : Frame) (xs : List Frame) → is_piece x ≡ true → length (spelling x) ≡ s → IsWritten number (n + 1) s beats xs → IsWritten number n s beats (x ∷ xs)
written_piece number n s beats x xs is long rest =
    let k : ℕ = copies (word number n) in
    let one : piece_count (x ∷ []) ≡ 1 = pieces-cons x [] ∙ ap (λ b. cond b 1 0 + 0) is in
    let count : piece_count (x ∷ xs) ≡ 1 + piece_count xs = pieces-cons x xs ∙ ap (λ b. cond b 1 0 + piece_count xs) is in
    let all : sent number n (x ∷ xs) ≡ replicate k x ++ sent number (n + 1) xs =
    sent_cons number n x xs ∙ ap (λ b. cond b (replicate k x) (x ∷ []) ++ sent number (n + piece_count (x ∷ [])) xs) is ∙ ap (λ m. replicate k x ++ sent number (n + m) xs) one in
    let more : copies_from number n (piece_count (x ∷ xs)) ≡ k + copies_from number (n + 1) (piece_count xs) = ap (copies_from number n) count ∙ copies_first number n (piece_count xs) in
    let size : length (frame_bytes (replicate k x)) ≡ s * k = omega (arith, bytes-repeated k x, ap (λ m. k * m) long) in
    record {
      events = omega (arith, ap length all, length-append (replicate k x) (sent number (n + 1) xs), length-replicate k x, rest.events, more);
      bytes = omega (arith, ap (λ fs. length (frame_bytes fs)) all, bytes-length-append (replicate k x) (sent number (n + 1) xs), size, rest.bytes, ap (λ m. s * m) more);
    }

written_beat : (number n s beats : ℕ) (x : Frame) (xs : List Frame) → is_piece x ≡ false → length (spelling x) ≡ 13 → IsWritten number n s beats xs → IsWritten number n s (1 + beats) (x ∷ xs)
written_beat number n s beats x xs is long rest =
    let none : n + piece_count (x ∷ []) ≡ n = omega (arith, pieces-cons x [] ∙ ap (λ b. cond b 1 0 + 0) is) in
    let count : piece_count (x ∷ xs) ≡ piece_count xs = pieces-cons x xs ∙ ap (λ b. cond b 1 0 + piece_count xs) is ∙ omega arith in
    let all : sent number n (x ∷ xs) ≡ (x ∷ []) ++ sent number n xs =
    sent_cons number n x xs ∙ ap (λ b. cond b (replicate (copies (word number n)) x) (x ∷ []) ++ sent number (n + piece_count (x ∷ [])) xs) is ∙ ap (λ m. (x ∷ []) ++ sent number m xs) none in
    let same : copies_from number n (piece_count (x ∷ xs)) ≡ copies_from number n (piece_count xs) = ap (copies_from number n) count in
    record {
      events = omega (arith, ap length all, rest.events, same);
      bytes = omega (arith, ap (λ fs. length (frame_bytes fs)) all, bytes-length-append (x ∷ []) (sent number n xs), bytes-one x, long, rest.bytes, ap (λ m. s * m) same);
    }

pub are_written : (number n s beats : ℕ) (fs : List Frame) → AllByRecursion (Takes s) fs → length fs ≡ beats + piece_count fs → IsWritten number n s beats fs
are_written number n s beats [] each count =
    let none : 0 ≡ beats = omega (arith, count) in
    let start : IsWritten number n s 0 [] = record {
      events = omega (arith, ap length (sent_none number n), copies_none number n);
      bytes = omega (arith, ap (λ fs. length (frame_bytes fs)) (sent_none number n), ap (λ m. s * m) (copies_none number n));
    } in
    subst (λ b. IsWritten number n s b []) none start
are_written number n s beats (x ∷ xs) each count = elim (cases_Bool (is_piece x)) [
  | inl t ↦
      let more : length xs ≡ beats + piece_count xs = omega (arith, count, pieces-cons x xs ∙ ap (λ b. cond b 1 0 + piece_count xs) t) in
      written_piece number n s beats x xs t (each.0 ∙ ap (λ b. cond b s 13) t) (are_written number (n + 1) s beats xs each.1 more)
  | inr f ↦
      let few : piece_count xs ≤ length xs = count_by-le-length is_piece xs in
      let more : suc (length xs) ≡ beats + piece_count xs = omega (arith, count, pieces-cons x xs ∙ ap (λ b. cond b 1 0 + piece_count xs) f) in
      let less : length xs ≡ (beats - 1) + piece_count xs = omega (arith, more, few) in
      let back : 1 + (beats - 1) ≡ beats = omega (arith, more, few) in
      subst (λ b. IsWritten number n s b (x ∷ xs)) back (written_beat number n s (beats - 1) x xs f (each.0 ∙ ap (λ b. cond b s 13) f) (are_written number n s (beats - 1) xs each.1 less))
]
