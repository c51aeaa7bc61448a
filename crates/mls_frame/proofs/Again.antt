-- What is spelled is seen, whatever follows it.
use Rattle.std.proofs.Common.{◌≡◌, ℕ, ◌+◌, ◌*◌, ◌^◌, ◌<◌, ◌≤◌, Bool, true, false, cond, ltb, eqb, eq-eqb, not, ◌||◌, ◌%◌, List, [], ◌∷◌, ◌++◌, length, drop, refl, sym, ap, ◌∙◌, arith, append_assoc}
use Rattle.std.specs.Int.{w16, w32, from_be_bytes, to_be_bytes}
use Rattle.std.specs.List.{flat_map, AllByRecursion}
use Rattle.std.proofs.lemmas.Bool.{le-ltb}
use Rattle.std.proofs.lemmas.Bool.Decides.{nat_tests}
use Rattle.std.proofs.lemmas.List.{length-append}
use Rattle.std.proofs.lemmas.Nat.{from_be_bytes-to_be_bytes_2, from_be_bytes-to_be_bytes_4}
use Rattle.mls_model.specs.Frames.{Frame, Piece, piece, beat, bye, save, crash, hello, welcome, refuse, IsFrame, IsPiece, Sight, whole, more, bad, number, u16, u32, body, spelling, piece_head, piece_in, samples_in, fixed_frame, fixed_sight, piece_sight, sized_sight, sight, longest_body, is_no_length}
use Rattle.mls_model.specs.declared.lanes.FrameFault.TheVariants.{BadLength}
use Rattle.mls_frame.proofs.Pieces.{piece_body-length, piece_head-length, samples-length}

-- the answer where a test of lengths passes
seen_whole : (short : Bool) (f g : Frame) (m n : ℕ) → short ≡ false → f ≡ g → m ≡ n → cond short more (whole f m) ≡ whole g n
seen_whole short f g m n e1 e2 e3 = rw e1 cc

signs_again : (group life : ℕ) (tail : List ℕ) → group < 2 ^ 32 → life < 2 ^ 32 → (number w32 0 ((u32 group ++ u32 life) ++ tail) ≡ group) × (number w32 4 ((u32 group ++ u32 life) ++ tail) ≡ life)
signs_again group life tail g l = (from_be_bytes-to_be_bytes_4 group g, from_be_bytes-to_be_bytes_4 life l)

-- enough bytes are there
no_less : (fields tail : List ℕ) (n : ℕ) → n ≡ 1 + length fields → ltb (1 + length (fields ++ tail)) n ≡ false
no_less fields tail n e = le-ltb _ _ (omega (arith, length-append fields tail))

-- a length that is neither 0 nor too great
fits_length : (n : ℕ) → 0 < n → n ≤ longest_body → is_no_length n ≡ false
fits_length n some few = grind (arith, nat_tests)

passes : (b : Bool) (x y : Sight) → b ≡ false → x ≡ y → cond b (bad BadLength) x ≡ y
passes b x y e1 e2 = rw e1 e2

chosen_second : (b : Bool) (x y : Sight) → b ≡ false → x ≡ y → cond b more x ≡ y
chosen_second b x y e1 e2 = rw e1 e2

samples_again : (xs tail : List ℕ) → AllByRecursion (λ x. x < 2 ^ 16) xs → samples_in (length xs) (flat_map u16 xs ++ tail) ≡ xs
unfolding samples_in
samples_again [] tail fit = refl
samples_again (x ∷ xs) tail fit =
    let first : from_be_bytes w16 (to_be_bytes w16 x) ≡ x = from_be_bytes-to_be_bytes_2 x fit.0 in
    let others = samples_again xs tail fit.1 in
    cc

number_16_again : (x : ℕ) → x < 2 ^ 16 → from_be_bytes w16 (to_be_bytes w16 x) ≡ x
number_16_again x fit = from_be_bytes-to_be_bytes_2 x fit

number_32_again : (x : ℕ) → x < 2 ^ 32 → from_be_bytes w32 (to_be_bytes w32 x) ≡ x
number_32_again x fit = from_be_bytes-to_be_bytes_4 x fit

-- the fields of a piece, with what follows
abbrev fields_of : Piece → List ℕ → List ℕ
fields_of p tail = piece_head p ++ (flat_map u16 p.samples ++ tail)

rows_again : (p : Piece) (tail : List ℕ) → IsPiece p → number w16 14 (fields_of p tail) ≡ p.rows
unfolding piece_head
rows_again p tail fit = number_16_again p.rows fit.rows

count_again : (p : Piece) (tail : List ℕ) → IsPiece p → number w32 20 (fields_of p tail) ≡ p.count
unfolding piece_head
count_again p tail fit = number_32_again p.count fit.count

size_again : (p : Piece) (tail : List ℕ) → IsPiece p → number w16 14 (fields_of p tail) * number w32 20 (fields_of p tail) ≡ length p.samples
size_again p tail fit = rw (rows_again p tail fit, count_again p tail fit) (sym fit.size)

taken_again : (p : Piece) (tail : List ℕ) → IsPiece p → samples_in (number w16 14 (fields_of p tail) * number w32 20 (fields_of p tail)) (drop 24 (fields_of p tail)) ≡ p.samples
unfolding piece_head
taken_again p tail fit = ap (λ (n : ℕ). samples_in n (flat_map u16 p.samples ++ tail)) (size_again p tail fit) ∙ samples_again p.samples tail fit.samples

piece_in_again : (p : Piece) (tail : List ℕ) → IsPiece p → piece_in (fields_of p tail) ≡ p
unfolding piece_in piece_head
piece_in_again p tail fit =
    let life = number_32_again p.life fit.life in
    let group = number_32_again p.group fit.group in
    let plane = number_32_again p.plane fit.plane in
    let client = number_16_again p.client fit.client in
    let rows = rows_again p tail fit in
    let first = number_32_again p.first fit.first in
    let count = count_again p tail fit in
    let samples = taken_again p tail fit in
    let same : ◌≡◌ {A = Piece} (piece_in (fields_of p tail)) (record { life = p.life; group = p.group; plane = p.plane; client = p.client; rows = p.rows; first = p.first; count = p.count; samples = p.samples }) = cc in
    same

-- the chain of tests on a piece
piece_passes : (few short wrong cut : Bool) (q p : Piece) (n : ℕ) → few ≡ false → short ≡ false → wrong ≡ true → cut ≡ false → q ≡ p → cond few (bad BadLength) (cond short more (cond (not wrong) (bad BadLength) (cond cut more (whole (piece q) n)))) ≡ whole (piece p) n
piece_passes few short wrong cut q p n e1 e2 e3 e4 e5 = rw (e1, e2, e3, e4, e5) refl

odd_size : (size k : ℕ) → size ≡ 25 + 2 * k → (ltb size 25 || eqb (size % 2) 0) ≡ false
odd_size size k e = grind (arith, nat_tests)

piece_again : (p : Piece) (tail : List ℕ) → IsPiece p → piece_sight (length (body (piece p))) (fields_of p tail) ≡ whole (piece p) (4 + length (body (piece p)))
unfolding piece_sight
piece_again p tail fit =
    let size : length (body (piece p)) ≡ 25 + 2 * length p.samples = piece_body-length p in
    let same : length (body (piece p)) ≡ 25 + 2 * (number w16 14 (fields_of p tail) * number w32 20 (fields_of p tail)) = size ∙ ap (λ (n : ℕ). 25 + 2 * n) (sym (size_again p tail fit)) in
    let long : length (fields_of p tail) ≡ 24 + (2 * length p.samples + length tail) = omega (arith, length-append (piece_head p) (flat_map u16 p.samples ++ tail), length-append (flat_map u16 p.samples) tail, piece_head-length p, samples-length p.samples) in
    piece_passes _ _ _ _ (piece_in (fields_of p tail)) p _ (odd_size _ (length p.samples) size) (le-ltb _ _ (omega arith)) (eq-eqb _ _ same) (le-ltb _ _ (omega arith)) (piece_in_again p tail fit)

regrouped : (p : Piece) (tail : List ℕ) → (piece_head p ++ flat_map u16 p.samples) ++ tail ≡ fields_of p tail
regrouped p tail = append_assoc (piece_head p) (flat_map u16 p.samples) tail

-- a body is seen
body_again : (f : Frame) (tail : List ℕ) → IsFrame f → sized_sight (length (body f)) (body f ++ tail) ≡ whole f (4 + length (body f))
unfolding body sized_sight fixed_sight fixed_frame
body_again (piece p) tail fit =
    let size : length (body (piece p)) ≡ 25 + 2 * length p.samples = piece_body-length p in
    let is_length : is_no_length (length (body (piece p))) ≡ false = fits_length (length (body (piece p))) (omega arith) (omega (arith, fit.body, ap (λ (n : ℕ). 2 * n) fit.size)) in
    let seen : piece_sight (length (body (piece p))) ((piece_head p ++ flat_map u16 p.samples) ++ tail) ≡ whole (piece p) (4 + length (body (piece p))) = ap (λ (t : List ℕ). piece_sight (length (body (piece p))) t) (regrouped p tail) ∙ piece_again p tail fit in
    passes _ _ _ is_length seen
body_again (beat group life) tail fit =
    let n = signs_again group life tail fit.0 fit.1 in
    seen_whole _ _ (beat group life) _ _ (no_less (u32 group ++ u32 life) tail 9 refl) (cc) refl
body_again (bye group life) tail fit =
    let n = signs_again group life tail fit.0 fit.1 in
    seen_whole _ _ (bye group life) _ _ (no_less (u32 group ++ u32 life) tail 9 refl) (cc) refl
body_again save tail fit = seen_whole _ _ save _ _ (no_less [] tail 1 refl) refl refl
body_again crash tail fit = seen_whole _ _ crash _ _ (no_less [] tail 1 refl) refl refl
body_again (hello version group life client rank) tail fit =
    let a = number_16_again version fit.0 in
    let b = number_32_again group fit.1 in
    let c = number_32_again life fit.2 in
    let d = number_16_again client fit.3 in
    let e = number_16_again rank fit.4 in
    seen_whole _ _ (hello version group life client rank) _ _ (no_less (u16 version ++ (u32 group ++ (u32 life ++ (u16 client ++ u16 rank)))) tail 15 refl) (cc) refl
body_again (welcome lane) tail fit =
    let n = number_32_again lane fit in
    seen_whole _ _ (welcome lane) _ _ (no_less (u32 lane) tail 5 refl) (cc) refl
body_again (refuse reason value) tail fit =
    let m : from_be_bytes w16 (0 ∷ reason ∷ []) ≡ reason = omega arith in
    let n = number_32_again value fit.1 in
    seen_whole _ _ (refuse reason value) _ _ (no_less (reason ∷ u32 value) tail 6 refl) (cc) refl

-- no body is too long
body-bound : (f : Frame) → IsFrame f → length (body f) ≤ longest_body
unfolding body
body-bound (piece p) fit = omega (arith, piece_body-length p, fit.body, ap (λ (n : ℕ). 2 * n) fit.size)
body-bound (beat group life) fit = omega arith
body-bound (bye group life) fit = omega arith
body-bound save fit = omega arith
body-bound crash fit = omega arith
body-bound (hello version group life client rank) fit = omega arith
body-bound (welcome lane) fit = omega arith
body-bound (refuse reason value) fit = omega arith

pub spelling-length : (f : Frame) → length (spelling f) ≡ 4 + length (body f)
unfolding spelling
spelling-length f = length-append (u32 (length (body f))) (body f)

-- what is spelled is seen
pub seen_again : (f : Frame) (tail : List ℕ) → IsFrame f → sight (spelling f ++ tail) ≡ whole f (length (spelling f))
unfolding sight spelling
seen_again f tail fit =
    let small : length (body f) < 2 ^ 32 = omega (arith, body-bound f fit) in
    let size : number w32 0 ((u32 (length (body f)) ++ body f) ++ tail) ≡ length (body f) = number_32_again (length (body f)) small in
    let long : ltb (length ((u32 (length (body f)) ++ body f) ++ tail)) 4 ≡ false = le-ltb _ _ (omega (arith, length-append (u32 (length (body f)) ++ body f) tail, length-append (u32 (length (body f))) (body f))) in
    let seen : sized_sight (number w32 0 ((u32 (length (body f)) ++ body f) ++ tail)) (body f ++ tail) ≡ whole f (4 + length (body f)) = ap (λ (n : ℕ). sized_sight n (body f ++ tail)) size ∙ body_again f tail fit in
    chosen_second _ _ _ long (seen ∙ ap (λ (n : ℕ). whole f n) (sym (spelling-length f)))
