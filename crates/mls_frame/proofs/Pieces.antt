-- The piece with given fields.
use Rattle.std.proofs.Common.{◌≡◌, ℕ, zero, suc, ◌+◌, ◌*◌, ◌^◌, ◌<◌, ◌≤◌, List, [], ◌∷◌, length, get_or, take, drop, refl, ap, ◌∙◌, arith}
use Rattle.std.specs.Int.{w16, w32, from_be_bytes}
use Rattle.std.specs.List.{flat_map, AllByRecursion}
use Rattle.std.proofs.lemmas.List.{length-append, take-take, drop-drop, drop-take}
use Rattle.mls_model.specs.Frames.{number, u16, Piece, piece, body, IsPiece, longest_body, samples_in, piece_in, piece_head}
use Rattle.mls_frame.specs.Views.{AreBytes}
use Rattle.mls_frame.proofs.Places.{AreBytes-drop, number_16-below, number_32-below}

pub samples_in-length : (n : ℕ) (bytes : List ℕ) → length (samples_in n bytes) ≡ n
unfolding samples_in
samples_in-length zero bytes = refl
samples_in-length (suc n) bytes = ap suc (samples_in-length n (drop 2 bytes))

pub samples_in-below : (n : ℕ) (bytes : List ℕ) → AreBytes bytes → AllByRecursion (λ x. x < 2 ^ 16) (samples_in n bytes)
unfolding samples_in
samples_in-below zero bytes h = tt
samples_in-below (suc n) bytes h = (number_16-below 0 bytes h, samples_in-below n (drop 2 bytes) (AreBytes-drop 2 bytes h))

-- the sample at a place of the list
pub samples_in-at : (n k : ℕ) (bytes : List ℕ) → k < n → get_or (samples_in n bytes) k 0 ≡ number w16 (2 * k) bytes
unfolding samples_in
samples_in-at zero k bytes lt = absurd (omega arith)
samples_in-at (suc n) zero bytes lt = refl
samples_in-at (suc n) (suc k) bytes lt =
    let later : drop (2 * k) (drop 2 bytes) ≡ drop (2 * suc k) bytes = drop-drop (2 * k) 2 bytes ∙ ap (λ (m : ℕ). drop m bytes) (omega arith) in
    samples_in-at n k (drop 2 bytes) (omega arith) ∙ ap (λ (t : List ℕ). from_be_bytes w16 (take 2 t)) later

-- they are in the first 2 n bytes
drop_taken : (m : ℕ) (bytes : List ℕ) → drop 2 (take (2 + m) bytes) ≡ take m (drop 2 bytes)
drop_taken m bytes = drop-take 2 m bytes

pub samples_in-take : (n m : ℕ) (bytes : List ℕ) → m ≡ 2 * n → samples_in n (take m bytes) ≡ samples_in n bytes
unfolding samples_in
samples_in-take zero m bytes e = refl
samples_in-take (suc n) m bytes e =
    let more : m ≡ 2 + 2 * n = omega arith in
    let first : take 2 (take m bytes) ≡ take 2 bytes = take-take 2 m bytes (omega arith) in
    let rest : drop 2 (take m bytes) ≡ take (2 * n) (drop 2 bytes) = ap (λ (k : ℕ). drop 2 (take k bytes)) more ∙ drop-take 2 (2 * n) bytes in
    let others : samples_in n (drop 2 (take m bytes)) ≡ samples_in n (drop 2 bytes) = ap (λ (t : List ℕ). samples_in n t) rest ∙ samples_in-take n (2 * n) (drop 2 bytes) refl in
    let head : number w16 0 (take m bytes) ≡ number w16 0 bytes = ap (λ (t : List ℕ). from_be_bytes w16 t) first in
    cc

pub piece_in_is_piece : (fields : List ℕ) → AreBytes fields → 25 + 2 * (number w16 14 fields * number w32 20 fields) ≤ longest_body → IsPiece (piece_in fields)
unfolding piece_in
piece_in_is_piece fields h fits = record {
  life = number_32-below 0 fields h;
  group = number_32-below 4 fields h;
  plane = number_32-below 8 fields h;
  client = number_16-below 12 fields h;
  rows = number_16-below 14 fields h;
  first = number_32-below 16 fields h;
  count = number_32-below 20 fields h;
  samples = samples_in-below (number w16 14 fields * number w32 20 fields) (drop 24 fields) (AreBytes-drop 24 fields h);
  size = samples_in-length (number w16 14 fields * number w32 20 fields) (drop 24 fields);
  body = fits;
}

-- the piece that is made of the numbers read and a front of what stands after them
pub piece_made : (fields : List ℕ) (life group plane client rows first count m : ℕ) → life ≡ number w32 0 fields → group ≡ number w32 4 fields → plane ≡ number w32 8 fields → client ≡ number w16 12 fields → rows ≡ number w16 14 fields → first ≡ number w32 16 fields → count ≡ number w32 20 fields → m ≡ 2 * (rows * count) → ◌≡◌ {A = Piece} (record { life = life; group = group; plane = plane; client = client; rows = rows; first = first; count = count; samples = samples_in (rows * count) (take m (drop 24 fields)) }) (piece_in fields)
unfolding piece_in
piece_made fields life group plane client rows first count m e0 e1 e2 e3 e4 e5 e6 e7 =
    let s : samples_in (rows * count) (take m (drop 24 fields)) ≡ samples_in (rows * count) (drop 24 fields) = samples_in-take (rows * count) m (drop 24 fields) e7 in
    let t : samples_in (rows * count) (drop 24 fields) ≡ samples_in (number w16 14 fields * number w32 20 fields) (drop 24 fields) = cc in
    cc

pub samples-length : (xs : List ℕ) → length (flat_map u16 xs) ≡ 2 * length xs
samples-length [] = refl
samples-length (x ∷ xs) = omega (arith, samples-length xs)

pub piece_head-length : (p : Piece) → length (piece_head p) ≡ 24
unfolding piece_head
piece_head-length p = refl

pub piece_body-length : (p : Piece) → length (body (piece p)) ≡ 25 + 2 * length p.samples
unfolding body
piece_body-length p = omega (arith, length-append (piece_head p) (flat_map u16 p.samples), piece_head-length p, samples-length p.samples)
