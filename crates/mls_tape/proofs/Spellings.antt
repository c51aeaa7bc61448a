-- A tape's spelling is read as its lanes.
use Rattle.std.proofs.Common.{◌≡◌, ℕ, ◌+◌, ◌^◌, ◌≤◌, ◌<◌, Bool, true, false, cond, eqb, ltb, not, ◌&&◌, ◌||◌, List, [], ◌∷◌, ◌++◌, length, take, drop, map, Ok, Err, refl, sym, ap, ◌∙◌, arith, codes}
use Rattle.std.specs.Int.{Width, w8, w16, w32, byte_len, from_be_bytes}
use Rattle.std.specs.List.{AllByRecursion, flat_map}
use Rattle.std.proofs.lemmas.Bool.{le-ltb, lt-ltb, eqb-true}
use Rattle.std.proofs.lemmas.List.{length-append, take_at, drop_at}
use Rattle.std.proofs.lemmas.Nat.{from_be_bytes-to_be_bytes_2, from_be_bytes-to_be_bytes_4}
use Rattle.mls_model.specs.declared.lanes.LaneKind.{LaneKind}
use Rattle.mls_model.specs.declared.lanes.LaneKind.TheVariants as kinds
use Rattle.mls_model.specs.declared.lanes.TapeWhy.TheVariants as why
use Rattle.mls_model.specs.Frames.{u16, u32}
use Rattle.mls_model.specs.Lanes.{◌>>=◌, Read, TapeRefusal, refused, bytes_at, number_at, Lane, LaneBytes, kind_of, lane_at, lanes_at, samples_byte, lane_bytes_of, lane_frames, with_events, tape_of, most_events, SpelledLane, kind_code, lane_spelling, samples_spelling, tape_bytes, is_tape_version, IsSpelledLane, event_sum, lane_spelled, SpellsTape}
use Rattle.mls_tape.proofs.Tables.{after_size, after_held, after_rank, after_known, after_kind, after_some, after_count, after_head, after_version, after_number, after_magic, after_mark, tape_read}
use Rattle.mls_tape.proofs.Counting.{counted_one}

-- a step that gives a value, and what comes after it
goes : {A B : Type 0} (r : Read A) (f : A → Read B) (x : A) (y : Read B) → r ≡ Ok x → f x ≡ y → (r >>= f) ≡ y
goes r f x y e g = ap (λ s. s >>= f) e ∙ g

passes : {A : Type 0} (b : Bool) (d : TapeRefusal) (x : A) → b ≡ false → ◌≡◌ {A = Read A} (cond b (Err d) (Ok x)) (Ok x)
passes b d x e = rw e refl

holds : {A : Type 0} (b : Bool) (d : TapeRefusal) (x : A) → b ≡ true → ◌≡◌ {A = Read A} (cond b (Ok x) (Err d)) (Ok x)
holds b d x e = rw e refl

-- ---- fields

-- enough bytes are there
number_read : (w : Width) (at : ℕ) (bytes : List ℕ) → byte_len w ≤ length bytes → number_at w at bytes ≡ Ok (from_be_bytes w (take (byte_len w) bytes), drop (byte_len w) bytes)
number_read w at bytes fits = passes _ _ (from_be_bytes w (take (byte_len w) bytes), drop (byte_len w) bytes) (le-ltb _ _ fits)

same_number : (m n : ℕ) (rest : List ℕ) → m ≡ n → ◌≡◌ {A = Read (ℕ × List ℕ)} (Ok (m, rest)) (Ok (n, rest))
same_number m n rest e = rw e refl

byte_read : (at x : ℕ) (rest : List ℕ) → number_at w8 at (x ∷ rest) ≡ Ok (x, rest)
byte_read at x rest = number_read w8 at (x ∷ rest) (omega arith) ∙ same_number (from_be_bytes w8 (x ∷ [])) x rest (omega arith)

number_16_read : (at n : ℕ) (rest : List ℕ) → n < 2 ^ 16 → number_at w16 at (u16 n ++ rest) ≡ Ok (n, rest)
number_16_read at n rest fits = number_read w16 at (u16 n ++ rest) (omega arith) ∙ same_number (from_be_bytes w16 (u16 n)) n rest (from_be_bytes-to_be_bytes_2 n fits)

number_32_read : (at n : ℕ) (rest : List ℕ) → n < 2 ^ 32 → number_at w32 at (u32 n ++ rest) ≡ Ok (n, rest)
number_32_read at n rest fits = number_read w32 at (u32 n ++ rest) (omega arith) ∙ same_number (from_be_bytes w32 (u32 n)) n rest (from_be_bytes-to_be_bytes_4 n fits)

bytes_read : (at : ℕ) (xs rest : List ℕ) → bytes_at (length xs) at (xs ++ rest) ≡ Ok (xs, rest)
bytes_read at xs rest =
    let enough : ltb (length (xs ++ rest)) (length xs) ≡ false = le-ltb _ _ (omega (arith, length-append xs rest)) in
    let front = take_at xs rest (length xs) refl in
    let back = drop_at xs rest (length xs) refl in
    passes _ _ (take (length xs) (xs ++ rest), drop (length xs) (xs ++ rest)) enough ∙ ap (λ (t : List ℕ). Ok (t, drop (length xs) (xs ++ rest))) front ∙ ap (λ (t : List ℕ). Ok (xs, t)) back

-- ---- a lane

-- the lane where it stands in the tape
abbrev pub placed_lane : ℕ → SpelledLane → LaneBytes
placed_lane at lane = record { rank = lane.rank; kind = lane.kind; at = at + 7; bytes = lane.bytes }

kind_known : (at : ℕ) (kind : LaneKind) (rest : List ℕ) → ◌≡◌ {A = Read (ℕ × List ℕ)} (cond (ltb 1 (kind_code kind)) (refused at why.LaneKind) (Ok (kind_code kind, rest))) (Ok (kind_code kind, rest))
kind_known at kinds.Client rest = refl
kind_known at kinds.Control rest = refl

kind_again : (kind : LaneKind) → kind_of (kind_code kind) ≡ kind
kind_again kinds.Client = refl
kind_again kinds.Control = refl

lane_read : (ranks at : ℕ) (lane : SpelledLane) (rest : List ℕ) → IsSpelledLane ranks lane → lane_at ranks at (lane_spelling lane ++ rest) ≡ Ok (placed_lane at lane, rest)
unfolding lane_at lane_spelling
lane_read ranks at lane rest fits =
    let known : ℕ × List ℕ = (kind_code lane.kind, u16 lane.rank ++ (u32 (length lane.bytes) ++ (lane.bytes ++ rest))) in
    let held : ℕ × List ℕ = (lane.rank, u32 (length lane.bytes) ++ (lane.bytes ++ rest)) in
    let size : ℕ × List ℕ = (length lane.bytes, lane.bytes ++ rest) in
    let last : after_size at known held size ≡ Ok (placed_lane at lane, rest) =
    goes (bytes_at (length lane.bytes) (at + 7) (lane.bytes ++ rest)) _ (lane.bytes, rest) _ (bytes_read (at + 7) lane.bytes rest)
    (ap (λ (kind : LaneKind). Ok (record { rank = lane.rank; kind = kind; at = at + 7; bytes = lane.bytes }, rest)) (kind_again lane.kind)) in
    let third : after_held at known held ≡ Ok (placed_lane at lane, rest) = goes _ (after_size at known held) size _ (number_32_read (at + 3) (length lane.bytes) (lane.bytes ++ rest) fits.size_fits) last in
    let second : after_rank ranks at known held ≡ Ok (placed_lane at lane, rest) = goes _ (after_held at known) held _ (holds _ _ held (lt-ltb _ _ fits.rank)) third in
    let first : after_known ranks at known ≡ Ok (placed_lane at lane, rest) = goes _ (after_rank ranks at known) held _ (number_16_read (at + 1) lane.rank (u32 (length lane.bytes) ++ (lane.bytes ++ rest)) fits.rank_fits) second in
    let kind : after_kind ranks at known ≡ Ok (placed_lane at lane, rest) = goes _ (after_known ranks at) known _ (kind_known at lane.kind (u16 lane.rank ++ (u32 (length lane.bytes) ++ (lane.bytes ++ rest)))) first in
    goes _ (after_kind ranks at) known _ (byte_read at (kind_code lane.kind) (u16 lane.rank ++ (u32 (length lane.bytes) ++ (lane.bytes ++ rest)))) kind

-- ---- the lanes

abbrev pub placed_lanes : ℕ → List SpelledLane → List LaneBytes
placed_lanes at [] = []
placed_lanes at (lane ∷ lanes) = placed_lane at lane ∷ placed_lanes (at + (7 + length lane.bytes)) lanes

lanes_read : (ranks at : ℕ) (lanes : List SpelledLane) → AllByRecursion (IsSpelledLane ranks) lanes → lanes_at (length lanes) ranks at (flat_map lane_spelling lanes) ≡ Ok (placed_lanes at lanes)
unfolding lanes_at
lanes_read ranks at [] fits = refl
lanes_read ranks at (lane ∷ lanes) fits =
    goes (lane_at ranks at (lane_spelling lane ++ flat_map lane_spelling lanes)) _ (placed_lane at lane, flat_map lane_spelling lanes) _ (lane_read ranks at lane (flat_map lane_spelling lanes) fits.0)
    (goes (lanes_at (length lanes) ranks (at + (7 + length lane.bytes)) (flat_map lane_spelling lanes)) _ (placed_lanes (at + (7 + length lane.bytes)) lanes) _ (lanes_read ranks (at + (7 + length lane.bytes)) lanes fits.1) refl)

-- ---- the head

abbrev samples_end : Bool → ℕ
samples_end one = cond one 6 7

sign_read : (signed : Bool) (rest : List ℕ) → ◌≡◌ {A = Read (ℕ × List ℕ)} (cond (eqb (cond signed 1 0) (cond signed 1 0)) (Ok (7, rest)) (refused 6 why.Samples)) (Ok (7, rest))
sign_read true rest = refl
sign_read false rest = refl

samples_test_read : (signed one : Bool) (rest : List ℕ) → ◌≡◌ {A = Read (ℕ × List ℕ)} (cond one (Ok (6, cond one [] (cond signed 1 0 ∷ []) ++ rest)) (number_at w8 6 (cond one [] (cond signed 1 0 ∷ []) ++ rest) >>= λ kind. cond (eqb kind.0 (cond signed 1 0)) (Ok (7, kind.1)) (refused 6 why.Samples))) (Ok (samples_end one, rest))
samples_test_read signed true rest = refl
samples_test_read signed false rest = goes (number_at w8 6 (cond signed 1 0 ∷ rest)) _ (cond signed 1 0, rest) _ (byte_read 6 (cond signed 1 0) rest) (sign_read signed rest)

samples_read : (signed : Bool) (version : ℕ) (rest : List ℕ) → samples_byte signed version (samples_spelling signed version ++ rest) ≡ Ok (samples_end (eqb version 1), rest)
unfolding samples_byte
samples_read signed version rest = samples_test_read signed (eqb version 1) rest

version_small : (signed two one : Bool) (version : ℕ) → eqb version 2 ≡ two → eqb version 1 ≡ one → (two || (one && not signed)) ≡ true → version < 2 ^ 16
version_small signed true one version e f h = omega (arith, eqb-true version 2 e)
version_small signed false true version e f h = omega (arith, eqb-true version 1 f)
version_small signed false false version e f h = absurd cc

table_read : (ranks : ℕ) (signed : Bool) (version : ℕ) (lanes : List SpelledLane) → is_tape_version signed version ≡ true → length lanes ≤ 65535 → AllByRecursion (IsSpelledLane ranks) lanes
    → lane_bytes_of ranks signed (tape_bytes signed version lanes) ≡ Ok (placed_lanes (samples_end (eqb version 1) + 4) lanes)
unfolding lane_bytes_of tape_bytes
table_read ranks signed version lanes known few fits =
    let table = flat_map lane_spelling lanes in
    let counted = u32 (length lanes) ++ table in
    let sampled = samples_spelling signed version ++ counted in
    let numbered = u16 version ++ sampled in
    let result : Read (List LaneBytes) = Ok (placed_lanes (samples_end (eqb version 1) + 4) lanes) in
    let head : ℕ × List ℕ = (samples_end (eqb version 1), counted) in
    let count : ℕ × List ℕ = (length lanes, table) in
    let seventh : after_count ranks head count ≡ result = goes _ (after_some ranks head) count _ (passes _ _ count (le-ltb _ _ few)) (lanes_read ranks (samples_end (eqb version 1) + 4) lanes fits) in
    let sixth : after_head ranks head ≡ result = goes _ (after_count ranks head) count _ (number_32_read (samples_end (eqb version 1)) (length lanes) table (omega arith)) seventh in
    let fifth : after_version ranks signed (version, sampled) ≡ result = goes _ (after_head ranks) head _ (samples_read signed version counted) sixth in
    let fourth : after_number ranks signed (version, sampled) ≡ result = goes _ (after_version ranks signed) (version, sampled) _ (holds _ _ (version, sampled) known) fifth in
    let third : after_magic ranks signed (codes "MTAP", numbered) ≡ result = goes _ (after_number ranks signed) (version, sampled) _ (number_16_read 4 version sampled (version_small signed _ _ version refl refl known)) fourth in
    let second : after_mark ranks signed (codes "MTAP", numbered) ≡ result = goes _ (after_magic ranks signed) (codes "MTAP", numbered) _ refl third in
    goes (bytes_at 4 0 (codes "MTAP" ++ numbered)) (after_mark ranks signed) (codes "MTAP", numbered) _ (bytes_read 0 (codes "MTAP") numbered) second

-- ---- the events

events_read : (before at : ℕ) (lanes : List SpelledLane) → before + event_sum lanes ≤ most_events → with_events before (placed_lanes at lanes) ≡ Ok (map lane_spelled lanes)
unfolding with_events
events_read before at [] few = refl
events_read before at (lane ∷ lanes) few =
    counted_one before (placed_lane at lane) (placed_lanes (at + (7 + length lane.bytes)) lanes) (omega arith)
    ∙ ap (λ (r : Read (List Lane)). r >>= λ others. Ok (lane_spelled lane ∷ others)) (events_read (before + length (lane_frames lane.bytes)) (at + (7 + length lane.bytes)) lanes (omega arith))

pub tape_is_read : (ranks : ℕ) (signed : Bool) (bytes : List ℕ) (lanes : List Lane) → SpellsTape ranks signed bytes lanes → tape_of ranks signed bytes ≡ Ok lanes
tape_is_read ranks signed bytes lanes s =
    ap (λ (xs : List ℕ). tape_of ranks signed xs) s.is_spelling
    ∙ tape_read ranks signed (tape_bytes signed s.version s.spelled) (placed_lanes (samples_end (eqb s.version 1) + 4) s.spelled) (table_read ranks signed s.version s.spelled s.version_is s.few_lanes s.each)
    ∙ events_read 0 (samples_end (eqb s.version 1) + 4) s.spelled (omega (arith, s.few_events))
    ∙ ap (λ (ls : List Lane). Ok ls) (sym s.are_lanes)
