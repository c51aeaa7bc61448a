-- A tape that is read is spelled.
use Rattle.std.proofs.Common.{◌≡◌, ℕ, zero, suc, ◌+◌, ◌^◌, ◌≤◌, ◌<◌, Bool, true, false, cond, eqb, ltb, not, ◌&&◌, ◌||◌, List, [], ◌∷◌, ◌++◌, length, take, drop, map, Ok, Err, refl, sym, ap, subst, ◌∙◌, arith, codes, inl, inr}
use Rattle.std.specs.Int.{w8, w16, w32, from_be_bytes}
use Rattle.std.specs.List.{AllByRecursion, flat_map}
use Rattle.std.proofs.lemmas.Bool.{ltb-false, eqb-true, cases_lt}
use Rattle.std.proofs.lemmas.List.{length-take, length-map, take-append-drop, nil_from_length}
use Rattle.std.proofs.lemmas.Nat.{be_bytes_2, be_bytes_4}
use Rattle.mls_model.specs.declared.lanes.TapeWhy.TheVariants as why
use Rattle.mls_model.specs.Numbers.{same_bytes}
use Rattle.mls_model.specs.Frames.{u16, u32}
use Rattle.mls_model.specs.Lanes.{◌>>=◌, Read, TapeRefusal, refused, bytes_at, number_at, Lane, LaneBytes, kind_of, lane_at, lanes_at, samples_byte, lane_bytes_of, lane_frames, lane_of, with_events, tape_of, most_events, SpelledLane, kind_code, lane_spelling, samples_spelling, tape_bytes, is_tape_version, IsSpelledLane, event_sum, lane_spelled, SpellsTape}
use Rattle.mls_frame.specs.Views.{AreBytes}
use Rattle.mls_frame.proofs.Places.{AreBytes-take, number_16-below, number_32-below}
use Rattle.mls_tape.proofs.Tables.{bind_ok, guard_ok, test_ok, ok_pair, ok_lanes, ok_numbers, ended, not_many, held_below, bytes_left, after_size, after_held, after_rank, after_known, after_kind, after_some, after_count, after_head, after_version, after_number, after_magic, after_mark}
use Rattle.mls_tape.proofs.Counting.{counted_one, counted_over}

-- tests that let a value pass
was_false : {A : Type 0} (b : Bool) (d : TapeRefusal) (x y : A) → cond b (Err d) (Ok x) ≡ Ok y → b ≡ false
was_false true d x y e = absurd cc
was_false false d x y e = refl

was_true : {A : Type 0} (b : Bool) (d : TapeRefusal) (x y : A) → cond b (Ok x) (Err d) ≡ Ok y → b ≡ true
was_true true d x y e = refl
was_true false d x y e = absurd cc

-- ---- fields

-- a text, and what is left behind it
record IsFront (bytes text rest : List ℕ) : Type 0 where
  split : bytes ≡ text ++ rest
  left : AreBytes rest

bytes_behind : (xs ys : List ℕ) → AreBytes (xs ++ ys) → AreBytes ys
bytes_behind [] ys h = h
bytes_behind (x ∷ xs) ys h = bytes_behind xs ys (λ (k : ℕ). h (suc k))

front_of : (bytes text rest : List ℕ) → AreBytes bytes → bytes ≡ text ++ rest → IsFront bytes text rest
front_of bytes text rest h e = record { split = e; left = bytes_behind text rest (subst AreBytes e h) }

byte_is : (bytes : List ℕ) → 1 ≤ length bytes → bytes ≡ from_be_bytes w8 (take 1 bytes) ∷ drop 1 bytes
byte_is [] some = absurd (omega arith)
byte_is (x ∷ xs) some =
    let same : x ≡ from_be_bytes w8 (x ∷ []) = omega arith in
    ap (λ (n : ℕ). n ∷ xs) same

byte_back : (at : ℕ) (bytes : List ℕ) (x : ℕ × List ℕ) → AreBytes bytes → number_at w8 at bytes ≡ Ok x → IsFront bytes (x.0 ∷ []) x.1
byte_back at bytes x h e =
    let d : TapeRefusal = record { at = at; why = why.Cut } in
    let some = ltb-false (length bytes) 1 (was_false _ d _ x e) in
    let both = guard_ok (ltb (length bytes) 1) d (from_be_bytes w8 (take 1 bytes), drop 1 bytes) x e in
    front_of bytes (x.0 ∷ []) x.1 h (byte_is bytes some ∙ ap (λ (p : ℕ × List ℕ). p.0 ∷ p.1) both)

number_16_back : (at : ℕ) (bytes : List ℕ) (x : ℕ × List ℕ) → AreBytes bytes → number_at w16 at bytes ≡ Ok x → IsFront bytes (u16 x.0) x.1 × (x.0 < 2 ^ 16)
number_16_back at bytes x h e =
    let d : TapeRefusal = record { at = at; why = why.Cut } in
    let some = ltb-false (length bytes) 2 (was_false _ d _ x e) in
    let both = guard_ok (ltb (length bytes) 2) d (from_be_bytes w16 (take 2 bytes), drop 2 bytes) x e in
    let text : u16 (from_be_bytes w16 (take 2 bytes)) ≡ take 2 bytes = be_bytes_2 (take 2 bytes) _ (omega (arith, length-take 2 bytes)) (AreBytes-take 2 bytes h) refl in
    let split = sym (take-append-drop 2 bytes) ∙ ap (λ (t : List ℕ). t ++ drop 2 bytes) (sym text) ∙ ap (λ (p : ℕ × List ℕ). u16 p.0 ++ p.1) both in
    (front_of bytes (u16 x.0) x.1 h split, subst (λ (p : ℕ × List ℕ). p.0 < 2 ^ 16) both (number_16-below 0 bytes h))

number_32_back : (at : ℕ) (bytes : List ℕ) (x : ℕ × List ℕ) → AreBytes bytes → number_at w32 at bytes ≡ Ok x → IsFront bytes (u32 x.0) x.1 × (x.0 < 2 ^ 32)
number_32_back at bytes x h e =
    let d : TapeRefusal = record { at = at; why = why.Cut } in
    let some = ltb-false (length bytes) 4 (was_false _ d _ x e) in
    let both = guard_ok (ltb (length bytes) 4) d (from_be_bytes w32 (take 4 bytes), drop 4 bytes) x e in
    let text : u32 (from_be_bytes w32 (take 4 bytes)) ≡ take 4 bytes = be_bytes_4 (take 4 bytes) _ (omega (arith, length-take 4 bytes)) (AreBytes-take 4 bytes h) refl in
    let split = sym (take-append-drop 4 bytes) ∙ ap (λ (t : List ℕ). t ++ drop 4 bytes) (sym text) ∙ ap (λ (p : ℕ × List ℕ). u32 p.0 ++ p.1) both in
    (front_of bytes (u32 x.0) x.1 h split, subst (λ (p : ℕ × List ℕ). p.0 < 2 ^ 32) both (number_32-below 0 bytes h))

bytes_size : (n at : ℕ) (bytes : List ℕ) (x : List ℕ × List ℕ) → bytes_at n at bytes ≡ Ok x → length x.0 ≡ n
bytes_size n at bytes x e =
    let d : TapeRefusal = record { at = at; why = why.Cut } in
    let some = ltb-false (length bytes) n (was_false _ d _ x e) in
    let both = guard_ok (ltb (length bytes) n) d (take n bytes, drop n bytes) x e in
    omega (arith, ap (λ (p : List ℕ × List ℕ). length p.0) both, length-take n bytes)

-- ---- a lane

-- how the lane is spelled, wherever it stands
abbrev pub spelled_of : LaneBytes → SpelledLane
spelled_of p = record { rank = p.rank; kind = p.kind; bytes = p.bytes }

code_again : (code : ℕ) → code ≤ 1 → kind_code (kind_of code) ≡ code
code_again zero few = refl
code_again (suc zero) few = refl
code_again (suc (suc n)) few = absurd (omega arith)

all_bytes : (xs : List ℕ) → AreBytes xs → AllByRecursion (λ b. b < 256) xs
all_bytes [] h = tt
all_bytes (x ∷ xs) h = (h 0, all_bytes xs (λ (k : ℕ). h (suc k)))

bytes_before : (xs ys : List ℕ) → AreBytes (xs ++ ys) → AreBytes xs
bytes_before [] ys h zero = omega arith
bytes_before [] ys h (suc i) = omega arith
bytes_before (x ∷ xs) ys h zero = h 0
bytes_before (x ∷ xs) ys h (suc i) = bytes_before xs ys (λ (k : ℕ). h (suc k)) i

record IsLane (ranks : ℕ) (rest : List ℕ) (p : LaneBytes) (after : List ℕ) : Type 0 where
  front : IsFront rest (lane_spelling (spelled_of p)) after
  fits : IsSpelledLane ranks (spelled_of p)

-- the lane of these numbers and bytes
made_lane : (ranks at : ℕ) (rest bytes after : List ℕ) (code rank : ℕ) → AreBytes rest → code ≤ 1 → rank < ranks → rank < 2 ^ 16 → length bytes < 2 ^ 32
    → rest ≡ code ∷ (u16 rank ++ (u32 (length bytes) ++ (bytes ++ after)))
    → IsLane ranks rest (record { rank = rank; kind = kind_of code; at = at + 7; bytes = bytes }) after
unfolding lane_spelling
made_lane ranks at rest bytes after code rank h few known fits size is =
    let spelled : SpelledLane = record { rank = rank; kind = kind_of code; bytes = bytes } in
    let coded : code ∷ (u16 rank ++ (u32 (length bytes) ++ (bytes ++ after))) ≡ lane_spelling spelled ++ after = ap (λ (k : ℕ). k ∷ (u16 rank ++ (u32 (length bytes) ++ (bytes ++ after)))) (sym (code_again code few)) in
    let fields : AreBytes (bytes ++ after) = bytes_behind (code ∷ (u16 rank ++ u32 (length bytes))) (bytes ++ after) (subst AreBytes is h) in
    record {
      front = front_of rest (lane_spelling spelled) after h (is ∙ coded);
      fits = record { rank = known; rank_fits = fits; size_fits = size; bytes = all_bytes bytes (bytes_before bytes after fields) };
    }

lane_back : (ranks at : ℕ) (rest : List ℕ) (p : LaneBytes) (after : List ℕ) → AreBytes rest → lane_at ranks at rest ≡ Ok (p, after) → IsLane ranks rest p after
unfolding lane_at
lane_back ranks at rest p after h e =
    let a = bind_ok (number_at w8 at rest) (after_kind ranks at) (p, after) e in
    let b = bind_ok (cond (ltb 1 a.0.0) (refused at why.LaneKind) (Ok a.0)) (after_known ranks at) (p, after) a.2 in
    let c = bind_ok (number_at w16 (at + 1) b.0.1) (after_rank ranks at b.0) (p, after) b.2 in
    let d = bind_ok (cond (ltb c.0.0 ranks) (Ok c.0) (refused (at + 1) why.LaneRank)) (after_held at b.0) (p, after) c.2 in
    let f = bind_ok (number_at w32 (at + 3) d.0.1) (after_size at b.0 d.0) (p, after) d.2 in
    let g = bind_ok (bytes_at f.0.0 (at + 7) f.0.1) (λ lane. Ok (record { rank = d.0.0; kind = kind_of b.0.0; at = at + 7; bytes = lane.0 }, lane.1)) (p, after) f.2 in
    let made = ok_pair (record { rank = d.0.0; kind = kind_of b.0.0; at = at + 7; bytes = g.0.0 }) p g.0.1 after g.2 in
    let known : a.0 ≡ b.0 = guard_ok (ltb 1 a.0.0) (record { at = at; why = why.LaneKind }) a.0 b.0 b.1 in
    let held : c.0 ≡ d.0 = test_ok (ltb c.0.0 ranks) (record { at = at + 1; why = why.LaneRank }) c.0 d.0 d.1 in
    let few : b.0.0 ≤ 1 = omega (arith, ltb-false 1 a.0.0 (was_false _ (record { at = at; why = why.LaneKind }) a.0 b.0 b.1), ap (λ (x : ℕ × List ℕ). x.0) known) in
    let kind = subst (λ (x : ℕ × List ℕ). IsFront rest (x.0 ∷ []) x.1) known (byte_back at rest a.0 h a.1) in
    let rank = subst (λ (x : ℕ × List ℕ). IsFront b.0.1 (u16 x.0) x.1 × (x.0 < 2 ^ 16)) held (number_16_back (at + 1) b.0.1 c.0 kind.left c.1) in
    let size = number_32_back (at + 3) d.0.1 f.0 rank.0.left f.1 in
    let long = bytes_size f.0.0 (at + 7) f.0.1 g.0 g.1 in
    let split : rest ≡ b.0.0 ∷ (u16 d.0.0 ++ (u32 (length g.0.0) ++ (g.0.0 ++ g.0.1))) =
    kind.split ∙ ap (λ (t : List ℕ). b.0.0 ∷ t) (rank.0.split ∙ ap (λ (t : List ℕ). u16 d.0.0 ++ t) (size.0.split
    ∙ ap (λ (t : List ℕ). u32 f.0.0 ++ t) (bytes_left f.0.0 (at + 7) f.0.1 g.0 g.1) ∙ ap (λ (n : ℕ). u32 n ++ (g.0.0 ++ g.0.1)) (sym long))) in
    let lane = made_lane ranks at rest g.0.0 g.0.1 b.0.0 d.0.0 h few (held_below ranks (at + 1) c.0 d.0 d.1) rank.1 (omega (arith, long, size.1)) split in
    subst (λ (q : LaneBytes). IsLane ranks rest q after) made.0 (subst (λ (t : List ℕ). IsLane ranks rest (record { rank = d.0.0; kind = kind_of b.0.0; at = at + 7; bytes = g.0.0 }) t) made.1 lane)

-- ---- the lanes

record AreLanes (ranks n : ℕ) (rest : List ℕ) (ps : List LaneBytes) : Type 0 where
  count : length ps ≡ n
  split : rest ≡ flat_map lane_spelling (map spelled_of ps)
  fits : AllByRecursion (IsSpelledLane ranks) (map spelled_of ps)

nothing_left : (bytes : List ℕ) (ps : List LaneBytes) (d : TapeRefusal) → ◌≡◌ {A = Read (List LaneBytes)} (cond (eqb (length bytes) 0) (Ok []) (Err d)) (Ok ps) → bytes ≡ []
nothing_left bytes ps d e = nil_from_length bytes (eqb-true (length bytes) 0 (was_true (eqb (length bytes) 0) d [] ps e))

lanes_back : (n ranks at : ℕ) (rest : List ℕ) (ps : List LaneBytes) → AreBytes rest → lanes_at n ranks at rest ≡ Ok ps → AreLanes ranks n rest ps
unfolding lanes_at
lanes_back zero ranks at rest ps h e =
    let d : TapeRefusal = record { at = at; why = why.Trailing } in
    subst (λ (qs : List LaneBytes). AreLanes ranks 0 rest qs) (ended (eqb (length rest) 0) d ps e) (record { count = refl; split = nothing_left rest ps d e; fits = tt })
lanes_back (suc n) ranks at rest ps h e =
    let a = bind_ok (lane_at ranks at rest) (λ lane. lanes_at n ranks (at + (7 + length lane.0.bytes)) lane.1 >>= λ others. Ok (lane.0 ∷ others)) ps e in
    let b = bind_ok (lanes_at n ranks (at + (7 + length a.0.0.bytes)) a.0.1) (λ others. Ok (a.0.0 ∷ others)) ps a.2 in
    let lane = lane_back ranks at rest a.0.0 a.0.1 h a.1 in
    let others = lanes_back n ranks (at + (7 + length a.0.0.bytes)) a.0.1 b.0 lane.front.left b.1 in
    subst (λ (qs : List LaneBytes). AreLanes ranks (suc n) rest qs) (ok_lanes (a.0.0 ∷ b.0) ps b.2) (record {
      count = ap suc others.count;
      split = lane.front.split ∙ ap (λ (t : List ℕ). lane_spelling (spelled_of a.0.0) ++ t) others.split;
      fits = (lane.fits, others.fits);
    })

-- ---- the head

same_step : (x y : ℕ) (xs ys : List ℕ) (b : Bool) → eqb x y ≡ b → (b && same_bytes xs ys) ≡ true → (same_bytes xs ys ≡ true → xs ≡ ys) → ◌≡◌ {A = List ℕ} (x ∷ xs) (y ∷ ys)
same_step x y xs ys true t e h = ap (λ (k : ℕ). k ∷ xs) (eqb-true x y t) ∙ ap (λ (zs : List ℕ). y ∷ zs) (h e)
same_step x y xs ys false t e h = absurd cc

same_text : (xs ys : List ℕ) → same_bytes xs ys ≡ true → xs ≡ ys
same_text [] [] e = refl
same_text [] (y ∷ ys) e = absurd cc
same_text (x ∷ xs) [] e = absurd cc
same_text (x ∷ xs) (y ∷ ys) e = same_step x y xs ys (eqb x y) refl e (same_text xs ys)

samples_test_back : (signed one : Bool) (bytes : List ℕ) (x : ℕ × List ℕ) → AreBytes bytes → cond one (Ok (6, bytes)) (number_at w8 6 bytes >>= λ kind. cond (eqb kind.0 (cond signed 1 0)) (Ok (7, kind.1)) (refused 6 why.Samples)) ≡ Ok x → IsFront bytes (cond one [] (cond signed 1 0 ∷ [])) x.1
samples_test_back signed true bytes x h e = front_of bytes [] x.1 h (ap (λ (y : ℕ × List ℕ). y.1) (ok_numbers (6, bytes) x e))
samples_test_back signed false bytes x h e =
    let d : TapeRefusal = record { at = 6; why = why.Samples } in
    let a = bind_ok (number_at w8 6 bytes) (λ kind. cond (eqb kind.0 (cond signed 1 0)) (Ok (7, kind.1)) (refused 6 why.Samples)) x e in
    let same = eqb-true a.0.0 (cond signed 1 0) (was_true _ d (7, a.0.1) x a.2) in
    let left = ap (λ (y : ℕ × List ℕ). y.1) (test_ok (eqb a.0.0 (cond signed 1 0)) d (7, a.0.1) x a.2) in
    front_of bytes (cond signed 1 0 ∷ []) x.1 h ((byte_back 6 bytes a.0 h a.1).split ∙ ap (λ (k : ℕ). k ∷ a.0.1) same ∙ ap (λ (t : List ℕ). cond signed 1 0 ∷ t) left)

samples_back : (signed : Bool) (version : ℕ) (bytes : List ℕ) (x : ℕ × List ℕ) → AreBytes bytes → samples_byte signed version bytes ≡ Ok x → IsFront bytes (samples_spelling signed version) x.1
unfolding samples_byte
samples_back signed version bytes x h e = samples_test_back signed (eqb version 1) bytes x h e

-- what was read of a whole table
record IsTable (ranks : ℕ) (signed : Bool) (tape : List ℕ) (ps : List LaneBytes) : Type 0 where
  version : ℕ
  version_is : is_tape_version signed version ≡ true
  split : tape ≡ tape_bytes signed version (map spelled_of ps)
  few : length (map spelled_of ps) ≤ 65535
  fits : AllByRecursion (IsSpelledLane ranks) (map spelled_of ps)

table_back : (ranks : ℕ) (signed : Bool) (tape : List ℕ) (ps : List LaneBytes) → AreBytes tape → lane_bytes_of ranks signed tape ≡ Ok ps → IsTable ranks signed tape ps
unfolding lane_bytes_of tape_bytes
table_back ranks signed tape ps bytes e =
    let a = bind_ok (bytes_at 4 0 tape) (after_mark ranks signed) ps e in
    let b = bind_ok (cond (same_bytes a.0.0 (codes "MTAP")) (Ok a.0) (refused 0 why.Magic)) (after_magic ranks signed) ps a.2 in
    let c = bind_ok (number_at w16 4 b.0.1) (after_number ranks signed) ps b.2 in
    let d = bind_ok (cond ((eqb c.0.0 2) || ((eqb c.0.0 1) && not signed)) (Ok c.0) (refused 4 why.Version)) (after_version ranks signed) ps c.2 in
    let f = bind_ok (samples_byte signed d.0.0 d.0.1) (after_head ranks) ps d.2 in
    let g = bind_ok (number_at w32 f.0.0 f.0.1) (after_count ranks f.0) ps f.2 in
    let h = bind_ok (cond (ltb 65535 g.0.0) (refused f.0.0 why.TooManyLanes) (Ok g.0)) (after_some ranks f.0) ps g.2 in
    let marked : a.0 ≡ b.0 = test_ok (same_bytes a.0.0 (codes "MTAP")) (record { at = 0; why = why.Magic }) a.0 b.0 b.1 in
    let known : c.0 ≡ d.0 = test_ok ((eqb c.0.0 2) || ((eqb c.0.0 1) && not signed)) (record { at = 4; why = why.Version }) c.0 d.0 d.1 in
    let some : g.0 ≡ h.0 = guard_ok (ltb 65535 g.0.0) (record { at = f.0.0; why = why.TooManyLanes }) g.0 h.0 h.1 in
    let magic = same_text a.0.0 (codes "MTAP") (was_true _ (record { at = 0; why = why.Magic }) a.0 b.0 b.1) in
    let mark = front_of tape (codes "MTAP") b.0.1 bytes (bytes_left 4 0 tape a.0 a.1 ∙ ap (λ (t : List ℕ). t ++ a.0.1) magic ∙ ap (λ (x : List ℕ × List ℕ). codes "MTAP" ++ x.1) marked) in
    let version = subst (λ (x : ℕ × List ℕ). IsFront b.0.1 (u16 x.0) x.1 × (x.0 < 2 ^ 16)) known (number_16_back 4 b.0.1 c.0 mark.left c.1) in
    let sampled = samples_back signed d.0.0 d.0.1 f.0 version.0.left f.1 in
    let count = subst (λ (x : ℕ × List ℕ). IsFront f.0.1 (u32 x.0) x.1 × (x.0 < 2 ^ 32)) some (number_32_back f.0.0 f.0.1 g.0 sampled.left g.1) in
    let lanes = lanes_back h.0.0 ranks (f.0.0 + 4) h.0.1 ps count.0.left h.2 in
    let long : length (map spelled_of ps) ≡ h.0.0 = length-map ps spelled_of ∙ lanes.count in
    record {
      version = d.0.0;
      version_is = subst (λ (x : ℕ × List ℕ). is_tape_version signed x.0 ≡ true) known (was_true _ (record { at = 4; why = why.Version }) c.0 d.0 d.1);
      split = mark.split ∙ ap (λ (t : List ℕ). codes "MTAP" ++ t) (version.0.split ∙ ap (λ (t : List ℕ). u16 d.0.0 ++ t) (sampled.split
          ∙ ap (λ (t : List ℕ). samples_spelling signed d.0.0 ++ t) (count.0.split ∙ ap (λ (t : List ℕ). u32 h.0.0 ++ t) lanes.split
          ∙ ap (λ (n : ℕ). u32 n ++ flat_map lane_spelling (map spelled_of ps)) (sym long))));
      few = omega (arith, long, not_many f.0.0 g.0 h.0 (ltb 65535 g.0.0) refl h.1);
      fits = lanes.fits;
    }

-- ---- the events

record AreCounted (before : ℕ) (ps : List LaneBytes) (lanes : List Lane) : Type 0 where
  few : before + event_sum (map spelled_of ps) ≤ most_events
  made : lanes ≡ map lane_spelled (map spelled_of ps)

ok_made : (x y : List Lane) → ◌≡◌ {A = Read (List Lane)} (Ok x) (Ok y) → x ≡ y
ok_made x y e = cc

never_made : (d : TapeRefusal) (lanes : List Lane) → ◌≡◌ {A = Read (List Lane)} (Err d) (Ok lanes) → ⊥
never_made d lanes e = cc

events_back : (before : ℕ) (ps : List LaneBytes) (lanes : List Lane) → before ≤ most_events → with_events before ps ≡ Ok lanes → AreCounted before ps lanes
unfolding with_events
events_back before [] lanes few e = record { few = omega arith; made = sym (ok_made [] lanes e) }
events_back before (p ∷ ps) lanes few e = elim (cases_lt most_events (before + length (lane_frames p.bytes))) [
  | inl many ↦ absurd (never_made (record { at = p.at; why = why.TooManyEvents }) lanes (sym (counted_over before p ps many) ∙ e))
  | inr less ↦
      let a = bind_ok (with_events (before + length (lane_frames p.bytes)) ps) (λ others. Ok (lane_of p.rank p.kind p.bytes ∷ others)) lanes (sym (counted_one before p ps less) ∙ e) in
      let others = events_back (before + length (lane_frames p.bytes)) ps a.0 less a.1 in
      record {
        few = omega (arith, others.few);
        made = sym (ok_made (lane_of p.rank p.kind p.bytes ∷ a.0) lanes a.2) ∙ ap (λ (ls : List Lane). lane_of p.rank p.kind p.bytes ∷ ls) others.made;
      }
]

pub tape_is_spelled : (ranks : ℕ) (signed : Bool) (bytes : List ℕ) (lanes : List Lane) → AreBytes bytes → tape_of ranks signed bytes ≡ Ok lanes → SpellsTape ranks signed bytes lanes
unfolding tape_of
tape_is_spelled ranks signed bytes lanes h e =
    let a = bind_ok (lane_bytes_of ranks signed bytes) (with_events 0) lanes e in
    let table = table_back ranks signed bytes a.0 h a.1 in
    let events = events_back 0 a.0 lanes (omega arith) a.2 in
    record {
      version = table.version;
      spelled = map spelled_of a.0;
      version_is = table.version_is;
      is_spelling = table.split;
      few_lanes = table.few;
      each = table.fits;
      few_events = omega (arith, events.few);
      are_lanes = events.made;
    }
