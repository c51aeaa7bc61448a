-- The tables of a tape are those of its lanes.
use Rattle.std.proofs.Common.{◌≡◌, ℕ, zero, suc, ◌+◌, ◌≤◌, ◌<◌, Bool, true, false, cond, eqb, ltb, not, ◌&&◌, ◌||◌, List, [], ◌∷◌, ◌++◌, length, take, drop, map, get_or, Some, Ok, Err, refl, sym, ap, subst, ◌∙◌, append_assoc, arith, codes, inl, inr}
use Rattle.std.specs.Int.{w8, w16, w32, Width, byte_len, from_be_bytes}
use Rattle.std.specs.List.{AllByRecursion}
use Rattle.std.proofs.lemmas.Bool.{ltb-true, ltb-false, cases_lt}
use Rattle.std.proofs.lemmas.List.{take-append-drop, drop-drop, length-append, get_or_append_left, get_or-append-add, get_or_past, drop_at}
use Rattle.mls_model.specs.declared.lanes.TapeWhy.TheVariants as why
use Rattle.mls_model.specs.Numbers.{joined, element, same_bytes}
use Rattle.mls_model.specs.Frames.{Frame, IsFrame, spelling, whole, sight}
use Rattle.mls_model.specs.Lanes.{◌>>=◌, Read, TapeRefusal, refused, bytes_at, number_at, Lane, LaneBytes, kind_of, lane_at, lanes_at, samples_byte, lane_bytes_of, lane_frames, lane_rest, lane_of, with_events, tape_of}
use Rattle.mls_frame.specs.Views.{AreBytes}
use Rattle.mls_frame.proofs.Places.{AreBytes-drop}
use Rattle.mls_frame.proofs.Again.{seen_again}
use Rattle.mls_tape.specs.declared.faults.TapeFault.{TapeFault}
use Rattle.mls_tape.specs.declared.faults.TapeFault.TheVariants as faults
use Rattle.mls_tape.specs.declared.scanning.Entry.{Entry}
use Rattle.mls_tape.specs.Reading.{Fails}
use Rattle.mls_tape.specs.Scans.{starts_from, all_starts, lanes_made, entries_of, AreStarts, AreAllStarts, lanes_in, TablesFit}
use Rattle.mls_tape.proofs.LaneLemmas.{lane_events}

-- the value of a step that did not fail
pub bind_ok : {A B : Type 0} (r : Read A) (f : A → Read B) (y : B) → (r >>= f) ≡ Ok y → (x : A) × (r ≡ Ok x) × (f x ≡ Ok y)
bind_ok (Ok x) f y e = (x, refl, e)
bind_ok (Err d) f y e = absurd cc

-- tests that did not fail
pub guard_ok : {A : Type 0} (b : Bool) (d : TapeRefusal) (x y : A) → cond b (Err d) (Ok x) ≡ Ok y → x ≡ y
guard_ok true d x y e = absurd cc
guard_ok false d x y e = cc

pub test_ok : {A : Type 0} (b : Bool) (d : TapeRefusal) (x y : A) → cond b (Ok x) (Err d) ≡ Ok y → x ≡ y
test_ok true d x y e = cc
test_ok false d x y e = absurd cc

pub number_left : (w : Width) (at : ℕ) (bytes : List ℕ) (x : ℕ × List ℕ) → number_at w at bytes ≡ Ok x → x.1 ≡ drop (byte_len w) bytes
number_left w at bytes x e =
    let both = guard_ok (ltb (length bytes) (byte_len w)) (record { at = at; why = why.Cut }) (from_be_bytes w (take (byte_len w) bytes), drop (byte_len w) bytes) x e in
    ap (λ (p : ℕ × List ℕ). p.1) (sym both)

pub bytes_left : (n at : ℕ) (bytes : List ℕ) (x : List ℕ × List ℕ) → bytes_at n at bytes ≡ Ok x → bytes ≡ x.0 ++ x.1
bytes_left n at bytes x e =
    let both = guard_ok (ltb (length bytes) n) (record { at = at; why = why.Cut }) (take n bytes, drop n bytes) x e in
    sym (take-append-drop n bytes) ∙ ap (λ (p : List ℕ × List ℕ). p.0 ++ p.1) both

-- ---- where a lane's bytes stand

abbrev pub after_size : ℕ → ℕ × List ℕ → ℕ × List ℕ → ℕ × List ℕ → Read (LaneBytes × List ℕ)
after_size at known held size = bytes_at size.0 (at + 7) size.1 >>= λ lane. Ok (record { rank = held.0; kind = kind_of known.0; at = at + 7; bytes = lane.0 }, lane.1)

abbrev pub after_held : ℕ → ℕ × List ℕ → ℕ × List ℕ → Read (LaneBytes × List ℕ)
after_held at known held = number_at w32 (at + 3) held.1 >>= after_size at known held

abbrev pub after_rank : ℕ → ℕ → ℕ × List ℕ → ℕ × List ℕ → Read (LaneBytes × List ℕ)
after_rank ranks at known rank = cond (ltb rank.0 ranks) (Ok rank) (refused (at + 1) why.LaneRank) >>= after_held at known

abbrev pub after_known : ℕ → ℕ → ℕ × List ℕ → Read (LaneBytes × List ℕ)
after_known ranks at known = number_at w16 (at + 1) known.1 >>= after_rank ranks at known

abbrev pub after_kind : ℕ → ℕ → ℕ × List ℕ → Read (LaneBytes × List ℕ)
after_kind ranks at kind = cond (ltb 1 kind.0) (refused at why.LaneKind) (Ok kind) >>= after_known ranks at

-- the bytes stand in a list from a place on
pub record Stands (tape : List ℕ) (p : LaneBytes) : Type 0 where
  pub more : List ℕ
  pub split : drop p.at tape ≡ p.bytes ++ more

pub ok_lane : (x y : LaneBytes × List ℕ) → ◌≡◌ {A = Read (LaneBytes × List ℕ)} (Ok x) (Ok y) → x ≡ y
ok_lane x y e = cc

pub ok_pair : (p q : LaneBytes) (x y : List ℕ) → ◌≡◌ {A = Read (LaneBytes × List ℕ)} (Ok (p, x)) (Ok (q, y)) → (p ≡ q) × (x ≡ y)
ok_pair p q x y e =
    let same = ok_lane (p, x) (q, y) e in
    (ap (λ (r : LaneBytes × List ℕ). r.0) same, ap (λ (r : LaneBytes × List ℕ). r.1) same)

held_test : (ranks at : ℕ) (x y : ℕ × List ℕ) (b : Bool) → ltb x.0 ranks ≡ b → cond b (Ok x) (refused at why.LaneRank) ≡ Ok y → y.0 < ranks
held_test ranks at x y true t e =
    let same : x ≡ y = test_ok true (record { at = at; why = why.LaneRank }) x y e in
    subst (λ (z : ℕ × List ℕ). z.0 < ranks) same (ltb-true x.0 ranks t)
held_test ranks at x y false t e = absurd cc

pub held_below : (ranks at : ℕ) (x y : ℕ × List ℕ) → cond (ltb x.0 ranks) (Ok x) (refused at why.LaneRank) ≡ Ok y → y.0 < ranks
held_below ranks at x y e = held_test ranks at x y (ltb x.0 ranks) refl e

-- what was read of one lane
pub record IsLaneAt (ranks at : ℕ) (rest : List ℕ) (p : LaneBytes) (after : List ℕ) : Type 0 where
  pub place : p.at ≡ at + 7
  pub split : drop 7 rest ≡ p.bytes ++ after
  pub rank : p.rank < ranks

lane_place : (ranks at : ℕ) (rest : List ℕ) (p : LaneBytes) (after : List ℕ) → lane_at ranks at rest ≡ Ok (p, after) → IsLaneAt ranks at rest p after
unfolding lane_at
lane_place ranks at rest p after e =
    let a = bind_ok (number_at w8 at rest) (after_kind ranks at) (p, after) e in
    let b = bind_ok (cond (ltb 1 a.0.0) (refused at why.LaneKind) (Ok a.0)) (after_known ranks at) (p, after) a.2 in
    let c = bind_ok (number_at w16 (at + 1) b.0.1) (after_rank ranks at b.0) (p, after) b.2 in
    let d = bind_ok (cond (ltb c.0.0 ranks) (Ok c.0) (refused (at + 1) why.LaneRank)) (after_held at b.0) (p, after) c.2 in
    let f = bind_ok (number_at w32 (at + 3) d.0.1) (after_size at b.0 d.0) (p, after) d.2 in
    let g = bind_ok (bytes_at f.0.0 (at + 7) f.0.1) (λ lane. Ok (record { rank = d.0.0; kind = kind_of b.0.0; at = at + 7; bytes = lane.0 }, lane.1)) (p, after) f.2 in
    let made = ok_pair (record { rank = d.0.0; kind = kind_of b.0.0; at = at + 7; bytes = g.0.0 }) p g.0.1 after g.2 in
    let known : a.0 ≡ b.0 = guard_ok (ltb 1 a.0.0) (record { at = at; why = why.LaneKind }) a.0 b.0 b.1 in
    let held : c.0 ≡ d.0 = test_ok (ltb c.0.0 ranks) (record { at = at + 1; why = why.LaneRank }) c.0 d.0 d.1 in
    let one : b.0.1 ≡ drop 1 rest = ap (λ (x : ℕ × List ℕ). x.1) (sym known) ∙ number_left w8 at rest a.0 a.1 in
    let two : d.0.1 ≡ drop 3 rest = ap (λ (x : ℕ × List ℕ). x.1) (sym held) ∙ number_left w16 (at + 1) b.0.1 c.0 c.1 ∙ ap (λ (t : List ℕ). drop 2 t) one ∙ drop-drop 2 1 rest in
    let three : f.0.1 ≡ drop 7 rest = number_left w32 (at + 3) d.0.1 f.0 f.1 ∙ ap (λ (t : List ℕ). drop 4 t) two ∙ drop-drop 4 3 rest in
    record {
      place = ap (λ (q : LaneBytes). q.at) (sym made.0);
      split = sym three ∙ bytes_left f.0.0 (at + 7) f.0.1 g.0 g.1 ∙ ap (λ (q : LaneBytes). q.bytes ++ g.0.1) made.0 ∙ ap (λ (t : List ℕ). p.bytes ++ t) made.1;
      rank = subst (λ (q : LaneBytes). q.rank < ranks) made.0 (held_below ranks (at + 1) c.0 d.0 d.1);
    }

pub ended : (b : Bool) (d : TapeRefusal) (ps : List LaneBytes) → ◌≡◌ {A = Read (List LaneBytes)} (cond b (Ok []) (Err d)) (Ok ps) → [] ≡ ps
ended true d ps e = cc
ended false d ps e = absurd cc

-- each lane's bytes stand in the tape, and its rank is one
pub record IsPart (tape : List ℕ) (ranks : ℕ) (p : LaneBytes) : Type 0 where
  pub stands : Stands tape p
  pub rank : p.rank < ranks

pub ok_lanes : (ps qs : List LaneBytes) → ◌≡◌ {A = Read (List LaneBytes)} (Ok ps) (Ok qs) → ps ≡ qs
ok_lanes ps qs e = cc

parts_at : (n ranks at : ℕ) (rest tape : List ℕ) (ps : List LaneBytes) → drop at tape ≡ rest → lanes_at n ranks at rest ≡ Ok ps → AllByRecursion (IsPart tape ranks) ps
unfolding lanes_at
parts_at zero ranks at rest tape ps is e = subst (λ (qs : List LaneBytes). AllByRecursion (IsPart tape ranks) qs) (ended (eqb (length rest) 0) (record { at = at; why = why.Trailing }) ps e) tt
parts_at (suc n) ranks at rest tape ps is e =
    let a = bind_ok (lane_at ranks at rest) (λ lane. lanes_at n ranks (at + (7 + length lane.0.bytes)) lane.1 >>= λ others. Ok (lane.0 ∷ others)) ps e in
    let b = bind_ok (lanes_at n ranks (at + (7 + length a.0.0.bytes)) a.0.1) (λ others. Ok (a.0.0 ∷ others)) ps a.2 in
    let lane = lane_place ranks at rest a.0.0 a.0.1 a.1 in
    let here : drop (at + 7) tape ≡ a.0.0.bytes ++ a.0.1 = sym (drop-drop 7 at tape) ∙ ap (λ (t : List ℕ). drop 7 t) is ∙ lane.split in
    let place : drop a.0.0.at tape ≡ a.0.0.bytes ++ a.0.1 = ap (λ (k : ℕ). drop k tape) lane.place ∙ here in
    let far : at + (7 + length a.0.0.bytes) ≡ (at + 7) + length a.0.0.bytes = omega arith in
    let later : drop (at + (7 + length a.0.0.bytes)) tape ≡ a.0.1 = ap (λ (k : ℕ). drop k tape) far ∙ sym (drop-drop (length a.0.0.bytes) (at + 7) tape) ∙ ap (λ (t : List ℕ). drop (length a.0.0.bytes) t) here ∙ drop_at a.0.0.bytes a.0.1 (length a.0.0.bytes) refl in
    let others = parts_at n ranks (at + (7 + length a.0.0.bytes)) a.0.1 tape b.0 later b.1 in
    subst (λ (qs : List LaneBytes). AllByRecursion (IsPart tape ranks) qs) (ok_lanes (a.0.0 ∷ b.0) ps b.2) (record { stands = record { more = a.0.1; split = place }; rank = lane.rank }, others)

count_at : (n ranks at : ℕ) (rest : List ℕ) (ps : List LaneBytes) → lanes_at n ranks at rest ≡ Ok ps → length ps ≡ n
unfolding lanes_at
count_at zero ranks at rest ps e = subst (λ (qs : List LaneBytes). length qs ≡ 0) (ended (eqb (length rest) 0) (record { at = at; why = why.Trailing }) ps e) refl
count_at (suc n) ranks at rest ps e =
    let a = bind_ok (lane_at ranks at rest) (λ lane. lanes_at n ranks (at + (7 + length lane.0.bytes)) lane.1 >>= λ others. Ok (lane.0 ∷ others)) ps e in
    let b = bind_ok (lanes_at n ranks (at + (7 + length a.0.0.bytes)) a.0.1) (λ others. Ok (a.0.0 ∷ others)) ps a.2 in
    subst (λ (qs : List LaneBytes). length qs ≡ suc n) (ok_lanes (a.0.0 ∷ b.0) ps b.2) (ap suc (count_at n ranks (at + (7 + length a.0.0.bytes)) a.0.1 b.0 b.1))

pub ok_numbers : (x y : ℕ × List ℕ) → ◌≡◌ {A = Read (ℕ × List ℕ)} (Ok x) (Ok y) → x ≡ y
ok_numbers x y e = cc

pub not_many : (head : ℕ) (x y : ℕ × List ℕ) (b : Bool) → ltb 65535 x.0 ≡ b → cond b (refused head why.TooManyLanes) (Ok x) ≡ Ok y → y.0 ≤ 65535
not_many head x y true t e = absurd cc
not_many head x y false t e =
    let same : x ≡ y = ok_numbers x y e in
    subst (λ (z : ℕ × List ℕ). z.0 ≤ 65535) same (ltb-false 65535 x.0 t)

-- ---- the whole table

abbrev pub after_some : ℕ → ℕ × List ℕ → ℕ × List ℕ → Read (List LaneBytes)
after_some ranks head some = lanes_at some.0 ranks (head.0 + 4) some.1

abbrev pub after_count : ℕ → ℕ × List ℕ → ℕ × List ℕ → Read (List LaneBytes)
after_count ranks head count = cond (ltb 65535 count.0) (refused head.0 why.TooManyLanes) (Ok count) >>= after_some ranks head

abbrev pub after_head : ℕ → ℕ × List ℕ → Read (List LaneBytes)
after_head ranks head = number_at w32 head.0 head.1 >>= after_count ranks head

abbrev pub after_version : ℕ → Bool → ℕ × List ℕ → Read (List LaneBytes)
after_version ranks signed known = samples_byte signed known.0 known.1 >>= after_head ranks

abbrev pub after_number : ℕ → Bool → ℕ × List ℕ → Read (List LaneBytes)
after_number ranks signed version = cond ((eqb version.0 2) || ((eqb version.0 1) && not signed)) (Ok version) (refused 4 why.Version) >>= after_version ranks signed

abbrev pub after_magic : ℕ → Bool → List ℕ × List ℕ → Read (List LaneBytes)
after_magic ranks signed marked = number_at w16 4 marked.1 >>= after_number ranks signed

abbrev pub after_mark : ℕ → Bool → List ℕ × List ℕ → Read (List LaneBytes)
after_mark ranks signed magic = cond (same_bytes magic.0 (codes "MTAP")) (Ok magic) (refused 0 why.Magic) >>= after_magic ranks signed

-- the samples byte stands after the version
samples_test : (signed one : Bool) (tape bytes : List ℕ) (x : ℕ × List ℕ) → drop 6 tape ≡ bytes → cond one (Ok (6, bytes)) (number_at w8 6 bytes >>= λ kind. cond (eqb kind.0 (cond signed 1 0)) (Ok (7, kind.1)) (refused 6 why.Samples)) ≡ Ok x → drop x.0 tape ≡ x.1
samples_test signed true tape bytes x is e =
    let same : (6, bytes) ≡ x = ok_numbers (6, bytes) x e in
    subst (λ (y : ℕ × List ℕ). drop y.0 tape ≡ y.1) same is
samples_test signed false tape bytes x is e =
    let a = bind_ok (number_at w8 6 bytes) (λ kind. cond (eqb kind.0 (cond signed 1 0)) (Ok (7, kind.1)) (refused 6 why.Samples)) x e in
    let same = test_ok (eqb a.0.0 (cond signed 1 0)) (record { at = 6; why = why.Samples }) (7, a.0.1) x a.2 in
    let seven : drop 7 tape ≡ a.0.1 = sym (drop-drop 1 6 tape) ∙ ap (λ (t : List ℕ). drop 1 t) is ∙ sym (number_left w8 6 bytes a.0 a.1) in
    subst (λ (y : ℕ × List ℕ). drop y.0 tape ≡ y.1) same seven

samples_left : (signed : Bool) (version : ℕ) (tape bytes : List ℕ) (x : ℕ × List ℕ) → drop 6 tape ≡ bytes → samples_byte signed version bytes ≡ Ok x → drop x.0 tape ≡ x.1
unfolding samples_byte
samples_left signed version tape bytes x is e = samples_test signed (eqb version 1) tape bytes x is e

pub bytes_drop : (n at : ℕ) (bytes : List ℕ) (x : List ℕ × List ℕ) → bytes_at n at bytes ≡ Ok x → x.1 ≡ drop n bytes
bytes_drop n at bytes x e = ap (λ (p : List ℕ × List ℕ). p.1) (sym (guard_ok (ltb (length bytes) n) (record { at = at; why = why.Cut }) (take n bytes, drop n bytes) x e))

pub parts_of : (ranks : ℕ) (signed : Bool) (tape : List ℕ) (ps : List LaneBytes) → lane_bytes_of ranks signed tape ≡ Ok ps → AllByRecursion (IsPart tape ranks) ps × (length ps ≤ 65535)
unfolding lane_bytes_of
parts_of ranks signed tape ps e =
    let a = bind_ok (bytes_at 4 0 tape) (after_mark ranks signed) ps e in
    let b = bind_ok (cond (same_bytes a.0.0 (codes "MTAP")) (Ok a.0) (refused 0 why.Magic)) (after_magic ranks signed) ps a.2 in
    let c = bind_ok (number_at w16 4 b.0.1) (after_number ranks signed) ps b.2 in
    let d = bind_ok (cond ((eqb c.0.0 2) || ((eqb c.0.0 1) && not signed)) (Ok c.0) (refused 4 why.Version)) (after_version ranks signed) ps c.2 in
    let f = bind_ok (samples_byte signed d.0.0 d.0.1) (after_head ranks) ps d.2 in
    let g = bind_ok (number_at w32 f.0.0 f.0.1) (after_count ranks f.0) ps f.2 in
    let h = bind_ok (cond (ltb 65535 g.0.0) (refused f.0.0 why.TooManyLanes) (Ok g.0)) (after_some ranks f.0) ps g.2 in
    let marked : a.0 ≡ b.0 = test_ok (same_bytes a.0.0 (codes "MTAP")) (record { at = 0; why = why.Magic }) a.0 b.0 b.1 in
    let known : c.0 ≡ d.0 = test_ok ((eqb c.0.0 2) || ((eqb c.0.0 1) && not signed)) (record { at = 4; why = why.Version }) c.0 d.0 d.1 in
    let some : g.0 ≡ h.0 = guard_ok (ltb 65535 g.0.0) (record { at = f.0.0; why = why.TooManyLanes }) g.0 h.0 h.1 in
    let four : b.0.1 ≡ drop 4 tape = ap (λ (x : List ℕ × List ℕ). x.1) (sym marked) ∙ bytes_drop 4 0 tape a.0 a.1 in
    let six : drop 6 tape ≡ d.0.1 = sym (drop-drop 2 4 tape) ∙ ap (λ (t : List ℕ). drop 2 t) (sym four) ∙ sym (number_left w16 4 b.0.1 c.0 c.1) ∙ ap (λ (x : ℕ × List ℕ). x.1) known in
    let head : drop f.0.0 tape ≡ f.0.1 = samples_left signed d.0.0 tape d.0.1 f.0 six f.1 in
    let lanes : drop (f.0.0 + 4) tape ≡ h.0.1 = sym (drop-drop 4 f.0.0 tape) ∙ ap (λ (t : List ℕ). drop 4 t) head ∙ sym (number_left w32 f.0.0 f.0.1 g.0 g.1) ∙ ap (λ (x : ℕ × List ℕ). x.1) some in
    let few : h.0.0 ≤ 65535 = not_many f.0.0 g.0 h.0 (ltb 65535 g.0.0) refl h.1 in
    (parts_at h.0.0 ranks (f.0.0 + 4) h.0.1 tape ps lanes h.2, omega (arith, count_at h.0.0 ranks (f.0.0 + 4) h.0.1 ps h.2, few))

-- ---- where the events begin

starts_from-length : (at : ℕ) (fs : List Frame) → length (starts_from at fs) ≡ length fs
starts_from-length at [] = refl
starts_from-length at (f ∷ fs) = ap suc (starts_from-length (at + length (spelling f)) fs)

start_seen : (fs : List Frame) (tape more : List ℕ) (at : ℕ) → AllByRecursion IsFrame fs → drop at tape ≡ joined (map spelling fs) ++ more → (i : ℕ) (f : Frame) → element fs i ≡ Some f → (i < length fs) × (sight (drop (get_or (starts_from at fs) i 0) tape) ≡ whole f (length (spelling f)))
start_seen [] tape more at fit is i f e = absurd cc
start_seen (g ∷ fs) tape more at fit is zero f e =
    let same : g ≡ f = cc in
    let here : drop at tape ≡ spelling g ++ (joined (map spelling fs) ++ more) = is ∙ append_assoc (spelling g) (joined (map spelling fs)) more in
    (omega arith, subst (λ (h : Frame). sight (drop at tape) ≡ whole h (length (spelling h))) same (ap sight here ∙ seen_again g (joined (map spelling fs) ++ more) fit.0))
start_seen (g ∷ fs) tape more at fit is (suc i) f e =
    let here : drop at tape ≡ spelling g ++ (joined (map spelling fs) ++ more) = is ∙ append_assoc (spelling g) (joined (map spelling fs)) more in
    let later : drop (at + length (spelling g)) tape ≡ joined (map spelling fs) ++ more = sym (drop-drop (length (spelling g)) at tape) ∙ ap (λ (t : List ℕ). drop (length (spelling g)) t) here ∙ drop_at (spelling g) (joined (map spelling fs) ++ more) (length (spelling g)) refl in
    let rest = start_seen fs tape more (at + length (spelling g)) fit.1 later i f e in
    (omega (arith, rest.0), rest.1)

-- a lane's bytes are bytes
append_bytes : (xs ys : List ℕ) → AreBytes (xs ++ ys) → AreBytes xs
append_bytes xs ys h i =
    elim (cases_lt i (length xs)) [
      | inl lt ↦ rw (← get_or_append_left xs ys 0 i lt) (h i)
      | inr le ↦ rw (get_or_past xs i 0 le) (omega arith)
    ]

bytes_of : (tape : List ℕ) (ranks : ℕ) (p : LaneBytes) → AreBytes tape → IsPart tape ranks p → AreBytes p.bytes
bytes_of tape ranks p h part = append_bytes p.bytes part.stands.more (subst (λ (t : List ℕ). AreBytes t) part.stands.split (AreBytes-drop p.at tape h))

-- a lane's starts among all
lane_starts : (tape : List ℕ) (ranks : ℕ) (p : LaneBytes) (before after : List ℕ) → AreBytes tape → IsPart tape ranks p → AreStarts (before ++ (starts_from p.at (lane_frames p.bytes) ++ after)) tape (length before) (lane_frames p.bytes)
lane_starts tape ranks p before after h part i f e =
    let events = lane_events p.bytes (bytes_of tape ranks p h part) in
    let split : drop p.at tape ≡ joined (map spelling (lane_frames p.bytes)) ++ (lane_rest p.bytes ++ part.stands.more) = part.stands.split ∙ ap (λ (t : List ℕ). t ++ part.stands.more) events.split ∙ append_assoc (joined (map spelling (lane_frames p.bytes))) (lane_rest p.bytes) part.stands.more in
    let seen = start_seen (lane_frames p.bytes) tape (lane_rest p.bytes ++ part.stands.more) p.at events.each split i f e in
    let len = starts_from-length p.at (lane_frames p.bytes) in
    let place : get_or (before ++ (starts_from p.at (lane_frames p.bytes) ++ after)) (length before + i) 0 ≡ get_or (starts_from p.at (lane_frames p.bytes)) i 0 = get_or-append-add before (starts_from p.at (lane_frames p.bytes) ++ after) i 0 ∙ get_or_append_left (starts_from p.at (lane_frames p.bytes)) after 0 i (omega (arith, len, seen.0)) in (
      omega (arith, length-append before (starts_from p.at (lane_frames p.bytes) ++ after), length-append (starts_from p.at (lane_frames p.bytes)) after, len, seen.0),
      ap (λ (k : ℕ). sight (drop k tape)) place ∙ seen.1,
    )

frames_made : (p : LaneBytes) → (lane_of p.rank p.kind p.bytes).frames ≡ lane_frames p.bytes
unfolding lane_of
frames_made p = refl

starts_made : (tape : List ℕ) (ranks : ℕ) (ps : List LaneBytes) (before : List ℕ) (n : ℕ) → AreBytes tape → AllByRecursion (IsPart tape ranks) ps → n ≡ length before → AreAllStarts (before ++ all_starts ps) tape n (lanes_made ps)
starts_made tape ranks [] before n h parts is = tt
starts_made tape ranks (p ∷ ps) before n h parts is =
    let here = lane_starts tape ranks p before (all_starts ps) h parts.0 in
    let frames : lane_frames p.bytes ≡ (lane_of p.rank p.kind p.bytes).frames = sym (frames_made p) in
    let first : AreStarts (before ++ all_starts (p ∷ ps)) tape n (lane_of p.rank p.kind p.bytes).frames = subst (λ (fs : List Frame). AreStarts (before ++ all_starts (p ∷ ps)) tape n fs) frames (subst (λ (k : ℕ). AreStarts (before ++ all_starts (p ∷ ps)) tape k (lane_frames p.bytes)) (sym is) here) in
    let size : n + length (lane_of p.rank p.kind p.bytes).frames ≡ length (before ++ starts_from p.at (lane_frames p.bytes)) = omega (arith, is, length-append before (starts_from p.at (lane_frames p.bytes)), starts_from-length p.at (lane_frames p.bytes), ap length (sym frames)) in
    let others = starts_made tape ranks ps (before ++ starts_from p.at (lane_frames p.bytes)) (n + length (lane_of p.rank p.kind p.bytes).frames) h parts.1 size in
    (first, subst (λ (ss : List ℕ). AreAllStarts ss tape (n + length (lane_of p.rank p.kind p.bytes).frames) (lanes_made ps)) (append_assoc before (starts_from p.at (lane_frames p.bytes)) (all_starts ps)) others)

-- the lanes' ranks are ranks
ranks_made : (tape : List ℕ) (ranks : ℕ) (ps : List LaneBytes) → AllByRecursion (IsPart tape ranks) ps → AllByRecursion (λ (l : Lane). l.rank < ranks) (lanes_made ps)
unfolding lane_of
ranks_made tape ranks [] parts = tt
ranks_made tape ranks (p ∷ ps) parts = (parts.0.rank, ranks_made tape ranks ps parts.1)

lanes_made-length : (ps : List LaneBytes) → length (lanes_made ps) ≡ length ps
lanes_made-length [] = refl
lanes_made-length (p ∷ ps) = ap suc (lanes_made-length ps)

-- ---- the tape

pub tape_read : (ranks : ℕ) (signed : Bool) (bytes : List ℕ) (ps : List LaneBytes) → lane_bytes_of ranks signed bytes ≡ Ok ps → tape_of ranks signed bytes ≡ with_events 0 ps
unfolding tape_of
tape_read ranks signed bytes ps e = ap (λ (r : Read (List LaneBytes)). r >>= with_events 0) e

pub tables_fit : (ranks : ℕ) (signed : Bool) (bytes : List ℕ) (ps : List LaneBytes) (entries : List Entry) (starts : List ℕ) → AreBytes bytes → lane_bytes_of ranks signed bytes ≡ Ok ps → with_events 0 ps ≡ Ok (lanes_made ps) → entries ≡ entries_of 0 (lanes_made ps) → starts ≡ all_starts ps → TablesFit ranks signed bytes entries starts
tables_fit ranks signed bytes ps entries starts h read count table begins =
    let tape : tape_of ranks signed bytes ≡ Ok (lanes_made ps) = tape_read ranks signed bytes ps read ∙ count in
    let lanes : lanes_in ranks signed bytes ≡ lanes_made ps = ap (λ (r : Read (List Lane)). elim r [ Ok ls ↦ ls | Err e ↦ [] ]) tape in
    record {
      read = tape ∙ ap (λ (ls : List Lane). Ok ls) (sym lanes);
      table = table ∙ ap (λ (ls : List Lane). entries_of 0 ls) (sym lanes);
      begins = subst (λ (ls : List Lane). AreAllStarts starts bytes 0 ls) (sym lanes) (subst (λ (ss : List ℕ). AreAllStarts ss bytes 0 (lanes_made ps)) (sym begins) (starts_made bytes ranks ps [] 0 h (parts_of ranks signed bytes ps read).0 refl));
      few = omega (arith, ap (λ (ls : List Lane). length ls) lanes, lanes_made-length ps, (parts_of ranks signed bytes ps read).1);
      known = subst (λ (ls : List Lane). AllByRecursion (λ (l : Lane). l.rank < ranks) ls) (sym lanes) (ranks_made bytes ranks ps (parts_of ranks signed bytes ps read).0);
    }

pub table_fails : (ranks : ℕ) (signed : Bool) (bytes : List ℕ) (e : TapeFault) → Fails e (lane_bytes_of ranks signed bytes) → Fails e (tape_of ranks signed bytes)
unfolding tape_of
table_fails ranks signed bytes faults.Memory h = tt
table_fails ranks signed bytes (faults.Bad at why) h = ap (λ (r : Read (List LaneBytes)). r >>= with_events 0) h

pub count_fails : (ranks : ℕ) (signed : Bool) (bytes : List ℕ) (ps : List LaneBytes) (e : TapeFault) → lane_bytes_of ranks signed bytes ≡ Ok ps → Fails e (with_events 0 ps) → Fails e (tape_of ranks signed bytes)
count_fails ranks signed bytes ps e read h = subst (λ (r : Read (List Lane)). Fails e r) (sym (tape_read ranks signed bytes ps read)) h
