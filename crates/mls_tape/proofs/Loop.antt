-- Reading lanes one after another, as a loop does.
use Rattle.std.proofs.Common.{◌≡◌, ℕ, suc, ◌-◌, ◌+◌, ◌≤◌, ◌<◌, true, false, eqb, List, [], ◌∷◌, ◌++◌, length, Ok, Err, refl, sym, ap, ◌∙◌, append_assoc, arith}
use Rattle.std.proofs.lemmas.List.{append-nil}
use Rattle.mls_model.specs.Lanes.{◌>>=◌, Read, LaneBytes, lane_at, lanes_at}
use Rattle.mls_model.specs.declared.lanes.TapeWhy.TheVariants as why
use Rattle.mls_tape.specs.declared.faults.TapeFault.{TapeFault}
use Rattle.mls_tape.specs.declared.faults.TapeFault.TheVariants as faults
use Rattle.mls_tape.specs.Reading.{Fails}

-- what was read before, and what is still read
abbrev pub with_front : List LaneBytes → Read (List LaneBytes) → Read (List LaneBytes)
with_front front read = read >>= λ x. Ok (front ++ x)

regroup : (front : List LaneBytes) (n : LaneBytes) (read : Read (List LaneBytes)) → with_front front (read >>= λ x. Ok (n ∷ x)) ≡ with_front (front ++ n ∷ []) read
regroup front n (Ok x) = ap (λ (ns : List LaneBytes). Ok ns) (sym (append_assoc front (n ∷ []) x))
regroup front n (Err f) = refl

pub goes_on : (front : List LaneBytes) (count i ranks at : ℕ) (bytes : List ℕ) (n : LaneBytes) (after : List ℕ) (next : ℕ) (total : Read (List LaneBytes)) → i < count → lane_at ranks at bytes ≡ Ok (n, after) → next ≡ at + (7 + length n.bytes)
    → with_front front (lanes_at (count - i) ranks at bytes) ≡ total → with_front (front ++ n ∷ []) (lanes_at (count - (i + 1)) ranks next after) ≡ total
unfolding lanes_at
goes_on front count i ranks at bytes n after next total lt h place so_far =
    let k : count - i ≡ suc (count - (i + 1)) = omega arith in
    let one : with_front front (lanes_at (count - i) ranks at bytes) ≡ with_front (front ++ n ∷ []) (lanes_at (count - (i + 1)) ranks next after) = rw (k, h, place) (regroup front n (lanes_at (count - (i + 1)) ranks (at + (7 + length n.bytes)) after)) in
    sym one ∙ so_far

pub ends : (e : TapeFault) (front : List LaneBytes) (count i ranks at : ℕ) (bytes : List ℕ) (total : Read (List LaneBytes)) → i < count → Fails e (lane_at ranks at bytes)
    → with_front front (lanes_at (count - i) ranks at bytes) ≡ total → Fails e total
unfolding lanes_at
ends faults.Memory front count i ranks at bytes total lt h so_far = tt
ends (faults.Bad place reason) front count i ranks at bytes total lt h so_far =
    let k : count - i ≡ suc (count - (i + 1)) = omega arith in
    let one : with_front front (lanes_at (count - i) ranks at bytes) ≡ Err (record { at = place; why = reason }) = rw (k, h) refl in
    sym so_far ∙ one

pub is_done : (front : List LaneBytes) (count i ranks at : ℕ) (bytes : List ℕ) (total : Read (List LaneBytes)) → count ≤ i → eqb (length bytes) 0 ≡ true → with_front front (lanes_at (count - i) ranks at bytes) ≡ total → total ≡ Ok front
unfolding lanes_at
is_done front count i ranks at bytes total le empty so_far =
    let k : count - i ≡ 0 = omega arith in
    let one : with_front front (lanes_at (count - i) ranks at bytes) ≡ Ok front = rw (k, empty) (ap (λ (ns : List LaneBytes). Ok ns) (append-nil front)) in
    sym so_far ∙ one

pub is_trailing : (front : List LaneBytes) (count i ranks at : ℕ) (bytes : List ℕ) (total : Read (List LaneBytes)) → count ≤ i → eqb (length bytes) 0 ≡ false → with_front front (lanes_at (count - i) ranks at bytes) ≡ total → total ≡ Err (record { at = at; why = why.Trailing })
unfolding lanes_at
is_trailing front count i ranks at bytes total le rest so_far =
    let k : count - i ≡ 0 = omega arith in
    let one : with_front front (lanes_at (count - i) ranks at bytes) ≡ Err (record { at = at; why = why.Trailing }) = rw (k, rest) refl in
    sym so_far ∙ one
