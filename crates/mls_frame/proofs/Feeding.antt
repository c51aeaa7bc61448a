-- A feeder's calls lose nothing.
use Rattle.std.proofs.Common.{◌≡◌, ℕ, zero, suc, ◌+◌, List, [], ◌∷◌, ◌++◌, length, drop, map, refl, sym, ap, subst, ◌∙◌, arith, append_assoc}
use Rattle.std.specs.List.{AllByRecursion}
use Rattle.std.proofs.lemmas.List.{append-nil, length-append, map-append}
use Rattle.std.proofs.lemmas.Grind.{flat_map-append}
use Rattle.mls_model.specs.Numbers.{joined}
use Rattle.mls_model.specs.Frames.{Frame, IsFrame, spelling, Sight, whole, more, bad, sight}
use Rattle.mls_model.specs.Lanes.{AreLaneEvents}
use Rattle.mls_frame.specs.Views.{AreBytes}
use Rattle.mls_frame.specs.Feeding.{Fed, Call, feed, next, bytes_fed, after_feed, after_sight, frame_taken, frames_taken, after_calls, IsNoFrame, LosesNothing}
use Rattle.mls_frame.proofs.Theorems.{bad_begins, more_begins}
use Rattle.mls_frame.proofs.Takes.{seen_takes}

-- one look: what is left before it, and after it
record Looks (fed : Fed) (s : Sight) : Type 0 where
  kept : fed.rest ≡ joined (map spelling (frame_taken s)) ++ (after_sight s fed).rest
  counted : (after_sight s fed).offset ≡ fed.offset + length (joined (map spelling (frame_taken s)))
  each : AllByRecursion IsFrame (frame_taken s)

looks : (fed : Fed) (s : Sight) → AreBytes fed.rest → sight fed.rest ≡ s → Looks fed s
looks fed (whole frame used) h e =
    let t = seen_takes fed.rest frame used h e in
    record {
      kept = t.split ∙ ap (λ (xs : List ℕ). xs ++ drop used fed.rest) (sym (append-nil (spelling frame)));
      counted = omega (arith, t.taken, ap length (append-nil (spelling frame)));
      each = (t.fits, tt);
    }
looks fed more h e = record { kept = refl; counted = omega arith; each = tt }
looks fed (bad fault) h e = record { kept = refl; counted = omega arith; each = tt }

-- the bytes in front, and those behind
bytes_before : (xs ys : List ℕ) → AreBytes (xs ++ ys) → AreBytes xs
bytes_before [] ys h zero = omega arith
bytes_before [] ys h (suc i) = omega arith
bytes_before (x ∷ xs) ys h zero = h 0
bytes_before (x ∷ xs) ys h (suc i) = bytes_before xs ys (λ (k : ℕ). h (suc k)) i

bytes_behind : (xs ys : List ℕ) → AreBytes (xs ++ ys) → AreBytes ys
bytes_behind [] ys h = h
bytes_behind (x ∷ xs) ys h = bytes_behind xs ys (λ (k : ℕ). h (suc k))

joined-append : (fs gs : List Frame) → joined (map spelling (fs ++ gs)) ≡ joined (map spelling fs) ++ joined (map spelling gs)
joined-append fs gs = ap joined (map-append spelling fs gs) ∙ flat_map-append (λ p. p) (map spelling fs) (map spelling gs)

all-append : (fs gs : List Frame) → AllByRecursion IsFrame fs → AllByRecursion IsFrame gs → AllByRecursion IsFrame (fs ++ gs)
all-append [] gs p q = q
all-append (f ∷ fs) gs p q = (p.0, all-append fs gs p.1 q)

pub loses_nothing : (fed : Fed) (calls : List Call) → AreBytes (fed.rest ++ bytes_fed calls) → LosesNothing fed calls
loses_nothing fed [] h = record { kept = append-nil fed.rest; counted = omega arith; each = tt }
loses_nothing fed (feed piece ∷ calls) h =
    let assoc = append_assoc fed.rest piece (bytes_fed calls) in
    let r = loses_nothing (after_feed piece fed) calls (subst AreBytes (sym assoc) h) in
    record { kept = sym assoc ∙ r.kept; counted = r.counted; each = r.each }
loses_nothing fed (next ∷ calls) h =
    let s = sight fed.rest in
    let look = looks fed s (bytes_before fed.rest (bytes_fed calls) h) refl in
    let taken = joined (map spelling (frame_taken s)) in
    let split : fed.rest ++ bytes_fed calls ≡ taken ++ ((after_sight s fed).rest ++ bytes_fed calls) =
    ap (λ (xs : List ℕ). xs ++ bytes_fed calls) look.kept ∙ append_assoc taken (after_sight s fed).rest (bytes_fed calls) in
    let r = loses_nothing (after_sight s fed) calls (bytes_behind taken ((after_sight s fed).rest ++ bytes_fed calls) (subst AreBytes split h)) in
    let later = joined (map spelling (frames_taken (after_sight s fed) calls)) in
    let all = joined-append (frame_taken s) (frames_taken (after_sight s fed) calls) in
    record {
      kept = split ∙ ap (λ (xs : List ℕ). taken ++ xs) r.kept ∙ sym (append_assoc taken later (after_calls (after_sight s fed) calls).rest)
          ∙ ap (λ (xs : List ℕ). xs ++ (after_calls (after_sight s fed) calls).rest) (sym all);
      counted = omega (arith, r.counted, look.counted, ap length all, length-append taken later);
      each = all-append (frame_taken s) (frames_taken (after_sight s fed) calls) look.each r.each;
    }

no_frame_begins : (rest : List ℕ) (s : Sight) → sight rest ≡ s → IsNoFrame s → (frame : Frame) (tail : List ℕ) → IsFrame frame → rest ≡ spelling frame ++ tail → ⊥
no_frame_begins rest (whole f used) e none frame tail fits is = none
no_frame_begins rest more e none frame tail fits is = more_begins rest frame tail e fits is
no_frame_begins rest (bad fault) e none frame tail fits is = bad_begins rest fault frame tail e fits is

pub takes_all : (fed : Fed) (calls : List Call) → AreBytes (fed.rest ++ bytes_fed calls) → IsNoFrame (sight (after_calls fed calls).rest)
    → AreLaneEvents (fed.rest ++ bytes_fed calls) (frames_taken fed calls) (after_calls fed calls).rest
takes_all fed calls h none =
    let r = loses_nothing fed calls h in
    record { split = r.kept; each = r.each; longest = no_frame_begins (after_calls fed calls).rest (sight (after_calls fed calls).rest) refl none }
