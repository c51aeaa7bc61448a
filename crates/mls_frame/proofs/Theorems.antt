-- The laws of frames, from what is spelled and what is seen.
use Rattle.std.proofs.Common.{◌≡◌, ℕ, ◌≤◌, List, [], ◌++◌, length, take, drop, sym, ap, ◌∙◌, arith, append_assoc}
use Rattle.std.proofs.lemmas.List.{append-nil, append_cancel_left, length-append, take_at}
use Rattle.mls_model.specs.declared.lanes.FrameFault.{FrameFault}
use Rattle.mls_model.specs.Frames.{Frame, IsFrame, spelling, whole, more, bad, sight}
use Rattle.mls_frame.specs.Views.{AreBytes}
use Rattle.mls_frame.proofs.Again.{seen_again}
use Rattle.mls_frame.proofs.Steady.{bad_stays}
use Rattle.mls_frame.proofs.Takes.{seen_takes}

pub whole_spelled : (bytes : List ℕ) (frame : Frame) (used : ℕ) → AreBytes bytes → sight bytes ≡ whole frame used → IsFrame frame × (take used bytes ≡ spelling frame) × (used ≤ length bytes)
whole_spelled bytes frame used h e =
    let t = seen_takes bytes frame used h e in (
      t.fits,
      ap (λ (xs : List ℕ). take used xs) t.split ∙ take_at (spelling frame) (drop used bytes) used (sym t.taken),
      omega (arith, ap length t.split, length-append (spelling frame) (drop used bytes), t.taken),
    )

same_frame : (f g : Frame) (m n : ℕ) → whole f m ≡ whole g n → f ≡ g
same_frame f g m n e = cc

pub one_frame : (f g : Frame) (x y : List ℕ) → IsFrame f → IsFrame g → spelling f ++ x ≡ spelling g ++ y → f ≡ g
one_frame f g x y p q e =
    same_frame f g (length (spelling f)) (length (spelling g)) (sym (seen_again f x p) ∙ ap sight e ∙ seen_again g y q)

pub one_front : (f g : Frame) (x y : List ℕ) → IsFrame f → IsFrame g → spelling f ++ x ≡ spelling g ++ y → (f ≡ g) × (x ≡ y)
one_front f g x y p q e =
    let same = one_frame f g x y p q e in
    (same, append_cancel_left (spelling f) x y (e ∙ ap (λ (h : Frame). spelling h ++ y) (sym same)))

bad_no_whole : (fault : FrameFault) (f : Frame) (n : ℕ) → bad fault ≡ whole f n → ⊥
bad_no_whole fault f n e = cc

more_no_whole : (f : Frame) (n : ℕ) → more ≡ whole f n → ⊥
more_no_whole f n e = cc

pub bad_begins : (bytes : List ℕ) (fault : FrameFault) (frame : Frame) (tail : List ℕ) → sight bytes ≡ bad fault → IsFrame frame → bytes ≡ spelling frame ++ tail → ⊥
bad_begins bytes fault frame tail e fits is = bad_no_whole fault frame _ (sym e ∙ ap sight is ∙ seen_again frame tail fits)

pub bad_front : (bytes : List ℕ) (fault : FrameFault) (frame : Frame) (rest : List ℕ) → sight bytes ≡ bad fault → IsFrame frame → spelling frame ≡ bytes ++ rest → ⊥
bad_front bytes fault frame rest e fits is =
    bad_no_whole fault frame _ (sym (bad_stays bytes rest fault e) ∙ ap sight (sym is ∙ sym (append-nil (spelling frame))) ∙ seen_again frame [] fits)

pub more_begins : (bytes : List ℕ) (frame : Frame) (tail : List ℕ) → sight bytes ≡ more → IsFrame frame → bytes ≡ spelling frame ++ tail → ⊥
more_begins bytes frame tail e fits is = more_no_whole frame _ (sym e ∙ ap sight is ∙ seen_again frame tail fits)

pub whole_stays : (bytes extra : List ℕ) (frame : Frame) (used : ℕ) → AreBytes bytes → sight bytes ≡ whole frame used → sight (bytes ++ extra) ≡ whole frame used
whole_stays bytes extra frame used h e =
    let t = seen_takes bytes frame used h e in
    let longer : bytes ++ extra ≡ spelling frame ++ (drop used bytes ++ extra) = ap (λ (xs : List ℕ). xs ++ extra) t.split ∙ append_assoc (spelling frame) (drop used bytes) extra in
    ap sight longer ∙ seen_again frame (drop used bytes ++ extra) t.fits ∙ ap (λ (n : ℕ). whole frame n) (sym t.taken)
