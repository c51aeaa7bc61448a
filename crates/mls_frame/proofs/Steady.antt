-- A longer input changes no refusal.
use Rattle.std.proofs.Common.{◌≡◌, ℕ, ◌+◌, ◌*◌, ◌≤◌, Bool, true, false, cond, ltb, eqb, not, List, [], ◌∷◌, ◌++◌, length, drop, refl, sym, ap, ◌∙◌, arith}
use Rattle.std.specs.Int.{w16, w32}
use Rattle.std.proofs.lemmas.Bool.{ltb-false, le-ltb}
use Rattle.std.proofs.lemmas.List.{length-append, drop-append-le}
use Rattle.mls_model.specs.declared.lanes.FrameFault.{FrameFault}
use Rattle.mls_model.specs.declared.lanes.FrameFault.TheVariants.{BadKind, BadLength}
use Rattle.mls_model.specs.Frames.{Frame, Sight, whole, more, bad, number, fixed_sight, piece_sight, sized_sight, sight, is_no_length}
use Rattle.mls_frame.proofs.Places.{number-append}

-- Of two answers, the second is a refusal where the first is.
abbrev Keeps : Sight → Sight → Type 0
Keeps x y = (fault : FrameFault) → x ≡ bad fault → y ≡ bad fault

keeps_cond : (b c : Bool) (x x' y y' : Sight) → b ≡ c → Keeps x x' → Keeps y y' → Keeps (cond b x y) (cond c x' y')
keeps_cond true c x x' y y' e k h fault is = rw (← e) (k fault is)
keeps_cond false c x x' y y' e k h fault is = rw (← e) (h fault is)

-- a test of lengths that once passed goes on passing
keeps_after : (b c : Bool) (x y : Sight) → (b ≡ false → c ≡ false) → (b ≡ false → Keeps x y) → Keeps (cond b more x) (cond c more y)
keeps_after true c x y e k fault is = absurd cc
keeps_after false c x y e k fault is = rw (e refl) (k refl fault is)

longer : (n : ℕ) (xs ys : List ℕ) → ltb (length xs) n ≡ false → ltb (length (xs ++ ys)) n ≡ false
longer n xs ys e = le-ltb _ _ (omega (arith, length-append xs ys, ltb-false (length xs) n e))

longer_by_one : (n : ℕ) (xs ys : List ℕ) → ltb (1 + length xs) n ≡ false → ltb (1 + length (xs ++ ys)) n ≡ false
longer_by_one n xs ys e = le-ltb _ _ (omega (arith, length-append xs ys, ltb-false (1 + length xs) n e))

no_refusal : (f g : Frame) (m n : ℕ) → Keeps (whole f m) (whole g n)
no_refusal f g m n fault is = absurd cc

same_refusal : (d : FrameFault) → Keeps (bad d) (bad d)
same_refusal d fault is = is

fixed_keeps : (size kind : ℕ) (fields extra : List ℕ) → Keeps (fixed_sight size kind fields) (fixed_sight size kind (fields ++ extra))
unfolding fixed_sight
fixed_keeps size kind fields extra =
    keeps_cond _ _ _ _ _ _ refl (same_refusal BadLength) (keeps_after _ _ _ _ (longer_by_one size fields extra) (λ _. no_refusal _ _ _ _))

same_size : (size : ℕ) (fields extra : List ℕ) → 24 ≤ length fields → not (eqb size (25 + 2 * (number w16 14 fields * number w32 20 fields))) ≡ not (eqb size (25 + 2 * (number w16 14 (fields ++ extra) * number w32 20 (fields ++ extra))))
same_size size fields extra long =
    let rows : number w16 14 (fields ++ extra) ≡ number w16 14 fields = number-append w16 14 fields extra (omega arith) in
    let count : number w32 20 (fields ++ extra) ≡ number w32 20 fields = number-append w32 20 fields extra (omega arith) in
    ap (λ (n : ℕ). not (eqb size (25 + 2 * n))) (ap (λ (n : ℕ). n * number w32 20 fields) (sym rows) ∙ ap (λ (n : ℕ). number w16 14 (fields ++ extra) * n) (sym count))

piece_keeps : (size : ℕ) (fields extra : List ℕ) → Keeps (piece_sight size fields) (piece_sight size (fields ++ extra))
unfolding piece_sight
piece_keeps size fields extra =
    keeps_cond _ _ _ _ _ _ refl (same_refusal BadLength) (keeps_after _ _ _ _ (longer 24 fields extra) (λ short.
    keeps_cond _ _ _ _ _ _ (same_size size fields extra (ltb-false (length fields) 24 short)) (same_refusal BadLength) (keeps_after _ _ _ _ (longer_by_one size fields extra) (λ _. no_refusal _ _ _ _))))

sized_keeps : (size : ℕ) (rest extra : List ℕ) → Keeps (sized_sight size rest) (sized_sight size (rest ++ extra))
unfolding sized_sight
sized_keeps size [] [] fault is = is
sized_keeps size [] (kind ∷ fields) fault is = keeps_cond (is_no_length size) (is_no_length size) (bad BadLength) (bad BadLength) more _ refl (same_refusal BadLength) (λ fault is. absurd cc) fault is
sized_keeps size (kind ∷ fields) extra fault is =
    keeps_cond _ _ _ _ _ _ refl (same_refusal BadLength) (keeps_cond _ _ _ _ _ _ refl (same_refusal BadKind) (keeps_cond _ _ _ _ _ _ refl (piece_keeps size fields extra) (fixed_keeps size kind fields extra))) fault is

sized_later : (bytes extra : List ℕ) → 4 ≤ length bytes → Keeps (sized_sight (number w32 0 bytes) (drop 4 bytes)) (sized_sight (number w32 0 (bytes ++ extra)) (drop 4 (bytes ++ extra)))
sized_later bytes extra long fault is =
    rw (number-append w32 0 bytes extra (omega arith), drop-append-le 4 bytes extra long) (sized_keeps (number w32 0 bytes) (drop 4 bytes) extra fault is)

-- a refusal stays, whatever follows
pub bad_stays : (bytes extra : List ℕ) (fault : FrameFault) → sight bytes ≡ bad fault → sight (bytes ++ extra) ≡ bad fault
unfolding sight
bad_stays bytes extra fault =
    keeps_after _ _ _ _ (longer 4 bytes extra) (λ short. sized_later bytes extra (ltb-false (length bytes) 4 short)) fault
