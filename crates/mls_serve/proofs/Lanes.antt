-- The frames that a lane gave so far, and what is left of its bytes.
use Rattle.std.proofs.Common.{◌≡◌, ℕ, zero, suc, ◌+◌, List, [], ◌∷◌, ◌++◌, length, take, drop, map, Option, Some, None, IfSome, refl, sym, ap, subst, ◌∙◌, append_assoc, append-nil, length-append, arith}
use Rattle.std.specs.List.{AllByRecursion}
use Rattle.std.proofs.Math.Seq.{take-add, drop-append_seam}
use Rattle.std.proofs.lemmas.List.{map-append}
use Rattle.std.proofs.lemmas.Grind.{flat_map-append}
use Rattle.mls_model.specs.Numbers.{joined}
use Rattle.mls_model.specs.Frames.{Frame, IsFrame, spelling, Sight, whole, more, bad, sight}
use Rattle.mls_model.specs.Lanes.{lane_frames, lane_rest}
use Rattle.mls_frame.specs.Views.{AreBytes}
use Rattle.mls_frame.specs.Feeding.{IsNoFrame}
use Rattle.mls_frame.proofs.Again.{seen_again}
use Rattle.mls_tape.proofs.LaneLemmas.{IsNone, lane_step, lane_stop}
use Rattle.mls_wire.specs.Links.{Talk, after_read}
use Rattle.mls_wire.proofs.Sent.{read-read}
use Rattle.mls_serve.specs.Readings.{HasRead, taken_of}
use Rattle.mls_serve.proofs.Ends.{read-nothing}

-- the bytes behind, and both
pub bytes_behind : (xs ys : List ℕ) → AreBytes (xs ++ ys) → AreBytes ys
bytes_behind [] ys h = h
bytes_behind (x ∷ xs) ys h = bytes_behind xs ys (λ (k : ℕ). h (suc k))

pub bytes_both : (xs ys : List ℕ) → AreBytes xs → AreBytes ys → AreBytes (xs ++ ys)
bytes_both [] ys h k i = k i
bytes_both (x ∷ xs) ys h k zero = h 0
bytes_both (x ∷ xs) ys h k (suc i) = bytes_both xs ys (λ (j : ℕ). h (suc j)) k i

pub no_bytes : AreBytes []
no_bytes zero = omega arith
no_bytes (suc i) = omega arith

pub has_none : (old : Option Talk) → HasRead [] old old
has_none None = record { told = refl; front = tt; are_bytes = no_bytes }
has_none (Some talk) = record { told = sym (read-nothing (Some talk)); front = refl; are_bytes = no_bytes }

-- more bytes after others
pub has_more : (bytes piece : List ℕ) (old now new : Option Talk) → HasRead bytes old now → HasRead piece now new → HasRead (bytes ++ piece) old new
has_more bytes piece None now new a b = record {
  told = b.told ∙ ap (λ o. after_read (length piece) o) a.told;
  front = tt;
  are_bytes = bytes_both bytes piece a.are_bytes b.are_bytes;
}
has_more bytes piece (Some talk) now new a b =
    let P : Option Talk → Type 0 = λ o. IfSome o (λ t. take (length piece) t.left ≡ piece) in
    let next : take (length piece) (drop (length bytes) talk.left) ≡ piece = subst P a.told b.front in
    let size : length (bytes ++ piece) ≡ length bytes + length piece = length-append bytes piece in
    record {
      told = b.told ∙ ap (λ o. after_read (length piece) o) a.told ∙ read-read (Some talk) (length bytes) (length piece) ∙ ap (λ (k : ℕ). after_read k (Some talk)) (sym size);
      front = ap (λ (k : ℕ). take k talk.left) size ∙ take-add (length bytes) (length piece) talk.left ∙ ap (λ (xs : List ℕ). xs ++ take (length piece) (drop (length bytes) talk.left)) a.front ∙ ap (λ (xs : List ℕ). bytes ++ xs) next;
      are_bytes = bytes_both bytes piece a.are_bytes b.are_bytes;
    }

pub joined-append : (fs gs : List Frame) → joined (map spelling (fs ++ gs)) ≡ joined (map spelling fs) ++ joined (map spelling gs)
joined-append fs gs = ap joined (map-append spelling fs gs) ∙ flat_map-append (λ p. p) (map spelling fs) (map spelling gs)

pub all-append : (fs gs : List Frame) → AllByRecursion IsFrame fs → AllByRecursion IsFrame gs → AllByRecursion IsFrame (fs ++ gs)
all-append [] gs p q = q
all-append (f ∷ fs) gs p q = (p.0, all-append fs gs p.1 q)

-- the frames of bytes that begin with the spellings of some
pub frames_go_on : (fs : List Frame) (rest : List ℕ) → AllByRecursion IsFrame fs → AreBytes (joined (map spelling fs) ++ rest)
    → (lane_frames (joined (map spelling fs) ++ rest) ≡ fs ++ lane_frames rest) × (lane_rest (joined (map spelling fs) ++ rest) ≡ lane_rest rest)
frames_go_on [] rest each h = (refl, refl)
frames_go_on (f ∷ fs) rest each h =
    let tail = joined (map spelling fs) ++ rest in
    let assoc : joined (map spelling (f ∷ fs)) ++ rest ≡ spelling f ++ tail = append_assoc (spelling f) (joined (map spelling fs)) rest in
    let fit : AreBytes (spelling f ++ tail) = subst AreBytes assoc h in
    let s = lane_step (spelling f ++ tail) f (length (spelling f)) fit (seen_again f tail each.0) in
    let d : drop (length (spelling f)) (spelling f ++ tail) ≡ tail = drop-append_seam (spelling f) tail in
    let r = frames_go_on fs rest each.1 (bytes_behind (spelling f) tail fit) in (
      ap (λ (xs : List ℕ). lane_frames xs) assoc ∙ s.0 ∙ ap (λ (xs : List ℕ). f ∷ lane_frames xs) d ∙ ap (λ (gs : List Frame). f ∷ gs) r.0,
      ap (λ (xs : List ℕ). lane_rest xs) assoc ∙ s.1 ∙ ap (λ (xs : List ℕ). lane_rest xs) d ∙ r.1,
    )

pub is_none : (s : Sight) → IsNoFrame s → IsNone s
is_none (whole f used) h = h
is_none more h = tt
is_none (bad fault) h = tt

-- Bytes that are the spellings of these frames and a rest that begins with no frame: they are the lane's.
pub record AreAll (bytes : List ℕ) (fs : List Frame) (rest : List ℕ) : Type 0 where
  pub frames : lane_frames bytes ≡ fs
  pub rest_is : lane_rest bytes ≡ rest
  pub taken : taken_of bytes ≡ length (joined (map spelling fs))
  pub size : length bytes ≡ length (joined (map spelling fs)) + length rest

pub are_all : (bytes : List ℕ) (fs : List Frame) (rest : List ℕ) → AreBytes bytes → bytes ≡ joined (map spelling fs) ++ rest → AllByRecursion IsFrame fs → IsNoFrame (sight rest) → AreAll bytes fs rest
are_all bytes fs rest h split each none =
    let g = frames_go_on fs rest each (subst AreBytes split h) in
    let stop = lane_stop rest (sight rest) refl (is_none (sight rest) none) in
    let frames : lane_frames bytes ≡ fs = ap (λ (xs : List ℕ). lane_frames xs) split ∙ g.0 ∙ ap (λ (gs : List Frame). fs ++ gs) stop.0 ∙ append-nil fs in
    record {
      frames = frames;
      rest_is = ap (λ (xs : List ℕ). lane_rest xs) split ∙ g.1 ∙ stop.1;
      taken = ap (λ (gs : List Frame). length (joined (map spelling gs))) frames;
      size = ap length split ∙ length-append (joined (map spelling fs)) rest;
    }

-- Bytes that are the spellings of these frames and a rest: the lane's first frames are these.
pub begins_with : (bytes : List ℕ) (fs : List Frame) (rest : List ℕ) → AreBytes bytes → bytes ≡ joined (map spelling fs) ++ rest → AllByRecursion IsFrame fs → lane_frames bytes ≡ fs ++ lane_frames rest
begins_with bytes fs rest h split each = ap (λ (xs : List ℕ). lane_frames xs) split ∙ (frames_go_on fs rest each (subst AreBytes split h)).0
