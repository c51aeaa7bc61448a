-- Cutting a frame off the front of bytes.
use Rattle.std.proofs.Common.{◌≡◌, ℕ, ◌≤◌, List, ◌++◌, length, take, drop, refl, sym, ap, ◌∙◌, arith}
use Rattle.std.proofs.lemmas.List.{length-append, take_at}
use Rattle.mls_model.specs.Frames.{spelling, Spells, Sight, whole, more, bad, sight}
use Rattle.mls_frame.specs.Views.{AreBytes}
use Rattle.mls_frame.proofs.Takes.{seen_takes}
use Rattle.mls_poll.specs.Wholes.{frame_in, frame_seen}
use Rattle.mls_poll.specs.Looks.{SeesWhole}
use Rattle.mls_poll.proofs.Wholes.{spelled_sight}

pub record CutAt (used : ℕ) (bytes : List ℕ) : Type 0 where
  pub within : used ≤ length bytes
  pub spells : Spells (frame_in (take used bytes)) (take used bytes)
  pub split : bytes ≡ spelling (frame_in (take used bytes)) ++ drop used bytes

cut_by : (used : ℕ) (bytes : List ℕ) (s : Sight) → AreBytes bytes → sight bytes ≡ s → SeesWhole used s → CutAt used bytes
cut_by used bytes (whole f n) h e w =
    let t = seen_takes bytes f n h e in
    let size : used ≡ length (spelling f) = w ∙ t.taken in
    let split : bytes ≡ spelling f ++ drop used bytes = t.split ∙ ap (λ k. spelling f ++ drop k bytes) (sym w) in
    let front : take used bytes ≡ spelling f = ap (λ xs. take used xs) split ∙ take_at (spelling f) (drop used bytes) used (sym size) in
    let is : frame_in (take used bytes) ≡ f = ap (λ s. frame_seen s) (spelled_sight (take used bytes) f (t.fits, front)) in
    record {
      within = omega (arith, ap length split, length-append (spelling f) (drop used bytes), size);
      spells = rw is (t.fits, front);
      split = split ∙ ap (λ g. spelling g ++ drop used bytes) (sym is);
    }
cut_by used bytes more h e w = absurd w
cut_by used bytes (bad x) h e w = absurd w

pub cut : (used : ℕ) (bytes : List ℕ) → AreBytes bytes → SeesWhole used (sight bytes) → CutAt used bytes
cut used bytes h w = cut_by used bytes (sight bytes) h refl w
