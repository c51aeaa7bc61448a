-- Bytes that spell a frame are seen as it.
use Rattle.std.proofs.Common.{◌≡◌, ℕ, List, [], length, ◌⊎◌, inl, inr, sym, ap, ◌∙◌}
use Rattle.std.proofs.lemmas.List.{append-nil}
use Rattle.mls_model.specs.Frames.{Frame, Spells, spelling, whole, sight}
use Rattle.mls_model.specs.declared.lanes.FrameFault.{FrameFault}
use Rattle.mls_frame.specs.declared.frame_view.Seen.{Seen}
use Rattle.mls_frame.specs.declared.frame_view.Seen.TheVariants as seens
use Rattle.mls_frame.specs.Views.{sight_of}
use Rattle.mls_frame.proofs.Again.{seen_again}

pub spelled_sight : (bytes : List ℕ) (f : Frame) → Spells f bytes → sight bytes ≡ whole f (length (spelling f))
spelled_sight bytes f s = ap sight (s.1 ∙ sym (append-nil (spelling f))) ∙ seen_again f [] s.0

-- so what is seen of them is neither too little nor bad
pub is_whole : (seen : Seen) (f : Frame) (n : ℕ) → sight_of seen ≡ whole f n → ((seen ≡ seens.More) ⊎ ((x : FrameFault) × (seen ≡ seens.Bad x))) → ⊥
is_whole (seens.Whole g m) f n e (inl p) = cc
is_whole (seens.Whole g m) f n e (inr (x, p)) = cc
is_whole seens.More f n e p = cc
is_whole (seens.Bad x) f n e p = cc
