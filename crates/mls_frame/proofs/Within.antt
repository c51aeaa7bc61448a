-- How many bytes a whole frame has.
use Rattle.std.proofs.Common.{◌≡◌, ℕ, ◌≤◌, List, length, sym, arith}
use Rattle.mls_model.specs.Frames.{Frame, piece, beat, bye, save, crash, hello, welcome, refuse, body, spelling, sight}
use Rattle.mls_frame.specs.declared.frame_view.Seen.{Seen}
use Rattle.mls_frame.specs.declared.frame_view.Seen.TheVariants as seen
use Rattle.mls_frame.specs.Views.{AreBytes, frame_of, sight_of, IsWithin}
use Rattle.mls_frame.proofs.Pieces.{piece_body-length}
use Rattle.mls_frame.proofs.Again.{spelling-length}
use Rattle.mls_frame.proofs.Takes.{seen_takes}
use Rattle.mls_frame.proofs.Theorems.{whole_spelled}

body-some : (f : Frame) → 1 ≤ length (body f)
unfolding body
body-some (piece p) = omega (arith, piece_body-length p)
body-some (beat group life) = omega arith
body-some (bye group life) = omega arith
body-some save = omega arith
body-some crash = omega arith
body-some (hello version group life client rank) = omega arith
body-some (welcome lane) = omega arith
body-some (refuse reason value) = omega arith

pub spelling-some : (f : Frame) → 5 ≤ length (spelling f)
spelling-some f = omega (arith, spelling-length f, body-some f)

pub is_within : (bytes : List ℕ) (s : Seen) → AreBytes bytes → sight_of s ≡ sight bytes → IsWithin (length bytes) s
is_within bytes (seen.Whole frame used) h e =
    let t = seen_takes bytes (frame_of frame) used h (sym e) in
    (omega (arith, spelling-some (frame_of frame), t.taken), (whole_spelled bytes (frame_of frame) used h (sym e)).2)
is_within bytes seen.More h e = tt
is_within bytes (seen.Bad fault) h e = tt
