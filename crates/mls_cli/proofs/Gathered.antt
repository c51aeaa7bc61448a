-- What a gathering output tells after one more piece.
use Rattle.std.proofs.Common.{◌≡◌, ℕ, ◌==◌, List, take, Option, Some, None, is_some, Global, refl, sym, ap, inl, inr, true≢false}
use Rattle.std.proofs.lemmas.Bool.{cases_Bool}
use Rattle.std.specs.Io.Buffered.{writer_buffer, writer_contents, writer_inner}
use Rattle.std.specs.Io.KnownBytes.{Appends, append_known}
use Rattle.std.specs.declared.io.buffered.BufWriter.{BufWriter}
use Rattle.mls_base.specs.Told.{appended}
use Rattle.mls_cli.specs.Output.{told_of}

known_more : (o p : Option (List ℕ)) (a b piece : List ℕ) → is_some o ≡ is_some p → Appends (append_known o a) (append_known p b) piece → append_known p b ≡ appended (append_known o a) piece
known_more None None a b piece same h = refl
known_more None (Some ys) a b piece same h = absurd (true≢false (sym same))
known_more (Some xs) None a b piece same h = absurd (true≢false same)
known_more (Some xs) (Some ys) a b piece same h = ap Some h

-- where the writer tells always or never, what is told grows by the piece
pub told_more : {W : Type 0} (contents : W → Option (List ℕ)) (old new : BufWriter W Global) (faults n : ℕ) (piece : List ℕ) → is_some (contents (writer_inner old)) ≡ is_some (contents (writer_inner new))
    → Appends (writer_contents contents old) (writer_contents contents new) piece → take n piece ≡ piece → told_of contents new faults ≡ appended (told_of contents old faults) (take n piece)
told_more contents old new faults n piece same h taken =
    elim (cases_Bool (faults == 0)) [
      | inl t ↦ rw (t, taken) (known_more (contents (writer_inner old)) (contents (writer_inner new)) (writer_buffer old) (writer_buffer new) piece same h)
      | inr f ↦ rw (f) refl
    ]
