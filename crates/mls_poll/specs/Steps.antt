-- What one read of a polled link does.
use Rattle.std.specs.Prelude.{◌≡◌, ℕ, List, [], ◌++◌, length, Bool, true, false, Option, IfSome, Result, Ok, Err, ⊤}
use Rattle.futures.specs.declared.task.Poll.{Poll}
use Rattle.futures.specs.declared.task.Poll.TheVariants.{Ready, Pending}
use Rattle.mls_base.specs.Told.{MayCease, Rose}
use Rattle.mls_model.specs.Frames.{Sight, whole, more, bad}
use Rattle.mls_frame.specs.Views.{AreBytes}
use Rattle.mls_wire.specs.Links.{Talk}
use Rattle.mls_poll.specs.Reads.{HasRead}
use Rattle.mls_poll.specs.declared.reading.ReadFault.{ReadFault}
use Rattle.mls_poll.specs.declared.reading.ReadFault.TheVariants.{Failed, Memory}

-- too little is seen to tell
abbrev pub is_more : Sight → Bool
is_more (whole frame used) = false
is_more more = true
is_more (bad fault) = false

-- So many bytes were read, and are held behind the others. None come only at the end of the input.
pub record ReadsPiece (many : ℕ) (old new : Option Talk) (before held : List ℕ) : Type 0 where
  pub piece : List ℕ
  pub size : length piece ≡ many
  pub are_bytes : AreBytes piece
  pub read : HasRead piece old new
  pub held_is : held ≡ before ++ piece
  pub ended : many ≡ 0 → IfSome old (λ talk. talk.left ≡ [])

-- Nothing was read: a failed read may leave nothing told.
abbrev pub Refuses : Poll (Result ℕ ReadFault) → (old new : Option Talk) → (before held : List ℕ) → Type 0
Refuses (Ready (Ok n)) old new before held = ⊤
Refuses (Ready (Err Failed)) old new before held = MayCease old new × (held ≡ before)
Refuses (Ready (Err Memory)) old new before held = (new ≡ old) × (held ≡ before)
Refuses Pending old new before held = (new ≡ old) × (held ≡ before)

-- the count of faults rose where the link failed, and else stands
abbrev pub CountsRead : Poll (Result ℕ ReadFault) → ℕ → ℕ → Type 0
CountsRead (Ready (Ok n)) before now = now ≡ before
CountsRead (Ready (Err Failed)) before now = Rose before now
CountsRead (Ready (Err Memory)) before now = now ≡ before
CountsRead Pending before now = now ≡ before
