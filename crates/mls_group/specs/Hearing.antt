-- What a group read of the server's answer.
use Rattle.std.specs.Prelude.{◌≡◌, ℕ, [], take, drop, Option, None, IfSome}
use Rattle.mls_base.specs.Told.{MayCease}
use Rattle.mls_wire.specs.Links.{Talk, after_read}
use Rattle.mls_wire.specs.Sessions.{reply_in}
use Rattle.mls_wire.specs.declared.reply.Reply.{Reply}
use Rattle.mls_group.specs.declared.faults.Stop.{Stop}
use Rattle.mls_group.specs.declared.faults.Stop.TheVariants as stop

-- Bytes were read up to what the server says, or to the end of input where it says nothing.
pub record Heard (reply : Option Reply) (old new : Option Talk) : Type 0 where
  pub read : ℕ
  pub told : new ≡ after_read read old
  pub says : IfSome old (λ talk. reply_in (take read talk.left) ≡ reply)
  pub ended : IfSome old (λ talk. reply ≡ None → drop read talk.left ≡ [])

-- Bytes were read that say nothing yet.
pub record HeardNothing (old new : Option Talk) : Type 0 where
  pub read : ℕ
  pub told : new ≡ after_read read old
  pub says : IfSome old (λ talk. reply_in (take read talk.left) ≡ None)

-- After a fault of the link what is told may have ceased.
abbrev pub StopHeard : Stop → Option Talk → Option Talk → Type 0
StopHeard stop.Link old new = (heard : Option Talk) × HeardNothing old heard × MayCease heard new
StopHeard stop.Memory old new = HeardNothing old new
