-- Connections that a hub's door handed out.
use Rattle.std.specs.Prelude.{◌≡◌, ℕ, ◌+◌, false, List, [], ◌++◌, length, Option, IfSome, ⊤}
use Rattle.std.specs.List.{AllByRecursion}
use Rattle.mls_base.specs.Told.{Rose}
use Rattle.mls_poll.specs.declared.outside.PollLink as link
use Rattle.mls_poll.specs.Streams.{HasGiven}
use Rattle.mls_hub.specs.declared.connection.Connection.{Connection}
use Rattle.mls_hub.specs.declared.connection.Stage.TheVariants as stages
use Rattle.mls_hub.specs.declared.accepting.Accepted.{Accepted}
use Rattle.mls_hub.specs.declared.accepting.Accepted.TheVariants as accepted

-- A connection that was just accepted: nothing was read of its link, and nothing written to it, where it tells.
pub record IsNewborn {L : Type 0} (U : link.Ghosts L) (c : Connection L) : Type 0 where
  pub stage : c.stage ≡ stages.Opening
  pub given : HasGiven (U.told c.stream.link) c.stream.offset c.stream.held []
  pub said : IfSome (U.told c.stream.link) (λ talk. talk.written ≡ [])
  pub unsaid : c.answer.items ≡ []
  pub none : c.written ≡ 0
  pub unended : c.stream.ended ≡ false

-- Some connections were accepted behind the others.
pub record HaveCome {L : Type 0} (U : link.Ghosts L) (old new : List (Connection L)) : Type 0 where
  pub fresh : List (Connection L)
  pub are : new ≡ old ++ fresh
  pub each : AllByRecursion (IsNewborn U) fresh

-- what a door's counts of faults and of pending calls say of an answer
abbrev pub CountsAccepted : Accepted → (faults faults' waits waits' : ℕ) → Type 0
CountsAccepted accepted.All faults faults' waits waits' = (faults' ≡ faults) × (waits' ≡ waits)
CountsAccepted accepted.Waits faults faults' waits waits' = (faults' ≡ faults) × Rose waits waits'
CountsAccepted accepted.Failed faults faults' waits waits' = Rose faults faults' × (waits' ≡ waits)
CountsAccepted accepted.Memory faults faults' waits waits' = (faults' ≡ faults) × (waits' ≡ waits)

abbrev pub OnAll : Accepted → Type 0 → Type 0
OnAll accepted.All P = P
OnAll accepted.Waits P = ⊤
OnAll accepted.Failed P = ⊤
OnAll accepted.Memory P = ⊤

abbrev pub OnWaits : Accepted → Type 0 → Type 0
OnWaits accepted.All P = ⊤
OnWaits accepted.Waits P = P
OnWaits accepted.Failed P = ⊤
OnWaits accepted.Memory P = ⊤
