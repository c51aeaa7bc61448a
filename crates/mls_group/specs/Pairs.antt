-- What a connection of a group was used for: the pair's session, or a part of it.
use Rattle.std.specs.Prelude.{◌≡◌, ℕ, List, [], ◌++◌, take, drop, Option, Some, None, IfSome, ⊤}
use Rattle.mls_base.specs.Told.{MayCease}
use Rattle.mls_wire.specs.Links.{Talk, after_read, after_write}
use Rattle.mls_wire.specs.Sessions.{reply_in}
use Rattle.mls_wire.specs.declared.reply.Reply.{Reply}
use Rattle.mls_wire.specs.declared.reply.Reply.TheVariants as replies
use Rattle.mls_group.specs.declared.faults.PairFault.{PairFault}
use Rattle.mls_group.specs.declared.faults.PairFault.TheVariants as pair

-- the server's answer is Welcome
abbrev pub IsWelcome : Option Reply → Type 0
IsWelcome (Some (replies.Welcome lane)) = ⊤
IsWelcome (Some (replies.Refused reason value)) = ⊥
IsWelcome (Some replies.Other) = ⊥
IsWelcome None = ⊥

-- the server sent something else first, or its bytes ended before it said anything
abbrev pub IsPeer : Option Reply → List ℕ → Type 0
IsPeer (Some (replies.Welcome lane)) left = ⊥
IsPeer (Some (replies.Refused reason value)) left = ⊥
IsPeer (Some replies.Other) left = ⊤
IsPeer None left = left ≡ []

-- a part of a text that stands at its front
pub record IsFront (front text : List ℕ) : Type 0 where
  pub rest : List ℕ
  pub is_text : front ++ rest ≡ text

-- What was written is a front of Hello as long as the server said nothing, and of the session where it said Welcome. It
-- said nothing else.
abbrev pub MayWrite : Option Reply → (front hello session : List ℕ) → Type 0
MayWrite (Some (replies.Welcome lane)) front hello session = IsFront front session
MayWrite (Some (replies.Refused reason value)) front hello session = ⊥
MayWrite (Some replies.Other) front hello session = ⊥
MayWrite None front hello session = IsFront front hello

-- The whole session was written, and the bytes that were read begin with a Welcome.
pub record PairSent (session : List ℕ) (old new : Option Talk) : Type 0 where
  pub read : ℕ
  pub told : new ≡ after_write session (after_read read old)
  pub welcome : IfSome old (λ talk. IsWelcome (reply_in (take read talk.left)))

-- Hello alone was written, and the bytes that were read begin with this Refuse.
pub record PairRefused (hello : List ℕ) (reason value : ℕ) (old new : Option Talk) : Type 0 where
  pub read : ℕ
  pub told : new ≡ after_write hello (after_read read old)
  pub refusal : IfSome old (λ talk. reply_in (take read talk.left) ≡ Some (replies.Refused reason value))

-- Hello alone was written, and the bytes that were read are no answer.
pub record PairAnswered (hello : List ℕ) (old new : Option Talk) : Type 0 where
  pub read : ℕ
  pub told : new ≡ after_write hello (after_read read old)
  pub peer : IfSome old (λ talk. IsPeer (reply_in (take read talk.left)) (drop read talk.left))

-- A front of the session was written.
pub record PairPart (hello session : List ℕ) (old new : Option Talk) : Type 0 where
  pub read : ℕ
  pub front : List ℕ
  pub is_front : IsFront front session
  pub told : new ≡ after_write front (after_read read old)
  pub may : IfSome old (λ talk. MayWrite (reply_in (take read talk.left)) front hello session)

-- The same, and what is told may have ceased.
pub record PairCut (hello session : List ℕ) (old new : Option Talk) : Type 0 where
  pub cut : Option Talk
  pub part : PairPart hello session old cut
  pub ceased : MayCease cut new

-- what each fault leaves of what the link tells
abbrev pub PairLeft : PairFault → (hello session : List ℕ) → Option Talk → Option Talk → Type 0
PairLeft pair.LinkFault hello session old new = PairCut hello session old new
PairLeft (pair.Refused reason value) hello session old new = PairRefused hello reason value old new
PairLeft pair.Peer hello session old new = PairAnswered hello old new
PairLeft pair.Memory hello session old new = PairCut hello session old new
