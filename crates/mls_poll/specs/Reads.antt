-- What is read of a polled link.
use Rattle.std.specs.Prelude.{◌≡◌, ℕ, List, ◌++◌, Option, Some, None, ⊤}
use Rattle.mls_wire.specs.Links.{Talk}

-- These bytes went from the front of what was left to the end of what was read.
pub record Took (piece : List ℕ) (old new : Talk) : Type 0 where
  pub read : new.read ≡ old.read ++ piece
  pub left : old.left ≡ piece ++ new.left
  pub written : new.written ≡ old.written

-- These bytes were read, of a link that tells or doesn't.
abbrev pub HasRead : List ℕ → Option Talk → Option Talk → Type 0
HasRead piece None None = ⊤
HasRead piece None (Some new) = ⊥
HasRead piece (Some old) None = ⊥
HasRead piece (Some old) (Some new) = Took piece old new

-- all bytes of a link, from the first that was read to the end
abbrev pub whole_of : Talk → List ℕ
whole_of talk = talk.read ++ talk.left
