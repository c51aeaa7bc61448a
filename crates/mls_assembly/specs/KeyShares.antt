-- What is kept of a key that is not completed: its life, and a slot for each client.
use Rattle.std.specs.Prelude.{◌≡◌, ℕ, List, length, get_or, Option, Some, None}
use Rattle.mls_model.specs.Studies.{Sizes}
use Rattle.mls_assembly.specs.Shares.{Share, IsShare}

pub record KeyShares : Type 0 where
  pub life : ℕ
  pub shares : List (Option Share)

-- a client's share, where there is one
abbrev pub share_in : KeyShares → ℕ → Option Share
share_in o client = get_or o.shares client None

-- there is a slot for each client, and a share has its client's cells
pub record AreShares (s : Sizes) (rank : ℕ) (o : KeyShares) : Type 0 where
  pub slots : length o.shares ≡ s.clients
  pub shares : (client : ℕ) (share : Share) → share_in o client ≡ Some share → IsShare s rank client share
