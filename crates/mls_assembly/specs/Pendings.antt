-- What is pending after fitting pieces: for each key that has one and is not completed, the greatest life of its pieces, and of each client the first piece of that life.
use Rattle.std.specs.Prelude.{◌≡◌, ℕ, ◌<◌, cond, List, Option, Some, None}
use Rattle.std.specs.Option.{option_map}
use Rattle.std.specs.List.{find}
use Rattle.mls_model.specs.Studies.{Sizes}
use Rattle.mls_model.specs.Frames.{Piece}
use Rattle.mls_model.specs.Completion.{Key, is_share, is_completed}
use Rattle.mls_ckpt.specs.Histories.{greatest_life}
use Rattle.mls_assembly.specs.Shares.{Share, share_of}

-- this life and these shares by client are what is pending of a key after these pieces
pub record PendsAt (s : Sizes) (rank : ℕ) (key : Key) (life : Option ℕ) (shares : ℕ → Option Share) (pieces : List Piece) : Type 0 where
  pub life_is : life ≡ cond (is_completed s rank key pieces) None (greatest_life key pieces)
  pub share_is : (l client : ℕ) → life ≡ Some l → client < s.clients → shares client ≡ option_map share_of (find (is_share key l client) pieces)

-- the lives and shares of all keys are what is pending after these pieces
abbrev pub Pends : Sizes → ℕ → (Key → Option ℕ) → (Key → ℕ → Option Share) → List Piece → Type 0
Pends s rank lives shares pieces = (key : Key) → PendsAt s rank key (lives key) (shares key) pieces

-- the same of all keys but one
abbrev pub PendsBut : Key → Sizes → ℕ → (Key → Option ℕ) → (Key → ℕ → Option Share) → List Piece → Type 0
PendsBut but s rank lives shares pieces = (key : Key) → (key ≡ but → ⊥) → PendsAt s rank key (lives key) (shares key) pieces
