-- The pending pieces as they stand in a checkpoint.
use Rattle.std.specs.Prelude.{◌≡◌, true, ℕ, ◌+◌, ◌<◌, ◌≤◌, List, [], ◌∷◌, ◌++◌, map, Option, Some, None, Result, Ok, Err}
use Rattle.mls_model.specs.Studies.{Sizes}
use Rattle.mls_ckpt.specs.States.{PendingShare, PendingKey, key_after, is_from}
use Rattle.mls_ckpt.specs.declared.faults.RecoverFault.{RecoverFault}
use Rattle.mls_ckpt.specs.Reading.{Cursor, Read, Refuses}
use Rattle.mls_assembly.specs.declared.group_step.GroupStep.{GroupStep}
use Rattle.mls_assembly.specs.Shares.{Share, IsShare}
use Rattle.mls_assembly.specs.KeyShares.{KeyShares}
use Rattle.mls_model.specs.Completion.{Key}
use Rattle.mls_assembly.specs.Held.{Held, key_at, IsPending}

-- a client's share
abbrev pub share_saved : ℕ → Share → PendingShare
share_saved client share = record { client = client; samples = share.samples }

abbrev pub slot_shares : ℕ → Option Share → List PendingShare
slot_shares client None = []
slot_shares client (Some share) = share_saved client share ∷ []

-- the shares in the slots of the clients from one on
abbrev pub shares_from : ℕ → List (Option Share) → List PendingShare
shares_from client [] = []
shares_from client (slot ∷ slots) = slot_shares client slot ++ shares_from (client + 1) slots

abbrev pub key_saved : GroupStep × KeyShares → PendingKey
key_saved e = record { group = e.0.group; plane = e.0.step; life = e.1.life; shares = shares_from 0 e.1.shares }

-- all keys, by rising plane, then group
abbrev pub keys_saved : Held → List PendingKey
keys_saved held = map key_saved held.entries

-- a client with its piece as it was taken, and that it is the client's from the least on
abbrev pub share_taken : ℕ × Share → PendingShare
share_taken taken = share_saved taken.0 taken.1

pub record IsShareTaken (s : Sizes) (rank least : ℕ) (taken : ℕ × Share) : Type 0 where
  pub rises : least ≤ taken.0
  pub client : taken.0 < s.clients
  pub share : IsShare s rank taken.0 taken.1

-- a key with its pieces as it was taken, from the least key on
pub record IsKeyTaken (s : Sizes) (rank : ℕ) (least : Key) (taken : GroupStep × KeyShares) : Type 0 where
  pub rises : is_from least (key_at taken.0) ≡ true
  pub pending : IsPending s rank (key_at taken.0) taken.1

-- A key was read: it stands behind those that were held, and the answer is the least that may come next. A fault other than want of memory is the refusal.
abbrev pub TakesKey : Held → Held → Key → Cursor → Result GroupStep RecoverFault → Read (PendingKey × Cursor) → Type 0
TakesKey old new least from (Ok next) read =
    (key : PendingKey) × (read ≡ Ok (key, from)) × (keys_saved new ≡ keys_saved old ++ key ∷ []) × (key_at next ≡ key_after least key)
TakesKey old new least from (Err fault) read = Refuses fault read
