-- What holds of the pending keys beside the marks.
use Rattle.std.specs.Prelude.{◌≡◌, false, IsSome}
use Rattle.mls_model.specs.Completion.{Key}
use Rattle.mls_ledger.specs.MarkSets.{MarkSet, is_marked}
use Rattle.mls_assembly.specs.Shares.{has_all}
use Rattle.mls_assembly.specs.Held.{Held, kept_of, share_at}

-- a key is not marked, and the share of some client that overlaps the block is missing
pub record IsWaiting (marks : MarkSet) (held : Held) (key : Key) : Type 0 where
  pub unmarked : is_marked marks key.group key.plane ≡ false
  pub missing : has_all held.sizes held.rank (share_at held key) ≡ false

-- it is so of each pending key
abbrev pub AreWaiting : MarkSet → Held → Type 0
AreWaiting marks held = (key : Key) → IsSome (kept_of held key) → IsWaiting marks held key
