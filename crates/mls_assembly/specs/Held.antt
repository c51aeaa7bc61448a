-- What clauses see of the pending pieces: a list of the keys that have some, each with its life and shares.
use Rattle.std.specs.Prelude.{◌≡◌, ℕ, ◌^◌, ◌<◌, true, List, Option, Some, None, IsSome}
use Rattle.std.specs.List.Sorted.{IsStrictlySortedBy}
use Rattle.std.specs.Ordering.{nat_cmp, ordering_then}
use Rattle.std.specs.declared.cmp.Ordering.{Ordering}
use Rattle.std.specs.Map.{lookup, keys_of}
use Rattle.std.specs.BTreeMap.{is_at}
use Rattle.std.specs.Option.{option_map}
use Rattle.mls_model.specs.Studies.{Sizes, planes}
use Rattle.mls_model.specs.Frames.{Piece}
use Rattle.mls_model.specs.Completion.{Key, is_completed}
use Rattle.mls_assembly.specs.declared.group_step.GroupStep.{GroupStep}
use Rattle.mls_assembly.specs.Shares.{Share, has_all}
use Rattle.mls_assembly.specs.KeyShares.{KeyShares, share_in, AreShares}
use Rattle.mls_assembly.specs.Pendings.{Pends, PendsBut}

-- the study's numbers, the rank, and the keys in the order of plane and group
pub record Held : Type 0 where
  pub sizes : Sizes
  pub rank : ℕ
  pub entries : List (GroupStep × KeyShares)

abbrev pub key_cmp : GroupStep → GroupStep → Ordering
key_cmp a b = ordering_then (nat_cmp a.step b.step) (nat_cmp a.group b.group)

-- the key that a group and a step's number name, and back
abbrev pub key_at : GroupStep → Key
key_at k = record { group = k.group; plane = k.step }

abbrev pub step_at : Key → GroupStep
step_at key = record { group = key.group; step = key.plane }

-- what is kept of a key
abbrev pub kept_of : Held → Key → Option KeyShares
kept_of held key = lookup (is_at (key_cmp (step_at key))) held.entries

-- the life that is pending of a key, and the share of it that a client sent
abbrev pub life_of : Held → Key → Option ℕ
life_of held key = option_map (λ o. o.life) (kept_of held key)

abbrev pub share_at : Held → Key → ℕ → Option Share
share_at held key client = elim (kept_of held key) [ None ↦ None | Some o ↦ share_in o client ]

-- The study has the key, its life has 32 bits, some client has a share of it, and each share is of the cells of the block that its client sends.
pub record IsPending (s : Sizes) (rank : ℕ) (key : Key) (o : KeyShares) : Type 0 where
  pub group : key.group < s.groups
  pub plane : key.plane < planes s
  pub life : o.life < 2 ^ 32
  pub shares : AreShares s rank o
  pub some : (client : ℕ) × (client < s.clients) × IsSome (share_in o client)

-- what holds of it always
pub record ArePending (held : Held) : Type 0 where
  pub rank_in : held.rank < held.sizes.ranks
  pub each : (key : Key) (o : KeyShares) → kept_of held key ≡ Some o → IsPending held.sizes held.rank key o

-- the keys strictly rise by plane, then group
abbrev pub AreRising : Held → Type 0
AreRising held = IsStrictlySortedBy key_cmp (keys_of held.entries)

-- of each other key the same is kept
abbrev pub KeepsOthers : Held → Held → Key → Type 0
KeepsOthers old new own = (key : Key) → (key ≡ own → ⊥) → kept_of new key ≡ kept_of old key

-- each key that has a share has those of all clients
abbrev pub AreWhole : Held → Type 0
AreWhole held = (key : Key) → IsSome (kept_of held key) → has_all held.sizes held.rank (share_at held key) ≡ true

-- it is what is pending after these fitting pieces
abbrev pub PendsFor : Held → List Piece → Type 0
PendsFor held pieces = Pends held.sizes held.rank (life_of held) (share_at held) pieces

-- Where a key is completed and the others are pending as they should, all are.
abbrev pub DropsCompleted : Held → Held → Key → Type 0
DropsCompleted old new own =
    (pieces : List Piece) → is_completed old.sizes old.rank own pieces ≡ true
    → PendsBut own old.sizes old.rank (life_of old) (share_at old) pieces → Pends old.sizes old.rank (life_of new) (share_at new) pieces
