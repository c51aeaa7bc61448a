-- The state of a rank after a history, and its checkpoint.
use Rattle.std.specs.Prelude.{ℕ, ◌+◌, ◌*◌, ◌^◌, max, Bool, ◌&&◌, cond, List, [], ◌∷◌, map, find, sum_by, nat_lt, Option, Some, None}
use Rattle.std.specs.List.{flat_map}
use Rattle.std.specs.Option.{option_map}
use Rattle.mls_model.specs.Numbers.{below}
use Rattle.mls_model.specs.Studies.{Sizes, planes}
use Rattle.mls_model.specs.Frames.{Piece}
use Rattle.mls_model.specs.Histories.{LaneEvent}
use Rattle.mls_model.specs.Survival.{surviving}
use Rattle.mls_model.specs.Fitting.{fitting}
use Rattle.mls_model.specs.Completion.{Key, is_of_key, is_share, is_completed}
use Rattle.mls_model.specs.Outcomes.{counts}
use Rattle.mls_model.specs.Standing.{Table, rank_table}
use Rattle.mls_ckpt.specs.States.{PendingShare, PendingKey, State, row_len}
use Rattle.mls_ckpt.specs.Spellings.{spelled_state}

-- the byte whose bits are these, and the bytes of a plane's marks
abbrev pub byte_of : (ℕ → Bool) → ℕ
byte_of bits = sum_by (λ i. cond (bits i) (2 ^ i) 0) (below 8)

unfoldable pub row_of : ℕ → (ℕ → Bool) → List ℕ
row_of groups is_marked = map (λ i. byte_of (λ bit. nat_lt (8 * i + bit) groups && is_marked (8 * i + bit))) (below (row_len groups))

unfoldable pub marks_of : Sizes → (Key → Bool) → List (List ℕ)
marks_of s is_marked = map (λ plane. row_of s.groups (λ group. is_marked (record { group = group; plane = plane }))) (below (planes s))

-- the pending keys of these lives and samples, by rising plane, group and client
abbrev pub shares_of : Sizes → (ℕ → Option (List ℕ)) → List PendingShare
shares_of s samples = flat_map (λ client. elim (samples client) [ None ↦ [] | Some xs ↦ record { client = client; samples = xs } ∷ [] ]) (below s.clients)

abbrev pub key_pending : Sizes → Key → Option ℕ → (ℕ → Option (List ℕ)) → List PendingKey
key_pending s key None samples = []
key_pending s key (Some life) samples = record { group = key.group; plane = key.plane; life = life; shares = shares_of s samples } ∷ []

unfoldable pub pending_of : Sizes → (Key → Option ℕ) → (Key → ℕ → Option (List ℕ)) → List PendingKey
pending_of s lives samples = flat_map (λ plane. flat_map (λ group. key_pending s (record { group = group; plane = plane }) (lives (record { group = group; plane = plane })) (samples (record { group = group; plane = plane }))) (below s.groups)) (below (planes s))

-- the greatest life of a key's pieces, where there is one
abbrev pub later_of : Option ℕ → ℕ → ℕ
later_of None life = life
later_of (Some other) life = max other life

unfoldable pub greatest_life : Key → List Piece → Option ℕ
greatest_life key [] = None
greatest_life key (p ∷ rest) = cond (is_of_key key p) (Some (later_of (greatest_life key rest) p.life)) (greatest_life key rest)

-- the life that is pending of a key, and the samples of the first piece of it from a client
unfoldable pub pending_life : Sizes → ℕ → List Piece → Key → Option ℕ
pending_life s rank pieces key = cond (is_completed s rank key pieces) None (greatest_life key pieces)

unfoldable pub pending_samples : Sizes → ℕ → List Piece → Key → ℕ → Option (List ℕ)
pending_samples s rank pieces key client = elim (pending_life s rank pieces key) [ None ↦ None | Some life ↦ option_map (λ (p : Piece). p.samples) (find (is_share key life client) pieces) ]

-- the state that stands for surviving events; part_of spells the sums of a table of rows
unfoldable pub state_after : (Sizes → ℕ → Table → List ℕ) → Sizes → ℕ → List LaneEvent → State
state_after part_of s rank events = record {
  counts = counts s rank events;
  marks = marks_of s (λ key. is_completed s rank key (fitting s rank events));
  part = part_of s rank (rank_table s rank (fitting s rank events));
  pending = pending_of s (pending_life s rank (fitting s rank events)) (pending_samples s rank (fitting s rank events));
}

-- the checkpoint of a history, in the version that is written
unfoldable pub checkpoint : (Sizes → ℕ → Table → List ℕ) → Sizes → ℕ → List LaneEvent → List ℕ
checkpoint part_of s rank history = spelled_state 3 s rank (state_after part_of s rank (surviving history))
