-- What an offered piece came to.
use Rattle.std.specs.Prelude.{◌≡◌, ◌≢◌, ℕ, ◌+◌, ◌*◌, ◌<◌, Bool, true, false, cond, ◌==◌, ◌⊎◌, List, [], ◌∷◌, ◌++◌, map, slice_index, Option, Some, None}
use Rattle.std.specs.List.{AllByRecursion}
use Rattle.mls_model.specs.declared.outcomes.Outcome.{Outcome}
use Rattle.mls_model.specs.declared.outcomes.Outcome.TheVariants as outcomes
use Rattle.mls_model.specs.Numbers.{below}
use Rattle.mls_model.specs.Studies.{Sizes}
use Rattle.mls_model.specs.Blocks.{block, width}
use Rattle.mls_model.specs.Frames.{Piece}
use Rattle.mls_model.specs.Fitting.{Fits}
use Rattle.mls_model.specs.Completion.{Key, key_of, completes, is_completed}
use Rattle.mls_model.specs.AcceptedRows.{row_at}
use Rattle.mls_model.specs.Outcomes.{piece_outcome}
use Rattle.mls_assembly.specs.declared.assembled.Assembled.{Assembled}
use Rattle.mls_assembly.specs.declared.assembled.Assembled.TheVariants.{Kept, Repeated, Stale, Complete}
use Rattle.mls_assembly.specs.Shares.{Share, share_of, block_sample, has_all}
use Rattle.mls_assembly.specs.KeyShares.{share_in}
use Rattle.mls_assembly.specs.Pendings.{Pends, PendsBut}
use Rattle.mls_assembly.specs.Held.{Held, kept_of, life_of, share_at, PendsFor}

-- the piece has all cells of the block
abbrev pub Covers : Held → Piece → Type 0
Covers held p = p.count ≡ width (block held.sizes held.rank)

-- the piece has fewer cells than the block
abbrev pub IsPartial : Held → Piece → Type 0
IsPartial held p = p.count < width (block held.sizes held.rank)

abbrev pub is_complete : Assembled → Bool
is_complete Complete = true
is_complete _ = false

-- the shares of a key that have this life
abbrev pub shares_of_life : Held → Key → ℕ → ℕ → Option Share
shares_of_life held key life client = elim (kept_of held key) [ None ↦ None | Some o ↦ cond (o.life == life) (share_in o client) None ]

-- A piece was stored: its key has its life, and of that life its share beside those that were there. It is complete where no client's share is missing.
pub record Stores (old new : Held) (p : Piece) (answer : Assembled) : Type 0 where
  pub life : life_of new (key_of p) ≡ Some p.life
  pub shares : (client : ℕ) → share_at new (key_of p) client ≡ cond (client == p.client) (Some (share_of p)) (shares_of_life old (key_of p) p.life client)
  pub whole : has_all old.sizes old.rank (share_at new (key_of p)) ≡ is_complete answer

-- a piece that is kept was stored, and so was one that is complete with those of other clients
abbrev pub StoresKept : Held → Held → Piece → Assembled → Type 0
StoresKept old new p answer = answer ≡ Kept → Stores old new p answer

abbrev pub StoresComplete : Held → Held → Piece → Assembled → Type 0
StoresComplete old new p answer = answer ≡ Complete → IsPartial old p → Stores old new p answer

-- where a piece is stale or repeated, all is as before
abbrev pub Unchanged : Held → Held → Assembled → Type 0
Unchanged old new answer = ((answer ≡ Stale) ⊎ (answer ≡ Repeated)) → new ≡ old

-- the outcome that an answer stands for
abbrev pub outcome_of : Assembled → Outcome
outcome_of Kept = outcomes.Kept
outcome_of Repeated = outcomes.Repeated
outcome_of Stale = outcomes.Stale
outcome_of Complete = outcomes.Accepted

-- the sample of a row and a place of the block: from the piece where it covers the block alone, else from what is held of its key
abbrev pub offered_sample : Sizes → ℕ → Held → Piece → ℕ → ℕ → ℕ
offered_sample s rank held p row place =
    cond (p.count == width (block s rank)) (slice_index p.samples (row * p.count + place)) (block_sample s rank (share_at held (key_of p)) row place)

-- A completing piece: its key is completed with it, all other keys pend as they should, and its rows can be read.
pub record Completed (s : Sizes) (rank : ℕ) (held : Held) (p : Piece) (pieces : List Piece) : Type 0 where
  pub completes : completes s rank pieces p ≡ true
  pub done : is_completed s rank (key_of p) (pieces ++ p ∷ []) ≡ true
  pub others : PendsBut (key_of p) s rank (life_of held) (share_at held) (pieces ++ p ∷ [])
  pub rows : (place : ℕ) → place < width (block s rank) → row_at s ((block s rank).first + place) pieces p ≡ map (λ row. offered_sample s rank held p row place) (below (s.parameters + 2))
  pub alone : (p.count == width (block s rank)) ≡ true → life_of held (key_of p) ≡ None

-- The answer is the outcome after these pieces. Where the key is not complete, what is held is pending after the piece too.
pub record Offers (s : Sizes) (rank : ℕ) (held : Held) (p : Piece) (answer : Assembled) (pieces : List Piece) : Type 0 where
  pub outcome : outcome_of answer ≡ piece_outcome s rank pieces p
  pub incomplete : answer ≢ Complete → completes s rank pieces p ≡ false
  pub pends : answer ≢ Complete → Pends s rank (life_of held) (share_at held) (pieces ++ p ∷ [])
  pub completed : answer ≡ Complete → Completed s rank held p pieces

-- the answer is right after all fitting pieces that leave pending what was held, where the piece's key is not completed
abbrev pub IsOffered : Held → Held → Piece → Assembled → Type 0
IsOffered old new p answer =
    (pieces : List Piece) → AllByRecursion (Fits old.sizes old.rank) pieces → PendsFor old pieces
    → is_completed old.sizes old.rank (key_of p) pieces ≡ false → Offers old.sizes old.rank new p answer pieces
