-- When a rank has a group's timestep whole. A place is a fitting piece with the fitting pieces before it.
use Rattle.std.specs.Prelude.{ℕ, Bool, not, ◌&&◌, ◌||◌, List, [], ◌∷◌, ◌++◌, nat_lt, ◌==◌}
use Rattle.std.specs.List.{list_any, list_all}
use Rattle.mls_model.specs.Numbers.{below}
use Rattle.mls_model.specs.Places.{any_place}
use Rattle.mls_model.specs.Studies.{Sizes}
use Rattle.mls_model.specs.Blocks.{overlaps}
use Rattle.mls_model.specs.Frames.{Piece}

-- a key is a group with a plane
pub record Key : Type 0 where
  pub group : ℕ
  pub plane : ℕ

abbrev pub key_of : Piece → Key
key_of p = record { group = p.group; plane = p.plane }

abbrev pub is_of_key : Key → Piece → Bool
is_of_key key p = (p.group == key.group) && (p.plane == key.plane)

-- a piece of the key with a greater life
abbrev pub is_later_life : Key → ℕ → Piece → Bool
is_later_life key life p = is_of_key key p && nat_lt life p.life

-- a piece of the key with this life from this client
abbrev pub is_share : Key → ℕ → ℕ → Piece → Bool
is_share key life client p = is_of_key key p && (p.life == life) && (p.client == client)

-- each client that overlaps the rank's block has a piece of the key with this life
abbrev pub has_all_shares : Sizes → ℕ → Key → ℕ → List Piece → Bool
has_all_shares s rank key life pieces = list_all (λ client. not (overlaps s rank client) || list_any (is_share key life client) pieces) (below s.clients)

-- With this piece its key is whole: no earlier piece of the key has a greater life, and with this piece each client that overlaps the block has one of this life.
unfoldable pub makes_whole : Sizes → ℕ → List Piece → Piece → Bool
makes_whole s rank before p = not (list_any (is_later_life (key_of p) p.life) before) && has_all_shares s rank (key_of p) p.life (before ++ p ∷ [])

-- whether a key is completed among these pieces: some piece of it made it whole
unfoldable pub is_completed : Sizes → ℕ → Key → List Piece → Bool
is_completed s rank key pieces = any_place (λ before p. is_of_key key p && makes_whole s rank before p) [] pieces

-- whether a place completes its key: it makes it whole, and no earlier place did
unfoldable pub completes : Sizes → ℕ → List Piece → Piece → Bool
completes s rank before p = makes_whole s rank before p && not (is_completed s rank (key_of p) before)
