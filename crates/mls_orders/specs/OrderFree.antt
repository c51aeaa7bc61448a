-- When it doesn't matter to the sums in which order the events of a tape are taken.
use Rattle.std.specs.Prelude.{◌≡◌, ℕ, ◌<◌, Bool, true, false, not, ◌&&◌, ◌||◌, ◌⊎◌, cond, List, [], ◌∷◌, max, ◌==◌, Contains}
use Rattle.std.specs.List.{list_any, list_all, AllByRecursion}
use Rattle.mls_model.specs.Numbers.{below, same_bytes}
use Rattle.mls_model.specs.Studies.{Sizes}
use Rattle.mls_model.specs.Frames.{Piece}
use Rattle.mls_model.specs.Lanes.{Lane}
use Rattle.mls_model.specs.Survival.{is_crash}
use Rattle.mls_model.specs.Completion.{Key, key_of, is_of_key, has_all_shares}
use Rattle.mls_orders.specs.Tapes.{lane_events, tape_pieces}

-- the greatest life among the pieces of a key, and 0 where there is none
abbrev pub greatest_life : Key → List Piece → ℕ
greatest_life key [] = 0
greatest_life key (p ∷ pieces) = cond (is_of_key key p) (max p.life (greatest_life key pieces)) (greatest_life key pieces)

-- of two pieces of one key and client both carry the same samples
abbrev pub CarryTheSame : Piece → Piece → Type 0
CarryTheSame p q = key_of p ≡ key_of q → p.client ≡ q.client → p.samples ≡ q.samples

-- Either no life has a piece of every client that overlaps the rank's block, or the greatest life has.
abbrev pub IsSettled : Sizes → ℕ → List Piece → Key → Type 0
IsSettled s rank pieces key = ((life : ℕ) → has_all_shares s rank key life pieces ≡ false) ⊎ (has_all_shares s rank key (greatest_life key pieces) pieces ≡ true)

-- No crash counts on the tape, any two fitting pieces of one rank, key and client carry the same samples, and each key of each rank is settled.
pub record IsOrderFree (s : Sizes) (lanes : List Lane) : Type 0 where
  pub no_crash : AllByRecursion (λ (lane : Lane). list_any is_crash (lane_events lane) ≡ false) lanes
  pub alike : (rank : ℕ) → rank < s.ranks → (p q : Piece) → Contains (tape_pieces s lanes rank) p → Contains (tape_pieces s lanes rank) q → CarryTheSame p q
  pub settled : (rank : ℕ) → rank < s.ranks → (key : Key) → IsSettled s rank (tape_pieces s lanes rank) key

-- whether some life of a key has a piece of every client that overlaps the rank's block
unfoldable pub some_life_has_all : Sizes → ℕ → Key → List Piece → Bool
some_life_has_all s rank key pieces = list_any (λ p. is_of_key key p && has_all_shares s rank key p.life pieces) pieces

-- the same premise as a test
abbrev pub is_crash_free : Lane → Bool
is_crash_free lane = not (list_any is_crash (lane_events lane))

abbrev pub carry_the_same : Piece → Piece → Bool
carry_the_same p q = not (is_of_key (key_of p) q && (q.client == p.client)) || same_bytes p.samples q.samples

abbrev pub all_carry_the_same : List Piece → Bool
all_carry_the_same pieces = list_all (λ p. list_all (carry_the_same p) pieces) pieces

abbrev pub is_settled : Sizes → ℕ → List Piece → Key → Bool
is_settled s rank pieces key = not (some_life_has_all s rank key pieces) || has_all_shares s rank key (greatest_life key pieces) pieces

abbrev pub all_settled : Sizes → ℕ → List Piece → Bool
all_settled s rank pieces = list_all (λ p. is_settled s rank pieces (key_of p)) pieces

unfoldable pub is_order_free : Sizes → List Lane → Bool
is_order_free s lanes = list_all is_crash_free lanes && list_all (λ rank. all_carry_the_same (tape_pieces s lanes rank) && all_settled s rank (tape_pieces s lanes rank)) (below s.ranks)
