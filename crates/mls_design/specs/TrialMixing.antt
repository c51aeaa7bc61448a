-- How the lanes of a rank are mixed: what is left of each lane behind those that have stood.
use Rattle.std.specs.Prelude.{◌≡◌, ℕ, zero, suc, ◌+◌, ◌-◌, ◌<◌, ◌≤◌, cond, List, [], ◌∷◌, ◌++◌, length, take, drop, nat_lt}
use Rattle.std.specs.List.{flat_map, AllByRecursion}
use Rattle.rand_pcg.specs.Lcg.{Lcg}
use Rattle.mls_model.specs.Numbers.{times}
use Rattle.mls_design.specs.declared.trial.stock.Stock.{Stock}
use Rattle.mls_model.specs.Lanes.{Lane}
use Rattle.mls_design.specs.TrialSchedule.{stocks, mixed, stock_events, picks, whole_lanes}
use Rattle.mls_design.specs.TrialSizes.{HasDrawn}

-- what is left of a lane that has stood so many times
abbrev pub rest_by : ℕ → Stock → List Stock
rest_by n s = cond (nat_lt n s.events) (record { lane = s.lane; events = s.events - n } ∷ []) []

-- what is left of lanes behind those that have stood: those with events left, with their number
abbrev pub rests : List Stock → List ℕ → List Stock
rests all before = flat_map (λ (s : Stock). rest_by (times s.lane before) s) all

-- one event less of a lane, and of the one at a place
abbrev pub spent : Stock → List Stock
spent s = cond (nat_lt 1 s.events) (record { lane = s.lane; events = s.events - 1 } ∷ []) []

abbrev pub spend : ℕ → List Stock → List Stock
spend n [] = []
spend zero (s ∷ left) = spent s ++ left
spend (suc n) (s ∷ left) = s ∷ spend n left

-- the lanes' numbers rise
abbrev pub Rise : List Stock → Type 0
Rise [] = Unit {0}
Rise (s ∷ all) = AllByRecursion (λ (t : Stock). s.lane < t.lane) all × Rise all

-- The order is the front of the mixed lanes, one word was drawn for each of its events, and each was picked among two lanes or more.
pub record IsMixing (number at : ℕ) (all : List Stock) (order : List ℕ) (left : List Stock) (words : Lcg) : Type 0 where
  pub mixing : order ≡ mixed number at all (length order)
  pub rest : left ≡ rests all order
  pub choices : (m : ℕ) → m < length order → 2 ≤ length (rests all (mixed number at all m))
  pub drawn : HasDrawn number (at + length order) words

-- The mixed lanes, where one word was drawn for each pick.
pub record IsMixed (number at : ℕ) (all : List Stock) (order : List ℕ) (words : Lcg) : Type 0 where
  pub order_is : order ≡ mixed number at all (stock_events all)
  pub drawn : HasDrawn number (at + picks number at all) words

-- The lanes of a rank before one are mixed, and those from it on are whole.
pub record IsRankOrder (number at rank earlier : ℕ) (lanes : List Lane) (order : List ℕ) (words : Lcg) : Type 0 where
  pub order_is : order ≡ mixed number at (stocks rank 0 (take earlier lanes)) (stock_events (stocks rank 0 (take earlier lanes))) ++ whole_lanes (stocks rank earlier (drop earlier lanes))
  pub drawn : HasDrawn number (at + picks number at (stocks rank 0 (take earlier lanes))) words
