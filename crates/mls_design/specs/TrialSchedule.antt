-- The schedule of trial: each rank's first lanes and its control lane mixed by words, then its resent lanes.
use Rattle.std.specs.Prelude.{ℕ, zero, suc, ◌+◌, ◌%◌, cond, List, [], ◌∷◌, ◌++◌, length, map, filter, replicate, nat_lt, nat_le, get_or, sum_by, ◌==◌}
use Rattle.std.specs.List.{flat_map, enumerate_from}
use Rattle.mls_model.specs.Numbers.{below, times}
use Rattle.mls_model.specs.Studies.{Study}
use Rattle.mls_model.specs.Lanes.{Lane}
use Rattle.mls_model.specs.Designs.{word}
use Rattle.mls_design.specs.declared.trial.stock.Stock.{Stock}
use Rattle.mls_design.specs.Trial.{routes, words_before, earlier_lanes, resent_lanes}

-- the numbers of a rank's lanes with those of their events, among lanes that are numbered from a number on
unfoldable pub stocks : ℕ → ℕ → List Lane → List Stock
stocks rank from lanes = flat_map (λ (p : ℕ × Lane). cond (p.1.rank == rank) (record { lane = p.0; events = length p.1.frames } ∷ []) []) (enumerate_from from lanes)

-- the lanes that have events left where these have stood, in rising number
unfoldable pub left : List Stock → List ℕ → List ℕ
left all before = flat_map (λ (s : Stock). cond (nat_lt (times s.lane before) s.events) (s.lane ∷ []) []) all

-- the lane that a word picks of those that have events left, counted from 0
abbrev pub picked : ℕ → List ℕ → ℕ
picked w lanes = get_or lanes (w % length lanes) 0

-- The first n events of lanes mixed by the words from number at on. Where one lane is left alone, every word picks it.
unfoldable pub mixed : ℕ → ℕ → List Stock → ℕ → List ℕ
mixed number at all zero = []
mixed number at all (suc n) = mixed number at all n ++ picked (word number (at + n)) (left all (mixed number at all n)) ∷ []

-- the number of all their events
abbrev pub stock_events : List Stock → ℕ
stock_events all = sum_by (λ (s : Stock). s.events) all

-- the number of words drawn: one for each event before which at least two lanes have events left
unfoldable pub picks : ℕ → ℕ → List Stock → ℕ
picks number at all = length (filter (λ n. nat_le 2 (length (left all (mixed number at all n)))) (below (stock_events all)))

-- each lane whole, in rising number
unfoldable pub whole_lanes : List Stock → List ℕ
whole_lanes all = flat_map (λ (s : Stock). replicate s.events s.lane) all

-- a rank's lanes that are mixed, and those that follow whole
abbrev pub mixed_stocks : Study → ℕ → ℕ → List Stock
mixed_stocks study number rank = stocks rank 0 (earlier_lanes study number)

abbrev pub resent_stocks : Study → ℕ → ℕ → List Stock
resent_stocks study number rank = stocks rank (length (earlier_lanes study number)) (resent_lanes study)

-- the number of the first word that a rank's mixing draws: behind those of the groups, of all planned pieces and of the ranks before it
unfoldable pub mixing_from : Study → ℕ → ℕ → ℕ
mixing_from study number zero = words_before study number (routes study.sizes)
mixing_from study number (suc rank) = mixing_from study number rank + picks number (mixing_from study number rank) (mixed_stocks study number rank)

-- a rank's list
unfoldable pub trial_order : Study → ℕ → ℕ → List ℕ
trial_order study number rank = mixed number (mixing_from study number rank) (mixed_stocks study number rank) (stock_events (mixed_stocks study number rank)) ++ whole_lanes (resent_stocks study number rank)

-- The schedule.
unfoldable pub trial_orders : Study → ℕ → List (List ℕ)
trial_orders study number = map (trial_order study number) (below study.sizes.ranks)
