-- The pick-freeze design of a study: its words, the simulations' values, the design text and the solver.
use Rattle.std.specs.Prelude.{ℕ, zero, suc, ◌+◌, ◌-◌, ◌*◌, ◌/◌, ◌%◌, ◌^◌, Bool, ◌||◌, cond, List, [], ◌∷◌, ◌++◌, length, map, get_or, ℤ, pos, ◌+ℤ◌, ◌-ℤ◌, codes, decimal, flat_map, unsigned_abs, sum_by, ◌==◌}
use Rattle.std.specs.Fmt.{signed_decimal}
use Rattle.std.specs.List.{enumerate_from}
use Rattle.rand_pcg.specs.Lcg.{Lcg, started, increment_of}
use Rattle.rand_pcg.specs.Pcg.{multiplier_64, pcg32}
use Rattle.mls_model.specs.Numbers.{below, joined}
use Rattle.mls_model.specs.Studies.{Study, Sizes, Parameter, plane_of}
use Rattle.mls_model.specs.Blocks.{overlap, width}
use Rattle.mls_model.specs.Frames.{Piece}

-- the generator of a number, as PCG XSH-RR 64/32 begins it on stream 54
abbrev pub generator : ℕ → Lcg
generator number = started 64 multiplier_64 number (increment_of 64 54)

-- the generator after n words
unfoldable pub drawn : Lcg → ℕ → Lcg
drawn g zero = g
drawn g (suc n) = (pcg32 (drawn g n)).1

-- word n of a number, counted from 0
unfoldable pub word : ℕ → ℕ → ℕ
word number n = (pcg32 (drawn (generator number) n)).0

-- the place of a group's word for a parameter: group by group, parameter by parameter, A before B
abbrev pub place_of_a : Sizes → ℕ → ℕ → ℕ
place_of_a s group k = 2 * (group * s.parameters + k)

abbrev pub place_of_b : Sizes → ℕ → ℕ → ℕ
place_of_b s group k = 2 * (group * s.parameters + k) + 1

-- Simulation 0 has the group's A values, simulation 1 its B values, and simulation 2 + k the A values with the k-th
-- replaced by B's.
abbrev pub takes_b : ℕ → ℕ → Bool
takes_b sim k = (sim == 1) || (sim == 2 + k)

-- the word that gives a simulation's value of a parameter
unfoldable pub word_of : Study → (group sim k : ℕ) → ℕ
word_of study group sim k = word study.seed (cond (takes_b sim k) (place_of_b study.sizes group k) (place_of_a study.sizes group k))

-- how many values a parameter may have
abbrev pub choices : Parameter → ℕ
choices p = unsigned_abs (p.high -ℤ p.low) + 1

-- a word of 32 bits gives a value from low to high
abbrev pub value_of : Parameter → ℕ → ℤ
value_of p w = p.low +ℤ pos ((w * choices p) / 2 ^ 32)

-- a simulation's values, parameter by parameter
unfoldable pub values : Study → (group sim : ℕ) → List ℤ
values study group sim = map (λ (x : ℕ × Parameter). value_of x.1 (word_of study group sim x.0)) (enumerate_from 0 study.parameters)

-- group G sim S followed by the values
unfoldable pub design_line : Study → (group sim : ℕ) → List ℕ
design_line study group sim = joined (codes "group " ∷ decimal group ∷ codes " sim " ∷ decimal sim ∷ flat_map (λ v. joined (codes " " ∷ signed_decimal v ∷ [])) (values study group sim) ∷ codes "\n" ∷ [])

unfoldable pub group_lines : Study → ℕ → List ℕ
group_lines study group = flat_map (λ sim. design_line study group sim) (below (2 + study.sizes.parameters))

-- The design text of a study.
unfoldable pub design_text : Study → List ℕ
design_text study = codes "melissa-design 1\n" ++ (flat_map (λ group. group_lines study group) (below study.sizes.groups) ++ codes "end\n")

-- where a value stands between low and high, from 0 to 1023
abbrev pub scaled : Parameter → ℤ → ℕ
scaled p v = (unsigned_abs (v -ℤ p.low) * 1024) / choices p

-- a simulation's values so scaled, parameter by parameter
unfoldable pub inputs : Study → (group sim : ℕ) → List ℕ
inputs study group sim = map (λ (x : ℕ × Parameter). scaled x.1 (value_of x.1 (word_of study group sim x.0))) (enumerate_from 0 study.parameters)

-- a sum over the inputs, each with a weight from 1 to 4, and the first times the last
abbrev pub response : ℕ → List ℕ → ℕ
response shift ss = sum_by (λ (x : ℕ × ℕ). (1 + (x.0 + shift) % 4) * x.1) (enumerate_from 0 ss) + (get_or ss 0 0 * get_or ss (length ss - 1) 0) / 16384

-- The solver: the sample of a simulation at a step, field and cell.
unfoldable pub solve : Study → (group sim step field cell : ℕ) → ℕ
solve study group sim step field cell = response (cell + step + field) (inputs study group sim)

-- the samples of a simulation over count cells from first on
unfoldable pub solved_row : Study → (group sim step field first count : ℕ) → List ℕ
solved_row study group sim step field first count = map (λ x. solve study group sim step field (first + x)) (below count)

-- The piece of a group's step and field that a client sends to a rank.
unfoldable pub solved_piece : Study → (group life step field rank client : ℕ) → Piece
solved_piece study group life step field rank client = record { life = life; group = group; plane = plane_of study.sizes step field; client = client; rows = 2 + study.sizes.parameters; first = (overlap study.sizes rank client).first; count = width (overlap study.sizes rank client); samples = flat_map (λ sim. solved_row study group sim step field (overlap study.sizes rank client).first (width (overlap study.sizes rank client))) (below (2 + study.sizes.parameters)) }
