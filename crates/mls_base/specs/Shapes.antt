-- How a shape keeps its thresholds, and which numbers a shape is made of.
use Rattle.std.specs.Prelude.{◌≡◌, ℕ, ◌≤◌, List, ◌++◌, replicate, take, length}
use Rattle.std.proofs.Common.{sym, ◌∙◌, ap, arith, length-take, length-append}
use Rattle.std.proofs.Math.ListN.{length-replicate}
use Rattle.mls_model.specs.Studies.{Sizes, AreSizes}
use Rattle.mls_base.specs.Ranges.{AreThresholds}
use Rattle.mls_base.specs.declared.numbers.Numbers.{Numbers}

-- eight places: the numbers, and 0 behind them
abbrev pub padded : List ℕ → List ℕ
padded xs = take 8 (xs ++ replicate 8 0)

-- the sizes that numbers give
abbrev pub sizes_of : Numbers → Sizes
sizes_of n = record { cells = n.cells; steps = n.steps; groups = n.groups; parameters = n.parameters; ranks = n.ranks; clients = n.clients; slots = n.slots; silence = n.silence; lives = n.lives; thresholds = take n.thresholds n.threshold; signed = n.signed; fields = n.fields }

-- There are at most eight thresholds, the places behind them are 0, and the sizes are within the ranges of a study file.
pub record AreNumbers (n : Numbers) : Type 0 where
  pub few : n.thresholds ≤ 8
  pub behind : n.threshold ≡ padded (take n.thresholds n.threshold)
  pub sizes : AreSizes (sizes_of n)

-- the sizes with this number of ranks
abbrev pub with_ranks : Sizes → ℕ → Sizes
with_ranks s ranks = record { cells = s.cells; steps = s.steps; groups = s.groups; parameters = s.parameters; ranks = ranks; clients = s.clients; slots = s.slots; silence = s.silence; lives = s.lives; thresholds = s.thresholds; signed = s.signed; fields = s.fields }

-- the thresholds are in their ranges, and the places behind them are 0
pub record AreKept (n : Numbers) : Type 0 where
  pub few : n.thresholds ≤ 8
  pub thresholds : AreThresholds (take n.thresholds n.threshold)
  pub behind : n.threshold ≡ padded (take n.thresholds n.threshold)

length-padded : (xs : List ℕ) → length (padded xs) ≡ 8
length-padded xs = omega (arith, length-take 8 (xs ++ replicate 8 0), length-append xs (replicate 8 0), length-replicate {A = ℕ} 8 0)

length-taken : (n : ℕ) (kept : List ℕ) → kept ≡ padded (take n kept) → n ≤ 8 → length (take n kept) ≡ n
length-taken n kept same few = omega (arith, length-take n kept, ap length same, length-padded (take n kept))

-- the thresholds and their number give back what is kept
pub unpadded : (n : ℕ) (kept : List ℕ) → kept ≡ padded (take n kept) → n ≤ 8 → ◌≡◌ {A = ℕ × List ℕ} (length (take n kept), padded (take n kept)) (n, kept)
unpadded n kept same few = ap (λ (m : ℕ). let p : ℕ × List ℕ = (m, padded (take n kept)) in p) (length-taken n kept same few) ∙ ap (λ (xs : List ℕ). let p : ℕ × List ℕ = (n, xs) in p) (sym same)
