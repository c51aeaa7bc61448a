-- The words of a design, and what they give.
use Rattle.std.proofs.Common.{◌≡◌, ℕ, suc, ◌+◌, ◌*◌, ◌<◌, true, false, cond, List, [], ◌∷◌, ◌++◌, length, get_or, take, map, ℤ, Some, sym, ◌∙◌, ap, arith, add-one}
use Rattle.std.specs.Option.{option_map}
use Rattle.std.proofs.lemmas.List.{map_push, get_or-map, length-map}
use Rattle.std.proofs.lemmas.Nat.{mul-add-lt}
use Rattle.std.proofs.Math.Nat.{eq_of_mul-eq-mul_left, mul_comm}
use Rattle.rand_pcg.specs.Lcg.{Lcg}
use Rattle.rand_pcg.specs.Pcg.{pcg32}
use Rattle.mls_model.specs.Numbers.{below, element}
use Rattle.mls_model.specs.Studies.{Study, Parameter, IsStudy}
use Rattle.mls_model.specs.Designs.{generator, drawn, word, word_of, takes_b, value_of, scaled, values, inputs}
use Rattle.mls_design.specs.declared.words.Pair.{Pair}
use Rattle.mls_design.specs.Kept.{Kept, IsKept, pair_of, design_of}
use Rattle.mls_design.specs.Ranges.{nameless}
use Rattle.mls_design.proofs.Elements.{element_map, element_there, get_or_element, element_enumerated, take_element}
use Rattle.mls_text.proofs.Counted.{length-below, get_or-below}
use Rattle.mls_design.proofs.Counting.{map-below_more}

-- n pairs are drawn
pub record Drew (seed n : ℕ) (ps : List Pair) (g : Lcg) : Type 0 where
  pub pairs : ps ≡ map (pair_of seed) (below n)
  pub state : g ≡ drawn (generator seed) (2 * n)

pub drew_none : (seed : ℕ) (ps : List Pair) (g : Lcg) → ps ≡ [] → g ≡ generator seed → Drew seed 0 ps g
unfolding drawn
drew_none seed ps g none start = record { pairs = none; state = start }

word_drawn : (seed n w : ℕ) (g next : Lcg) → g ≡ drawn (generator seed) n → ◌≡◌ {A = ℕ × Lcg} (w, next) (pcg32 g) → (w ≡ word seed n) × (next ≡ drawn (generator seed) (suc n))
unfolding word drawn
word_drawn seed n w g next is step =
    let here : ◌≡◌ {A = ℕ × Lcg} (w, next) (pcg32 (drawn (generator seed) n)) = step ∙ ap pcg32 is in
    (ap (λ (p : ℕ × Lcg). p.0) here, ap (λ (p : ℕ × Lcg). p.1) here)

pub drew_more : (seed n a b : ℕ) (pairs : List Pair) (g mid next : Lcg) → Drew seed n pairs g → ◌≡◌ {A = ℕ × Lcg} (a, mid) (pcg32 g) → ◌≡◌ {A = ℕ × Lcg} (b, next) (pcg32 mid) → Drew seed (n + 1) (pairs ++ record { a = a; b = b } ∷ []) next
drew_more seed n a b pairs g mid next so_far first second =
    let is_a = word_drawn seed (2 * n) a g mid so_far.state first in
    let is_b = word_drawn seed (suc (2 * n)) b mid next is_a.1 second in
    let later : suc (2 * n) ≡ 2 * n + 1 = sym (add-one (2 * n)) in
    let even : suc (suc (2 * n)) ≡ 2 * (n + 1) = omega arith in
    let of_pair : ℕ → ℕ → List Pair = λ x y. map (pair_of seed) (below n) ++ record { a = x; b = y } ∷ [] in
    record {
      pairs = ap (λ ps. ps ++ record { a = a; b = b } ∷ []) so_far.pairs
          ∙ ap (λ x. of_pair x b) is_a.0
          ∙ ap (λ y. of_pair (word seed (2 * n)) y) (is_b.0 ∙ ap (word seed) later)
          ∙ sym (map-below_more (pair_of seed) n);
      state = is_b.1 ∙ ap (drawn (generator seed)) even;
    }

-- the pair of a group's parameter
pub pair_is : (study : Study) (kept : Kept) (group k i : ℕ) (pair : Pair) → IsKept kept → kept ≡ design_of study → group < kept.groups → k < length kept.ranges → i ≡ group * length kept.ranges + k → pair ≡ get_or kept.pairs i pair → pair ≡ pair_of study.seed (group * study.sizes.parameters + k)
unfolding design_of
pair_is study kept group k i pair ok made group_in k_in at read =
    let n : ℕ = length kept.ranges in
    let count : ℕ = study.sizes.groups * study.sizes.parameters in
    let groups : kept.groups ≡ study.sizes.groups = ap (λ (d : Kept). d.groups) made in
    let pairs : kept.pairs ≡ map (pair_of study.seed) (below count) = ap (λ (d : Kept). d.pairs) made in
    let size : length kept.pairs ≡ count = ap length pairs ∙ length-map (below count) (pair_of study.seed) ∙ length-below count in
    let same : study.sizes.groups * study.sizes.parameters ≡ study.sizes.groups * n = sym size ∙ ok.pairs ∙ ap (λ m. m * n) groups in
    let parameters : study.sizes.parameters ≡ n = eq_of_mul-eq-mul_left study.sizes.groups (omega arith) study.sizes.parameters n same in
    let within : i < count = omega (arith, mul-add-lt group n k kept.groups group_in k_in, mul_comm n kept.groups, ok.pairs, at, size) in
    let there : get_or kept.pairs i pair ≡ pair_of study.seed i =
    ap (λ ps. get_or ps i pair) pairs
    ∙ get_or-map (pair_of study.seed) (below count) i 0 pair (omega (arith, within, length-below count))
    ∙ ap (pair_of study.seed) (get_or-below count i 0 within) in
    let place : i ≡ group * study.sizes.parameters + k = at ∙ ap (λ m. group * m + k) (sym parameters) in
    read ∙ there ∙ ap (pair_of study.seed) place

-- the word that a simulation takes of it
pub took_b : (study : Study) (group sim k : ℕ) (pair : Pair) → pair ≡ pair_of study.seed (group * study.sizes.parameters + k) → takes_b sim k ≡ true → pair.b ≡ word_of study group sim k
unfolding word_of
took_b study group sim k pair is takes =
    let n : ℕ = group * study.sizes.parameters + k in
    ap (λ (p : Pair). p.b) is ∙ sym (ap (λ t. word study.seed (cond t (2 * n + 1) (2 * n))) takes)

pub took_a : (study : Study) (group sim k : ℕ) (pair : Pair) → pair ≡ pair_of study.seed (group * study.sizes.parameters + k) → takes_b sim k ≡ false → pair.a ≡ word_of study group sim k
unfolding word_of
took_a study group sim k pair is takes =
    let n : ℕ = group * study.sizes.parameters + k in
    ap (λ (p : Pair). p.a) is ∙ sym (ap (λ t. word study.seed (cond t (2 * n + 1) (2 * n))) takes)

-- the design's ranges are the study's
pub ranges_are : (study : Study) (kept : Kept) → kept ≡ design_of study → kept.ranges ≡ map nameless study.parameters
unfolding design_of
ranges_are study kept made = ap (λ (d : Kept). d.ranges) made

pub groups_are : (study : Study) (kept : Kept) → kept ≡ design_of study → kept.groups ≡ study.sizes.groups
unfolding design_of
groups_are study kept made = ap (λ (d : Kept). d.groups) made

pub parameters_are : (study : Study) (kept : Kept) → kept ≡ design_of study → length kept.ranges ≡ length study.parameters
parameters_are study kept made = ap length (ranges_are study kept made) ∙ length-map study.parameters nameless

-- the design that is made of a study's parts
pub made_design : (study : Study) (groups count seed : ℕ) (ranges : List Parameter) (pairs : List Pair) → groups ≡ study.sizes.groups → count ≡ study.sizes.parameters → seed ≡ study.seed → ranges ≡ map nameless study.parameters → pairs ≡ map (pair_of seed) (below (groups * count)) → ◌≡◌ {A = Kept} (record { groups = groups; ranges = ranges; pairs = pairs }) (design_of study)
unfolding design_of
made_design study groups count seed ranges pairs is_groups is_count is_seed is_ranges is_pairs =
    let all : pairs ≡ map (pair_of study.seed) (below (study.sizes.groups * study.sizes.parameters)) =
    is_pairs ∙ ap (λ s. map (pair_of s) (below (groups * count))) is_seed
    ∙ ap (λ n. map (pair_of study.seed) (below (n * count))) is_groups
    ∙ ap (λ n. map (pair_of study.seed) (below (study.sizes.groups * n))) is_count in
    let of : ℕ → List Parameter → List Pair → Kept = λ n rs ps. record { groups = n; ranges = rs; pairs = ps } in
    ap (λ n. of n ranges pairs) is_groups ∙ ap (λ rs. of study.sizes.groups rs pairs) is_ranges ∙ ap (λ ps. of study.sizes.groups (map nameless study.parameters) ps) all

-- it keeps the ranges of a study
pub kept_made : (study : Study) (kept : Kept) → IsStudy study → kept ≡ design_of study → IsKept kept
unfolding design_of
kept_made study kept ok made =
    let rs : kept.ranges ≡ map nameless study.parameters = ap (λ (d : Kept). d.ranges) made in
    let gs : kept.groups ≡ study.sizes.groups = ap (λ (d : Kept). d.groups) made in
    let ps : kept.pairs ≡ map (pair_of study.seed) (below (study.sizes.groups * study.sizes.parameters)) = ap (λ (d : Kept). d.pairs) made in
    let n : length kept.ranges ≡ study.sizes.parameters = ap length rs ∙ length-map study.parameters nameless ∙ ok.count in
    let all : length kept.pairs ≡ study.sizes.groups * study.sizes.parameters = ap length ps ∙ length-map (below (study.sizes.groups * study.sizes.parameters)) (pair_of study.seed) ∙ length-below (study.sizes.groups * study.sizes.parameters) in
    record {
      groups = omega (arith, gs, ok.sizes.groups);
      some_ranges = omega (arith, n, ok.sizes.some_parameters);
      ranges = omega (arith, n, ok.sizes.parameters);
      pairs = all ∙ ap (λ m. m * study.sizes.parameters) (sym gs) ∙ ap (λ m. kept.groups * m) (sym n);
    }

-- the parameter at a place has the range that is read there
range_read : (study : Study) (ranges : List Parameter) (k : ℕ) (range : Parameter) → ranges ≡ map nameless study.parameters → k < length ranges → range ≡ get_or ranges k range → (p : Parameter) × (element study.parameters k ≡ Some p) × (range ≡ nameless p)
range_read study ranges k range are within read =
    let size : length ranges ≡ length study.parameters = ap length are ∙ length-map study.parameters nameless in
    let found = element_there study.parameters k (omega arith) in
    let there : element (map nameless study.parameters) k ≡ Some (nameless found.0) = element_map nameless study.parameters k ∙ ap (option_map nameless) found.1 in
    (found.0, found.1, read ∙ ap (λ rs. get_or rs k range) are ∙ get_or_element (map nameless study.parameters) k (nameless found.0) range there)

pub value_is : (study : Study) (ranges : List Parameter) (group sim k : ℕ) (range : Parameter) (w : ℕ) (v : ℤ) → ranges ≡ map nameless study.parameters → k < length ranges → range ≡ get_or ranges k range → w ≡ word_of study group sim k → v ≡ value_of range w → element (values study group sim) k ≡ Some v
unfolding values
value_is study ranges group sim k range w v are within read is_word is_value =
    let f = range_read study ranges k range are within read in
    let at : 0 + k ≡ k = omega arith in
    let same : v ≡ value_of f.0 (word_of study group sim k) = is_value ∙ ap (λ (p : Parameter). value_of p w) f.2 ∙ ap (value_of f.0) is_word in
    element_enumerated (λ (x : ℕ × Parameter). value_of x.1 (word_of study group sim x.0)) 0 k study.parameters f.0 f.1
    ∙ ap (λ j. Some (value_of f.0 (word_of study group sim j))) at ∙ ap Some (sym same)

pub input_is : (study : Study) (ranges : List Parameter) (group sim k : ℕ) (range : Parameter) (w v : ℕ) → ranges ≡ map nameless study.parameters → k < length ranges → range ≡ get_or ranges k range → w ≡ word_of study group sim k → v ≡ scaled range (value_of range w) → element (inputs study group sim) k ≡ Some v
unfolding inputs
input_is study ranges group sim k range w v are within read is_word is_input =
    let f = range_read study ranges k range are within read in
    let at : 0 + k ≡ k = omega arith in
    let same : v ≡ scaled f.0 (value_of f.0 (word_of study group sim k)) = is_input ∙ ap (λ (p : Parameter). scaled p (value_of p w)) f.2 ∙ ap (λ n. scaled f.0 (value_of f.0 n)) is_word in
    element_enumerated (λ (x : ℕ × Parameter). scaled x.1 (value_of x.1 (word_of study group sim x.0))) 0 k study.parameters f.0 f.1
    ∙ ap (λ j. Some (scaled f.0 (value_of f.0 (word_of study group sim j)))) at ∙ ap Some (sym same)

-- one range more
pub ranges_more : (ps rs : List Parameter) (k : ℕ) (r : Parameter) → rs ≡ map nameless (take k ps) → option_map nameless (element ps k) ≡ Some r → k < length ps → rs ++ r ∷ [] ≡ map nameless (take (k + 1) ps)
ranges_more ps rs k r so_far there within =
    let found = element_there ps k within in
    let same : Some (nameless found.0) ≡ Some r = sym (ap (option_map nameless) found.1) ∙ there in
    let is : nameless found.0 ≡ r = cc in
    ap (λ qs. qs ++ r ∷ []) so_far ∙ ap (λ q. map nameless (take k ps) ++ q ∷ []) (sym is)
    ∙ sym (map_push nameless (take k ps) found.0) ∙ ap (map nameless) (sym (take_element ps k found.0 found.1))
