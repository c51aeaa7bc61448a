-- The parts of a study file make a valid study.
use Rattle.std.proofs.Common.{◌≡◌, ℕ, ◌≤◌, ◌<◌, ◌*◌, Bool, true, false, ◌&&◌, nat_le, List, [], ◌∷◌, ◌++◌, length, map, get_or, take, Option, None, Some, option_map, unwrap_or, is_some, if◌then◌else◌, ◌||◌, inl, inr, IfSome, IsTrue, Err, refl, sym, ap, ◌∙◌, subst, true≢false, arith}
use Rattle.std.proofs.lemmas.Bool.{and_parts, cases_Bool, lt-ltb, le-ltb, leb-true}
use Rattle.std.proofs.lemmas.List.Folds.{list_any-append}
use Rattle.std.proofs.lemmas.Slice.Eq.{bytes_eq-Decides}
use Rattle.std.specs.List.{list_any, list_all, AllByRecursion}
use Rattle.mls_base.proofs.Ranges.{sizes_in_ranges}
use Rattle.mls_base.specs.Shapes.{padded, sizes_of, AreNumbers}
use Rattle.mls_base.specs.declared.numbers.Numbers.{Numbers}
use Rattle.mls_model.specs.Numbers.{same_bytes}
use Rattle.mls_model.specs.Studies.{Sizes, AreSizes, IsStudy, Parameter, IsParameter, is_name, are_distinct, each_once}
use Rattle.mls_model.specs.declared.studies.Statistic.{Statistic}
use Rattle.mls_model.specs.declared.studies.Product.TheVariants.{GroupsStepsRanks}
use Rattle.mls_study.specs.Choices.{Choices, field_count}
use Rattle.mls_study.specs.Names.{is_called, duplicate_from}
use Rattle.mls_study.specs.Parameters.{all_seen}
use Rattle.mls_study.specs.Ranges.{AreCounts, AreChoices, AreLaunch}
use Rattle.mls_study.specs.StudyFile.{are_field_names, are_statistics, sizes_with, study_with, whole}
use Rattle.mls_study.specs.declared.fault.StudyFault.TheVariants.{Product}
use Rattle.mls_study.specs.declared.keys.Counts.{Counts}
use Rattle.mls_study.specs.declared.keys.Launch.{Launch}
use Rattle.mls_study.specs.declared.parameter.Parameter.{Parameter as Kept}
use Rattle.mls_study.proofs.Texts.{same_bytes_is}

-- up to eight numbers in eight places
pub eight_is_padded : (xs : List ℕ) → length xs ≤ 8 → get_or xs 0 0 ∷ get_or xs 1 0 ∷ get_or xs 2 0 ∷ get_or xs 3 0 ∷ get_or xs 4 0 ∷ get_or xs 5 0 ∷ get_or xs 6 0 ∷ get_or xs 7 0 ∷ [] ≡ padded xs
eight_is_padded [] few = refl
eight_is_padded (a ∷ []) few = refl
eight_is_padded (a ∷ b ∷ []) few = refl
eight_is_padded (a ∷ b ∷ c ∷ []) few = refl
eight_is_padded (a ∷ b ∷ c ∷ d ∷ []) few = refl
eight_is_padded (a ∷ b ∷ c ∷ d ∷ e ∷ []) few = refl
eight_is_padded (a ∷ b ∷ c ∷ d ∷ e ∷ f ∷ []) few = refl
eight_is_padded (a ∷ b ∷ c ∷ d ∷ e ∷ f ∷ g ∷ []) few = refl
eight_is_padded (a ∷ b ∷ c ∷ d ∷ e ∷ f ∷ g ∷ h ∷ []) few = refl
eight_is_padded (a ∷ b ∷ c ∷ d ∷ e ∷ f ∷ g ∷ h ∷ i ∷ xs) few = absurd (omega arith)

-- the places in use give the numbers back
pub take_padded : (xs : List ℕ) → length xs ≤ 8 → take (length xs) (padded xs) ≡ xs
take_padded [] few = refl
take_padded (a ∷ []) few = refl
take_padded (a ∷ b ∷ []) few = refl
take_padded (a ∷ b ∷ c ∷ []) few = refl
take_padded (a ∷ b ∷ c ∷ d ∷ []) few = refl
take_padded (a ∷ b ∷ c ∷ d ∷ e ∷ []) few = refl
take_padded (a ∷ b ∷ c ∷ d ∷ e ∷ f ∷ []) few = refl
take_padded (a ∷ b ∷ c ∷ d ∷ e ∷ f ∷ g ∷ []) few = refl
take_padded (a ∷ b ∷ c ∷ d ∷ e ∷ f ∷ g ∷ h ∷ []) few = refl
take_padded (a ∷ b ∷ c ∷ d ∷ e ∷ f ∷ g ∷ h ∷ i ∷ xs) few = absurd (omega arith)

-- numbers whose thresholds stand in eight places
pub taken : (xs : List ℕ) (n : ℕ) (kept : List ℕ) → length xs ≤ 8 → n ≡ length xs → kept ≡ padded xs → take n kept ≡ xs
taken xs n kept few len is = ap (λ m. take m kept) len ∙ ap (λ ys. take (length xs) ys) is ∙ take_padded xs few

pub numbers_are : (n : Numbers) (xs : List ℕ) (s : Sizes) → length xs ≤ 8 → n.thresholds ≡ length xs → n.threshold ≡ padded xs → sizes_of n ≡ s → AreSizes s → AreNumbers n
numbers_are n xs s few len is same sizes = record {
  few = omega arith;
  behind = is ∙ ap padded (sym (taken xs n.thresholds n.threshold few len is));
  sizes = subst AreSizes (sym same) sizes;
}

-- the second product is too large
pub too_many_marks : (c : Counts) (o : Choices) (l : Launch) (ps : List Parameter) (fields : ℕ) → fields ≡ field_count o → c.cells * (c.steps * fields) ≤ 1048576 → 1073741824 < c.groups * (c.steps * fields) * c.ranks
    → Err (Product GroupsStepsRanks) ≡ whole c o l ps
unfolding whole
too_many_marks c o l ps fields is few many =
    let mesh : c.cells * c.steps * field_count o ≤ 1048576 = omega (arith, ap (λ f. c.cells * (c.steps * f)) is) in
    let marks : 1073741824 < c.groups * c.steps * field_count o * c.ranks = omega (arith, ap (λ f. c.groups * (c.steps * f) * c.ranks) is) in
    rw (le-ltb 1048576 (c.cells * c.steps * field_count o) mesh, lt-ltb 1073741824 (c.groups * c.steps * field_count o * c.ranks) marks)

-- the parts of a study give its sizes their ranges
pub sizes_are : (c : Counts) (o : Choices) (l : Launch) (parameters fields : ℕ) → AreCounts c → AreChoices o → AreLaunch l → 1 ≤ parameters → parameters ≤ 16
    → fields ≡ field_count o → 1 ≤ fields → fields ≤ 4 → c.cells * (c.steps * fields) ≤ 1048576 → c.groups * (c.steps * fields) * c.ranks ≤ 1073741824
    → AreSizes (sizes_with c o l parameters)
sizes_are c o l parameters fields counts choices launch some few is some_fields few_fields mesh marks =
    sizes_in_ranges (sizes_with c o l parameters) counts launch
    (record { some_parameters = some; parameters = few; some_fields = subst (λ (f : ℕ). 1 ≤ f) is some_fields; fields = subst (λ (f : ℕ). f ≤ 4) is few_fields })
    choices.thresholds
    (record { mesh = omega (arith, ap (λ f. c.cells * (c.steps * f)) is); marks = omega (arith, ap (λ f. c.groups * (c.steps * f) * c.ranks) is) })

named_is : (o : Option (List (List ℕ))) → IfSome o (λ names. IsTrue (are_field_names names)) → IfSome o (λ names. (length names ≡ unwrap_or (option_map length o) 1) × IsTrue (list_all is_name names) × IsTrue (are_distinct names))
named_is None h = h
named_is (Some names) h =
    let (front, distinct) = and_parts (nat_le 1 (length names) && nat_le (length names) 4 && list_all is_name names) (are_distinct names) h in
    let (counted, lawful) = and_parts (nat_le 1 (length names) && nat_le (length names) 4) (list_all is_name names) front in
    (refl, lawful, distinct)

all_lawful : (ps : List Kept) → AllByRecursion IsParameter (all_seen ps)
all_lawful [] = tt
all_lawful (p ∷ ps) = (record { name = p.named; low = p.low_bound; ordered = p.ordered; high = p.high_bound; width = p.width }, all_lawful ps)

abbrev names_of : List Parameter → List (List ℕ)
names_of ps = map (λ (p : Parameter). p.name) ps

fresh_case : (b : Bool) (n : ℕ) (rest : Option ℕ) → (if b then Some n else rest) ≡ None → (b ≡ false) × (rest ≡ None)
fresh_case true n rest h = absurd (true≢false (ap is_some h))
fresh_case false n rest h = (refl, h)

or_left : (a b : Bool) → a ≡ true → (a || b) ≡ true
or_left true b h = refl
or_left false b h = absurd (true≢false (sym h))

or_right : (a b : Bool) → b ≡ true → (a || b) ≡ true
or_right true b h = refl
or_right false b h = h

or_none : (a b : Bool) → a ≡ false → b ≡ false → (a || b) ≡ false
or_none true b h k = h
or_none false b h k = k

not_same : (n name : List ℕ) (before : List Parameter) → list_any (is_called n) before ≡ true → list_any (is_called name) before ≡ false → same_bytes n name ≡ false
not_same n name before earlier fresh =
    elim (cases_Bool (same_bytes n name)) [
      | inl t ↦ absurd (true≢false (sym earlier ∙ ap (λ (m : List ℕ). list_any (is_called m) before) (sym ((bytes_eq-Decides name n).0 (sym (same_bytes_is n name) ∙ t))) ∙ fresh))
      | inr f ↦ f
    ]

-- where no name stands at an earlier place, the names are distinct, and none is that of a parameter before
distinct_from : (before ps : List Parameter) → duplicate_from before ps ≡ None
    → (are_distinct (names_of ps) ≡ true) × ((n : List ℕ) → list_any (is_called n) before ≡ true → list_any (same_bytes n) (names_of ps) ≡ false)
unfolding duplicate_from
distinct_from before [] h = (refl, λ n earlier. refl)
distinct_from before (p ∷ ps) h =
    let (fresh, later) = fresh_case (list_any (is_called p.name) before) (length before) (duplicate_from (before ++ p ∷ []) ps) h in
    let (distinct, apart) = distinct_from (before ++ p ∷ []) ps later in
    let itself : list_any (is_called p.name) (before ++ p ∷ []) ≡ true =
    list_any-append (is_called p.name) before (p ∷ []) ∙ or_right (list_any (is_called p.name) before) (is_called p.name p || false) (or_left (is_called p.name p) false ((bytes_eq-Decides p.name p.name).1 refl)) in
    let alone : list_any (same_bytes p.name) (names_of ps) ≡ false = apart p.name itself in (
      rw alone distinct,
      λ n earlier.
          let kept : list_any (is_called n) (before ++ p ∷ []) ≡ true = list_any-append (is_called n) before (p ∷ []) ∙ or_left (list_any (is_called n) before) (is_called n p || false) earlier in
          or_none (same_bytes n p.name) (list_any (same_bytes n) (names_of ps)) (not_same n p.name before earlier fresh) (apart n kept),
    )

-- the statistics of a study
once : (found : List Statistic) → IsTrue (are_statistics found) → (1 ≤ length found) × IsTrue (each_once found)
once found h =
    let (counted, distinct) = and_parts (nat_le 1 (length found) && nat_le (length found) 4) (each_once found) h in
    let (some, few) = and_parts (nat_le 1 (length found)) (nat_le (length found) 4) counted in
    (leb-true 1 (length found) some, distinct)

pub study_is : (c : Counts) (o : Choices) (l : Launch) (ps : List Kept) → AreSizes (sizes_with c o l (length (all_seen ps))) → AreChoices o → duplicate_from [] (all_seen ps) ≡ None → IsStudy (study_with c o l (all_seen ps))
study_is c o l ps sizes choices distinct =
    let (some, apart) = once o.statistics choices.statistics in
    record {
      sizes = sizes;
      seed = choices.seed;
      unnamed = λ e. ap (λ (names : Option (List (List ℕ))). unwrap_or (option_map length names) 1) e;
      named = named_is o.field_names choices.named;
      some_statistics = some;
      statistics = apart;
      count = refl;
      parameters = all_lawful ps;
      names = (distinct_from [] (all_seen ps) distinct).0;
    }

-- the numbers that the code puts together, and their sizes
abbrev pub numbers_with : Counts → Choices → Launch → ℕ → ℕ → List ℕ → ℕ → Numbers
numbers_with c o l parameters n kept fields = record { cells = c.cells; steps = c.steps; groups = c.groups; parameters = parameters; ranks = c.ranks; clients = c.clients; slots = l.slots; silence = l.silence; lives = l.lives; thresholds = n; threshold = kept; signed = o.signed; fields = fields }

abbrev sizes_by : Counts → Choices → Launch → ℕ → List ℕ → ℕ → Sizes
sizes_by c o l parameters thresholds fields = record { cells = c.cells; steps = c.steps; groups = c.groups; parameters = parameters; ranks = c.ranks; clients = c.clients; slots = l.slots; silence = l.silence; lives = l.lives; thresholds = thresholds; signed = o.signed; fields = fields }

pub same_sizes : (c : Counts) (o : Choices) (l : Launch) (parameters n : ℕ) (kept : List ℕ) (fields : ℕ) → take n kept ≡ o.thresholds → fields ≡ field_count o → sizes_of (numbers_with c o l parameters n kept fields) ≡ sizes_with c o l parameters
same_sizes c o l parameters n kept fields e f =
    ap (λ (ts : List ℕ). sizes_by c o l parameters ts fields) e ∙ ap (λ (m : ℕ). sizes_by c o l parameters o.thresholds m) f
