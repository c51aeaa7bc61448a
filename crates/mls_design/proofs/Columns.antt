-- The columns of the design, and the range of its values.
use Rattle.std.proofs.Common.{◌≡◌, ℕ, zero, suc, ◌+◌, ◌≤◌, true, false, cond, List, [], ◌∷◌, length, map, ℤ, ◌≤ℤ◌, Some, refl, sym, ◌∙◌, ap, subst, arith, ⊎_elim}
use Rattle.std.specs.Prelude.{◌==◌, ◌||◌}
use Rattle.std.specs.List.{enumerate_from, AllByRecursion}
use Rattle.std.specs.Option.{option_map}
use Rattle.std.proofs.lemmas.Bool.{cases_eq, eq-eqb, ne_eqb, or_right}
use Rattle.std.proofs.lemmas.List.{length-map}
use Rattle.std.proofs.lemmas.List.FromFn.{length-enumerate_from}
use Rattle.mls_model.specs.Numbers.{element}
use Rattle.mls_model.specs.Studies.{Study, Parameter, IsParameter, IsStudy}
use Rattle.mls_model.specs.Designs.{word, word_of, takes_b, place_of_a, place_of_b, value_of, values, solve}
use Rattle.mls_design.proofs.Elements.{element_enumerated}
use Rattle.mls_design.proofs.Bounds.{value_between}
use Rattle.mls_design.proofs.Inputs.{word_of_small, solve_small}

pub same_takes : (k j : ℕ) → takes_b (2 + k) j ≡ takes_b (cond (j == k) 1 0) j
same_takes k j = ⊎_elim
    (λ (same : j ≡ k).
    let here : (2 + k == 2 + j) ≡ true = eq-eqb (2 + k) (2 + j) (omega arith) in
    let b : takes_b (cond (j == k) 1 0) j ≡ takes_b 1 j = ap (λ t. takes_b (cond t 1 0) j) (eq-eqb j k same) in
    or_right (2 + k == 1) (2 + k == 2 + j) here ∙ sym b)
    (λ (other : j ≡ k → ⊥).
    let not_one : (2 + k == 1) ≡ false = ne_eqb (2 + k) 1 (λ e. omega arith) in
    let not_here : (2 + k == 2 + j) ≡ false = ne_eqb (2 + k) (2 + j) (λ e. other (omega arith)) in
    let a : takes_b (cond (j == k) 1 0) j ≡ takes_b 0 j = ap (λ t. takes_b (cond t 1 0) j) (ne_eqb j k other) in
    let not_a : takes_b 0 j ≡ false = ne_eqb 0 (2 + j) (λ e. omega arith) in
    ap (λ t. t || (2 + k == 2 + j)) not_one ∙ not_here ∙ sym (a ∙ not_a))
    (cases_eq j k)

same_word : (study : Study) (group k j : ℕ) → word_of study group (2 + k) j ≡ word_of study group (cond (j == k) 1 0) j
unfolding word_of
same_word study group k j = ap (λ t. word study.seed (cond t (place_of_b study.sizes group j) (place_of_a study.sizes group j))) (same_takes k j)

numbered : {A B : Type 0} (f : ℕ × A → B) (n j : ℕ) (xs : List A) → element (map f (enumerate_from n xs)) j ≡ option_map (λ x. f (n + j, x)) (element xs j)
numbered f n j [] = refl
numbered f n zero (x ∷ xs) = let e : n ≡ n + zero = omega arith in ap (λ m. Some (f (m, x))) e
numbered f n (suc j) (x ∷ xs) =
    let e : n + 1 + j ≡ n + suc j = omega arith in
    numbered f (n + 1) j xs ∙ ap (λ m. option_map (λ y. f (m, y)) (element xs j)) e

pub column : (study : Study) (group k j : ℕ) → element (values study group (2 + k)) j ≡ element (values study group (cond (j == k) 1 0)) j
unfolding values
column study group k j =
    let at : 0 + j ≡ j = omega arith in
    let c : ℕ = cond (j == k) 1 0 in
    numbered (λ (x : ℕ × Parameter). value_of x.1 (word_of study group (2 + k) x.0)) 0 j study.parameters
    ∙ ap (λ m. option_map (λ p. value_of p (word_of study group (2 + k) m)) (element study.parameters j)) at
    ∙ ap (λ w. option_map (λ p. value_of p w) (element study.parameters j)) (same_word study group k j)
    ∙ sym (ap (λ m. option_map (λ p. value_of p (word_of study group c m)) (element study.parameters j)) at)
    ∙ sym (numbered (λ (x : ℕ × Parameter). value_of x.1 (word_of study group c x.0)) 0 j study.parameters)

holds_at : {A : Type 0} (P : A → Type 0) (xs : List A) (k : ℕ) (x : A) → AllByRecursion P xs → element xs k ≡ Some x → P x
holds_at P [] k x all there = cc
holds_at P (y ∷ ys) zero x all there = let same : y ≡ x = cc in subst P same all.0
holds_at P (y ∷ ys) (suc k) x all there = holds_at P ys k x all.1 there

pub value_in_range : (study : Study) (group sim k : ℕ) (p : Parameter) (v : ℤ) → IsStudy study → element study.parameters k ≡ Some p → element (values study group sim) k ≡ Some v → (p.low ≤ℤ v) × (v ≤ℤ p.high)
unfolding values
value_in_range study group sim k p v ok there is =
    let w : ℕ = word_of study group sim (0 + k) in
    let found : element (map (λ (x : ℕ × Parameter). value_of x.1 (word_of study group sim x.0)) (enumerate_from 0 study.parameters)) k ≡ Some (value_of p w) = element_enumerated (λ (x : ℕ × Parameter). value_of x.1 (word_of study group sim x.0)) 0 k study.parameters p there in
    let both : Some (value_of p w) ≡ Some v = sym found ∙ is in
    let same : value_of p w ≡ v = cc in
    subst (λ u. (p.low ≤ℤ u) × (u ≤ℤ p.high)) same (value_between p w (holds_at IsParameter study.parameters k p ok.parameters there).ordered (word_of_small study group sim (0 + k)))

pub sample_fits : (study : Study) (group sim step field cell : ℕ) → IsStudy study → solve study group sim step field cell ≤ 65535
sample_fits study group sim step field cell ok = solve_small study group sim step field cell (omega (arith, ok.count, ok.sizes.parameters))

pub length-values : (study : Study) (group sim : ℕ) → length (values study group sim) ≡ length study.parameters
unfolding values
length-values study group sim = length-map (enumerate_from 0 study.parameters) (λ (x : ℕ × Parameter). value_of x.1 (word_of study group sim x.0)) ∙ length-enumerate_from 0 study.parameters
