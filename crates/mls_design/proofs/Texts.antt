-- A line of the design text from its parts, and the whole text.
use Rattle.std.proofs.Common.{◌≡◌, ℕ, ◌+◌, ◌*◌, ◌≤◌, List, [], ◌∷◌, ◌++◌, length, take, ℤ, Some, refl, sym, ◌∙◌, ap, arith, append_assoc}
use Rattle.std.specs.Prelude.{codes, decimal}
use Rattle.std.specs.List.{flat_map}
use Rattle.std.proofs.lemmas.List.{take_all}
use Rattle.std.proofs.lemmas.Grind.{flat_map-append}
use Rattle.mls_model.specs.Numbers.{element}
use Rattle.mls_model.specs.Studies.{Study}
use Rattle.mls_model.specs.Designs.{values, design_line, design_text}
use Rattle.mls_design.specs.Lines.{title_words, line_start, value_words, all_lines, end_words}
use Rattle.mls_design.proofs.Elements.{take_element}

append_none : (xs : List ℕ) → xs ++ [] ≡ xs
append_none [] = refl
append_none (x ∷ xs) = ap (λ ys. x ∷ ys) (append_none xs)

-- the start of a line and the values before a place
pub record Lined (start line : List ℕ) (vs : List ℤ) (place : ℕ) : Type 0 where
  pub text : line ≡ start ++ flat_map value_words (take place vs)
  pub size : length line ≤ 31 + 21 * place

pub lined_none : (start : List ℕ) (vs : List ℤ) → length start ≤ 31 → Lined start start vs 0
lined_none start vs short = record { text = sym (append_none start); size = omega arith }

pub lined_more : (start line new : List ℕ) (vs : List ℤ) (place : ℕ) (v : ℤ) → Lined start line vs place → element vs place ≡ Some v → new ≡ line ++ value_words v → length new ≤ length line + 21 → Lined start new vs (place + 1)
lined_more start line new vs place v l there step longer =
    let one : flat_map value_words (v ∷ []) ≡ value_words v = append_none (value_words v) in
    let more : flat_map value_words (take (place + 1) vs) ≡ flat_map value_words (take place vs) ++ value_words v =
    ap (flat_map value_words) (take_element vs place v there)
    ∙ flat_map-append value_words (take place vs) (v ∷ [])
    ∙ ap (λ ys. flat_map value_words (take place vs) ++ ys) one in
    record {
      text = step ∙ ap (λ xs. xs ++ value_words v) l.text
          ∙ append_assoc start (flat_map value_words (take place vs)) (value_words v)
          ∙ ap (λ ys. start ++ ys) (sym more);
      size = omega (arith, l.size);
    }

regroup : (a b c d f e : List ℕ) → ((a ++ (b ++ (c ++ (d ++ [])))) ++ f) ++ e ≡ a ++ (b ++ (c ++ (d ++ (f ++ (e ++ [])))))
regroup a b c d f e = simp (append_assoc, append_none)

pub whole_line : (study : Study) (group sim place : ℕ) (line : List ℕ) → Lined (line_start group sim) line (values study group sim) place → length (values study group sim) ≤ place → line ++ codes "\n" ≡ design_line study group sim
unfolding line_start value_words design_line
whole_line study group sim place line l past =
    let vs : List ℤ = values study group sim in
    ap (λ xs. xs ++ codes "\n") (l.text ∙ ap (λ us. line_start group sim ++ flat_map value_words us) (take_all place vs past))
    ∙ regroup (codes "group ") (decimal group) (codes " sim ") (decimal sim) (flat_map value_words vs) (codes "\n")

pub whole_text : (study : Study) → title_words ++ (all_lines study ++ end_words) ≡ design_text study
unfolding title_words all_lines end_words design_text
whole_text study = refl
