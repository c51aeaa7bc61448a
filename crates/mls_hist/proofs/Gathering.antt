-- Samples that were put where they wait.
use Rattle.std.proofs.Common.{◌≡◌, ℕ, ◌+◌, ◌*◌, ◌<◌, ◌≤◌, Bool, List, length, get_or, set, ap, ◌∙◌, sym, arith, get_or-set_same, get_or-set_other}
use Rattle.mls_model.specs.Samples.{shifted}
use Rattle.mls_field.proofs.Added.{each_place}
use Rattle.mls_hist.specs.Bins.{count_in}
use Rattle.mls_hist.specs.Waiting.{column, plane_start}
use Rattle.mls_hist.specs.Packed.{Within}
use Rattle.mls_hist.proofs.RowsAdded.{Gathered, Added}

pub gathered_from : (places w step v start : ℕ) (signed signed' : Bool) (sample : ℕ → ℕ → ℕ) (items held new samples' : List ℕ) → start ≡ plane_start places step → w ≡ places → signed' ≡ signed → held ≡ items → samples' ≡ new
    → ((i : ℕ) → i < w → get_or new (start + 2 * v * places + i) 0 ≡ shifted signed' (sample 0 i)) → ((i : ℕ) → i < w → get_or new (start + 2 * v * places + w + i) 0 ≡ shifted signed' (sample 1 i)) → Within (start + 2 * v * places) (2 * w) held new
    → Gathered places step v items samples' (λ place. shifted signed (sample 0 place)) (λ place. shifted signed (sample 1 place))
gathered_from places w step v start signed signed' sample items held new samples' begins wide sign is now a b others = record {
  first = λ place inside. (λ i. get_or (now i) (sym begins i + 2 * v * places + place) 0) ∙ (a place (omega (arith, inside, wide)) ∙ ap (λ s. shifted s (sample 0 place)) sign);
  second = λ place inside. (λ i. get_or (now i) (sym begins i + 2 * v * places + sym wide i + place) 0) ∙ (b place (omega (arith, inside, wide)) ∙ ap (λ s. shifted s (sample 1 place)) sign);
  others = record {
    before = λ j low. ap (λ (xs : List ℕ). get_or xs j 0) now ∙ (others.before j (omega (arith, low, begins)) ∙ ap (λ (xs : List ℕ). get_or xs j 0) is);
    behind = λ j high. ap (λ (xs : List ℕ). get_or xs j 0) now ∙ (others.behind j (omega (arith, high, begins, wide)) ∙ ap (λ (xs : List ℕ). get_or xs j 0) is);
  };
}

pub waits_less : (waiting : List ℕ) (step n : ℕ) → step < length waiting → n ≤ 7 → ((plane : ℕ) → get_or waiting plane 0 ≤ 7) → (plane : ℕ) → get_or (set waiting step n) plane 0 ≤ 7
waits_less waiting step n fits low few plane = each_place (λ p place. get_or (set waiting step n) p 0 ≤ 7) step (λ place. omega (arith, get_or-set_same waiting step n 0 fits, low)) (λ p place apart. omega (arith, get_or-set_other waiting step p n 0 apart, few p)) plane 0

pub value_small : (xs : List ℕ) (i v : ℕ) → get_or xs i 0 ≡ v → ((i : ℕ) → get_or xs i 0 ≤ 65535) → v ≤ 65535
value_small xs i v is small = omega (arith, is, small i)

pub added_from : (places step first start : ℕ) (items held new bins' held' samples' : List ℕ) → first ≡ step * places → start ≡ plane_start places step → held ≡ items → bins' ≡ new → samples' ≡ held'
    → ((place bin : ℕ) → place < places → bin < 64 → get_or new ((first + place) * 64 + bin) 0 ≡ get_or held ((first + place) * 64 + bin) 0 + count_in bin (column places held' (start + place) 16)) → Within (first * 64) (places * 64) held new
    → Added places step items bins' samples'
added_from places step first start items held new bins' held' samples' one two is now same counts others = record {
  counts = λ place bin inside low. (λ i. get_or (now i) ((sym one i + place) * 64 + bin) 0) ∙ (counts place bin inside low ∙ (λ i. get_or (is i) ((one i + place) * 64 + bin) 0 + count_in bin (column places (sym same i) (two i + place) 16)));
  others = record {
    before = λ j low. ap (λ (xs : List ℕ). get_or xs j 0) now ∙ (others.before j (omega (arith, low, one)) ∙ ap (λ (xs : List ℕ). get_or xs j 0) is);
    behind = λ j high. ap (λ (xs : List ℕ). get_or xs j 0) now ∙ (others.behind j (omega (arith, high, one)) ∙ ap (λ (xs : List ℕ). get_or xs j 0) is);
  };
}
