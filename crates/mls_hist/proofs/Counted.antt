-- Samples that are added to the counts of a cell, one after the other.
use Rattle.std.proofs.Common.{◌≡◌, ℕ, ◌+◌, ◌*◌, ◌^◌, ◌<◌, ◌≤◌, List, length, get_or, set, inl, inr, ap, ◌∙◌, refl, sym, arith, get_or-set_same, get_or-set_other}
use Rattle.std.proofs.lemmas.Bool.{cases_order}
use Rattle.mls_hist.specs.Bins.{bin_of, count_in}
use Rattle.mls_hist.specs.Waiting.{column}
use Rattle.mls_hist.proofs.Columns.{one, counted-more, counted-few, column-none, count-none}
use Rattle.mls_hist.proofs.Counting.{one-own, one-other, bin_low}

pub record Counted (start places at k : ℕ) (samples old new : List ℕ) : Type 0 where
  pub counts : (bin : ℕ) → bin < 64 → get_or new (start + bin) 0 ≡ get_or old (start + bin) 0 + count_in bin (column places samples at k)
  pub before : (j : ℕ) → j < start → get_or new j 0 ≡ get_or old j 0
  pub behind : (j : ℕ) → start + 64 ≤ j → get_or new j 0 ≡ get_or old j 0

pub counted_none : (start places at : ℕ) (samples old : List ℕ) → Counted start places at 0 samples old old
counted_none start places at samples old = record {
  counts = λ bin low. (let none = ap (count_in bin) (column-none places samples at) ∙ count-none bin in omega (arith, none));
  before = λ j low. refl;
  behind = λ j high. refl;
}

pub counted_on : (start places at k x n : ℕ) (samples old mid : List ℕ) → x ≡ get_or samples (at + k * places) 0 → x ≤ 65535 → start + 64 ≤ length mid → n ≡ get_or mid (start + bin_of x) 0 → Counted start places at k samples old mid → Counted start places at (k + 1) samples old (set mid (start + bin_of x) (n + 1))
counted_on start places at k x n samples old mid is small long was h =
    let low : bin_of x < 64 = bin_low x small in
    let new = set mid (start + bin_of x) (n + 1) in
    record {
      counts = λ bin inside.
          let more = counted-more bin places samples at k in
          let hit : one bin (get_or samples (at + k * places) 0) ≡ one bin x = ap (one bin) (sym is) in
          let earlier = h.counts bin inside in
          elim (cases_order (bin_of x) bin) [
            | inl same ↦ (
                let put : get_or new (start + bin_of x) 0 ≡ n + 1 = get_or-set_same mid (start + bin_of x) (n + 1) 0 (omega (arith, long, low)) in
                let there : get_or new (start + bin) 0 ≡ n + 1 = ap (λ b. get_or new (start + b) 0) (sym same) ∙ put in
                let held : n ≡ get_or mid (start + bin) 0 = was ∙ ap (λ b. get_or mid (start + b) 0) same in
                let own = one-own bin x same in
                omega (arith, there, held, own, earlier, more, hit)
                )
            | inr (inl less) ↦ (
                let there = get_or-set_other mid (start + bin_of x) (start + bin) (n + 1) 0 (λ e. omega (arith, e, less)) in
                let other = one-other bin x (λ e. omega (arith, e, less)) in
                omega (arith, there, other, earlier, more, hit)
                )
            | inr (inr greater) ↦ (
                let there = get_or-set_other mid (start + bin_of x) (start + bin) (n + 1) 0 (λ e. omega (arith, e, greater)) in
                let other = one-other bin x (λ e. omega (arith, e, greater)) in
                omega (arith, there, other, earlier, more, hit)
                )
          ];
      before = λ j less. get_or-set_other mid (start + bin_of x) j (n + 1) 0 (λ e. omega (arith, e, less)) ∙ h.before j less;
      behind = λ j more. get_or-set_other mid (start + bin_of x) j (n + 1) 0 (λ e. omega (arith, e, more, low)) ∙ h.behind j more;
    }

pub counted_room : (start places at k x : ℕ) (samples old mid : List ℕ) → x ≤ 65535 → k ≤ 16 → ((bin : ℕ) → bin < 64 → get_or old (start + bin) 0 < 2 ^ 31) → Counted start places at k samples old mid → get_or mid (start + bin_of x) 0 + 1 < 2 ^ 32
counted_room start places at k x samples old mid small few room h =
    let low : bin_of x < 64 = bin_low x small in
    let here = h.counts (bin_of x) low in
    let most = counted-few (bin_of x) places samples at k in
    let was = room (bin_of x) low in
    omega (arith, here, most, was, few)
