-- The ranks' cores one after another, the lanes' lines, and the text of both.
use Rattle.std.proofs.Common.{◌≡◌, List, ℕ, zero, suc, [], ◌∷◌, ◌++◌, ◌+◌, ◌<◌, ◌≤◌, length, map, take, get_or, Option, Some, None, refl, sym, ◌∙◌, ap, subst, inl, inr, arith, add-one, take-suc, length-append}
use Rattle.std.specs.Prelude.{IfSome, unwrap_or}
use Rattle.std.specs.List.{enumerate_from}
use Rattle.std.proofs.lemmas.Bool.{cases_lt}
use Rattle.std.proofs.lemmas.List.{take_all}
use Rattle.std.proofs.Math.ListN.{get_or-append}
use Rattle.std.proofs.Math.Seq.{get_or-append_seam}
use Rattle.mls_field.specs.declared.fold.RowFold.{Ghosts}
use Rattle.mls_model.specs.declared.lanes.LaneLine.{LaneLine}
use Rattle.mls_model.specs.Numbers.{element}
use Rattle.mls_model.specs.Studies.{Sizes, Study}
use Rattle.mls_model.specs.Lanes.{Lane, line_of}
use Rattle.mls_model.specs.Histories.{history}
use Rattle.mls_model.specs.ResultText.{histories_of, history_text, lines_of, result_text}
use Rattle.mls_rank.specs.declared.rank_core.RankCore.{RankCore}
use Rattle.mls_rank.specs.Cores.{sizes_of, rank_of}
use Rattle.mls_result.specs.Histories.{AreCores}

-- The first n cores: one for each of the first n ranks, in order.
pub record AreFirst {F : Type 0} {T : Ghosts F} (s : Sizes) (n : ℕ) (cores : List (RankCore F T)) : Type 0 where
  pub count : length cores ≡ n
  pub sizes : (rank : ℕ) (d : RankCore F T) → rank < n → sizes_of (get_or cores rank d) ≡ s
  pub ranks : (rank : ℕ) (d : RankCore F T) → rank < n → rank_of (get_or cores rank d) ≡ rank

pub none_yet : {F : Type 0} {T : Ghosts F} (s : Sizes) (cores : List (RankCore F T)) → cores ≡ [] → AreFirst s 0 cores
none_yet s cores empty = subst (AreFirst s 0) (sym empty) (record { count = refl; sizes = λ rank d here. absurd (omega (arith, here)); ranks = λ rank d here. absurd (omega (arith, here)) })

-- what holds of each of the first n and of the next holds of each of them
each_more : {C : Type 0} (P : ℕ → C → Type 0) (cores : List C) (core : C) (n : ℕ) → length cores ≡ n → ((rank : ℕ) (d : C) → rank < n → P rank (get_or cores rank d)) → P n core → (rank : ℕ) (d : C) → rank < n + 1 → P rank (get_or (cores ++ core ∷ []) rank d)
each_more {C} P cores core n count first next rank d here = elim (cases_lt rank n) [
  | inl lt ↦ subst (P rank) (sym (get_or-append cores (core ∷ []) d rank (omega (arith, count, lt)))) (first rank d lt)
  | inr le ↦
      let at : rank ≡ length cores = omega (arith, count, le, here) in
      let is_core : get_or (cores ++ core ∷ []) rank d ≡ core = ap (λ k. get_or (cores ++ core ∷ []) k d) at ∙ get_or-append_seam cores core [] d in
      let own : n ≡ rank = omega (arith, le, here) in
      subst (P rank) (sym is_core) (subst (λ k. P k core) own next)
]

pub one_more : {F : Type 0} {T : Ghosts F} (s : Sizes) (n : ℕ) (cores cores' : List (RankCore F T)) (core : RankCore F T) → AreFirst s n cores → cores' ≡ cores ++ core ∷ [] → sizes_of core ≡ s → rank_of core ≡ n → AreFirst s (n + 1) cores'
one_more {F} {T} s n cores cores' core first pushed is_sizes is_rank = subst (AreFirst s (n + 1)) (sym pushed) (record {
  count = omega (arith, first.count, length-append cores (core ∷ []));
  sizes = each_more (λ rank c. sizes_of c ≡ s) cores core n first.count first.sizes is_sizes;
  ranks = each_more (λ rank c. rank_of c ≡ rank) cores core n first.count first.ranks is_rank;
})

-- the first of as many as there are ranks are all
pub all_cores : {F : Type 0} {T : Ghosts F} (s : Sizes) (n : ℕ) (cores : List (RankCore F T)) → AreFirst s n cores → n ≡ s.ranks → AreCores s cores
all_cores s n cores first all = record {
  count = first.count ∙ all;
  sizes = λ rank d here. first.sizes rank d (omega (arith, here, first.count));
  ranks = λ rank d here. first.ranks rank d (omega (arith, here, first.count));
}

-- the history of a rank whose list is known
pub history_is : (lanes : List Lane) (orders : List (List ℕ)) (rank : ℕ) (order : List ℕ) → element orders rank ≡ Some order → histories_of lanes orders rank ≡ history lanes order
history_is lanes orders rank order there = ap (λ o. history lanes (unwrap_or o [])) there

abbrev line_at : ℕ × Lane → LaneLine
line_at p = line_of p.0 p.1

line_here : (lanes : List Lane) (n i : ℕ) (r d : LaneLine) → i < length lanes → IfSome (element lanes i) (λ l. r ≡ line_of (n + i) l) → get_or (map line_at (enumerate_from n lanes)) i d ≡ r
line_here [] n i r d here is_line = absurd (omega arith)
line_here (lane ∷ lanes) n zero r d here is_line = ap (λ m. line_of m lane) (omega arith) ∙ sym is_line
line_here (lane ∷ lanes) n (suc i) r d here is_line = line_here lanes (n + 1) i r d (omega arith) (subst (λ m. IfSome (element lanes i) (λ l. r ≡ line_of m l)) (omega arith) is_line)

length-lines : (lanes : List Lane) (n : ℕ) → length (map line_at (enumerate_from n lanes)) ≡ length lanes
length-lines [] n = refl
length-lines (lane ∷ lanes) n = ap suc (length-lines lanes (n + 1))

-- one more lane's line, and all
pub lines_more : (lanes : List Lane) (i : ℕ) (kept : List LaneLine) (r : LaneLine) → kept ≡ take i (lines_of lanes) → i < length lanes → IfSome (element lanes i) (λ l. r ≡ line_of i l) → kept ++ r ∷ [] ≡ take (i + 1) (lines_of lanes)
unfolding lines_of
lines_more lanes i kept r is_kept here is_line =
    let all = map line_at (enumerate_from 0 lanes) in
    let there : i < length all = omega (arith, here, length-lines lanes 0) in
    let own = line_here lanes 0 i r r here (subst (λ m. IfSome (element lanes i) (λ l. r ≡ line_of m l)) (omega arith) is_line) in
    sym (ap (λ n. take n all) (add-one i) ∙ take-suc all i r there ∙ ap (λ x. take i all ++ x ∷ []) own ∙ ap (λ xs. xs ++ r ∷ []) (sym is_kept))

pub lines_all : (lanes : List Lane) (i : ℕ) (kept : List LaneLine) → kept ≡ take i (lines_of lanes) → length lanes ≤ i → kept ≡ lines_of lanes
unfolding lines_of
lines_all lanes i kept is_kept past = is_kept ∙ take_all i (map line_at (enumerate_from 0 lanes)) (omega (arith, past, length-lines lanes 0))

-- the text of the histories under a schedule is the result text
pub text_is : (study : Study) (lanes : List Lane) (orders : List (List ℕ)) → history_text study (histories_of lanes orders) (lines_of lanes) ≡ result_text study lanes orders
unfolding result_text
text_is study lanes orders = refl

-- a fact of the lane, where there is one
pub if_there : (o : Option Lane) (P : Lane → Type 0) → ((l : Lane) → o ≡ Some l → P l) → IfSome o P
if_there None P each = tt
if_there (Some l) P each = each l refl
