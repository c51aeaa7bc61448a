-- The rows of a watch that heard nothing.
use Rattle.std.proofs.Common.{◌≡◌, ℕ, List, [], replicate, refl, sym, ap, ◌∙◌, subst}
use Rattle.std.proofs.lemmas.List.{length-replicate, get_or-replicate}
use Rattle.mls_model.specs.Studies.{Sizes}
use Rattle.mls_launch.specs.declared.group_state.GroupState.{GroupState}
use Rattle.mls_launch.specs.declared.group_state.GroupState.TheVariants.{Waiting}
use Rattle.mls_model.specs.Pasts.{time_of, has_done, is_finished, rank_last}
use Rattle.mls_model.specs.Launcher.{past_after}
use Rattle.mls_launch.specs.Rows.{row_of, StandsFor}
use Rattle.mls_launch.proofs.Lookups.{is_made}

pub made : (s : Sizes) → StandsFor (record { sizes = s; time = 0; lasts = replicate s.ranks 0; rows = replicate s.groups Waiting }) []
unfolding time_of has_done is_finished rank_last past_after row_of
made s = record {
  time = refl;
  lasts = is_made (replicate s.ranks 0) (λ r. 0) s.ranks 0 (length-replicate s.ranks 0) (λ k h. get_or-replicate s.ranks k 0 0 h);
  rows = is_made (replicate s.groups Waiting) (λ g. Waiting) s.groups Waiting (length-replicate s.groups Waiting) (λ k h. get_or-replicate s.groups k Waiting Waiting h);
}

pub made_of : (s : Sizes) (ranks groups : ℕ) (lasts : List ℕ) (rows : List GroupState) → ranks ≡ s.ranks → groups ≡ s.groups → lasts ≡ replicate ranks 0 → rows ≡ replicate groups Waiting → StandsFor (record { sizes = s; time = 0; lasts = lasts; rows = rows }) []
made_of s ranks groups lasts rows a b l r =
    let P : List ℕ → List GroupState → Type 0 = λ x y. StandsFor (record { sizes = s; time = 0; lasts = x; rows = y }) [] in
    let Q : List ℕ → Type 0 = λ x. P x rows in
    subst Q (sym (l ∙ ap (λ n. replicate n 0) a)) (subst (P (replicate s.ranks 0)) (sym (r ∙ ap (λ n. replicate n Waiting) b)) (made s))
