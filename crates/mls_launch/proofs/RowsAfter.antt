-- How rows change by one action after another.
use Rattle.std.proofs.Common.{◌≡◌, ℕ, ◌+◌, ◌<◌, List, [], ◌∷◌, ◌++◌, length, take, refl, ap, ◌∙◌, get_or}
use Rattle.std.proofs.lemmas.List.{take_more}
use Rattle.mls_model.specs.declared.launcher.Action.{Action}
use Rattle.mls_launch.specs.declared.group_state.GroupState.{GroupState}
use Rattle.mls_launch.specs.Rows.{lasts_with, rows_with, lasts_after, rows_after}

pub lasts_after_append : (time : ℕ) (lasts : List ℕ) (xs ys : List Action) → lasts_after time lasts (xs ++ ys) ≡ lasts_after time (lasts_after time lasts xs) ys
unfolding lasts_after
lasts_after_append time lasts [] ys = refl
lasts_after_append time lasts (a ∷ xs) ys = lasts_after_append time (lasts_with time lasts a) xs ys

pub rows_after_append : (time : ℕ) (rows : List GroupState) (xs ys : List Action) → rows_after time rows (xs ++ ys) ≡ rows_after time (rows_after time rows xs) ys
unfolding rows_after
rows_after_append time rows [] ys = refl
rows_after_append time rows (a ∷ xs) ys = rows_after_append time (rows_with time rows a) xs ys

pub lasts_after_more : (time : ℕ) (lasts : List ℕ) (actions : List Action) (i : ℕ) (d : Action) → i < length actions → lasts_after time lasts (take (i + 1) actions) ≡ lasts_with time (lasts_after time lasts (take i actions)) (get_or actions i d)
unfolding lasts_after
lasts_after_more time lasts actions i d here = ap (lasts_after time lasts) (take_more actions i d here) ∙ lasts_after_append time lasts (take i actions) (get_or actions i d ∷ [])

pub rows_after_more : (time : ℕ) (rows : List GroupState) (actions : List Action) (i : ℕ) (d : Action) → i < length actions → rows_after time rows (take (i + 1) actions) ≡ rows_with time (rows_after time rows (take i actions)) (get_or actions i d)
unfolding rows_after
rows_after_more time rows actions i d here = ap (rows_after time rows) (take_more actions i d here) ∙ rows_after_append time rows (take i actions) (get_or actions i d ∷ [])
