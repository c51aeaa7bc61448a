-- How the numbers that pass a test grow, one number after another.
use Rattle.std.proofs.Common.{◌≡◌, ℕ, suc, ◌⊎◌, ◌+◌, ◌-◌, ◌<◌, ◌≤◌, Bool, true, false, List, [], ◌∷◌, ◌++◌, length, take, map, refl, sym, ap, ◌∙◌, add-one, arith, append_assoc, length-append, get_or, ltb, inl, inr}
use Rattle.std.proofs.lemmas.Bool.Decides.{nat_tests}
use Rattle.std.proofs.lemmas.List.{append-nil, take-append-le, take_all, map-append, length-map, length-take}
use Rattle.std.proofs.lemmas.Bool.{cases_Bool}
use Rattle.std.proofs.Math.Seq.{take-nil}
use Rattle.std.proofs.lemmas.List.Elements.{filter-append}
use Rattle.std.specs.Prelude.{cond}
use Rattle.mls_model.specs.Numbers.{below}
use Rattle.mls_model.specs.declared.launcher.Action.{Action}
use Rattle.mls_model.specs.declared.launcher.Action.TheVariants.{Start, RestartRank}
use Rattle.mls_launch.specs.declared.group_state.GroupState.{GroupState}
use Rattle.mls_launch.specs.declared.group_state.GroupState.TheVariants.{Waiting}
use Rattle.mls_launch.specs.Rows.{chosen, ranks_due, groups_due, staying, starts_due, is_due, answer_for, stays_on, is_waiting}

pub chosen_suc : (p : ℕ → Bool) (k : ℕ) → chosen p (suc k) ≡ chosen p k ++ cond (p k) (k ∷ []) []
unfolding chosen
chosen_suc p k = filter-append p (below k) (k ∷ [])

pub chosen_true : (p : ℕ → Bool) (k : ℕ) → p k ≡ true → chosen p (k + 1) ≡ chosen p k ++ k ∷ []
chosen_true p k e = rw add-one (chosen_suc p k ∙ ap (λ b. chosen p k ++ cond b (k ∷ []) []) e)

pub chosen_false : (p : ℕ → Bool) (k : ℕ) → p k ≡ false → chosen p (k + 1) ≡ chosen p k
chosen_false p k e = rw add-one (chosen_suc p k ∙ ap (λ b. chosen p k ++ cond b (k ∷ []) []) e ∙ append-nil (chosen p k))

pub ranks_due_true : (silence time : ℕ) (lasts : List ℕ) (k : ℕ) → silence < time - get_or lasts k 0 → ranks_due silence time lasts (k + 1) ≡ ranks_due silence time lasts k ++ RestartRank k ∷ []
unfolding ranks_due
ranks_due_true silence time lasts k h =
    ap (map (λ r. RestartRank r)) (chosen_true (λ r. ltb silence (time - get_or lasts r 0)) k (grind (arith, nat_tests)))
    ∙ map-append (λ r. RestartRank r) (chosen (λ r. ltb silence (time - get_or lasts r 0)) k) (k ∷ [])

pub ranks_due_false : (silence time : ℕ) (lasts : List ℕ) (k : ℕ) → time - get_or lasts k 0 ≤ silence → ranks_due silence time lasts (k + 1) ≡ ranks_due silence time lasts k
unfolding ranks_due
ranks_due_false silence time lasts k h =
    ap (map (λ r. RestartRank r)) (chosen_false (λ r. ltb silence (time - get_or lasts r 0)) k (grind (arith, nat_tests)))

pub ranks_due_none : (silence time : ℕ) (lasts : List ℕ) → ranks_due silence time lasts 0 ≡ []
unfolding ranks_due chosen
ranks_due_none silence time lasts = refl

pub groups_due_true : (silence lives time : ℕ) (rows : List GroupState) (k : ℕ) (row : GroupState) → row ≡ get_or rows k Waiting → is_due silence time row ≡ true → groups_due silence lives time rows (k + 1) ≡ groups_due silence lives time rows k ++ answer_for lives k row ∷ []
unfolding groups_due
groups_due_true silence lives time rows k row here h =
    ap (map (λ g. answer_for lives g (get_or rows g Waiting))) (chosen_true (λ g. is_due silence time (get_or rows g Waiting)) k (ap (is_due silence time) (sym here) ∙ h))
    ∙ map-append (λ g. answer_for lives g (get_or rows g Waiting)) (chosen (λ g. is_due silence time (get_or rows g Waiting)) k) (k ∷ [])
    ∙ ap (λ r. map (λ g. answer_for lives g (get_or rows g Waiting)) (chosen (λ g. is_due silence time (get_or rows g Waiting)) k) ++ answer_for lives k r ∷ []) (sym here)

pub groups_due_false : (silence lives time : ℕ) (rows : List GroupState) (k : ℕ) (row : GroupState) → row ≡ get_or rows k Waiting → is_due silence time row ≡ false → groups_due silence lives time rows (k + 1) ≡ groups_due silence lives time rows k
unfolding groups_due
groups_due_false silence lives time rows k row here h =
    ap (map (λ g. answer_for lives g (get_or rows g Waiting))) (chosen_false (λ g. is_due silence time (get_or rows g Waiting)) k (ap (is_due silence time) (sym here) ∙ h))

pub groups_due_none : (silence lives time : ℕ) (rows : List GroupState) → groups_due silence lives time rows 0 ≡ []
unfolding groups_due chosen
groups_due_none silence lives time rows = refl

pub staying_true : (silence lives time : ℕ) (rows : List GroupState) (k : ℕ) (row : GroupState) → row ≡ get_or rows k Waiting → stays_on silence lives time row ≡ true → staying silence lives time rows (k + 1) ≡ staying silence lives time rows k + 1
unfolding staying
staying_true silence lives time rows k row here h =
    ap length (chosen_true (λ g. stays_on silence lives time (get_or rows g Waiting)) k (ap (stays_on silence lives time) (sym here) ∙ h))
    ∙ length-append (chosen (λ g. stays_on silence lives time (get_or rows g Waiting)) k) (k ∷ [])

pub staying_false : (silence lives time : ℕ) (rows : List GroupState) (k : ℕ) (row : GroupState) → row ≡ get_or rows k Waiting → stays_on silence lives time row ≡ false → staying silence lives time rows (k + 1) ≡ staying silence lives time rows k
unfolding staying
staying_false silence lives time rows k row here h =
    ap length (chosen_false (λ g. stays_on silence lives time (get_or rows g Waiting)) k (ap (stays_on silence lives time) (sym here) ∙ h))

pub staying_none : (silence lives time : ℕ) (rows : List GroupState) → staying silence lives time rows 0 ≡ 0
unfolding staying chosen
staying_none silence lives time rows = refl

take_room : {A : Type 0} (room : ℕ) (xs : List A) (x : A) → length (take room xs) < room → take room (xs ++ x ∷ []) ≡ take room xs ++ x ∷ []
take_room room xs x h =
    let short : length xs < room = omega (arith, length-take room xs) in
    take_all room (xs ++ x ∷ []) (omega (arith, length-append xs (x ∷ []))) ∙ ap (λ ys. ys ++ x ∷ []) (sym (take_all room xs (omega arith)))

take_full : {A : Type 0} (room : ℕ) (xs : List A) (x : A) → room ≤ length (take room xs) → take room (xs ++ x ∷ []) ≡ take room xs
take_full room xs x h = take-append-le room xs (x ∷ []) (omega (arith, length-take room xs))

pub starts_due_true : (room : ℕ) (rows : List GroupState) (k : ℕ) (row : GroupState) → row ≡ get_or rows k Waiting → is_waiting row ≡ true → length (starts_due room rows k) < room → starts_due room rows (k + 1) ≡ starts_due room rows k ++ Start k 1 ∷ []
unfolding starts_due
starts_due_true room rows k row here h free =
    let free' : length (take room (chosen (λ g. is_waiting (get_or rows g Waiting)) k)) < room = rw length-map at free in
    ap (λ gs. map (λ g. Start g 1) (take room gs)) (chosen_true (λ g. is_waiting (get_or rows g Waiting)) k (ap is_waiting (sym here) ∙ h))
    ∙ ap (map (λ g. Start g 1)) (take_room room (chosen (λ g. is_waiting (get_or rows g Waiting)) k) k free')
    ∙ map-append (λ g. Start g 1) (take room (chosen (λ g. is_waiting (get_or rows g Waiting)) k)) (k ∷ [])

pub starts_due_full : (room : ℕ) (rows : List GroupState) (k : ℕ) → room ≤ length (starts_due room rows k) → starts_due room rows (k + 1) ≡ starts_due room rows k
unfolding starts_due
starts_due_full room rows k full =
    let full' : room ≤ length (take room (chosen (λ g. is_waiting (get_or rows g Waiting)) k)) = rw length-map at full in
    elim (cases_Bool (is_waiting (get_or rows k Waiting))) [
      | inl t ↦ ap (λ gs. map (λ g. Start g 1) (take room gs)) (chosen_true (λ g. is_waiting (get_or rows g Waiting)) k t)
          ∙ ap (map (λ g. Start g 1)) (take_full room (chosen (λ g. is_waiting (get_or rows g Waiting)) k) k full')
      | inr f ↦ ap (λ gs. map (λ g. Start g 1) (take room gs)) (chosen_false (λ g. is_waiting (get_or rows g Waiting)) k f)
    ]

pub starts_due_false : (room : ℕ) (rows : List GroupState) (k : ℕ) (row : GroupState) → row ≡ get_or rows k Waiting → is_waiting row ≡ false → starts_due room rows (k + 1) ≡ starts_due room rows k
unfolding starts_due
starts_due_false room rows k row here h =
    ap (λ gs. map (λ g. Start g 1) (take room gs)) (chosen_false (λ g. is_waiting (get_or rows g Waiting)) k (ap is_waiting (sym here) ∙ h))

pub starts_due_none : (room : ℕ) (rows : List GroupState) → starts_due room rows 0 ≡ []
unfolding starts_due chosen
starts_due_none room rows = ap (map (λ g. Start g 1)) (take-nil room)

pub ruleset due_steps = (ranks_due_true, ranks_due_false, ranks_due_none, groups_due_true, groups_due_false, groups_due_none, staying_true, staying_false, staying_none, starts_due_true, starts_due_full, starts_due_false, starts_due_none)

-- the list so far begins as it did, with what is due behind it: nothing, one more, none more
pub none_due : {A : Type 0} (items xs : List A) → xs ≡ [] → items ≡ items ++ xs
none_due items xs e = sym (ap (λ ys. items ++ ys) e ∙ append-nil items)

pub one_due : {A : Type 0} (start items items' xs ys : List A) (a : A) → items ≡ start ++ xs → items' ≡ items ++ a ∷ [] → ys ≡ xs ++ a ∷ [] → items' ≡ start ++ ys
one_due start items items' xs ys a so_far pushed more = pushed ∙ ap (λ l. l ++ a ∷ []) so_far ∙ append_assoc start xs (a ∷ []) ∙ ap (λ l. start ++ l) (sym more)

pub same_due : {A : Type 0} (start items xs ys : List A) → items ≡ start ++ xs → ys ≡ xs → items ≡ start ++ ys
same_due start items xs ys so_far same = so_far ∙ ap (λ l. start ++ l) (sym same)

-- The waiting groups below k have been looked at, with so many running before and now.
pub record Started (slots before : ℕ) (rows : List GroupState) (start : List Action) (k : ℕ) (items : List Action) (now : ℕ) : Type 0 where
  pub done : items ≡ start ++ starts_due (slots - before) rows k
  pub running : now ≡ before + length (starts_due (slots - before) rows k)

pub started_none : (slots before : ℕ) (rows : List GroupState) (start : List Action) → Started slots before rows start 0 start before
started_none slots before rows start = record {
  done = none_due start (starts_due (slots - before) rows 0) (starts_due_none (slots - before) rows);
  running = omega (arith, ap length (starts_due_none (slots - before) rows));
}

pub started_one : (slots before : ℕ) (rows : List GroupState) (start : List Action) (k : ℕ) (items items' : List Action) (now now' : ℕ) → Started slots before rows start k items now → is_waiting (get_or rows k Waiting) ≡ true → now < slots → items' ≡ items ++ Start k 1 ∷ [] → now' ≡ now + 1 → Started slots before rows start (k + 1) items' now'
started_one slots before rows start k items items' now now' s waiting free pushed counted =
    let more : starts_due (slots - before) rows (k + 1) ≡ starts_due (slots - before) rows k ++ Start k 1 ∷ [] =
    starts_due_true (slots - before) rows k (get_or rows k Waiting) refl waiting (omega (arith, s.running)) in
    record {
      done = one_due start items items' (starts_due (slots - before) rows k) (starts_due (slots - before) rows (k + 1)) (Start k 1) s.done pushed more;
      running = omega (arith, s.running, ap length more, length-append (starts_due (slots - before) rows k) (Start k 1 ∷ []));
    }

pub started_same : (slots before : ℕ) (rows : List GroupState) (start : List Action) (k : ℕ) (items : List Action) (now : ℕ) → Started slots before rows start k items now → (is_waiting (get_or rows k Waiting) ≡ false) ⊎ (slots ≤ now) → Started slots before rows start (k + 1) items now
started_same slots before rows start k items now s why =
    let same : starts_due (slots - before) rows (k + 1) ≡ starts_due (slots - before) rows k =
    elim why [
      | inl f ↦ starts_due_false (slots - before) rows k (get_or rows k Waiting) refl f
      | inr full ↦ starts_due_full (slots - before) rows k (omega (arith, s.running))
    ] in
    record {
      done = same_due start items (starts_due (slots - before) rows k) (starts_due (slots - before) rows (k + 1)) s.done same;
      running = omega (arith, s.running, ap length same);
    }
