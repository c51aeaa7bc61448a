-- The surviving events of a history with one more event.
use Rattle.std.proofs.Common.{◌≡◌, ℕ, ◌+◌, ◌≤◌, Bool, true, false, not, ◌&&◌, ◌||◌, cond, List, [], ◌∷◌, ◌++◌, length, Option, Some, None, arith, refl, ap, sym, ◌∙◌, append_assoc, ⊎_elim}
use Rattle.std.specs.List.{list_any}
use Rattle.std.specs.Prelude.{unwrap_or}
use Rattle.std.proofs.lemmas.List.{append-nil}
use Rattle.std.proofs.lemmas.Bool.{cases_Bool, or_parts, or_left, or_right, and_from}
use Rattle.std.proofs.lemmas.List.Folds.{list_any-append}
use Rattle.mls_model.specs.Places.{all_places}
use Rattle.mls_model.specs.Frames.{Frame, piece, beat, bye, save, crash, hello, welcome, refuse}
use Rattle.mls_model.specs.declared.lanes.LaneKind.{LaneKind}
use Rattle.mls_model.specs.declared.lanes.LaneKind.TheVariants.{Client, Control}
use Rattle.mls_model.specs.Histories.{LaneEvent}
use Rattle.mls_model.specs.Survival.{is_save, is_crash, is_save_frame, is_crash_frame, survives, surviving, last_save, before_last_save, crash_after_save}
use Rattle.mls_laws.proofs.Places.{all_places_more, any_place_more}

-- an event with these events before it leaves what stands before them
abbrev pub spares : List LaneEvent → LaneEvent → Bool
spares between e = not (is_crash e) || list_any is_save between

save_frame_no_crash : (frame : Frame) → is_save_frame frame ≡ true → is_crash_frame frame ≡ false
save_frame_no_crash (piece p) h = refl
save_frame_no_crash (beat g l) h = refl
save_frame_no_crash (bye g l) h = refl
save_frame_no_crash save h = refl
save_frame_no_crash crash h = sym h
save_frame_no_crash (hello v g l c r) h = refl
save_frame_no_crash (welcome l) h = refl
save_frame_no_crash (refuse r v) h = refl

save_of_kind : (kind : LaneKind) (frame : Frame) → is_save (record { kind = kind; frame = frame }) ≡ true → is_crash (record { kind = kind; frame = frame }) ≡ false
save_of_kind Client frame h = refl
save_of_kind Control frame h = save_frame_no_crash frame h

pub save_no_crash : (e : LaneEvent) → is_save e ≡ true → is_crash e ≡ false
save_no_crash e h = save_of_kind e.kind e.frame h

spares_no_crash : (between : List LaneEvent) (e : LaneEvent) → is_crash e ≡ false → spares between e ≡ true
spares_no_crash between e h = rw h refl

spares_crash : (between : List LaneEvent) (e : LaneEvent) → is_crash e ≡ true → spares between e ≡ list_any is_save between
spares_crash between e h = rw h refl

-- where no crash comes, all is spared
pub spared_no_crash : (before after : List LaneEvent) → list_any is_crash after ≡ false → all_places spares before after ≡ true
unfolding all_places
spared_no_crash before [] h = refl
spared_no_crash before (e ∷ after) h =
    let parts = or_parts (is_crash e) (list_any is_crash after) h in
    and_from _ _ (spares_no_crash before e parts.0) (spared_no_crash (before ++ e ∷ []) after parts.1)

-- after a save all is spared
pub spared_after_save : (before after : List LaneEvent) → list_any is_save before ≡ true → all_places spares before after ≡ true
unfolding all_places
spared_after_save before [] h = refl
spared_after_save before (e ∷ after) h =
    and_from _ _ (or_right (not (is_crash e)) (list_any is_save before) h) (spared_after_save (before ++ e ∷ []) after (list_any-append is_save before (e ∷ []) ∙ or_left (list_any is_save before) (list_any is_save (e ∷ [])) h))

pub survives_no_crash : (after : List LaneEvent) → list_any is_crash after ≡ false → survives after ≡ true
unfolding survives
survives_no_crash after h = spared_no_crash [] after h

pub survives_more : (after : List LaneEvent) (e : LaneEvent) → survives (after ++ e ∷ []) ≡ (survives after && spares after e)
unfolding survives
survives_more after e = all_places_more spares [] after e

and_true : (b c : Bool) → c ≡ true → (b && c) ≡ b
and_true true c h = h
and_true false c h = refl

and_comm_false : (b c : Bool) → c ≡ false → (b && c) ≡ false
and_comm_false true c h = h
and_comm_false false c h = refl

push_cond : {A : Type 0} (b : Bool) (x e : A) (xs : List A) → cond b (x ∷ (xs ++ e ∷ [])) (xs ++ e ∷ []) ≡ cond b (x ∷ xs) xs ++ e ∷ []
push_cond true x e xs = refl
push_cond false x e xs = refl

-- one more event that is no crash
pub surviving_more : (h : List LaneEvent) (e : LaneEvent) → is_crash e ≡ false → surviving (h ++ e ∷ []) ≡ surviving h ++ e ∷ []
unfolding surviving
surviving_more [] e c = rw (survives_no_crash [] refl) refl
surviving_more (x ∷ after) e c =
    rw (survives_more after e, and_true (survives after) (spares after e) (spares_no_crash after e c), surviving_more after e c)
    (push_cond (survives after) x e (surviving after))

-- where no crash comes, all survive
pub surviving_all : (h : List LaneEvent) → list_any is_crash h ≡ false → surviving h ≡ h
unfolding surviving
surviving_all [] c = refl
surviving_all (e ∷ after) c =
    let parts = or_parts (is_crash e) (list_any is_crash after) c in
    rw (survives_no_crash after parts.1, surviving_all after parts.1) refl

-- what comes after the last crash survives
pub surviving_append : (h after : List LaneEvent) → list_any is_crash after ≡ false → surviving (h ++ after) ≡ surviving h ++ after
surviving_append h [] c = ap surviving (append-nil h) ∙ sym (append-nil (surviving h))
surviving_append h (e ∷ after) c =
    let parts = or_parts (is_crash e) (list_any is_crash after) c in
    ap surviving (sym (append_assoc h (e ∷ []) after))
    ∙ (surviving_append (h ++ e ∷ []) after parts.1
    ∙ (ap (λ xs. xs ++ after) (surviving_more h e parts.0)
    ∙ append_assoc (surviving h) (e ∷ []) after))

first_is : (a b : Bool) → (a || b) ≡ true → b ≡ false → a ≡ true
first_is true b o f = refl
first_is false b o f = sym f ∙ o

-- without a save nothing stood before the last one
pub no_last_save : (h : List LaneEvent) → list_any is_save h ≡ false → last_save h ≡ None
unfolding last_save
no_last_save [] s = refl
no_last_save (e ∷ rest) s =
    let parts = or_parts (is_save e) (list_any is_save rest) s in rw (no_last_save rest parts.1, parts.0) refl

pub no_save_before : (h : List LaneEvent) → list_any is_save h ≡ false → before_last_save h ≡ []
no_save_before h s = ap (λ o. unwrap_or o []) (no_last_save h s)

nothing_saved : before_last_save [] ≡ []
unfolding last_save
nothing_saved = refl

-- with a save something did
some_last_save : (h : List LaneEvent) → list_any is_save h ≡ true → (before : List LaneEvent) × (last_save h ≡ Some before)
unfolding last_save
some_last_save [] s = absurd cc
some_last_save (e ∷ rest) s = ⊎_elim
    (λ t. let last = some_last_save rest t in (e ∷ last.0, rw (last.1) refl))
    (λ f. ([], rw (no_last_save rest f, first_is (is_save e) (list_any is_save rest) s f) refl))
    (cases_Bool (list_any is_save rest))

-- where a save comes later, an event stood before the last one
stood : (e : LaneEvent) (rest : List LaneEvent) → list_any is_save rest ≡ true → before_last_save (e ∷ rest) ≡ e ∷ before_last_save rest
unfolding last_save
stood e rest t = let last = some_last_save rest t in rw (last.1) refl

none_of : (b : Bool) (none : List LaneEvent) → unwrap_or (cond b (Some none) None) none ≡ none
none_of true none = refl
none_of false none = refl

-- where none comes later, it did not
stood_not : (e : LaneEvent) (rest : List LaneEvent) → list_any is_save rest ≡ false → before_last_save (e ∷ rest) ≡ []
unfolding last_save
stood_not e rest f = rw (no_last_save rest f) (none_of (is_save e) [])

-- where there is a save, a place survives the history exactly where it survives what comes before the last save
spared_before_save : (before after : List LaneEvent) → list_any is_save after ≡ true → all_places spares before after ≡ all_places spares before (before_last_save after)
unfolding all_places
spared_before_save before [] s = absurd cc
spared_before_save before (e ∷ rest) s = ⊎_elim
    (λ t. rw (stood e rest t) (ap (λ b. spares before e && b) (spared_before_save (before ++ e ∷ []) rest t)))
    (λ f.
    let here : is_save e ≡ true = first_is (is_save e) (list_any is_save rest) s f in
    rw (stood_not e rest f) (and_from _ _ (spares_no_crash before e (save_no_crash e here)) (spared_after_save (before ++ e ∷ []) rest (list_any-append is_save before (e ∷ []) ∙ or_right (list_any is_save before) (list_any is_save (e ∷ [])) (or_left (is_save e) false here)))))
    (cases_Bool (list_any is_save rest))

survives_before_save : (after : List LaneEvent) → list_any is_save after ≡ true → survives after ≡ survives (before_last_save after)
unfolding survives
survives_before_save after s = spared_before_save [] after s

-- one more event that is a crash
pub surviving_crash : (h : List LaneEvent) (e : LaneEvent) → is_crash e ≡ true → surviving (h ++ e ∷ []) ≡ surviving (before_last_save h) ++ e ∷ []
unfolding surviving
surviving_crash [] e c = rw (survives_no_crash [] refl, nothing_saved) refl
surviving_crash (x ∷ after) e c = ⊎_elim
    (λ t. rw (survives_more after e, and_true (survives after) (spares after e) (spares_crash after e c ∙ t), surviving_crash after e c, stood x after t, survives_before_save after t)
    (push_cond (survives (before_last_save after)) x e (surviving (before_last_save after))))
    (λ f. rw (survives_more after e, and_comm_false (survives after) (spares after e) (spares_crash after e c ∙ f), surviving_crash after e c, stood_not x after f, no_save_before after f) refl)
    (cases_Bool (list_any is_save after))

later : (b : Bool) (x : LaneEvent) (rest : List LaneEvent) (o first : Option (List LaneEvent))
    → elim (cond b (Some rest) o) [ Some before ↦ Some (x ∷ before) | None ↦ first ] ≡ cond b (Some (x ∷ rest)) (elim o [ Some before ↦ Some (x ∷ before) | None ↦ first ])
later true x rest o first = refl
later false x rest o first = refl

-- what the last save saw, with one more event
pub last_save_more : (h : List LaneEvent) (e : LaneEvent) → last_save (h ++ e ∷ []) ≡ cond (is_save e) (Some h) (last_save h)
unfolding last_save
last_save_more [] e = refl
last_save_more (x ∷ rest) e = rw (last_save_more rest e) (later (is_save e) x rest (last_save rest) (cond (is_save x) (Some []) None))

kept_by : (b : Bool) (h : List LaneEvent) (o : Option (List LaneEvent)) → unwrap_or (cond b (Some h) o) [] ≡ cond b h (unwrap_or o [])
kept_by true h o = refl
kept_by false h o = refl

pub before_last_save_more : (h : List LaneEvent) (e : LaneEvent) → before_last_save (h ++ e ∷ []) ≡ cond (is_save e) h (before_last_save h)
before_last_save_more h e = ap (λ o. unwrap_or o []) (last_save_more h e) ∙ kept_by (is_save e) h (last_save h)

-- whether a crash stands behind a save, with one more event
pub crash_after_save_more : (h : List LaneEvent) (e : LaneEvent) → crash_after_save (h ++ e ∷ []) ≡ (crash_after_save h || (is_crash e && list_any is_save h))
unfolding crash_after_save
crash_after_save_more h e = any_place_more (λ before x. is_crash x && list_any is_save before) [] h e

few_of : (b : Bool) (e : LaneEvent) (kept : List LaneEvent) (n : ℕ) → length kept ≤ n → length (cond b (e ∷ kept) kept) ≤ 1 + n
few_of true e kept n le = omega arith
few_of false e kept n le = omega arith

-- no more events survive than there were
pub few_survive : (h : List LaneEvent) → length (surviving h) ≤ length h
unfolding surviving
few_survive [] = omega arith
few_survive (e ∷ after) = let few : length (surviving (e ∷ after)) ≤ 1 + length after = few_of (survives after) e (surviving after) (length after) (few_survive after) in omega (arith, few)

-- the last event survives
last_survives : (h : List LaneEvent) (e : LaneEvent) → (kept : List LaneEvent) × (surviving (h ++ e ∷ []) ≡ kept ++ e ∷ [])
last_survives h e = ⊎_elim
    (λ t. (surviving (before_last_save h), surviving_crash h e t))
    (λ f. (surviving h, surviving_more h e f))
    (cases_Bool (is_crash e))

-- an event survives after which no crash comes, and so do those after it
pub survives_at : (before : List LaneEvent) (e : LaneEvent) (after : List LaneEvent) → list_any is_crash after ≡ false → (kept : List LaneEvent) × (surviving (before ++ e ∷ after) ≡ kept ++ e ∷ after)
survives_at before e after c =
    let last = last_survives before e in (
      last.0,
      ap surviving (sym (append_assoc before (e ∷ []) after))
          ∙ (surviving_append (before ++ e ∷ []) after c
          ∙ (ap (λ xs. xs ++ after) (last.1)
          ∙ append_assoc (last.0) (e ∷ []) after)),
    )
