-- What the answer to silence and a start make of a group's stage and row.
use Rattle.std.proofs.Common.{◌≡◌, ℕ, zero, suc, ◌+◌, ◌-◌, ◌<◌, ◌≤◌, Bool, true, false, [], ◌∷◌, ◌++◌, refl, sym, ap, ◌∙◌, subst, ltb, arith, add-one}
use Rattle.std.specs.Prelude.{cond, not, ◌&&◌, ◌||◌, ◌==◌}
use Rattle.mls_model.specs.declared.launcher.Action.{Action}
use Rattle.mls_model.specs.declared.launcher.Action.TheVariants.{Start, Restart, GiveUp, RestartRank}
use Rattle.mls_launch.specs.declared.group_state.GroupState.{GroupState}
use Rattle.mls_launch.specs.declared.group_state.GroupState.TheVariants.{Running, GivenUp}
use Rattle.mls_launch.specs.Safety.{lives_begun}
use Rattle.mls_launch.specs.Rows.{is_due, answer_for, stays_on, is_waiting}
use Rattle.mls_launch.proofs.Facts.{Facts, run_facts, wait_facts, fact_did}
use Rattle.mls_launch.proofs.Picking.{eq_same, lt_true, lt_false}
use Rattle.mls_launch.proofs.Stages.{Stage, waiting, over, alive, ended, left, facts_in, HasLives, Ordered, row_facts, silent_facts, answer_facts, answered, waiting_is}

-- the tests of a row are those of what is said of the group
due_stage : (silence time g : ℕ) (stage : Stage) → is_due silence time (row_facts (facts_in g stage)) ≡ silent_facts silence time (facts_in g stage)
due_stage silence time g (waiting last) = refl
due_stage silence time g (over last) = refl
due_stage silence time g (alive life last) = refl
due_stage silence time g (ended life last) = refl
due_stage silence time g (left life last) = refl

pub due_row : (silence lives time g : ℕ) (f : Facts) → Ordered lives g f → is_due silence time (row_facts f) ≡ silent_facts silence time f
due_row silence lives time g f o = ap (λ h. is_due silence time (row_facts h)) o.is ∙ due_stage silence time g o.stage ∙ sym (ap (silent_facts silence time) o.is)

answer_stage : (silence lives time g : ℕ) (stage : Stage) → silent_facts silence time (facts_in g stage) ≡ true → answer_for lives g (row_facts (facts_in g stage)) ≡ answer_facts lives g (facts_in g stage)
answer_stage silence lives time g (waiting last) t = cc
answer_stage silence lives time g (over last) t = cc
answer_stage silence lives time g (alive life last) t = refl
answer_stage silence lives time g (ended life last) t = cc
answer_stage silence lives time g (left life last) t = cc

pub answer_row : (silence lives time g : ℕ) (f : Facts) → Ordered lives g f → silent_facts silence time f ≡ true → answer_for lives g (row_facts f) ≡ answer_facts lives g f
answer_row silence lives time g f o t =
    ap (λ h. answer_for lives g (row_facts h)) o.is
    ∙ answer_stage silence lives time g o.stage (sym (ap (silent_facts silence time) o.is) ∙ t)
    ∙ sym (ap (answer_facts lives g) o.is)

stays_alive : (time g life last : ℕ) (b c : Bool) → not (b && not c) ≡ run_facts (cond b (fact_did g time (cond c (Restart g (life + 1)) (GiveUp g)) (facts_in g (alive life last))) (facts_in g (alive life last)))
stays_alive time g life last true true = refl
stays_alive time g life last true false = sym (ap (λ e. not (e || false)) (eq_same g))
stays_alive time g life last false c = refl

stays_stage : (silence lives time g : ℕ) (stage : Stage) → stays_on silence lives time (row_facts (facts_in g stage)) ≡ run_facts (answered silence lives time g (facts_in g stage))
stays_stage silence lives time g (waiting last) = refl
stays_stage silence lives time g (over last) = refl
stays_stage silence lives time g (alive life last) = stays_alive time g life last (ltb silence (time - last)) (ltb life lives)
stays_stage silence lives time g (ended life last) = refl
stays_stage silence lives time g (left life last) = refl

pub stays_row : (silence lives time g : ℕ) (f : Facts) → Ordered lives g f → stays_on silence lives time (row_facts f) ≡ run_facts (answered silence lives time g f)
stays_row silence lives time g f o =
    ap (λ h. stays_on silence lives time (row_facts h)) o.is
    ∙ stays_stage silence lives time g o.stage
    ∙ sym (ap (λ h. run_facts (answered silence lives time g h)) o.is)

waits_alive : (time g life last : ℕ) (b c : Bool) → false ≡ wait_facts (cond b (fact_did g time (cond c (Restart g (life + 1)) (GiveUp g)) (facts_in g (alive life last))) (facts_in g (alive life last)))
waits_alive time g life last true true = sym (ap (λ e. not (e || true) && true) (eq_same g))
waits_alive time g life last true false = sym (ap (λ e. not (e || true) && true) (eq_same g))
waits_alive time g life last false c = refl

waits_stage : (silence lives time g : ℕ) (stage : Stage) → is_waiting (row_facts (facts_in g stage)) ≡ wait_facts (answered silence lives time g (facts_in g stage))
waits_stage silence lives time g (waiting last) = refl
waits_stage silence lives time g (over last) = refl
waits_stage silence lives time g (alive life last) = waits_alive time g life last (ltb silence (time - last)) (ltb life lives)
waits_stage silence lives time g (ended life last) = refl
waits_stage silence lives time g (left life last) = refl

pub waits_row : (silence lives time g : ℕ) (f : Facts) → Ordered lives g f → is_waiting (row_facts f) ≡ wait_facts (answered silence lives time g f)
waits_row silence lives time g f o =
    ap (λ h. is_waiting (row_facts h)) o.is
    ∙ waits_stage silence lives time g o.stage
    ∙ sym (ap (λ h. wait_facts (answered silence lives time g h)) o.is)

-- the answer leads from a stage to a stage
begun_more : (g life : ℕ) → 1 ≤ life → lives_begun g life ++ Restart g (life + 1) ∷ [] ≡ lives_begun g (suc life)
unfolding lives_begun
begun_more g zero h = absurd (omega arith)
begun_more g (suc n) h = ap (λ k. lives_begun g (suc n) ++ Restart g k ∷ []) (add-one (suc n))

restarted : (time g life last : ℕ) → 1 ≤ life → fact_did g time (Restart g (life + 1)) (facts_in g (alive life last)) ≡ facts_in g (alive (suc life) time)
restarted time g life last h =
    ap (λ e. record { started = true; acted = e || true; given = false; finished = false; life = cond e (suc life) life; last = cond e time last; acts = cond e (lives_begun g life ++ Restart g (life + 1) ∷ []) (lives_begun g life) }) (eq_same g)
    ∙ ap (λ l. record { started = true; acted = true; given = false; finished = false; life = suc life; last = time; acts = l }) (begun_more g life h)

given_up : (time g life last : ℕ) → fact_did g time (GiveUp g) (facts_in g (alive life last)) ≡ facts_in g (left life last)
given_up time g life last =
    ap (λ e. record { started = true; acted = e || true; given = e || false; finished = false; life = life; last = last; acts = cond e (lives_begun g life ++ GiveUp g ∷ []) (lives_begun g life) }) (eq_same g)

answered_alive : (lives time g life last : ℕ) (b c : Bool) → ltb life lives ≡ c → 1 ≤ life → life ≤ lives → Ordered lives g (cond b (fact_did g time (cond c (Restart g (life + 1)) (GiveUp g)) (facts_in g (alive life last))) (facts_in g (alive life last)))
answered_alive lives time g life last true true e h k =
    let more : life < lives = lt_true life lives e in
    record { stage = alive (suc life) time; is = restarted time g life last h; lives_are = (omega arith, omega arith) }
answered_alive lives time g life last true false e h k =
    let most : lives ≤ life = lt_false life lives e in
    record { stage = left life last; is = given_up time g life last; lives_are = (h, omega arith) }
answered_alive lives time g life last false c e h k = record { stage = alive life last; is = refl; lives_are = (h, k) }

answered_stage : (silence lives time g : ℕ) (stage : Stage) → HasLives lives stage → Ordered lives g (answered silence lives time g (facts_in g stage))
answered_stage silence lives time g (waiting last) h = record { stage = waiting last; is = refl; lives_are = tt }
answered_stage silence lives time g (over last) h = record { stage = over last; is = refl; lives_are = tt }
answered_stage silence lives time g (alive life last) h = answered_alive lives time g life last (ltb silence (time - last)) (ltb life lives) refl h.0 h.1
answered_stage silence lives time g (ended life last) h = record { stage = ended life last; is = refl; lives_are = h }
answered_stage silence lives time g (left life last) h = record { stage = left life last; is = refl; lives_are = h }

pub ordered_answered : (silence lives time g : ℕ) (f : Facts) → Ordered lives g f → Ordered lives g (answered silence lives time g f)
ordered_answered silence lives time g f o =
    let P : Facts → Type 0 = λ h. Ordered lives g (answered silence lives time g h) in
    subst P (sym o.is) (answered_stage silence lives time g o.stage o.lives_are)

-- so does a start
pub started_is : (time g last : ℕ) → fact_did g time (Start g 1) (facts_in g (waiting last)) ≡ facts_in g (alive 1 time)
unfolding lives_begun
started_is time g last =
    ap (λ e. record { started = e || false; acted = e || false; given = false; finished = false; life = cond e 1 0; last = cond e time last; acts = cond e (Start g 1 ∷ []) [] }) (eq_same g)

pub started_facts : (lives time g : ℕ) (f : Facts) → Ordered lives g f → wait_facts f ≡ true → fact_did g time (Start g 1) f ≡ facts_in g (alive 1 time)
started_facts lives time g f o w =
    let is = waiting_is lives g f o w in
    ap (fact_did g time (Start g 1)) is.1 ∙ started_is time g is.0

-- what an action makes of a group's row
abbrev pub row_did : ℕ → ℕ → Action → GroupState → GroupState
row_did g time (Start group life) row = cond (group == g) (Running life time) row
row_did g time (Restart group life) row = cond (group == g) (Running life time) row
row_did g time (GiveUp group) row = cond (group == g) GivenUp row
row_did g time (RestartRank rank) row = row

row_answered_alive : (time g life last : ℕ) (b c : Bool) → row_facts (cond b (fact_did g time (cond c (Restart g (life + 1)) (GiveUp g)) (facts_in g (alive life last))) (facts_in g (alive life last))) ≡ cond b (row_did g time (cond c (Restart g (life + 1)) (GiveUp g)) (Running life last)) (Running life last)
row_answered_alive time g life last true true =
    ap (λ e. Running (cond e (suc life) life) (cond e time last)) (eq_same g)
    ∙ ap (λ k. Running k time) (sym (add-one life))
    ∙ sym (ap (λ e. cond e (Running (life + 1) time) (Running life last)) (eq_same g))
row_answered_alive time g life last true false =
    ap (λ e. cond (e || false) GivenUp (Running life last)) (eq_same g) ∙ sym (ap (λ e. cond e GivenUp (Running life last)) (eq_same g))
row_answered_alive time g life last false c = refl

row_answered_stage : (silence lives time g : ℕ) (stage : Stage) → row_facts (answered silence lives time g (facts_in g stage)) ≡ cond (silent_facts silence time (facts_in g stage)) (row_did g time (answer_facts lives g (facts_in g stage)) (row_facts (facts_in g stage))) (row_facts (facts_in g stage))
row_answered_stage silence lives time g (waiting last) = refl
row_answered_stage silence lives time g (over last) = refl
row_answered_stage silence lives time g (alive life last) = row_answered_alive time g life last (ltb silence (time - last)) (ltb life lives)
row_answered_stage silence lives time g (ended life last) = refl
row_answered_stage silence lives time g (left life last) = refl

pub row_answered : (silence lives time g : ℕ) (f : Facts) → Ordered lives g f → row_facts (answered silence lives time g f) ≡ cond (silent_facts silence time f) (row_did g time (answer_facts lives g f) (row_facts f)) (row_facts f)
row_answered silence lives time g f o =
    ap (λ h. row_facts (answered silence lives time g h)) o.is
    ∙ row_answered_stage silence lives time g o.stage
    ∙ sym (ap (λ h. cond (silent_facts silence time h) (row_did g time (answer_facts lives g h) (row_facts h)) (row_facts h)) o.is)

pub row_started : (lives time g : ℕ) (f : Facts) → Ordered lives g f → wait_facts f ≡ true → row_facts (fact_did g time (Start g 1) f) ≡ row_did g time (Start g 1) (row_facts f)
row_started lives time g f o w = ap row_facts (started_facts lives time g f o w) ∙ sym (ap (λ e. cond e (Running 1 time) (row_facts f)) (eq_same g))
