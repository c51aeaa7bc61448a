-- How many rows are of each kind, and how many groups are at each stage.
use Rattle.std.proofs.Common.{◌≡◌, ℕ, suc, Bool, List, [], ◌∷◌, length, map, refl, sym, ap, ◌∙◌, inl, inr}
use Rattle.std.specs.Prelude.{count_by}
use Rattle.std.specs.List.{filter}
use Rattle.std.proofs.lemmas.Bool.{cases_Bool}
use Rattle.std.proofs.lemmas.List.Sums.{length-filter}
use Rattle.mls_model.specs.Numbers.{below}
use Rattle.mls_model.specs.Studies.{Sizes, AreSizes}
use Rattle.mls_model.specs.declared.launcher.Event.{Event}
use Rattle.mls_launch.specs.declared.group_state.GroupState.{GroupState}
use Rattle.mls_launch.specs.declared.totals.Totals.{Totals}
use Rattle.mls_model.specs.Pasts.{Entry, runs, waits, is_finished, is_given_up}
use Rattle.mls_model.specs.Launcher.{past_of}
use Rattle.mls_launch.specs.Rows.{Table, StandsFor, row_of, is_running, is_waiting, is_done, is_left}
use Rattle.mls_launch.specs.Writing.{AreTotals}
use Rattle.mls_model.specs.WatchText.{group_count}
use Rattle.mls_launch.proofs.Facts.{Facts, facts, run_facts, wait_facts}
use Rattle.mls_launch.proofs.Picking.{same_filter}
use Rattle.mls_launch.proofs.Stages.{Stage, waiting, over, alive, ended, left, facts_in, Ordered, row_facts}
use Rattle.mls_launch.proofs.Sound.{Sound}
use Rattle.mls_launch.proofs.Facts.{filter_yes, filter_no}
use Rattle.mls_launch.proofs.Safe.{sound_of}

filter_made : (test : GroupState → Bool) (f : ℕ → GroupState) (ks : List ℕ) → length (filter test (map f ks)) ≡ length (filter (λ k. test (f k)) ks)
filter_made test f [] = refl
filter_made test f (k ∷ ks) = elim (cases_Bool (test (f k))) [
  | inl t ↦ ap length (filter_yes test (f k) (map f ks) t) ∙ ap (λ n. suc n) (filter_made test f ks) ∙ sym (ap length (filter_yes (λ q. test (f q)) k ks t))
  | inr n ↦ ap length (filter_no test (f k) (map f ks) n) ∙ filter_made test f ks ∙ sym (ap length (filter_no (λ q. test (f q)) k ks n))
]

counted : (s : Sizes) (past : List Entry) (rows : List GroupState) (test : GroupState → Bool) (own : ℕ → Bool) → rows ≡ map (λ g. row_of g past) (below s.groups) → ((g : ℕ) → test (row_of g past) ≡ own g) → count_by test rows ≡ group_count s own
unfolding group_count
counted s past rows test own are same =
    sym (length-filter test rows)
    ∙ ap (λ l. length (filter test l)) are
    ∙ filter_made test (λ g. row_of g past) (below s.groups)
    ∙ ap length (same_filter (λ g. test (row_of g past)) own s.groups (λ g h. same g))

running_in : (g : ℕ) (stage : Stage) → is_running (row_facts (facts_in g stage)) ≡ run_facts (facts_in g stage)
running_in g (waiting last) = refl
running_in g (over last) = refl
running_in g (alive life last) = refl
running_in g (ended life last) = refl
running_in g (left life last) = refl

waiting_in : (g : ℕ) (stage : Stage) → is_waiting (row_facts (facts_in g stage)) ≡ wait_facts (facts_in g stage)
waiting_in g (waiting last) = refl
waiting_in g (over last) = refl
waiting_in g (alive life last) = refl
waiting_in g (ended life last) = refl
waiting_in g (left life last) = refl

finished_in : (g : ℕ) (stage : Stage) → is_done (row_facts (facts_in g stage)) ≡ (facts_in g stage).finished
finished_in g (waiting last) = refl
finished_in g (over last) = refl
finished_in g (alive life last) = refl
finished_in g (ended life last) = refl
finished_in g (left life last) = refl

left_in : (g : ℕ) (stage : Stage) → is_left (row_facts (facts_in g stage)) ≡ (facts_in g stage).given
left_in g (waiting last) = refl
left_in g (over last) = refl
left_in g (alive life last) = refl
left_in g (ended life last) = refl
left_in g (left life last) = refl

by_stage : (lives g : ℕ) (f : Facts) (test own : Facts → Bool) → Ordered lives g f → ((stage : Stage) → test (facts_in g stage) ≡ own (facts_in g stage)) → test f ≡ own f
by_stage lives g f test own o same = ap test o.is ∙ same o.stage ∙ sym (ap own o.is)

pub totals_are : (t : Table) (events : List Event) (totals : Totals) → AreSizes t.sizes → StandsFor t events → totals.running ≡ count_by is_running t.rows → totals.waiting ≡ count_by is_waiting t.rows → totals.finished ≡ count_by is_done t.rows → totals.given_up ≡ count_by is_left t.rows → AreTotals totals t.sizes (past_of t.sizes events)
unfolding row_of
totals_are t events totals are h a b c d =
    let s : Sizes = t.sizes in
    let past : List Entry = past_of s events in
    let o : Sound s past = sound_of s events are in
    record {
      running = a ∙ counted s past t.rows is_running (λ g. runs g past) h.rows (λ g. by_stage s.lives g (facts g past) (λ f. is_running (row_facts f)) run_facts (o.ordered g) (running_in g));
      waiting = b ∙ counted s past t.rows is_waiting (λ g. waits g past) h.rows (λ g. by_stage s.lives g (facts g past) (λ f. is_waiting (row_facts f)) wait_facts (o.ordered g) (waiting_in g));
      finished = c ∙ counted s past t.rows is_done (λ g. is_finished g past) h.rows (λ g. by_stage s.lives g (facts g past) (λ f. is_done (row_facts f)) (λ (f : Facts). f.finished) (o.ordered g) (finished_in g));
      given_up = d ∙ counted s past t.rows is_left (λ g. is_given_up g past) h.rows (λ g. by_stage s.lives g (facts g past) (λ f. is_left (row_facts f)) (λ (f : Facts). f.given) (o.ordered g) (left_in g));
    }
