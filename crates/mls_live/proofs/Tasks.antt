-- What a command answers to what it is asked for: a sending, a run or a server.
use Rattle.std.proofs.Common.{◌≡◌, Bool, IsTrue, List, Option, Some, Result, Ok, Err, refl, sym, ◌∙◌, ap, subst, inl, inr, ◌⊎◌}
use Rattle.mls_base.specs.Told.{Names}
use Rattle.mls_text.specs.Writing.{SinkState}
use Rattle.mls_book.specs.Keepers.{KeeperState}
use Rattle.mls_result.specs.declared.status.Status.{Status}
use Rattle.mls_result.specs.declared.status.Status.TheVariants as status
use Rattle.mls_load.specs.declared.refusal.Refusal.{Refusal}
use Rattle.mls_load.specs.declared.refusal.Refusal.TheVariants as refusal
use Rattle.mls_load.specs.Refusals.{FileState, IsRefused, Loads, status_of}
use Rattle.mls_wire.specs.Doors.{Closed}
use Rattle.mls_served.specs.Doors.{DoorState}
use Rattle.mls_served.specs.Serving.{Serves, Serving}
use Rattle.mls_live.specs.Group.{Sending, Enough}
use Rattle.mls_live.specs.Running.{Ran, RunAnswers, Running}
use Rattle.mls_live.specs.Answers.{AllWelcome, Answers, Carries, DidNotRise, Exactly, HasEnough, IsDoneOrMemory, IsRefusal, IsUncalled, IsUnbroken, SaysServer, WasNoAnswer, WasRefusal}
use Rattle.mls_live.specs.Tasks.{AllTell, CarriesOut, HasEnoughToRun, HasLinks, IsAskedTask, IsRunning, IsSending, IsServing, NoneRose, Task, TellsRight, TellsServed, as_runs, as_sends, as_serves}
use Rattle.mls_live.specs.Tasks.Task.{sends, runs, serves}
use Rattle.mls_live.proofs.Carrying.{own_refusal, no_door_fault, no_link_fault, read_failed, refused_answers, unbroken, IsOwn}
use Rattle.mls_live.proofs.Exactness.{asked, completed, exact}
use Rattle.mls_live.proofs.Server.{after_none, says_server}
use Rattle.mls_live.proofs.Served.{serve_asked, serve_completed, serve_quiet, serve_refused, tells_served}
use Rattle.mls_live.proofs.Runs.{ran_since, run_asked, run_completed, run_quiet, run_refused, run_saves, run_write}

err_as : {A B : Type 0} (a b : Status) → ◌≡◌ {A = Result A Status} (Err a) (Err b) → ◌≡◌ {A = Result B Status} (Err a) (Err b)
err_as a b e = cc

not_err : {A : Type 0} (x : A) (b : Status) → ◌≡◌ {A = Result A Status} (Ok x) (Err b) → ⊥
not_err x b e = cc

no_sending : (right : Result Running Status) (s : Sending) → as_runs right ≡ Ok (sends s) → ⊥
no_sending (Ok r) s e = cc
no_sending (Err x) s e = cc

no_task : (x : Status) (s : Sending) → ◌≡◌ {A = Result Task Status} (Err x) (Ok (sends s)) → ⊥
no_task x s e = cc

no_served : (right : Result Serving Status) (s : Sending) → as_serves right ≡ Ok (sends s) → ⊥
no_served (Ok v) s e = cc
no_served (Err x) s e = absurd (no_task x s e)

same_sending : (right : Result Sending Status) (s : Sending) → as_sends right ≡ Ok (sends s) → right ≡ Ok s
same_sending (Ok x) s e = cc
same_sending (Err x) s e = absurd (no_task x s e)

same_told : (a b : List Closed) → ◌≡◌ {A = Option (List Closed)} (Some a) (Some b) → a ≡ b
same_told a b e = cc

module _ (files files' : FileState) (out out' : SinkState) (keepers keepers' : List KeeperState) (door door' : DoorState) where
  tells_sending : (right : Result Sending Status) (s : Status) → Answers files.sound right door door' s → TellsRight (as_sends right) files files' out out' keepers keepers' door door' s
  tells_sending (Ok x) s h = h
  tells_sending (Err x) s h = h

  -- each refusal comes exactly where it is right
  pub task_exact : (right : Result Task Status) (s refusal : Status) → IsRefusal refusal → TellsRight right files files' out out' keepers keepers' door door' s → Exactly right refusal s
  task_exact (Ok (sends x)) s refusal is h =
      let e = exact files.sound (Ok x) door door' s refusal is h in
      record { only = λ p. absurd (not_err x refusal (e.only p)); wherever = λ p. absurd (not_err (sends x) refusal p) }
  task_exact (Ok (runs r)) s refusal is h = record {
    only = λ p. absurd (run_refused r files files' out out' keepers keepers' refusal is (subst (λ (x : Status). RunAnswers r files files' out out' keepers keepers' x) p h.0.answers));
    wherever = λ p. absurd (not_err (runs r) refusal p);
  }
  task_exact (Ok (serves v)) s refusal is h = record {
    only = λ p. absurd (serve_refused v out out' keepers keepers' door door' files.sound refusal is (subst (λ (x : Status). TellsServed v files.sound out out' keepers keepers' door door' x) p h));
    wherever = λ p. absurd (not_err (serves v) refusal p);
  }
  task_exact (Err x) s refusal is h =
      let e = exact files.sound (Err x) door door' s refusal is h in
      record { only = λ p. err_as x refusal (e.only p); wherever = λ p. e.wherever (err_as x refusal p) }

  same_closed : (before after : List Closed) → door.closed ≡ Some before → door'.closed ≡ Some after → door' ≡ door → after ≡ before
  same_closed before after was is same = same_told after before (sym is ∙ ap (λ (d : DoorState). d.closed) same ∙ was)

  -- what the server said is answered
  pub task_server : (right : Result Task Status) (before after : List Closed) (s : Status) → (IsServing right → ⊥) → door.closed ≡ Some before → door'.closed ≡ Some after → TellsRight right files files' out out' keepers keepers' door door' s → SaysServer before after s
  task_server (Ok (sends x)) before after s other was is h = says_server files.sound (Ok x) door door' before after s was is h
  task_server (Ok (serves v)) before after s other was is h = absurd (other tt)
  task_server (Ok (runs r)) before after s other was is h =
      let same = same_closed before after was is h.1 in
      record {
        refused = λ reason value. (
          (λ e. absurd (subst (λ (x : Status). RunAnswers r files files' out out' keepers keepers' x) e h.0.answers)),
          (λ l. absurd (after_none (WasRefusal reason value) before after l same)),
        );
        peer = λ e. absurd (subst (λ (x : Status). RunAnswers r files files' out out' keepers keepers' x) e h.0.answers);
        wherever = λ l. absurd (after_none WasNoAnswer before after l same);
      }
  task_server (Err x) before after s other was is h = says_server files.sound (Err x) door door' before after s was is h

  same_refusal : (a b : Status) → ◌≡◌ {A = Result Sending Status} (Err a) (Err b) → b ≡ a
  same_refusal a b e = cc

  asked_status : (x s : Status) → IsTrue files.sound → Answers files.sound (Err x) door door' s → (s ≡ x) ⊎ (s ≡ status.Memory)
  asked_status x status.Done sound h = absurd h
  asked_status x status.WriteFault sound h = absurd h
  asked_status x (status.KeeperFault rank) sound h = absurd h
  asked_status x (status.CheckpointBad rank at why) sound h = absurd h
  asked_status x status.Memory sound h = inr refl
  asked_status x status.ReadFault sound h = inl (same_refusal x status.ReadFault (h.0 sound))
  asked_status x status.Usage sound h = inl (same_refusal x status.Usage h.0)
  asked_status x (status.Study fault) sound h = inl (same_refusal x (status.Study fault) h.0)
  asked_status x (status.Tape at why) sound h = inl (same_refusal x (status.Tape at why) h.0)
  asked_status x (status.Schedule line why) sound h = inl (same_refusal x (status.Schedule line why) h.0)
  asked_status x (status.NotBuilt part) sound h = inl (same_refusal x (status.NotBuilt part) h.0)
  asked_status x (status.TooLong file) sound h = inl (same_refusal x (status.TooLong file) h.0)
  asked_status x (status.Events line) sound h = inl (same_refusal x (status.Events line) h.0)
  asked_status x (status.NoGroup group) sound h = inl (same_refusal x (status.NoGroup group) h.0)
  asked_status x status.TooLarge sound h = inl (same_refusal x status.TooLarge h.0)
  asked_status x status.RunnerFault sound h = inl (same_refusal x status.RunnerFault h.0)
  asked_status x (status.MarksDiffer other plane group first_has) sound h = inl (same_refusal x (status.MarksDiffer other plane group first_has) h.0)
  asked_status x (status.OldRanks ranks) sound h = inl (same_refusal x (status.OldRanks ranks) h.0)
  asked_status x status.DoorFault sound h = absurd h
  asked_status x status.LinkFault sound h = absurd h
  asked_status x (status.Refused reason value) sound h = absurd h
  asked_status x status.Peer sound h = absurd h

  -- over what is sound the answer is the one that is asked for
  pub task_asked : (right : Result Task Status) (s : Status) → IsTrue files.sound → ((x : Sending) → right ≡ Ok (sends x) → Enough x door.awaited → IsUnbroken s) → HasLinks right door → HasEnoughToRun right out keepers → TellsRight right files files' out out' keepers keepers' door door' s → IsAskedTask right s
  task_asked (Ok (sends x)) s sound surely links enough h = asked files.sound (Ok x) door door' s sound (surely x refl links) h
  task_asked (Ok (runs r)) s sound surely links enough h = run_asked r files files' out out' keepers keepers' s sound enough h.0.answers
  task_asked (Ok (serves v)) s sound surely links enough h = serve_asked v out out' keepers keepers' door door' files.sound s sound links enough h
  task_asked (Err x) s sound surely links enough h = asked_status x s sound h

  pub task_sent : (right : Result Task Status) (before : List Closed) (s : Status) → IsSending right → (s ≡ status.ReadFault → ⊥) → (s ≡ status.DoorFault → ⊥) → (s ≡ status.LinkFault → ⊥) → door.closed ≡ Some before → ((after : List Closed) → door'.closed ≡ Some after → AllWelcome before after)
      → TellsRight right files files' out out' keepers keepers' door door' s → IsDoneOrMemory s
  task_sent (Ok (sends x)) before s is read broken link was all h = completed files.sound (Ok x) door door' before s tt read broken link was all h
  task_sent (Ok (runs r)) before s is read broken link was all h = absurd is
  task_sent (Ok (serves v)) before s is read broken link was all h = absurd is
  task_sent (Err x) before s is read broken link was all h = absurd is

  pub task_ran : (right : Result Task Status) (s : Status) → IsRunning right → (s ≡ status.ReadFault → ⊥) → DidNotRise files.save_faults files'.save_faults → DidNotRise out.faults out'.faults → NoneRose keepers keepers' → AllTell keepers → TellsRight right files files' out out' keepers keepers' door door' s → IsDoneOrMemory s
  task_ran (Ok (sends x)) s is read saves writes calm tell h = absurd is
  task_ran (Ok (runs r)) s is read saves writes calm tell h = run_completed r files files' out out' keepers keepers' s read saves writes calm tell h.0.answers
  task_ran (Ok (serves v)) s is read saves writes calm tell h = absurd is
  task_ran (Err x) s is read saves writes calm tell h = absurd is

  pub task_served : (right : Result Task Status) (s : Status) → IsServing right → (s ≡ status.ReadFault → ⊥) → (s ≡ status.DoorFault → ⊥) → DidNotRise out.faults out'.faults → NoneRose keepers keepers' → AllTell keepers → TellsRight right files files' out out' keepers keepers' door door' s → IsDoneOrMemory s
  task_served (Ok (sends x)) s is read broken writes calm tell h = absurd is
  task_served (Ok (runs r)) s is read broken writes calm tell h = absurd is
  task_served (Ok (serves v)) s is read broken writes calm tell h = serve_completed v out out' keepers keepers' door door' files.sound s read broken writes calm tell h
  task_served (Err x) s is read broken writes calm tell h = absurd is

-- a sending, with which nothing is written and no keeper is called
pub carries_sending : (asked : Names → Result Sending Status) (files files' : FileState) (out : SinkState) (keepers : List KeeperState) (door door' : DoorState) (s : Status) → Carries asked files files' door door' s → CarriesOut (λ held. as_sends (asked held)) files files' out out keepers keepers door door' s
carries_sending asked files files' out keepers door door' s h = record {
  right = λ held told. tells_sending files files' out out keepers keepers door door' (asked held) s (h.right held told);
  surely = λ held x told is enough. h.surely held told (subst (λ (o : Result Sending Status). HasEnough o door.awaited) (sym (same_sending (asked held) x is)) enough);
  read_fault = h.read_fault;
  door_fault = h.door_fault;
  link_fault = h.link_fault;
  write_fault = λ e. absurd (h.no_write e);
  keeper_fault = λ rank e. absurd (h.no_keeper rank e);
  checkpoint_bad = λ rank at why e. absurd (h.no_checkpoint rank at why e);
  quiet = λ q. refl;
  saves = λ no. h.saves;
}

-- a command that is not built, and words that are none
pub carries_refused : (refusal : Status) (asked : Names → Result Task Status) (files : FileState) (out : SinkState) (keepers : List KeeperState) (door : DoorState) → ((held : Names) → asked held ≡ Err refusal) → IsOwn refusal → IsUnbroken refusal → (refusal ≡ status.ReadFault → ⊥) → Answers files.sound (Err refusal) door door refusal → CarriesOut asked files files out out keepers keepers door door refusal
carries_refused refusal asked files out keepers door is own whole read h = record {
  right = λ held told. subst (λ (o : Result Task Status). TellsRight o files files out out keepers keepers door door refusal) (sym (is held)) h;
  surely = λ held x told e enough. whole;
  read_fault = λ e. absurd (read e);
  door_fault = λ e. absurd (subst IsUnbroken e whole);
  link_fault = λ e. absurd (subst IsUnbroken e whole);
  write_fault = λ e. absurd (subst IsOwn e own);
  keeper_fault = λ rank e. absurd (subst IsOwn e own);
  checkpoint_bad = λ rank at why e. absurd (subst IsOwn e own);
  quiet = λ q. refl;
  saves = λ no. refl;
}

tells_memory : (right : Result Task Status) (files : FileState) (out : SinkState) (keepers : List KeeperState) (door : DoorState) → TellsRight right files files out out keepers keepers door door status.Memory
tells_memory (Ok (sends x)) files out keepers door = inl refl
tells_memory (Ok (serves v)) files out keepers door = record { answers = refl; since = inl refl }
tells_memory (Ok (runs r)) files out keepers door = (record { answers = (inl refl, refl); left = λ other past. refl }, refl)
tells_memory (Err x) files out keepers door = inl refl

-- want of memory before anything
pub carries_memory : (asked : Names → Result Task Status) (files : FileState) (out : SinkState) (keepers : List KeeperState) (door : DoorState) → CarriesOut asked files files out out keepers keepers door door status.Memory
carries_memory asked files out keepers door = record {
  right = λ held told. tells_memory (asked held) files out keepers door;
  surely = λ held x told e enough. tt;
  read_fault = λ e. absurd (cc);
  door_fault = λ e. absurd (cc);
  link_fault = λ e. absurd (cc);
  write_fault = λ e. absurd (cc);
  keeper_fault = λ rank e. absurd (cc);
  checkpoint_bad = λ rank at why e. absurd (cc);
  quiet = λ q. refl;
  saves = λ no. refl;
}

refused_as : (A B : Type 0) (sound : Bool) (r : Refusal) (x : Status) → IsRefused {A = A} sound r (Err x) → IsRefused {A = B} sound r (Err x)
refused_as A B sound refusal.ReadFault x is = λ s. err_as x status.ReadFault (is s)
refused_as A B sound refusal.Memory x is = tt
refused_as A B sound (refusal.Study fault) x is = err_as x (status.Study fault) is
refused_as A B sound (refusal.Tape at why) x is = err_as x (status.Tape at why) is
refused_as A B sound (refusal.Schedule line why) x is = err_as x (status.Schedule line why) is
refused_as A B sound (refusal.TooLong file) x is = err_as x (status.TooLong file) is
refused_as A B sound (refusal.Events line) x is = err_as x (status.Events line) is

ran_refused : (run : Running) (old new : FileState) (out : SinkState) (keepers : List KeeperState) (r : Refusal) → new.save_faults ≡ old.save_faults → IsRefused {A = Running} old.sound r (Ok run) → Ran run old new out out keepers keepers (status_of r)
ran_refused run old new out keepers refusal.ReadFault saves is = record { answers = ((λ s. not_err run status.ReadFault (is s)), (refl, saves)); left = λ other past. refl }
ran_refused run old new out keepers refusal.Memory saves is = record { answers = (inl refl, saves); left = λ other past. refl }
ran_refused run old new out keepers (refusal.Study fault) saves is = absurd (not_err run (status.Study fault) is)
ran_refused run old new out keepers (refusal.Tape at why) saves is = absurd (not_err run (status.Tape at why) is)
ran_refused run old new out keepers (refusal.Schedule line why) saves is = absurd (not_err run (status.Schedule line why) is)
ran_refused run old new out keepers (refusal.TooLong file) saves is = absurd (not_err run (status.TooLong file) is)
ran_refused run old new out keepers (refusal.Events line) saves is = absurd (not_err run (status.Events line) is)

tells_refused : (right : Result Running Status) (old new : FileState) (out : SinkState) (keepers : List KeeperState) (door : DoorState) (r : Refusal) → new.save_faults ≡ old.save_faults → IsRefused old.sound r right → TellsRight (as_runs right) old new out out keepers keepers door door (status_of r)
tells_refused (Ok run) old new out keepers door r saves is = (ran_refused run old new out keepers r saves is, refl)
tells_refused (Err x) old new out keepers door r saves is = refused_answers old.sound r (Err x) door (refused_as Running Sending old.sound r x is)

-- a run that has no inputs
pub carries_unloaded : {A : Type 0} (view : A → Running) (asked : Names → Result Running Status) (old new : FileState) (out : SinkState) (keepers : List KeeperState) (door : DoorState) (r : Refusal) → Loads view asked old new (Err r) → CarriesOut (λ held. as_runs (asked held)) old new out out keepers keepers door door (status_of r)
carries_unloaded view asked old new out keepers door r h = record {
  right = λ held told. tells_refused (asked held) old new out keepers door r h.saves (h.right held told);
  surely = λ held x told is enough. unbroken r;
  read_fault = read_failed r old.load_faults new.load_faults h.loads;
  door_fault = λ e. absurd (no_door_fault (status_of r) (unbroken r) e);
  link_fault = λ e. absurd (no_link_fault (status_of r) (unbroken r) e);
  write_fault = λ e. absurd (subst IsOwn e (own_refusal r));
  keeper_fault = λ rank e. absurd (subst IsOwn e (own_refusal r));
  checkpoint_bad = λ rank at why e. absurd (subst IsOwn e (own_refusal r));
  quiet = λ q. refl;
  saves = λ no. h.saves;
}

-- a run that has its inputs
pub carries_ran : {A : Type 0} (view : A → Running) (asked : Names → Result Running Status) (old between new : FileState) (out out' : SinkState) (keepers keepers' : List KeeperState) (door : DoorState) (x : A) (s : Status) → Loads view asked old between (Ok x) → Ran (view x) between new out out' keepers keepers' s → (IsUncalled s → ⊥)
    → CarriesOut (λ held. as_runs (asked held)) old new out out' keepers keepers' door door s
carries_ran view asked old between new out out' keepers keepers' door x s h k called =
    let run = view x in
    let ran = ran_since run old between new out out' keepers keepers' s h.same h.loads h.saves h.sound k in
    record {
      right = λ held told. subst (λ (o : Result Running Status). TellsRight (as_runs o) old new out out' keepers keepers' door door s) (sym (h.right held told)) (ran, refl);
      surely = λ held y told is enough. absurd (no_sending (asked held) y is);
      read_fault = λ e. absurd (called (subst IsUncalled (sym e) tt));
      door_fault = λ e. absurd (subst (λ (y : Status). RunAnswers run old new out out' keepers keepers' y) e ran.answers);
      link_fault = λ e. absurd (called (subst IsUncalled (sym e) tt));
      write_fault = λ e. run_write run old new out out' keepers keepers' s e ran.answers;
      keeper_fault = λ rank e. (subst (λ (y : Status). RunAnswers run old new out out' keepers keepers' y) e ran.answers).0;
      checkpoint_bad = λ rank at why e. (subst (λ (y : Status). RunAnswers run old new out out' keepers keepers' y) e ran.answers).0;
      quiet = λ q. run_quiet run old new out out' keepers keepers' s q ran.answers;
      saves = λ no. run_saves run old new out out' keepers keepers' s no ran.answers;
    }

serve_unloaded : (v : Serving) (sound : Bool) (out : SinkState) (keepers : List KeeperState) (door : DoorState) (r : Refusal) → IsRefused {A = Serving} sound r (Ok v) → TellsServed v sound out out keepers keepers door door (status_of r)
serve_unloaded v sound out keepers door refusal.ReadFault is = ((λ s. not_err v status.ReadFault (is s)), (refl, (refl, refl)))
serve_unloaded v sound out keepers door refusal.Memory is = record { answers = refl; since = inl refl }
serve_unloaded v sound out keepers door (refusal.Study fault) is = absurd (not_err v (status.Study fault) is)
serve_unloaded v sound out keepers door (refusal.Tape at why) is = absurd (not_err v (status.Tape at why) is)
serve_unloaded v sound out keepers door (refusal.Schedule line why) is = absurd (not_err v (status.Schedule line why) is)
serve_unloaded v sound out keepers door (refusal.TooLong file) is = absurd (not_err v (status.TooLong file) is)
serve_unloaded v sound out keepers door (refusal.Events line) is = absurd (not_err v (status.Events line) is)

tells_unserved : (right : Result Serving Status) (old new : FileState) (out : SinkState) (keepers : List KeeperState) (door : DoorState) (r : Refusal) → IsRefused old.sound r right → TellsRight (as_serves right) old new out out keepers keepers door door (status_of r)
tells_unserved (Ok v) old new out keepers door r is = serve_unloaded v old.sound out keepers door r is
tells_unserved (Err x) old new out keepers door r is = refused_answers old.sound r (Err x) door (refused_as Serving Sending old.sound r x is)

-- a server that has no study
pub carries_unserved : {A : Type 0} (view : A → Serving) (asked : Names → Result Serving Status) (old new : FileState) (out : SinkState) (keepers : List KeeperState) (door : DoorState) (r : Refusal) → Loads view asked old new (Err r) → CarriesOut (λ held. as_serves (asked held)) old new out out keepers keepers door door (status_of r)
carries_unserved view asked old new out keepers door r h = record {
  right = λ held told. tells_unserved (asked held) old new out keepers door r (h.right held told);
  surely = λ held x told is enough. unbroken r;
  read_fault = read_failed r old.load_faults new.load_faults h.loads;
  door_fault = λ e. absurd (no_door_fault (status_of r) (unbroken r) e);
  link_fault = λ e. absurd (no_link_fault (status_of r) (unbroken r) e);
  write_fault = λ e. absurd (subst IsOwn e (own_refusal r));
  keeper_fault = λ rank e. absurd (subst IsOwn e (own_refusal r));
  checkpoint_bad = λ rank at why e. absurd (subst IsOwn e (own_refusal r));
  quiet = λ q. refl;
  saves = λ no. h.saves;
}

-- a server that has its study
pub carries_served : {A : Type 0} (view : A → Serving) (asked : Names → Result Serving Status) (old between : FileState) (out out' : SinkState) (keepers keepers' : List KeeperState) (door door' : DoorState) (x : A) (s : Status) → Loads view asked old between (Ok x) → Serves (view x) out out' keepers keepers' door door' s
    → CarriesOut (λ held. as_serves (asked held)) old between out out' keepers keepers' door door' s
carries_served view asked old between out out' keepers keepers' door door' x s h k =
    let v = view x in
    let serves_at : (y : Status) → s ≡ y → Serves v out out' keepers keepers' door door' y = λ y e. subst (λ (z : Status). Serves v out out' keepers keepers' door door' z) e k in
    record {
      right = λ held told. subst (λ (o : Result Serving Status). TellsRight (as_serves o) old between out out' keepers keepers' door door' s) (sym (h.right held told)) (tells_served v out out' keepers keepers' door door' old.sound s k);
      surely = λ held y told is enough. absurd (no_served (asked held) y is);
      read_fault = λ e. absurd (serves_at status.ReadFault e).answers;
      door_fault = λ e. (serves_at status.DoorFault e).answers.0.rose;
      link_fault = λ e. absurd (serves_at status.LinkFault e).answers;
      write_fault = λ e. inl (serves_at status.WriteFault e).answers.text.rose;
      keeper_fault = λ rank e. (serves_at (status.KeeperFault rank) e).answers.0;
      checkpoint_bad = λ rank at why e. (serves_at (status.CheckpointBad rank at why) e).answers.0;
      quiet = λ q. serve_quiet v out out' keepers keepers' door door' s q k;
      saves = λ no. h.saves;
    }
