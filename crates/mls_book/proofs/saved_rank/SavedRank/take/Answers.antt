-- What each event makes of the history that is carried.
use Rattle.std.proofs.Common.{◌≡◌, ℕ, ◌+◌, ◌≤◌, List, [], ◌∷◌, ◌++◌, Option, None, arith, refl, ap, sym, ◌∙◌, subst}
use Rattle.std.specs.Prelude.{IsSome}
use Rattle.mls_model.specs.Histories.{LaneEvent}
use Rattle.mls_model.specs.Survival.{before_last_save}
use Rattle.mls_frame.specs.Views.{frame_of}
use Rattle.mls_rank.specs.declared.rank_core.RankCore.{RankCore}
use Rattle.mls_rank.specs.Cores.{sizes_of, rank_of}
use Rattle.mls_rank.specs.Standing.{StandsOn}
use Rattle.mls_book.specs.Faults.{IfBad}
use Rattle.mls_book.specs.SavedRanks.{opening_of}
use Rattle.mls_book.proofs.Carrying.{carries_at, carries_other, carries_save, carries_reopened, carries_restored, bad_untold}
use Rattle.mls_book.proofs.Fewer.{few_at, few_more, few_save, few_restored, few_reopened, few_untold}
use Rattle.mls_book.proofs.Telling.{same_may}
use Rattle.mls_book.proofs.saved_rank.SavedRank.take.Goals as goal

one_more : {old new : ℕ} (most : ℕ) → old ≤ most → new ≤ old + 1 → new ≤ most + 1
one_more most few sum = omega (arith, few, sum)

at_most_more : {total : ℕ} (most : ℕ) → total ≤ most → total ≤ most + 1
at_most_more most few = omega (arith, few)

pub returns-in-Ok-clause-carries : goal.returns-in-Ok-clause-carries
returns-in-Ok-clause-carries g c = λ whole run few was.
    let old = c.args.self.now in
    let mid = c.step.new.self in
    let new = c.save.new.self in
    let stepped = c.in_ok-outcome.ensures in
    let saved = c.in-Ok.ensures in
    let e : LaneEvent = record { kind = c.args.kind; frame = frame_of c.args.view.now } in
    let idle : c.step.new.self.core ≡ c.args.self.now.core = stepped.idle (c.saves.ensures.idle c.if-saves.true) in
    let at = carries_at old.core mid.core (g.K.Keeper.held old.keeper) (g.K.Keeper.held mid.keeper) old.saved mid.saved (opening_of old) (opening_of mid) whole run
    idle (ap g.K.Keeper.held stepped.keeper) stepped.saved stepped.opening was in
    let on : StandsOn c.step.new.self.core c.step.new.self.core e = subst (λ (k : RankCore g.row.F.Denot g.F.RowFold). StandsOn k c.step.new.self.core e) (sym idle) stepped.stands in
    carries_at mid.core new.core (g.K.Keeper.held new.keeper) (g.K.Keeper.held new.keeper) new.saved new.saved (opening_of mid) (opening_of new) (whole ++ e ∷ []) (run ++ e ∷ [])
    saved.core refl refl saved.opening
    (carries_save mid.core (g.K.Keeper.held mid.keeper) (g.K.Keeper.held new.keeper) mid.saved new.saved (opening_of mid) whole run e
    (sym stepped.saves ∙ (sym c.saves.ensures.value ∙ c.if-saves.true)) few on saved.put saved.saved saved.written saved.spells at)

pub returns-then-not-crashes-clause-carries : goal.returns-then-not-crashes-clause-carries
returns-then-not-crashes-clause-carries g c = λ whole run few was.
    let old = c.args.self.now in
    let mid = c.step.new.self in
    let stepped = c.in_ok-outcome.ensures in
    let e : LaneEvent = record { kind = c.args.kind; frame = frame_of c.args.view.now } in
    carries_at mid.core mid.core (g.K.Keeper.held old.keeper) (g.K.Keeper.held mid.keeper) old.saved mid.saved (opening_of old) (opening_of mid) (whole ++ e ∷ []) (run ++ e ∷ [])
    refl (ap g.K.Keeper.held stepped.keeper) stepped.saved stepped.opening
    (carries_other old.core mid.core (g.K.Keeper.held old.keeper) old.saved (opening_of old) whole run e stepped.sizes stepped.rank
    (sym stepped.saves ∙ (sym c.saves.ensures.value ∙ c.if-saves.false)) (sym stepped.crashes ∙ (sym c.crashes.ensures.value ∙ c.if-not-crashes.true)) stepped.stands was)

pub returns-in-Ok-restore-clause-carries : goal.returns-in-Ok-restore-clause-carries
returns-in-Ok-restore-clause-carries g c = λ whole run few was.
    let old = c.args.self.now in
    let mid = c.step.new.self in
    let new = c.restore.new.self in
    let stepped = c.in_ok-outcome.ensures in
    let restored = c.in-Ok-restore.ensures in
    let e : LaneEvent = record { kind = c.args.kind; frame = frame_of c.args.view.now } in
    let at = carries_at old.core mid.core (g.K.Keeper.held old.keeper) (g.K.Keeper.held mid.keeper) old.saved mid.saved (opening_of old) (opening_of mid) whole run
    (stepped.idle (c.crashes.ensures.idle c.if-not-crashes.false)) (ap g.K.Keeper.held stepped.keeper) stepped.saved stepped.opening was in
    carries_at new.core new.core (g.K.Keeper.held mid.keeper) (g.K.Keeper.held new.keeper) mid.saved new.saved (opening_of mid) (opening_of new) (whole ++ e ∷ []) (run ++ e ∷ [])
    refl restored.held restored.saved restored.opening
    (carries_restored mid.core new.core (g.K.Keeper.held mid.keeper) mid.saved (opening_of mid) whole run e restored.sizes restored.rank
    (sym stepped.crashes ∙ (sym c.crashes.ensures.value ∙ c.if-not-crashes.false)) c.if-had_save.true restored.back c.after_crash.ensures at)

pub returns-in-Err-clause-untold : goal.returns-in-Err-clause-untold
returns-in-Err-clause-untold g c = λ whole run was.
    let old = c.args.self.now in
    let mid = c.step.new.self in
    let stepped = c.in_ok-outcome.ensures in
    let at = carries_at old.core mid.core (g.K.Keeper.held old.keeper) (g.K.Keeper.held mid.keeper) old.saved mid.saved (opening_of old) (opening_of mid) whole run
    (stepped.idle (c.crashes.ensures.idle c.if-not-crashes.false)) (ap g.K.Keeper.held stepped.keeper) stepped.saved stepped.opening was in
    subst (λ (held : Option (Option (List ℕ))). IfBad c.in-Err.fault (held ≡ None)) (ap g.K.Keeper.held stepped.keeper)
    (bad_untold g.row.F.Denot g.F.RowFold (sizes_of mid.core) (rank_of mid.core) (before_last_save whole) (g.K.Keeper.held mid.keeper) c.in-Err.fault (at.back c.if-had_save.true) c.in-Err.ensures.good)

pub returns-in-Ok-reopen-clause-carries : goal.returns-in-Ok-reopen-clause-carries
returns-in-Ok-reopen-clause-carries g c = λ whole run few was.
    let old = c.args.self.now in
    let mid = c.step.new.self in
    let new = c.reopen.new.self in
    let stepped = c.in_ok-outcome.ensures in
    let reopened = c.in-Ok-reopen.ensures in
    let e : LaneEvent = record { kind = c.args.kind; frame = frame_of c.args.view.now } in
    let at = carries_at old.core mid.core (g.K.Keeper.held old.keeper) (g.K.Keeper.held mid.keeper) old.saved mid.saved (opening_of old) (opening_of mid) whole run
    (stepped.idle (c.crashes.ensures.idle c.if-not-crashes.false)) (ap g.K.Keeper.held stepped.keeper) stepped.saved stepped.opening was in
    carries_at new.core new.core (g.K.Keeper.held mid.keeper) (g.K.Keeper.held new.keeper) mid.saved new.saved (opening_of mid) (opening_of new) (whole ++ e ∷ []) (run ++ e ∷ [])
    refl (ap g.K.Keeper.held reopened.keeper) reopened.saved reopened.opening
    (carries_reopened mid.core new.core (g.K.Keeper.held mid.keeper) mid.saved (opening_of mid) whole run e reopened.sizes reopened.rank
    (sym stepped.crashes ∙ (sym c.crashes.ensures.value ∙ c.if-not-crashes.false)) c.if-had_save.false reopened.begins c.after_crash-in-Ok-reopen.ensures at)

pub returns-in-Ok-clause-counts : goal.returns-in-Ok-clause-counts
returns-in-Ok-clause-counts g c = λ most le was.
    let old = c.args.self.now in
    let mid = c.step.new.self in
    let new = c.save.new.self in
    let stepped = c.in_ok-outcome.ensures in
    let saved = c.in-Ok.ensures in
    let at = few_at old.core mid.core (g.K.Keeper.held old.keeper) (g.K.Keeper.held mid.keeper) old.saved mid.saved (opening_of old) (opening_of mid) most
    (stepped.idle (c.saves.ensures.idle c.if-saves.true)) (ap g.K.Keeper.held stepped.keeper) stepped.saved stepped.opening was in
    few_at mid.core new.core (g.K.Keeper.held new.keeper) (g.K.Keeper.held new.keeper) new.saved new.saved (opening_of mid) (opening_of new) (most + 1)
    saved.core refl refl saved.opening
    (few_save mid.core (g.K.Keeper.held mid.keeper) (g.K.Keeper.held new.keeper) mid.saved new.saved (opening_of mid) most le saved.put saved.saved saved.spells at)

pub returns-then-not-crashes-clause-counts : goal.returns-then-not-crashes-clause-counts
returns-then-not-crashes-clause-counts g c = λ most le was.
    let old = c.args.self.now in
    let mid = c.step.new.self in
    let stepped = c.in_ok-outcome.ensures in
    few_at mid.core mid.core (g.K.Keeper.held old.keeper) (g.K.Keeper.held mid.keeper) old.saved mid.saved (opening_of old) (opening_of mid) (most + 1)
    refl (ap g.K.Keeper.held stepped.keeper) stepped.saved stepped.opening
    (few_more old.core mid.core (g.K.Keeper.held old.keeper) (g.K.Keeper.held old.keeper) old.saved (opening_of old) most (most + 1) stepped.sizes stepped.rank (same_may _ _ refl) (omega arith)
    (λ some. one_more most (was.few some) stepped.sum) was)

pub returns-in-Ok-restore-clause-counts : goal.returns-in-Ok-restore-clause-counts
returns-in-Ok-restore-clause-counts g c = λ most le was.
    let old = c.args.self.now in
    let mid = c.step.new.self in
    let new = c.restore.new.self in
    let stepped = c.in_ok-outcome.ensures in
    let restored = c.in-Ok-restore.ensures in
    let at = few_at old.core mid.core (g.K.Keeper.held old.keeper) (g.K.Keeper.held mid.keeper) old.saved mid.saved (opening_of old) (opening_of mid) most
    (stepped.idle (c.crashes.ensures.idle c.if-not-crashes.false)) (ap g.K.Keeper.held stepped.keeper) stepped.saved stepped.opening was in
    few_at new.core new.core (g.K.Keeper.held new.keeper) (g.K.Keeper.held new.keeper) mid.saved new.saved (opening_of mid) (opening_of new) (most + 1)
    refl refl restored.saved restored.opening
    (few_more mid.core new.core (g.K.Keeper.held mid.keeper) (g.K.Keeper.held new.keeper) mid.saved (opening_of mid) most (most + 1) restored.sizes restored.rank (same_may _ _ restored.held) (omega arith)
    (λ some. at_most_more most (few_restored (sizes_of mid.core) (rank_of mid.core) most (g.K.Keeper.held mid.keeper) new.core (subst IsSome restored.held some) (at.back c.if-had_save.true) restored.back)) at)

pub returns-in-Err-clause-untold_few : goal.returns-in-Err-clause-untold_few
returns-in-Err-clause-untold_few g c = λ most was.
    let old = c.args.self.now in
    let mid = c.step.new.self in
    let stepped = c.in_ok-outcome.ensures in
    let at = few_at old.core mid.core (g.K.Keeper.held old.keeper) (g.K.Keeper.held mid.keeper) old.saved mid.saved (opening_of old) (opening_of mid) most
    (stepped.idle (c.crashes.ensures.idle c.if-not-crashes.false)) (ap g.K.Keeper.held stepped.keeper) stepped.saved stepped.opening was in
    subst (λ (held : Option (Option (List ℕ))). IfBad c.in-Err.fault (held ≡ None)) (ap g.K.Keeper.held stepped.keeper)
    (few_untold g.row.F.Denot g.F.RowFold (sizes_of mid.core) (rank_of mid.core) most (g.K.Keeper.held mid.keeper) c.in-Err.fault (at.back c.if-had_save.true) c.in-Err.ensures.good)

pub returns-in-Ok-reopen-clause-counts : goal.returns-in-Ok-reopen-clause-counts
returns-in-Ok-reopen-clause-counts g c = λ most le was.
    let old = c.args.self.now in
    let mid = c.step.new.self in
    let new = c.reopen.new.self in
    let stepped = c.in_ok-outcome.ensures in
    let reopened = c.in-Ok-reopen.ensures in
    let at = few_at old.core mid.core (g.K.Keeper.held old.keeper) (g.K.Keeper.held mid.keeper) old.saved mid.saved (opening_of old) (opening_of mid) most
    (stepped.idle (c.crashes.ensures.idle c.if-not-crashes.false)) (ap g.K.Keeper.held stepped.keeper) stepped.saved stepped.opening was in
    few_at new.core new.core (g.K.Keeper.held mid.keeper) (g.K.Keeper.held new.keeper) mid.saved new.saved (opening_of mid) (opening_of new) (most + 1)
    refl (ap g.K.Keeper.held reopened.keeper) reopened.saved reopened.opening
    (few_more mid.core new.core (g.K.Keeper.held mid.keeper) (g.K.Keeper.held mid.keeper) mid.saved (opening_of mid) most (most + 1) reopened.sizes reopened.rank (same_may _ _ refl) (omega arith)
    (λ _. at_most_more most (few_reopened (sizes_of mid.core) (rank_of mid.core) most (opening_of mid) new.core (at.opens c.if-had_save.false) reopened.begins)) at)
